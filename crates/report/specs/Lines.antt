-- The lines that programs print.
use Rattle.std.specs.Prelude.{ℕ, ◌++◌, List, [], ◌∷◌, codes, decimal, if◌then◌else◌, nat_le, ◌&&◌, flat_map}

-- 01's line for a refusal
abbrev pub refusal_line : ℕ → ℕ → List ℕ
refusal_line number place = codes "refused " ++ (decimal number ++ (codes " " ++ (decimal place ++ codes "\n")))

-- a byte as it is; one outside 32 to 126 as `\` and its number
abbrev pub quoted_byte : ℕ → List ℕ
quoted_byte byte = if nat_le 32 byte && nat_le byte 126 then byte ∷ [] else codes "\\" ++ decimal byte

-- bytes in quotes, and a line feed
abbrev pub quoted_line : List ℕ → List ℕ
quoted_line bytes = codes "\"" ++ (flat_map quoted_byte bytes ++ codes "\"\n")
