-- A text says one character class grammar.
use Prim.Native.Nat.{ℕ, suc, ◌<◌}
use mathlib.Core.List.{List, [], ◌∷◌}
use mathlib.Core.Logic.{◌⊎◌, ⊎_elim}
use mathlib.Core.Path.{◌≡◌, refl, sym, ◌∙◌}
use native.Mathlib.Omega.{arith}
use lib.ListN.{length, get_or}
use Rattle.ccg.proofs.TextUniqueLaws.{Sayable, AllSayable, line_part, line_some}
use Rattle.ccg.specs.Ccg.{Class, Line, no_line, no_class}
use Rattle.ccg.specs.Text.{grammar_text}
use Rattle.ccg.specs.Written.{OnlyCharacters, OnlyProductions, WrittenForm}
use Rattle.common.proofs.BoolLaws.{true_or_false}
use Rattle.common.specs.Lists.{joined}

-- Two grammars whose lines end in the same results, line by line.
abbrev SameResults : List Line → List Line → Type 0
SameResults g h = (p : ℕ) → p < length g → p < length h → (get_or g p no_line).result ≡ (get_or h p no_line).result

-- A grammar whose classes have only numbers that a text can say.
abbrev SayableLines : List Line → Type 0
SayableLines g = (p : ℕ) → p < length g → AllSayable (get_or g p no_line).arguments

-- such grammars are known by their text; unlike the written form, both conditions hold of the lines behind the first too
lines_same : (g h : List Line) → SameResults g h → SayableLines g → SayableLines h → grammar_text g ≡ grammar_text h → g ≡ h
unfolding grammar_text joined
lines_same [] [] r a b e = refl
lines_same [] (k ∷ h) r a b e = absurd (line_some k (grammar_text h) e)
lines_same (l ∷ g) [] r a b e = absurd (line_some l (grammar_text g) (sym e))
lines_same (l ∷ g) (k ∷ h) r a b e =
    let (first, rest) = line_part l k (grammar_text g) (grammar_text h) (r 0 (omega arith) (omega arith)) (a 0 (omega arith)) (b 0 (omega arith)) e in
    let others = lines_same g h (λ p m n. r (suc p) (omega arith) (omega arith)) (λ p m. a (suc p) (omega arith)) (λ p m. b (suc p) (omega arith)) rest in
    λ i. first i ∷ others i

-- characters and numbers of productions are numbers that a text can say
only_sayable : (cc : Class) → OnlyCharacters cc ⊎ OnlyProductions cc → Sayable cc
only_sayable cc h n l =
    ⊎_elim
    (λ e. absurd (⊎_elim (λ c. omega (arith, c n e)) (λ p. omega (arith, p n e)) h))
    (λ e. e)
    (true_or_false (cc n))

-- so the classes of a written form have only those
written_sayable : (g : List Line) → WrittenForm g → SayableLines g
written_sayable g w p l i m = only_sayable (get_or (get_or g p no_line).arguments i no_class) (w.classes p i l m)

-- two grammars in written form with one text are one
pub text_determines : (g h : List Line) → WrittenForm g → WrittenForm h → grammar_text g ≡ grammar_text h → g ≡ h
text_determines g h w v e = lines_same g h (λ p l m. w.numbered.own p l ∙ sym (v.numbered.own p m)) (written_sayable g w) (written_sayable h v) e
