-- Character class grammars and their trees (000, Definitions 3.1, 3.3 and 3.4), for grammars in which a result is one production number.
use Rattle.std.specs.Prelude.{ℕ, zero, suc, ◌<◌, ◌≡◌, Bool, false, true, not, ◌&&◌, List, [], ◌∷◌, eqb, length, get_or}
use Rattle.theory.specs.Tree.{Tree, leaf, node, Forest, none, ◌▷◌, production_number}

-- A class is a set of numbers: characters, or numbers of productions.
abbrev pub Class : Type 0
Class = ℕ → Bool

-- A line: a class for each argument, and the one number that is its result.
pub record Line : Type 0 where
  pub arguments : List Class
  pub result : ℕ

abbrev pub no_line : Line
no_line = record { arguments = []; result = 0 }

abbrev pub no_class : Class
no_class n = false

-- Every line has its own number as its result.
pub record OwnNumbers (g : List Line) : Type 0 where
  pub own : (p : ℕ) → p < length g → (get_or g p no_line).result ≡ production_number p

-- A number is a terminal if no line has it as its result.
unfoldable pub is_terminal : List Line → ℕ → Bool
is_terminal [] n = true
is_terminal (l ∷ ls) n = not (eqb l.result n) && is_terminal ls n

-- The trees of a class: a terminal in it (Ch); or a line whose result is in it (Sub), with a tree for each of its arguments (App).
-- A tree names a line by its production; the line's result is that production's number.
unfoldable mutual
  pub Generated : List Line → Class → Tree → Type 0
  Generated g cc (leaf c) = (cc c ≡ true) × (is_terminal g c ≡ true)
  Generated g cc (node p f) =
      (p < length g) × ((get_or g p no_line).result ≡ production_number p) × (cc (production_number p) ≡ true) × Each g (get_or g p no_line).arguments f (length (get_or g p no_line).arguments)

  -- the list f has one tree for each of the first d classes
  pub Each : List Line → List Class → Forest → ℕ → Type 0
  Each g ccs none zero = Unit {0}
  Each g ccs none (suc d) = ⊥
  Each g ccs (f ▷ t) zero = ⊥
  Each g ccs (f ▷ t) (suc d) = Each g ccs f d × Generated g (get_or ccs d no_class) t
