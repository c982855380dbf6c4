-- Priority declarations (000, Definition 2.5; 01's ranks) as a grammar's bytes state them.
use Rattle.std.specs.Prelude.{ℕ, ◌-◌, ◌<◌, Bool, false, true, cond, ◌&&◌, ◌||◌, List, [], ◌∷◌, ◌≡◌, eqb}
use Rattle.common.specs.Below.{between}
use Rattle.common.specs.Lists.{tabulate}
use Rattle.grammar.specs.Check.{is_group}
use Rattle.layout.specs.Layout.{productions, declarations, kind, first, second}
use Rattle.layout.specs.Limits.{group_step}
use Rattle.priority.specs.Chain.{Chain, through, entry}
use Rattle.priority.specs.declared.Declaration.{Declaration}

-- The four kinds; `nonassoc` is 01's "not together".
pub data Kind : Type 0 where
  higher left right nonassoc : Kind

-- 01's number of each kind.
unfoldable pub kind_number : Kind → ℕ
kind_number higher = 1
kind_number left = 2
kind_number right = 3
kind_number nonassoc = 4

-- The number of the kind that is said: 5, 6 and 7 say of a whole group what 2, 3 and 4 say of two productions (02, [2]).
unfoldable pub said_kind : ℕ → ℕ
said_kind n = cond (is_group n) (n - group_step) n

-- The kinds that hold either way round.
unfoldable pub either_way : Kind → Bool
either_way higher = false
either_way left = true
either_way right = true
either_way nonassoc = true

-- A declaration (the code's struct: a kind's number, a first and a second production) names x first and y second: they are its two productions or, if it is of a
-- group, two that stand from its first to its second (02, [2]).
unfoldable pub names_pair : Declaration → ℕ → ℕ → Bool
names_pair l x y =
    cond (is_group l.kind) (between l.first l.second x && between l.first l.second y) (eqb l.first x && eqb l.second y)

-- It covers the pair (x, y) with kind k: it says kind k, and it names the pair so, or the other way round if k holds either way.
unfoldable pub covers : Declaration → Kind → ℕ → ℕ → Bool
covers l k x y = eqb (said_kind l.kind) (kind_number k) && (names_pair l x y || either_way k && names_pair l y x)

-- Some declaration of the list covers the pair (x, y) with kind k.
unfoldable pub declared_in : List Declaration → Kind → ℕ → ℕ → Bool
declared_in [] k x y = false
declared_in (l ∷ ls) k x y = covers l k x y || declared_in ls k x y

-- By these declarations x is higher than y: a chain of declared pairs leads from x to y.
abbrev pub HigherIn : List Declaration → ℕ → ℕ → Type 0
HigherIn ls = Chain (declared_in ls higher)

-- The same, as a test, for declarations of the first n productions.
unfoldable pub is_higher_in : ℕ → List Declaration → ℕ → ℕ → Bool
is_higher_in n ls x y = through (declared_in ls higher) n x y

-- ---- the declarations of a grammar

-- Declaration d of a grammar, and all of them.
unfoldable pub declaration_of : List ℕ → ℕ → Declaration
declaration_of b d = record { kind = kind b d; first = first b d; second = second b d }

unfoldable pub declarations_of : List ℕ → List Declaration
declarations_of b = tabulate (declarations b) (declaration_of b)

-- The pair (x, y) is declared with kind k.
abbrev pub declared : List ℕ → Kind → ℕ → ℕ → Bool
declared b = declared_in (declarations_of b)

-- The table holds the pairs declared with the kind of one number or with that of the other.
abbrev pub DeclaredPairs : List ℕ → ℕ → ℕ → List (List Bool) → Type 0
DeclaredPairs b kind also table =
    (k k' : Kind) → kind ≡ kind_number k → also ≡ kind_number k' → (x y : ℕ) → entry table x y ≡ (declared b k x y || declared b k' x y)

-- A table with the pairs of a group.
abbrev pub WithGroup : (first second : ℕ) → (table wider : List (List Bool)) → Type 0
WithGroup first second table wider = (x y : ℕ) → entry wider x y ≡ (entry table x y || between first second x && between first second y)

-- x is higher than y.
abbrev pub Higher : List ℕ → ℕ → ℕ → Type 0
Higher b = HigherIn (declarations_of b)

-- The same, as a test.
abbrev pub is_higher : List ℕ → ℕ → ℕ → Bool
is_higher b = is_higher_in (productions b) (declarations_of b)

-- A priority declaration as 000, Definition 2.5, wants it: four relations between productions, "higher" irreflexive and transitive, the others symmetric.
pub record PriorityDeclaration (b : List ℕ) : Type 0 where
  pub higher_there : (x y : ℕ) → Higher b x y → (x < productions b) × (y < productions b)
  pub declared_there : (k : Kind) (x y : ℕ) → declared b k x y ≡ true → (x < productions b) × (y < productions b)
  pub irreflexive : (x : ℕ) → Higher b x x → ⊥
  pub transitive : (x y z : ℕ) → Higher b x y → Higher b y z → Higher b x z
  pub left_symmetric : (x y : ℕ) → declared b left x y ≡ true → declared b left y x ≡ true
  pub right_symmetric : (x y : ℕ) → declared b right x y ≡ true → declared b right y x ≡ true
  pub nonassoc_symmetric : (x y : ℕ) → declared b nonassoc x y ≡ true → declared b nonassoc y x ≡ true
