-- Groups spelled out (02, [2]): a list of declarations in which each pair of a group has a line of its own. The list may be longer than a grammar's bytes can say.
use Rattle.std.specs.Prelude.{ℕ, zero, suc, ◌+◌, ◌-◌, false, cond, List, [], ◌∷◌, ◌++◌, ◌≡◌, length, take}
use Rattle.std.proofs.Math.Seq.{slice}
use Rattle.common.specs.Lists.{tabulate, joined}
use Rattle.grammar.specs.Check.{is_group}
use Rattle.layout.specs.Layout.{declaration_at}
use Rattle.priority.specs.Priorities.{said_kind, declarations_of}
use Rattle.priority.specs.declared.Declaration.{Declaration}

-- A declaration of two productions.
abbrev pub IsOfTwo : Declaration → Type 0
IsOfTwo l = is_group l.kind ≡ false

-- A kind declared of `count` productions from `first` on: of the first with itself and with each later one, and then of those behind it.
unfoldable pub pairs_from : (kind first count : ℕ) → List Declaration
pairs_from kind first zero = []
pairs_from kind first (suc n) = tabulate (suc n) (λ j. record { kind = kind; first = first; second = first + j }) ++ pairs_from kind (suc first) n

-- A declaration of a group as its pairs; one of two productions as it is.
unfoldable pub spelled : Declaration → List Declaration
spelled l = cond (is_group l.kind) (pairs_from (said_kind l.kind) l.first (l.second + 1 - l.first)) (l ∷ [])

-- Every declaration of the list so.
unfoldable pub spelled_out : List Declaration → List Declaration
spelled_out = joined spelled

-- ---- a grammar with its groups spelled out

-- A declaration's three numbers.
abbrev pub declaration_numbers : Declaration → List ℕ
declaration_numbers l = l.kind ∷ l.first ∷ l.second ∷ []

-- The grammar's numbers, but for the count of declarations (number 3) and what follows the classes: there each pair has a declaration of its own.
-- If they are at most 255, these are the bytes of a grammar.
unfoldable pub spelled_grammar : List ℕ → List ℕ
spelled_grammar b =
    let out = spelled_out (declarations_of b) in
    take 3 b ++ (length out ∷ []) ++ slice 4 (declaration_at b 0) b ++ joined declaration_numbers out
