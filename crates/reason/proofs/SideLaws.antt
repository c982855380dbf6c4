-- Declarations that cover a pair at one side: what one names, and that the lowest is there if any is.
use Prim.Native.Nat.{ℕ, ◌<◌}
use mathlib.Core.Path.{◌≡◌, refl, sym}
use mathlib.Core.Bool.{Bool, false, true, ◌&&◌, ◌||◌, or-false}
use mathlib.Core.List.{List}
use mathlib.Core.Logic.{⊎_elim, by_cases}
use native.Mathlib.Omega.{arith}
use native.Mathlib.Decide.{dec_lt}
use lib.Dec.{eqb}
use Rattle.common.proofs.BoolLaws.{or_cases, or_first, or_second, not_both}
use Rattle.common.specs.Below.{between}
use Rattle.grammar.specs.Check.{is_group}
use Rattle.layout.specs.Layout.{declarations}
use Rattle.priority.proofs.CoverLaws.{declared_found}
use Rattle.priority.specs.Conflict.{right_or_nonassoc, left_or_nonassoc}
use Rattle.priority.specs.Priorities.{Kind, left, right, nonassoc, kind_number, said_kind, either_way, names_pair, covers, declaration_of, declarations_of, declared}
use Rattle.priority.specs.declared.Declaration.{Declaration}
use Rattle.reason.specs.Reason.{covers_side}
use Rattle.reason.specs.Side.{Covered}

-- ---- one declaration

module _ (l : Declaration) (x y : ℕ) where
  pub named_group : is_group l.kind ≡ true → names_pair l x y ≡ (between l.first l.second x && between l.first l.second y)
  unfolding names_pair
  named_group g = rw g refl

  pub named_two : is_group l.kind ≡ false → names_pair l x y ≡ (eqb l.first x && eqb l.second y)
  unfolding names_pair
  named_two g = rw g refl

  -- with a kind that holds either way round
  pub covers_side_lem : (k : Kind) → either_way k ≡ true
      → ((eqb (said_kind l.kind) (kind_number k) || eqb (said_kind l.kind) (kind_number nonassoc)) && (names_pair l x y || names_pair l y x)) ≡ (covers l k x y || covers l nonassoc x y)
  unfolding covers either_way
  covers_side_lem k e =
      rw e (spread (eqb (said_kind l.kind) (kind_number k)) (eqb (said_kind l.kind) (kind_number nonassoc)) (names_pair l x y || names_pair l y x))
    where
      spread : (v w m : Bool) → ((v || w) && m) ≡ (v && m || w && m)
      spread true true true = refl
      spread true true false = refl
      spread true false m = sym (or-false m)
      spread false w m = refl

-- ---- all of them

module _ (b : List ℕ) (k : Kind) (p q : ℕ) where
  -- the pair is declared so exactly if some declaration covers it
  declared_covered : (declared b k p q || declared b nonassoc p q) ≡ true → Covered b k p q
  unfolding declarations_of
  declared_covered e =
      ⊎_elim
      (λ a. let (d, l, h) = declared_found (declarations b) (declaration_of b) k p q a in (d, l, or_first (covers (declaration_of b d) k p q) (covers (declaration_of b d) nonassoc p q) h))
      (λ a. let (d, l, h) = declared_found (declarations b) (declaration_of b) nonassoc p q a in (d, l, or_second (covers (declaration_of b d) k p q) (covers (declaration_of b d) nonassoc p q) h))
      (or_cases (declared b k p q) (declared b nonassoc p q) e)

  -- while none of the first d does, there is a further one
  pub covered_further : Covered b k p q → (d : ℕ) → ((e : ℕ) → e < d → covers_side b k p q e ≡ false) → d < declarations b
  covered_further (e, l, h) d none =
      by_cases (dec_lt e d) (λ m. absurd (not_both (covers_side b k p q e) h (none e m))) (λ m. omega arith)

module _ (b : List ℕ) (p q : ℕ) where
  pub right_covered : right_or_nonassoc (declarations_of b) p q ≡ true → Covered b right p q
  unfolding right_or_nonassoc
  right_covered e = declared_covered b right p q e

  pub left_covered : left_or_nonassoc (declarations_of b) p q ≡ true → Covered b left p q
  unfolding left_or_nonassoc
  left_covered e = declared_covered b left p q e
