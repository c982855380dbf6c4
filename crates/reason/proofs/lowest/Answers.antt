-- `lowest` meets its contract: it goes on while no declaration covers the pair.
use Prim.Native.Nat.{ℕ, ◌<◌}
use mathlib.Core.Path.{◌≡◌, sym, ◌∙◌, ap}
use mathlib.Core.Bool.{Bool, false, ◌||◌}
use mathlib.Core.List.{List}
use native.Mathlib.Omega.{arith}
use native.Mathlib.Decide.{ℕ_discrete}
use Rattle.layout.proofs.FramedLaws.{bodies_in}
use Rattle.layout.specs.Layout.{declarations}
use Rattle.priority.specs.Priorities.{Kind, nonassoc, covers, declaration_of}
use Rattle.priority.specs.declared.Declaration.{Declaration}
use Rattle.reason.proofs.SideLaws.{covered_further}
use Rattle.reason.specs.Reason.{covers_side}
use Rattle.reason.specs.Side.{IsSide, Covered}
use Rattle.reason.proofs.lowest.Goals as goal

further : (b : List ℕ) (kind p q : ℕ) → ((k : Kind) × IsSide k kind × Covered b k p q) → (d : ℕ) → ((k : Kind) → IsSide k kind → (e : ℕ) → e < d → covers_side b k p q e ≡ false)
    → d < declarations b
further b kind p q (k, side, some) d none = covered_further b k p q some d (none k side)

-- the test of a declaration that was read
tested : (b : List ℕ) (k : Kind) (p q d : ℕ) (own : Declaration) (on : Bool) → own ≡ declaration_of b d → on ≡ (covers own k p q || covers own nonassoc p q) → covers_side b k p q d ≡ on
tested b k p q d own on is e = sym (e ∙ ap (λ (l : Declaration). covers l k p q || covers l nonassoc p q) is)

pub declaration_at-start-requires : goal.declaration_at-start-requires
declaration_at-start-requires c = record { book_in_bounds = bodies_in c.args.book.now c.requires.well_formed.framed; d_bound = omega arith }

pub loop-d-init : goal.loop-d-init
loop-d-init c k side e l = absurd (omega arith)

pub read_declaration-requires : goal.read_declaration-requires
read_declaration-requires c = record { well_formed = c.requires.well_formed; d_bound = (further _ _ _ _ c.requires.side _ c.loop-d.invariant, c.declaration_at-start.ensures) }

pub overflow_add-d : goal.overflow_add-d
overflow_add-d c = let more = further _ _ _ _ c.requires.side _ c.loop-d.invariant in omega (arith, more, c.type_inv.book 3)

pub loop-d-smaller : goal.loop-d-smaller
loop-d-smaller c = let more = further _ _ _ _ c.requires.side _ c.loop-d.invariant in omega (arith, more)

pub loop-d-preserved : goal.loop-d-preserved
loop-d-preserved c k side e l =
    let start = c in
    let test = c.covers_side in
    elim (ℕ_discrete e c.loop-d.d) [
      | yes same ↦ ap (covers_side start.args.book.now k start.args.p start.args.q) same
          ∙ tested _ _ _ _ _ _ _ c.read_declaration.ensures.value (test.ensures k side)
          ∙ c.loop-d-test.true
      | no other ↦ c.loop-d.invariant k side e (omega arith)
    ]

pub returns : goal.returns
returns c k side =
    let turn = c.loop-d in
    let test = c.covers_side in
    record {
      there = further _ _ _ _ c.requires.side _ turn.invariant;
      covering = tested _ _ _ _ _ _ _ c.read_declaration.ensures.value (test.ensures k side) ∙ c.loop-d-test.false;
      lower = turn.invariant k side;
    }
