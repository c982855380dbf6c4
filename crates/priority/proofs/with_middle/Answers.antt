-- `with_middle` meets its contract: the rows below x may pass through the middle, the rest is as it was.
use Prim.Native.Nat.{ℕ, ◌≤◌}
use mathlib.Core.Path.{◌≡◌, refl, sym, ◌∙◌, ap}
use mathlib.Core.Bool.{Bool, false, true, ◌&&◌, ◌||◌, or-false}
use mathlib.Core.List.{List, []}
use mathlib.Core.Logic.{by_cases}
use native.Mathlib.Omega.{arith}
use native.Mathlib.Decide.{dec_lt}
use lib.ListN.{length, get_or}
use borrow.Author.Rules.{rules}
use Rattle.common.proofs.FillLaws.{filled_none, filled_more, filled_kept}
use Rattle.layout.specs.Limits.{production_limit}
use Rattle.priority.proofs.TableLaws.{entry_out}
use Rattle.priority.specs.Chain.{entry}
use Rattle.priority.proofs.with_middle.Invariants.{Passes}
use Rattle.priority.proofs.with_middle.Goals as goal
use Rattle.priority.proofs.with_middle.Goals.{then-wider-x, else-wider-x}

module _ (t : List (List Bool)) (m x : ℕ) where
  passes_on : (row : List Bool) → entry t x m ≡ true → ((y : ℕ) → get_or row y false ≡ (entry t x y || entry t m y)) → Passes t m x row
  unfolding Passes
  passes_on row h e y = rw h (e y)

  passes_off : entry t x m ≡ false → Passes t m x (get_or t x [])
  unfolding Passes entry
  passes_off h y = rw h (sym (or-false (entry t x y)))

  beyond_all : (y : ℕ) → length t ≡ production_limit → production_limit ≤ x → entry t x y ≡ (entry t x y || entry t x m && entry t m y)
  beyond_all y e h = rw (entry_out t x y (omega arith), entry_out t x m (omega arith)) refl

pub loop-x-init : goal.loop-x-init
loop-x-init c = filled_none (Passes c.args.table c.args.middle) [] c.args.table

pub loop-x-preserved : goal.loop-x-preserved
unfolding Passes entry
loop-x-preserved c =
    let l = c in
    let t = l.args.table in
    let m = l.args.middle in
    let x = l.loop-x.x in
    let n : length t ≡ production_limit = search rules in
    let own : get_or l.loop-x.wider x [] ≡ get_or t x [] = l.loop-x.invariant.rest x (omega arith) in
    elim c.if-wider-x.branch [
      | then-wider-x w ↦ rw w.wider-is (filled_more (Passes t m) [] t x l.loop-x.wider w.merged.result (omega arith) l.loop-x.invariant (passes_on t m x w.merged.result (rw own at w.if-wider-x.true) (rw own at w.merged.ensures)))
      | else-wider-x w ↦ rw w.wider-is (filled_kept (Passes t m) [] t x l.loop-x.wider l.loop-x.invariant (passes_off t m x (rw own at w.if-wider-x.false)))
    ]

pub returns : goal.returns
unfolding Passes entry
returns c x y =
    let t = c.args.table in
    let n : length t ≡ production_limit = search rules in
    by_cases (dec_lt x production_limit)
    (λ l. c.loop-x.invariant.done x (omega arith) y)
    (λ l. ap (λ (row : List Bool). get_or row y false) (c.loop-x.invariant.rest x (omega arith)) ∙ beyond_all t c.args.middle x y n (omega arith))
