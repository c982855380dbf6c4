-- `with_group` meets its contract: the rows from `first` to x have the group, the rest is as it was.
use Prim.Native.Nat.{ℕ, ◌≤◌}
use mathlib.Core.Bool.{Bool, false, ◌||◌, or-false}
use mathlib.Core.List.{List, []}
use mathlib.Core.Logic.{by_cases}
use mathlib.Core.Path.{◌≡◌, sym, ◌∙◌, ap}
use native.Mathlib.Decide.{dec_lt}
use native.Mathlib.Omega.{arith}
use lib.ListN.{length, get_or}
use borrow.Author.Rules.{rules}
use Rattle.common.proofs.BelowLaws.{between_below, between_above, between_in}
use Rattle.common.proofs.FillLaws.{filled_from, filled_more}
use Rattle.common.specs.Below.{between}
use Rattle.layout.specs.Limits.{production_limit}
use Rattle.priority.specs.Chain.{entry, Square}
use Rattle.priority.proofs.with_group.Invariants.{Grouped}
use Rattle.priority.proofs.with_group.Goals as goal

module _ (t : List (List Bool)) (first second x : ℕ) where
  grouped_in : (row group : List Bool) → length row ≡ production_limit → first ≤ x → x ≤ second → ((y : ℕ) → get_or group y false ≡ between first second y)
      → ((y : ℕ) → get_or row y false ≡ (entry t x y || get_or group y false)) → Grouped t first second x row
  grouped_in row group n l m g e =
      record {
        long = λ h. n;
        entries = λ y. rw (between_in first second x l m) (e y ∙ ap (λ (v : Bool). entry t x y || v) (g y));
      }

  grouped_out : Square production_limit t → between first second x ≡ false → Grouped t first second x (get_or t x [])
  unfolding entry
  grouped_out s h = record { long = λ l. s.columns x l; entries = λ y. rw h (sym (or-false (entry t x y))) }

pub members-group-requires : goal.members-group-requires
members-group-requires c = c.requires.0

pub loop-x-init : goal.loop-x-init
loop-x-init c =
    let start = c in
    filled_from (Grouped start.args.table start.args.first start.args.second) [] start.args.table start.args.first
    (λ k l. grouped_out start.args.table start.args.first start.args.second k start.requires.1 (between_below start.args.first start.args.second k l))

pub loop-x-preserved : goal.loop-x-preserved
unfolding entry
loop-x-preserved c =
    let start = c in
    let members = c.members-group in
    let turn = c.loop-x in
    let n : length start.args.table ≡ production_limit = search rules in
    let own : get_or turn.wider turn.x [] ≡ get_or start.args.table turn.x [] = turn.invariant.rest turn.x (omega arith) in
    filled_more (Grouped start.args.table start.args.first start.args.second) [] start.args.table turn.x turn.wider c.merged.result (omega arith) turn.invariant
    (grouped_in start.args.table start.args.first start.args.second turn.x c.merged.result members.result (search rules) (omega arith) (omega arith) members.ensures (rw own at c.merged.ensures))

pub returns : goal.returns
unfolding entry
returns c = let start = c in
    let table = start.args.table in
    let done = c.loop-x.invariant in
    let n : length table ≡ production_limit = search rules in
    let each : (x : ℕ) → Grouped table start.args.first start.args.second x (get_or c.loop-x.wider x []) =
    λ x. by_cases (dec_lt x c.loop-x.x)
    (λ l. done.done x l)
    (λ l. rw (done.rest x (omega arith)) (grouped_out table start.args.first start.args.second x start.requires.1 (between_above start.args.first start.args.second x (omega arith)))) in
    record { square = record { rows = done.long ∙ n; columns = λ x l. (each x).long l }; with_group = λ x y. (each x).entries y }
