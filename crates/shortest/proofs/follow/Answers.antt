-- `follow` meets its contract.
use mathlib.Core.Path.{◌≡◌, refl, sym, ◌∙◌, ap}
use native.Mathlib.Omega.{arith}
use native.Mathlib.Numerals.{add-one}
use lib.ListN.{length}
use Rattle.common.proofs.FillLaws.{filled_none, filled_more}
use Rattle.common.proofs.ListLaws.{length_tabulate, get_d_tabulate}
use Rattle.layout.specs.Layout.{second}
use Rattle.priority.specs.Priorities.{declaration_of}
use Rattle.priority.specs.declared.Declaration.{Declaration}
use Rattle.shortest.proofs.WrittenLaws.{Entry, chain_written}
use Rattle.shortest.specs.Search.{onward_from, reached, way}
use Rattle.shortest.proofs.follow.Goals as goal

pub loop-k-init : goal.loop-k-init
unfolding reached
loop-k-init c = let start = c in
    record {
      written = filled_none (Entry (way start.args.book.now start.args.next.now start.args.p start.args.count)) 0 start.args.out.now;
      here = refl;
      there = start.requires.next_len.1;
    }

pub loop-k-preserved : goal.loop-k-preserved
unfolding declaration_of reached
loop-k-preserved c =
    let start = c in
    let turn = c.loop-k in
    let b = start.args.book.now in
    let next = start.args.next.now in
    let p = start.args.p in
    let count = start.args.count in
    record {
      written = filled_more (Entry (way b next p count)) 0 start.args.out.now turn.k turn.out (onward_from next turn.x) (omega (arith, turn.invariant.written.long)) turn.invariant.written
          (ap (onward_from next) turn.invariant.here ∙ sym (get_d_tabulate count (λ k. onward_from next (reached b next p k)) turn.k 0 (omega arith)));
      here = ap (λ (l : Declaration). l.second) c.read_declaration-own.ensures.value ∙ ap (second b) (c.from.ensures ∙ ap (onward_from next) turn.invariant.here) ∙ ap (reached b next p) (sym (add-one turn.k));
      there = c.read_declaration-own.ensures.first_lt_production_limit.1;
    }

pub returns : goal.returns
returns c =
    let start = c in
    let turn = c.loop-k in
    let chain = way start.args.book.now start.args.next.now start.args.p start.args.count in
    let long : length chain ≡ start.args.count = length_tabulate start.args.count (λ k. onward_from start.args.next.now (reached start.args.book.now start.args.next.now start.args.p k)) in
    chain_written chain start.args.out.now turn.k turn.out turn.invariant.written (omega (arith, long)) (omega arith) (λ h i. absurd (omega (arith, long)))
