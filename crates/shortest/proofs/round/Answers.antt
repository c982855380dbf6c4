-- `round` meets its contract.
use Prim.Native.Nat.{◌+◌, ◌<◌}
use mathlib.Core.Path.{◌≡◌, refl, sym, ◌∙◌, ap}
use native.Mathlib.Omega.{arith}
use lib.ListN.{get_or}
use lib.Dec.{eqb}
use mathlib.Core.Bool.{false, ◌&&◌}
use borrow.Author.Tests.{eq-eqb, ne_eqb}
use Rattle.shortest.specs.Search.{far}
use Rattle.layout.specs.Layout.{declarations, first, second}
use Rattle.priority.specs.Priorities.{kind_number, declaration_of}
use Rattle.shortest.proofs.RoundLaws.{Midway, leads_back, test_made, test_new, test_old, round_passes, round_finds}
use Rattle.shortest.proofs.round.Goals as goal
use Rattle.shortest.proofs.round.Goals.{then-own-eq-HIGHER+then-distance-first-eq-FAR+then-distance-second, else-own-eq-HIGHER-via-then-own-eq-HIGHER+else-distance-first-eq-FAR, else-own-eq-HIGHER-via-then-own-eq-HIGHER+then-distance-first-eq-FAR+else-distance-second, else-own-eq-HIGHER, else-own-eq-HIGHER-via-else-own-eq-HIGHER}

pub loop-d-preserved : goal.loop-d-preserved
unfolding kind_number declaration_of
loop-d-preserved c y r =
    let turn = c.loop-d in
    let b = c.args.book.now in
    let k = c.args.k in
    let n = turn.d in
    let l = c.read_declaration-own.result in
    let own : l ≡ declaration_of b n = c.read_declaration-own.ensures.value in
    let (hf, hs) = c.read_declaration-own.ensures.first_lt_production_limit in
    let same : l.first ≡ first b n = rw own refl in
    let few : n < declarations b = omega (arith, c.declaration_count-d-end.ensures) in
    let read : leads_back k turn.distance (declaration_of b n) ≡ (eqb l.kind 1 && (eqb (get_or turn.distance l.first 0) far && eqb (get_or turn.distance l.second 0) k)) =
    ap (leads_back k turn.distance) (sym own) ∙ sym (test_made k turn.distance l _ _ (omega (arith, hf)) (omega (arith, hs)) refl refl) in
    let passes : leads_back k turn.distance (declaration_of b n) ≡ false → Midway b y k (n + 1) turn.distance turn.next =
    λ e. round_passes b y k turn.distance turn.next n (turn.invariant y r) (test_old b k turn.distance n e) in
    elim c.if-own-eq-HIGHER.branch [
      | then-own-eq-HIGHER+then-distance-first-eq-FAR+then-distance-second w ↦
          let (says, new, at) = test_new b k turn.distance n few (read ∙ rw (eq-eqb _ _ w.if-own-eq-HIGHER.true, eq-eqb _ _ w.if-distance-first-eq-FAR.true, eq-eqb _ _ w.if-distance-second.true) refl) in
          rw (w.distance-is, w.next-is, same) (round_finds b y k turn.distance turn.next n (turn.invariant y r) (first b n) (second b n) says (omega (arith, hf, same)) c.requires.well_formed.2 new at)
      | else-own-eq-HIGHER w ↦ rw (w.distance-is, w.next-is) (passes (elim w.else-own-eq-HIGHER.branch [
        | else-own-eq-HIGHER-via-then-own-eq-HIGHER+then-distance-first-eq-FAR+else-distance-second v ↦ (read ∙ rw (eq-eqb _ _ v.if-own-eq-HIGHER.true, eq-eqb _ _ v.if-distance-first-eq-FAR.true, ne_eqb _ _ v.if-distance-second.false) refl)
        | else-own-eq-HIGHER-via-then-own-eq-HIGHER+else-distance-first-eq-FAR v ↦ (read ∙ rw (eq-eqb _ _ v.if-own-eq-HIGHER.true, ne_eqb _ _ v.if-distance-first-eq-FAR.false) refl)
        | else-own-eq-HIGHER-via-else-own-eq-HIGHER v ↦ (read ∙ rw (ne_eqb _ _ v.if-own-eq-HIGHER.false) refl)
      ]))
    ]
