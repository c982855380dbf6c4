-- `write_chain` meets its contract.
use Prim.Native.Nat.{ℕ, ◌+◌, ◌<◌}
use mathlib.Core.Path.{◌≡◌, sym, ◌∙◌}
use mathlib.Core.List.{List}
use mathlib.Core.Logic.{⊎_elim}
use native.Mathlib.Omega.{arith}
use lib.ListN.{length, get_or}
use Rattle.common.proofs.ListLaws.{get_d_there}
use Rattle.refusal.specs.Verdict.{accepted}
use Rattle.layout.proofs.FramedLaws.{bodies_in}
use Rattle.layout.specs.Limits.{production_limit}
use Rattle.priority.proofs.CheckLaws.{accepted_formed}
use Rattle.priority.proofs.PriorityLaws.{higher_there_lem}
use Rattle.priority.specs.Check.{checked}
use Rattle.priority.specs.Priorities.{Higher}
use Rattle.shortest.proofs.SearchLaws.{rounds_none, search_on, found_steps, way_shortest, way_length}
use Rattle.shortest.specs.Chain.{Shortest}
use Rattle.shortest.specs.Search.{far, away, Rounds, way, Steps}
use Rattle.shortest.proofs.write_chain.Goals as goal

-- both productions are there
there : (b : List ℕ) (p q : ℕ) → checked b ≡ accepted → Higher b p q → (p < production_limit) × (q < production_limit)
there b p q e h =
    let w = accepted_formed b e in
    let (hp, hq) = higher_there_lem b w h in
    (omega (arith, hp, w.framed.few_productions), omega (arith, hq, w.framed.few_productions))

module _ (b : List ℕ) (p q : ℕ) (e : checked b ≡ accepted) (h : Higher b p q) (k : ℕ) (distance next : List ℕ) (r : Rounds b q k distance next) where
  -- the distance as code reads it
  read : get_or distance p 0 ≡ away distance p
  read = get_d_there distance p 0 far (omega (arith, r.sound.distances, (there b p q e h).0))

  still : get_or distance p 0 ≡ far → k + 1 < far
  still f = search_on b q k distance next r e p h (sym read ∙ f)

  -- p is found
  found : k < far → (get_or distance p 0 ≡ far → ⊥)
      → Steps b next p (get_or distance p 0) × Shortest b p q (way b next p (get_or distance p 0)) × (get_or distance p 0 ≡ length (way b next p (get_or distance p 0)))
  found few ended =
      let near : away distance p < far = ⊎_elim (λ l. omega arith) (λ l. absurd (ended (read ∙ l))) (r.within p) in
      rw read (found_steps b q k distance next r e p h near, way_shortest b q k distance next r e p h near, way_length b q k distance next r e p h near)

pub declaration_at-start-requires-clause-book_in_bounds : goal.declaration_at-start-requires-clause-book_in_bounds
declaration_at-start-requires-clause-book_in_bounds c = let start = c in bodies_in start.args.book.now (accepted_formed start.args.book.now start.requires.0).framed

pub offset_bounds-distance-q : goal.offset_bounds-distance-q
offset_bounds-distance-q c = let known = there _ _ _ c.requires.0 c.requires.1 in omega (arith, known)

pub bounds-distance-q : goal.bounds-distance-q
bounds-distance-q c = (there _ _ _ c.requires.0 c.requires.1).1

pub loop-distance-init : goal.loop-distance-init
loop-distance-init c = let start = c in (rounds_none start.args.book.now start.args.q (there _ _ _ c.requires.0 c.requires.1).1, omega arith)

pub offset_bounds-distance-p : goal.offset_bounds-distance-p
offset_bounds-distance-p c = let known = there _ _ _ c.requires.0 c.requires.1 in omega (arith, known)

pub bounds-distance-p : goal.bounds-distance-p
bounds-distance-p c = (there _ _ _ c.requires.0 c.requires.1).0

pub round-requires-clause-well_formed : goal.round-requires-clause-well_formed
round-requires-clause-well_formed c = let start = c in
    let rounds = c.loop-distance.invariant.0 in (accepted_formed start.args.book.now start.requires.0, c.declaration_at-start.ensures, still _ _ _ start.requires.0 start.requires.1 _ _ _ c.loop-distance.invariant.0 c.loop-distance-test.true)

pub loop-distance-preserved : goal.loop-distance-preserved
loop-distance-preserved c =
    let start = c in
    (c.round.ensures start.args.q c.loop-distance.invariant.0, still _ _ _ start.requires.0 start.requires.1 _ _ _ c.loop-distance.invariant.0 c.loop-distance-test.true)

pub offset_bounds-distance-p-2 : goal.offset_bounds-distance-p-2
offset_bounds-distance-p-2 c = let known = there _ _ _ c.requires.0 c.requires.1 in omega (arith, known)

pub bounds-distance-p-2 : goal.bounds-distance-p-2
bounds-distance-p-2 c = (there _ _ _ c.requires.0 c.requires.1).0

pub follow-requires-clause-well_formed : goal.follow-requires-clause-well_formed
follow-requires-clause-well_formed c = let start = c in (accepted_formed start.args.book.now start.requires.0, c.declaration_at-start.ensures)

pub follow-requires-clause-next_len : goal.follow-requires-clause-next_len
follow-requires-clause-next_len c = let start = c in (c.loop-distance.invariant.0.sound.nexts, (there _ _ _ start.requires.0 start.requires.1).0, (found _ _ _ start.requires.0 start.requires.1 _ _ _ c.loop-distance.invariant.0 c.loop-distance.invariant.1 c.loop-distance-test.false).0)

pub returns : goal.returns
returns c =
    let start = c in
    let turn = c.loop-distance in
    let (steps, shortest, long) = found _ _ _ start.requires.0 start.requires.1 _ _ _ c.loop-distance.invariant.0 c.loop-distance.invariant.1 c.loop-distance-test.false in
    record {
      chain = way start.args.book.now turn.next start.args.p (get_or turn.distance start.args.p 0);
      shortest = shortest;
      is_length = long;
      is_written = c.follow.ensures;
    }
