-- `put_runs` meets its contract: the ranges up to `from` are put.
use Prim.Native.Nat.{ℕ, ◌+◌, ◌-◌, ◌*◌}
use mathlib.Core.Path.{◌≡◌, sym, ◌∙◌, ap}
use native.Mathlib.Omega.{arith}
use lib.ListN.{length}
use Rattle.ccg.proofs.RunPutLaws.{runs_put_end, run_low, run_rises, run_below, run_room, runs_put_more}
use Rattle.ccg.proofs.put_runs.Invariants.{numbers}
use Rattle.ccg.specs.Text.{range_text}
use Rattle.charset.specs.Runs.{runs}
use Rattle.charset.specs.Set.{word_bits}
use Rattle.common.specs.Lists.{joined}
use Rattle.writing.proofs.PutLaws.{put_same}
use Rattle.writing.specs.Put.{farthest}
use Rattle.ccg.proofs.put_runs.Goals as goal

pub put_range-place-requires : goal.put_range-place-requires
put_range-place-requires g c =
    let a = c.args in
    let at = c.loop-low in
    let f = numbers a.set.words a.first in
    let n : a.first + g.row.W * word_bits - a.first ≡ g.row.W * word_bits = omega arith in
    let e = sym (c.next_run.ensures f (record { computed = λ k r l m p. p })) ∙ c.in-Some.is in
    run_room f a.first (a.first + g.row.W * word_bits) a.out.now a.at at.from at.out at.place _ _ at.invariant e farthest
    (omega (arith, c.requires.room, ap (λ (k : ℕ). length (joined range_text (runs f a.first k))) n))

pub overflow_add-from : goal.overflow_add-from
overflow_add-from g c =
    let a = c.args in
    let at = c.loop-low in
    let f = numbers a.set.words a.first in
    let e = sym (c.next_run.ensures f (record { computed = λ k r l m p. p })) ∙ c.in-Some.is in
    omega (arith, run_below f a.first (a.first + g.row.W * word_bits) a.out.now a.at at.from at.out at.place _ _ at.invariant e)

pub loop-low-smaller : goal.loop-low-smaller
loop-low-smaller g c =
    let a = c.args in
    let at = c.loop-low in
    let f = numbers a.set.words a.first in
    let e = sym (c.next_run.ensures f (record { computed = λ k r l m p. p })) ∙ c.in-Some.is in
    omega (arith, run_low f a.first (a.first + g.row.W * word_bits) a.out.now a.at at.from at.out at.place _ _ at.invariant e, run_rises f a.first (a.first + g.row.W * word_bits) a.out.now a.at at.from at.out at.place _ _ at.invariant e, run_below f a.first (a.first + g.row.W * word_bits) a.out.now a.at at.from at.out at.place _ _ at.invariant e)

pub loop-low-preserved : goal.loop-low-preserved
loop-low-preserved g c =
    let a = c.args in
    let at = c.loop-low in
    let f = numbers a.set.words a.first in
    let e = sym (c.next_run.ensures f (record { computed = λ k r l m p. p })) ∙ c.in-Some.is in
    runs_put_more f a.first (a.first + g.row.W * word_bits) a.out.now a.at at.from at.out at.place _ _ at.invariant e _ _ c.put_range-place.ensures

pub returns : goal.returns
returns g c =
    let a = c.args in
    let at = c.loop-low in
    let f = numbers a.set.words a.first in
    let n : a.first + g.row.W * word_bits - a.first ≡ g.row.W * word_bits = omega arith in
    put_same _ _ _ _ _ _ (ap (λ (k : ℕ). joined range_text (runs f a.first k)) n)
    (runs_put_end f a.first (a.first + g.row.W * word_bits) a.out.now a.at at.from at.out at.place at.invariant (sym (c.next_run.ensures f (record { computed = λ k r l m p. p })) ∙ c.in_default.is))
