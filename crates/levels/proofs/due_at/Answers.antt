-- `due_at` meets its contract: the count of written arguments says which two places to read.
use Prim.Native.Nat.{ℕ, ◌+◌, ◌*◌}
use mathlib.Core.Path.{◌≡◌, sym, ◌∙◌, ap}
use native.Mathlib.Omega.{arith}
use lib.ListN.{get_or}
use Rattle.levels.proofs.LevelsLaws.{place_at}
use Rattle.levels.specs.Levels.{level_bytes, production_of, written_of}
use Rattle.levels.proofs.due_at.Goals as goal

pub bounds-levels-k-3 : goal.bounds-levels-k-3
unfolding written_of
bounds-levels-k-3 c = omega (arith, c.from-d.ensures)

pub bounds-levels-k-4 : goal.bounds-levels-k-4
unfolding written_of
bounds-levels-k-4 c = omega (arith, c.from-d.ensures)

pub returns : goal.returns
unfolding production_of written_of
returns c =
    let a = c.args in
    let d = c.from-d.result in
    let e : a.k * level_bytes + 2 + (d + 1) ≡ a.k * level_bytes + 2 + d + 1 = omega arith in
    record {
      is_production = c.from.ensures;
      is_argument = c.from-d.ensures;
      is_from = c.from-2.ensures ∙ sym (place_at a.levels.now a.k d (omega (arith, c.from-d.ensures)));
      is_to = c.from-3.ensures ∙ ap (λ (b : ℕ). get_or a.levels.now b 0) (sym e) ∙ sym (place_at a.levels.now a.k (d + 1) (omega (arith, c.from-d.ensures)));
    }
