-- `insert_range` meets its contract: a range that falls is inserted turned round.
use mathlib.Core.Path.{sym, ◌∙◌, ap}
use mathlib.Core.Bool.{Bool, ◌||◌}
use native.Mathlib.Omega.{arith}
use Rattle.charset.proofs.SpansLaws.{spans_rising, spans_falling}
use Rattle.charset.specs.Set.{has}
use Rattle.charset.proofs.CharSet.insert_range.Goals as goal

pub returns-then-high-low : goal.returns-then-high-low
returns-then-high-low c b h =
    let s = c.args in
    c.insert_rising.ensures b h ∙ ap (λ (v : Bool). has s.self.words b || v) (sym (spans_falling s.low s.high b (omega arith)))

pub returns : goal.returns
returns c b h =
    let s = c.args in
    c.insert_rising-2.ensures b h ∙ ap (λ (v : Bool). has s.self.words b || v) (sym (spans_rising s.low s.high b (omega arith)))
