-- `lowest_same` meets its contract: no set passed is the same.
use mathlib.Core.Path.{◌≡◌, sym, ◌∙◌}
use mathlib.Core.Bool.{true}
use Rattle.charset.proofs.SameSetLaws.{same_set_like}
use Rattle.charset.proofs.SeekLaws.{seek_more, seek_found}
use Rattle.classes.proofs.canonical.lowest_same.Invariants.{same}
use Rattle.classes.proofs.canonical.lowest_same.Goals as goal

pub returns-then-same : goal.returns-then-same
returns-then-same c =
    let a = c.args in
    let at = c.loop-j in
    let said : c.same.result ≡ same a.sets.now a.k at.j = c.same.ensures ∙ same_set_like _ _ _ _ c.held_set-own.ensures c.held_set.ensures in
    seek_found a.k (same a.sets.now a.k) true 0 at.j (sym said ∙ c.if-same.true) at.invariant

pub loop-j-preserved : goal.loop-j-preserved
loop-j-preserved c =
    let a = c.args in
    let at = c.loop-j in
    let said : c.same.result ≡ same a.sets.now a.k at.j = c.same.ensures ∙ same_set_like _ _ _ _ c.held_set-own.ensures c.held_set.ensures in
    seek_more a.k (same a.sets.now a.k) true 0 at.j c.loop-j-test.true (sym said ∙ c.if-same.false) at.invariant
