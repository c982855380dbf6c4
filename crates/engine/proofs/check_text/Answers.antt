-- `check_text` meets its contract.
use mathlib.Core.Path.{sym}
use Rattle.engine.proofs.RefusalsLaws.{long_text, short_text}
use Rattle.engine.proofs.check_text.Goals as goal

pub returns-then-text-gt-TEXT_LIMIT : goal.returns-then-text-gt-TEXT_LIMIT
returns-then-text-gt-TEXT_LIMIT c = rw c.at.ensures (sym (long_text c.args.text.now c.if-text-gt-TEXT_LIMIT.true))

pub returns : goal.returns
returns c = sym (short_text c.args.text.now c.if-text-gt-TEXT_LIMIT.false)
