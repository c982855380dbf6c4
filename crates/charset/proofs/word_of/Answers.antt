-- `word_of` meets its contract: the bits below b are those of their entries, and there is none above.
use Prim.Native.Nat.{◌+◌}
use mathlib.Core.Bool.{false}
use mathlib.Core.Path.{refl, ◌∙◌}
use native.Mathlib.Omega.{arith}
use lib.ListN.{get_or}
use borrow.Author.Tests.{le-ltb, lt-ltb}
use Rattle.charset.proofs.BitLaws.{bit_zero}
use Rattle.charset.proofs.BitsLaws.{bit_more}
use Rattle.charset.proofs.word_of.Goals as goal

pub loop-b-init : goal.loop-b-init
loop-b-init c i = bit_zero i ∙ rw (le-ltb i 0 (omega arith)) refl

pub loop-b-preserved : goal.loop-b-preserved
loop-b-preserved c = bit_more (λ i. get_or c.args.row.now (c.args.at + i) false) c.loop-b.word c.loop-b.b (omega arith) c.loop-b.invariant

pub returns : goal.returns
returns c i l = c.loop-b.invariant i ∙ rw (lt-ltb i c.loop-b.b (omega arith)) refl
