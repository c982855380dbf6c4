-- `production_at` meets its contract: before production q is where production q stands.
use Prim.Native.Nat.{ℕ, ◌<◌}
use mathlib.Core.Path.{sym, ◌∙◌}
use native.Mathlib.Omega.{arith}
use Rattle.common.specs.Bytes.{byte_values}
use Rattle.layout.proofs.LayoutLaws.{production_first, production_next, count_small, production_small}
use Rattle.layout.specs.Layout.{byte_at}
use Rattle.layout.proofs.production_at.Goals as goal

pub loop-q-init : goal.loop-q-init
loop-q-init c = c.bodies_at-at.ensures ∙ sym (production_first c.args.book.now)

pub overflow_add-at : goal.overflow_add-at
overflow_add-at c =
    let b = c.args.book.now in
    let bytes : (k : ℕ) → byte_at b k < byte_values = λ k. omega (arith, c.type_inv.book k) in
    omega (arith, c.argument_count.ensures, count_small b bytes c.loop-q.q)

pub overflow_add-at-in-loop-q : goal.overflow_add-at-in-loop-q
overflow_add-at-in-loop-q c =
    let b = c.args.book.now in
    let q = c.loop-q.q in
    let bytes : (k : ℕ) → byte_at b k < byte_values = λ k. omega (arith, c.type_inv.book k) in
    omega (arith, c.argument_count.ensures, count_small b bytes q, production_small b bytes q, bytes 1)

pub loop-q-preserved : goal.loop-q-preserved
loop-q-preserved c =
    let b = c.args.book.now in
    omega (arith, c.argument_count.ensures, production_next b c.loop-q.q)
