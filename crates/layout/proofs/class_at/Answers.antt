-- `class_at` meets its contract: before class j is where class j stands.
use Prim.Native.Nat.{ℕ, ◌<◌}
use mathlib.Core.Path.{sym, ◌∙◌, ap}
use native.Mathlib.Omega.{arith}
use Rattle.common.specs.Bytes.{byte_values}
use Rattle.layout.proofs.LayoutLaws.{class_first, class_next, range_count_small, class_small}
use Rattle.layout.specs.Layout.{byte_at, production_at}
use Rattle.layout.proofs.class_at.Goals as goal

pub loop-j-init : goal.loop-j-init
loop-j-init c =
    let b = c.args.book.now in
    c.production_at-at.ensures ∙ ap (λ (k : ℕ). production_at b k) c.production_count.ensures ∙ sym (class_first b)

pub overflow_mul-at : goal.overflow_mul-at
overflow_mul-at c =
    let b = c.args.book.now in
    let bytes : (k : ℕ) → byte_at b k < byte_values = λ k. omega (arith, c.type_inv.book k) in
    omega (arith, c.range_count.ensures, range_count_small b bytes c.loop-j.j)

pub overflow_add-at : goal.overflow_add-at
overflow_add-at c =
    let b = c.args.book.now in
    let j = c.loop-j.j in
    let bytes : (k : ℕ) → byte_at b k < byte_values = λ k. omega (arith, c.type_inv.book k) in
    omega (arith, c.range_count.ensures, range_count_small b bytes j, class_small b bytes j, bytes 2)

pub loop-j-preserved : goal.loop-j-preserved
loop-j-preserved c =
    let b = c.args.book.now in
    omega (arith, c.range_count.ensures, class_next b c.loop-j.j)
