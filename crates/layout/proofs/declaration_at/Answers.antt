-- `declaration_at` meets its contract.
use Prim.Native.Nat.{ℕ, ◌+◌, ◌*◌, ◌<◌}
use mathlib.Core.Path.{◌∙◌, ap}
use native.Mathlib.Omega.{arith}
use Rattle.common.specs.Bytes.{byte_values}
use Rattle.layout.proofs.LayoutLaws.{class_small}
use Rattle.layout.specs.Layout.{byte_at, class_at, declaration_at}
use Rattle.layout.proofs.declaration_at.Goals as goal

pub overflow_add-result : goal.overflow_add-result
overflow_add-result c =
    let b = c.args.book.now in
    let bytes : (k : ℕ) → byte_at b k < byte_values = λ k. omega (arith, c.type_inv.book k) in
    omega (arith, c.class_at.ensures, c.class_count.ensures, class_small b bytes c.class_count.result, bytes 2, bytes 3)

pub returns : goal.returns
unfolding declaration_at
returns c =
    let b = c.args.book.now in
    ap (λ (k : ℕ). k + 3 * c.args.d) (c.class_at.ensures ∙ ap (λ (k : ℕ). class_at b k) c.class_count.ensures)
