-- `check_declaration` meets its contract: its bytes are the declaration's.
use Prim.Native.Nat.{ℕ, ◌<◌}
use native.Mathlib.Omega.{arith}
use Rattle.charset.specs.Set.{characters}
use Rattle.grammar.specs.Check.{bad_declaration}
use Rattle.layout.proofs.FramedLaws.{declaration_in}
use Rattle.layout.proofs.LayoutLaws.{declaration_small}
use Rattle.layout.specs.Layout.{byte_at, kind, first, second}
use Rattle.grammar.proofs.check.check_declaration.Goals as goal

pub byte_at-requires : goal.byte_at-requires
byte_at-requires c = omega (arith, declaration_in c.args.book.now c.requires.framed c.args.d c.requires.d_bound)

pub overflow_add-at : goal.overflow_add-at
overflow_add-at c = omega (arith, declaration_in c.args.book.now c.requires.framed c.args.d c.requires.d_bound)

pub byte_at-requires-2 : goal.byte_at-requires-2
byte_at-requires-2 c = omega (arith, declaration_in c.args.book.now c.requires.framed c.args.d c.requires.d_bound)

pub overflow_add-at-2 : goal.overflow_add-at-2
overflow_add-at-2 c = omega (arith, declaration_in c.args.book.now c.requires.framed c.args.d c.requires.d_bound)

pub byte_at-requires-3 : goal.byte_at-requires-3
byte_at-requires-3 c = omega (arith, declaration_in c.args.book.now c.requires.framed c.args.d c.requires.d_bound)

pub check_declaration_bytes-requires : goal.check_declaration_bytes-requires
check_declaration_bytes-requires c =
    let bytes : (k : ℕ) → byte_at c.args.book.now k < characters = λ k. omega (arith, c.type_inv.book k) in
    omega (arith, declaration_small c.args.book.now bytes c.args.d, bytes 3)

pub returns : goal.returns
unfolding bad_declaration kind first second
returns c = rw (← c.requires.at_value, ← c.production_count.ensures, ← c.byte_at.ensures, ← c.byte_at-2.ensures, ← c.byte_at-3.ensures) c.check_declaration_bytes.ensures
