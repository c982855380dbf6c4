-- `check_declarations` meets its contract: no declaration passed is refused.
use mathlib.Core.Path.{sym, ◌∙◌}
use native.Mathlib.Omega.{arith}
use Rattle.std.proofs.lemmas.Result.{err_from_is_err_and}
use Rattle.refusal.proofs.VerdictLaws.{first_none, first_more, first_found, first_done}
use Rattle.grammar.specs.Check.{bad_declaration}
use Rattle.layout.proofs.FramedLaws.{declaration_in, bodies_in}
use Rattle.layout.proofs.LayoutLaws.{declaration_next}
use Rattle.grammar.proofs.check.check_declarations.Goals as goal

pub declaration_count-d-end-requires : goal.declaration_count-d-end-requires
declaration_count-d-end-requires c = c.requires.header

pub declaration_at-at-requires : goal.declaration_at-at-requires
declaration_at-at-requires c = record { book_in_bounds = bodies_in c.args.book.now c.requires; d_bound = omega arith }

pub loop-d-init : goal.loop-d-init
loop-d-init c = (c.declaration_at-at.ensures, first_none (bad_declaration c.args.book.now))

pub check_declaration-requires : goal.check_declaration-requires
check_declaration-requires c = record { framed = c.requires; d_bound = omega (arith, c.declaration_count-d-end.ensures); at_value = c.loop-d.invariant.0 }

pub returns-in_err-check_declaration : goal.returns-in_err-check_declaration
returns-in_err-check_declaration c =
    let b = c.args.book.now in
    let told = c.in_err-check_declaration.was in
    let p = err_from_is_err_and c.from_residual.result c.from_residual.ensures.1 in
    rw (p.1, p.2) (sym (first_found (bad_declaration b) c.loop-d.d _ (omega (arith, c.declaration_count-d-end.ensures)) c.loop-d.invariant.1 (sym c.check_declaration.ensures ∙ told)))

pub overflow_add-at : goal.overflow_add-at
overflow_add-at c = omega (arith, c.declaration_count-d-end.ensures, declaration_in c.args.book.now c.requires c.loop-d.d (omega (arith, c.declaration_count-d-end.ensures)))

pub loop-d-preserved : goal.loop-d-preserved
loop-d-preserved c =
    let b = c.args.book.now in
    (omega (arith, declaration_next b c.loop-d.d), first_more (bad_declaration b) c.loop-d.d c.loop-d.invariant.1 (sym c.check_declaration.ensures ∙ c.in_ok-check_declaration.was))

pub returns : goal.returns
returns c = first_done (bad_declaration c.args.book.now) _ _ c.loop-d.invariant.1 (omega (arith, c.declaration_count-d-end.ensures))
