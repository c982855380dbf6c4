-- `check_grammar` meets its contract: the frame, the bodies, then the circles.
use Prim.Native.Nat.{ℕ}
use mathlib.Core.Path.{sym, ◌∙◌, ap}
use native.Mathlib.Omega.{arith}
use Rattle.std.proofs.lemmas.Result.{err_from_is_err_and}
use Rattle.grammar.proofs.FormedLaws.{framed, well_formed}
use Rattle.refusal.proofs.VerdictLaws.{first_same}
use Rattle.refusal.specs.Verdict.{first_refusal}
use Rattle.layout.specs.Layout.{productions}
use Rattle.priority.proofs.CheckLaws.{checked_frame, checked_bodies, checked_circles}
use Rattle.priority.proofs.PriorityLaws.{diagonal_circle}
use Rattle.priority.specs.Check.{circle, on_diagonal}
use Rattle.priority.specs.Priorities.{declarations_of}
use Rattle.priority.proofs.check_grammar.Goals as goal

pub returns-in_err-check_frame : goal.returns-in_err-check_frame
returns-in_err-check_frame c =
    let told = c.in_err-check_frame.was in
    let p = err_from_is_err_and c.from_residual.result c.from_residual.ensures.1 in
    rw (p.1, p.2) (sym (checked_frame c.args.book.now _ (sym c.check_frame.ensures ∙ told)))

pub check_bodies-requires : goal.check_bodies-requires
check_bodies-requires c = framed c.args.book.now (sym c.check_frame.ensures ∙ c.in_ok-check_frame.was)

pub returns-in_err-check_bodies : goal.returns-in_err-check_bodies
returns-in_err-check_bodies c =
    let told = c.in_err-check_bodies.was in
    let p = err_from_is_err_and c.from_residual-in_err-check_bodies.result c.from_residual-in_err-check_bodies.ensures.1 in
    rw (p.1, p.2) (sym (checked_bodies c.args.book.now _ (sym c.check_frame.ensures ∙ c.in_ok-check_frame.was) (sym c.check_bodies.ensures ∙ told)))

pub priorities-requires : goal.priorities-requires
priorities-requires c = well_formed c.args.book.now (sym c.check_frame.ensures ∙ c.in_ok-check_frame.was) (sym c.check_bodies.ensures ∙ c.in_ok-check_bodies.was)

pub production_count-requires : goal.production_count-requires
production_count-requires c = (framed c.args.book.now (sym c.check_frame.ensures ∙ c.in_ok-check_frame.was)).header

pub check_circles-requires : goal.check_circles-requires
check_circles-requires c = omega (arith, c.production_count.ensures, (framed c.args.book.now (sym c.check_frame.ensures ∙ c.in_ok-check_frame.was)).few_productions)

pub returns : goal.returns
returns c =
    let b = c.args.book.now in
    let f = sym c.check_frame.ensures ∙ c.in_ok-check_frame.was in
    let g = sym c.check_bodies.ensures ∙ c.in_ok-check_bodies.was in
    let t = c.priorities.result in
    c.check_circles.ensures ∙ ap (λ (n : ℕ). first_refusal n (on_diagonal t)) c.production_count.ensures
    ∙ first_same (on_diagonal t) (circle (productions b) (declarations_of b)) (productions b) (λ p l. diagonal_circle b (well_formed b f g) t c.priorities.ensures p)
    ∙ sym (checked_circles b f g)
