-- `check_arguments` meets its contract: no argument passed is refused.
use Prim.Native.Nat.{ℕ, ◌+◌}
use mathlib.Core.Path.{◌≡◌, refl, sym, ◌∙◌, ap}
use native.Mathlib.Omega.{arith}
use lib.ListN.{get_or}
use Rattle.refusal.proofs.VerdictLaws.{first_none, first_more, first_found, first_done}
use Rattle.grammar.specs.Check.{names_argument, bad_argument}
use Rattle.layout.proofs.FramedLaws.{production_in, bodies_in}
use Rattle.layout.specs.Layout.{production_at, argument}
use Rattle.grammar.proofs.check.check_arguments.Goals as goal

named : (b : _) (p at i x : ℕ) {t : _} → at ≡ production_at b p → x ≡ get_or b (at + 1 + i) 0 → t ≡ names_argument b x → t ≡ names_argument b (argument b p i)
unfolding argument
named b p at i x e f g = g ∙ ap (λ (y : ℕ). names_argument b y) (f ∙ ap (λ (k : ℕ). get_or b (k + 1 + i) 0) e)

pub argument_count-i-end-requires : goal.argument_count-i-end-requires
argument_count-i-end-requires c = record { book_in_bounds = bodies_in c.args.book.now c.requires.framed; p_bound = c.requires.p_bound }

pub loop-i-init : goal.loop-i-init
loop-i-init c = first_none (bad_argument c.args.book.now c.args.p)

pub overflow_add-at : goal.overflow_add-at
overflow_add-at c = omega (arith, c.argument_count-i-end.ensures, production_in c.args.book.now c.requires.framed c.args.p c.requires.p_bound)

pub overflow_add-at-in-loop-i : goal.overflow_add-at-in-loop-i
overflow_add-at-in-loop-i c = omega (arith, c.argument_count-i-end.ensures, production_in c.args.book.now c.requires.framed c.args.p c.requires.p_bound)

pub byte_at-requires : goal.byte_at-requires
byte_at-requires c = omega (arith, c.argument_count-i-end.ensures, production_in c.args.book.now c.requires.framed c.args.p c.requires.p_bound)

pub names_argument-requires : goal.names_argument-requires
names_argument-requires c = c.requires.framed.header

pub overflow_add-at-then-not-names_argument : goal.overflow_add-at-then-not-names_argument
overflow_add-at-then-not-names_argument c = omega (arith, c.argument_count-i-end.ensures, production_in c.args.book.now c.requires.framed c.args.p c.requires.p_bound)

pub overflow_add-at-then-not-names_argument-2 : goal.overflow_add-at-then-not-names_argument-2
overflow_add-at-then-not-names_argument-2 c = omega (arith, c.argument_count-i-end.ensures, production_in c.args.book.now c.requires.framed c.args.p c.requires.p_bound)

pub returns-then-not-names_argument : goal.returns-then-not-names_argument
unfolding bad_argument
returns-then-not-names_argument c =
    let b = c.args.book.now in
    let p = c.args.p in
    let i = c.loop-i.i in
    let n = named b p c.args.at i c.byte_at.result c.requires.at_value c.byte_at.ensures c.names_argument.ensures in
    rw (c.at.ensures, c.requires.at_value)
    (sym (first_found (bad_argument b p) i _ (omega (arith, c.argument_count-i-end.ensures)) c.loop-i.invariant (rw (← n, c.if-not-names_argument.true) refl)))

pub loop-i-preserved : goal.loop-i-preserved
unfolding bad_argument
loop-i-preserved c =
    let b = c.args.book.now in
    let p = c.args.p in
    let i = c.loop-i.i in
    let n = named b p c.args.at i c.byte_at.result c.requires.at_value c.byte_at.ensures c.names_argument.ensures in
    first_more (bad_argument b p) i c.loop-i.invariant (rw (← n, c.if-not-names_argument.false) refl)

pub returns : goal.returns
returns c = first_done (bad_argument c.args.book.now c.args.p) _ _ c.loop-i.invariant (omega (arith, c.argument_count-i-end.ensures))
