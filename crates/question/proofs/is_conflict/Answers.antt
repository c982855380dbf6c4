-- `is_conflict` meets its contract: the three lines of the definition, in the same order.
use Prim.Native.Nat.{ℕ, ◌<◌}
use mathlib.Core.Path.{◌≡◌, refl, sym, ◌∙◌}
use mathlib.Core.Bool.{false}
use mathlib.Core.List.{List}
use native.Mathlib.Omega.{arith}
use borrow.Author.Tests.{eq-eqb, ne_eqb}
use Rattle.grammar.specs.Formed.{WellFormed}
use Rattle.layout.proofs.FramedLaws.{bodies_in}
use Rattle.layout.specs.Layout.{productions, result_sort, argument}
use Rattle.priority.proofs.ConflictLaws.{fits_result, not_fitting, fitting, barred_higher, barred_single, barred_first, barred_last, barred_middle}
use Rattle.priority.specs.Conflict.{right_or_nonassoc, left_or_nonassoc, barred, conflicts}
use Rattle.priority.specs.Priorities.{left, right, nonassoc, kind_number, declarations_of}
use Rattle.question.proofs.is_conflict.Goals as goal

-- an argument byte and a result, as code reads them
module _ (b : List ℕ) (w : WellFormed b) (p i q a r : ℕ) (l : q < productions b) (ea : a ≡ argument b p i) (er : r ≡ result_sort b q) where
  unfit : (a ≡ r → ⊥) → false ≡ conflicts b p i q
  unfit h = sym (not_fitting b p i q (fits_result b w p i q l ∙ ne_eqb (argument b p i) (result_sort b q) (λ e. h (ea ∙ e ∙ sym er))))

  fit : a ≡ r → conflicts b p i q ≡ barred b (declarations_of b) p i q
  fit h = fitting b p i q (fits_result b w p i q l ∙ eq-eqb (argument b p i) (result_sort b q) (sym ea ∙ h ∙ er))

pub returns-then-argument-result : goal.returns-then-argument-result
returns-then-argument-result c =
    let s = c in
    let a = s.args in
    let b = a.book.now in
    let f = unfit b s.requires.well_formed a.p a.i a.q c.argument.result c.result.result s.requires.there.2 c.argument.ensures c.result.ensures c.if-argument-result.true in
    f

pub returns-then-above : goal.returns-then-above
returns-then-above c =
    let s = c in
    let a = s.args in
    let b = a.book.now in
    let f = fit b s.requires.well_formed a.p a.i a.q c.argument.result c.result.result s.requires.there.2 c.argument.ensures c.result.ensures c.if-argument-result.false in
    sym (f ∙ barred_higher b a.p a.i a.q (sym s.requires.above_value ∙ c.if-above.true))

pub argument_count-count-requires : goal.argument_count-count-requires
argument_count-count-requires c = let s = c in record { book_in_bounds = bodies_in s.args.book.now s.requires.well_formed.framed; p_bound = s.requires.there.0 }

pub returns-then-count-lt2 : goal.returns-then-count-lt2
returns-then-count-lt2 c =
    let s = c in
    let a = s.args in
    let b = a.book.now in
    let f = fit b s.requires.well_formed a.p a.i a.q c.argument.result c.result.result s.requires.there.2 c.argument.ensures c.result.ensures c.if-argument-result.false in
    let h = sym s.requires.above_value ∙ c.if-above.false in
    sym (f ∙ barred_single b a.p a.i a.q h (omega (arith, c.argument_count-count.ensures)))

pub returns-then-i-eq0 : goal.returns-then-i-eq0
unfolding kind_number right_or_nonassoc
returns-then-i-eq0 c =
    let s = c in
    let a = s.args in
    let b = a.book.now in
    let f = fit b s.requires.well_formed a.p a.i a.q c.argument.result c.result.result s.requires.there.2 c.argument.ensures c.result.ensures c.if-argument-result.false in
    let h = sym s.requires.above_value ∙ c.if-above.false in
    c.entry_at.ensures ∙ c.declared_pairs.ensures right nonassoc refl refl a.p a.q
    ∙ sym (f ∙ barred_first b a.p a.i a.q h (omega (arith, c.argument_count-count.ensures)) c.if-i-eq0.true)

pub returns-then-i-count : goal.returns-then-i-count
unfolding kind_number left_or_nonassoc
returns-then-i-count c =
    let s = c in
    let a = s.args in
    let b = a.book.now in
    let f = fit b s.requires.well_formed a.p a.i a.q c.argument.result c.result.result s.requires.there.2 c.argument.ensures c.result.ensures c.if-argument-result.false in
    let h = sym s.requires.above_value ∙ c.if-above.false in
    c.entry_at-then-i-count.ensures ∙ c.declared_pairs-then-i-count.ensures left nonassoc refl refl a.p a.q
    ∙ sym (f ∙ barred_last b a.p a.i a.q h (omega (arith, c.argument_count-count.ensures)) c.if-i-eq0.false (c.if-i-count.true ∙ c.argument_count-count.ensures))

pub returns : goal.returns
returns c =
    let s = c in
    let a = s.args in
    let b = a.book.now in
    let f = fit b s.requires.well_formed a.p a.i a.q c.argument.result c.result.result s.requires.there.2 c.argument.ensures c.result.ensures c.if-argument-result.false in
    let h = sym s.requires.above_value ∙ c.if-above.false in
    sym (f ∙ barred_middle b a.p a.i a.q h c.if-i-eq0.false (λ e. c.if-i-count.false (e ∙ sym c.argument_count-count.ensures)))
