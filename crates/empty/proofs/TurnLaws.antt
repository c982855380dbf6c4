-- The turns of settling the empty span: the cells are raised with the arguments held fixed, then the arguments are taken up.
use Prim.Native.Nat.{ℕ, ◌+◌, ◌*◌, ◌≤◌, ◌<◌}
use mathlib.Core.Path.{◌≡◌, sym, ◌∙◌, ap}
use mathlib.Core.Bool.{Bool, false, true}
use mathlib.Core.List.{List}
use mathlib.Core.Logic.{by_cases}
use native.Mathlib.Omega.{arith}
use native.Mathlib.Decide.{dec_lt}
use native.Mathlib.Nat.{zero-add}
use lib.ListN.{length, get_or, get_or-eq_default}
use lib.Seq.{ext_get_or}
use Rattle.chart.proofs.LayoutLaws.{row_shift}
use Rattle.chart.specs.Layout.{row_limit, row_of}
use Rattle.tables.specs.Layout.{arity_in, row_count}
use Rattle.tables.specs.Theory.{grammar_of}
use Rattle.common.proofs.BelowLaws.{sum_bound, sum_same, bit_small}
use Rattle.empty.proofs.SumLaws.{sum_less}
use Rattle.common.specs.Below.{sum_below, bit_of}
use Rattle.common.specs.Zeros.{AllZero}
use Rattle.empty.proofs.GrowLaws.{spare_grows, spare_tight, held_span, exact_held, exact_empty, step_held, grown_right}
use Rattle.empty.proofs.RightLaws.{Right, begun_right}
use Rattle.empty.proofs.RowLaws.{row_room}
use Rattle.empty.specs.Empty.{EmptyRight}
use Rattle.empty.specs.Turns.{empty_span, Begun, Followed}
use Rattle.span.proofs.SpanLaws.{argument_same}
use Rattle.span.specs.Span.{whole, used_sum, argument_of, spare}
use Rattle.span.specs.Tables.{user_at, span_of, Links, UsersAre, Loads, Exact, Founded, Settled}
use Rattle.theory.specs.Steps.{cap}

-- Every production is closed with these arguments.
abbrev pub ClosedWith : (counts args cells : List ℕ) → Type 0
ClosedWith counts args cells = (p d : ℕ) → p < length counts → d < arity_in counts p
    → cap (get_or cells (row_of (arity_in counts) p d) 0 * get_or args (row_of (arity_in counts) p d) 0) ≤ get_or cells (row_of (arity_in counts) p d + 1) 0

-- Between two turns the arguments have been taken up. If they had not changed, every production is closed.
pub record Turning (counts users args cells back : List ℕ) (changed : Bool) : Type 0 where
  pub right : Right counts users cells
  pub args_long : length args ≡ row_limit
  pub agree : Exact (empty_span counts users) cells args
  pub taken : back ≡ args
  pub closed : changed ≡ false → ClosedWith counts args cells

-- ---- beyond the rows

module _ {counts users uses : List ℕ} (links : Links counts users uses) {rows : ℕ} (all : rows ≡ row_count (arity_in counts) (length counts)) where
  -- there are no arguments
  pub none_beyond : {cells args : List ℕ} → length args ≡ row_limit → Exact (empty_span counts users) cells args → (r : ℕ) → rows ≤ r → get_or args r 0 ≡ 0
  unfolding argument_of used_sum span_of
  none_beyond {cells} {args} long e r l =
      let used : ℕ → ℕ = λ q. get_or users (user_at q r) 0 * get_or cells (whole (arity_in counts) q) 0 in
      by_cases (dec_lt r row_limit)
      (λ m. omega (
        arith,
        e.exact r m,
        sum_less used (λ q. 0) (length counts) (λ q k. omega (arith, ap (λ (n : ℕ). n * get_or cells (whole (arity_in counts) q) 0) (links.outside q r k (omega arith) m))),
        sum_bound 0 (λ q. 0) (λ q. omega arith) (length counts),
      ))
      (λ m. get_or-eq_default args 0 {n = r} (omega arith))

-- ---- the first arguments

module _ {counts users zeros args cells back : List ℕ} {changed : Bool} (z : AllZero row_limit zeros)
    (b : Begun counts users (length counts) args cells) (f : Followed zeros args back changed) where
  -- if they are none, each product is 0
  first_closed : changed ≡ false → ClosedWith counts args cells
  first_closed e p d l m =
      let r = row_of (arity_in counts) p d in
      let bare : get_or args r 0 ≡ 0 = sym (ap (λ (l : List ℕ). get_or l r 0) (f.stayed e)) ∙ z.zeros r in
      rw bare (omega arith)

  pub turning_first : Turning counts users args cells back changed
  turning_first = record { right = begun_right b; args_long = b.args_long; agree = b.agree; taken = f.taken; closed = first_closed }

-- ---- one more turn

module _ {counts users args cells back : List ℕ} {changed : Bool} (t : Turning counts users args cells back changed) where
  pub held_long : length back ≡ row_limit
  held_long = ap length t.taken ∙ t.args_long

  -- what settling asks for
  pub turning_loads : {zeros : List ℕ} → AllZero row_limit zeros → Loads zeros zeros back args cells
  turning_loads z = record { inner_long = z.long; front_long = z.long; back_long = held_long; args_long = t.args_long; cells_long = t.right.long }

  pub turning_founded : (zeros : List ℕ) → Founded counts users zeros zeros back args cells
  turning_founded zeros = record { bare = λ r. 0; little = λ r. omega arith; small = t.right.small; agree = exact_held counts users zeros back t.agree }

  -- the arguments held are no more than the cells say
  held_less : (r : ℕ) → get_or back r 0 ≤ used_sum (empty_span counts users) cells r
  unfolding argument_of span_of
  held_less r =
      by_cases (dec_lt r row_limit)
      (λ l. omega (arith, ap (λ (x : List ℕ). get_or x r 0) t.taken, t.agree.exact r l))
      (λ l. omega (arith, get_or-eq_default back 0 {n = r} (omega (arith, held_long))))

  -- the cells are settled, and the arguments taken up
  module _ {uses zeros args' cells' back' : List ℕ} {changed' : Bool} (links : Links counts users uses) (z : AllZero row_limit zeros)
      (s : Settled (held_span counts users zeros back) cells args' cells') (long : length args' ≡ length args) (f : Followed back args' back' changed') where
    settled_right : Right counts users cells' × ((k : ℕ) → get_or cells k 0 ≤ get_or cells' k 0)
    settled_right = grown_right counts users zeros back z links t.right held_less s.came

    -- the arguments have not changed: the cells are closed with those that were held
    settled_closed : changed' ≡ false → ClosedWith counts args' cells'
    unfolding span_of
    settled_closed e p d l m =
        rw (← f.stayed e, ← step_held counts users zeros back z cells' (row_of (arity_in counts) p d)) ((s.closed_all p l).closed d m)

    pub turning_next : Turning counts users args' cells' back' changed'
    turning_next =
        record {
          right = settled_right.0;
          args_long = long ∙ t.args_long;
          agree = exact_empty counts users zeros back s.agree;
          taken = f.taken;
          closed = settled_closed;
        }

    -- if no count rose, neither did an argument
    settled_still : spare (empty_span counts users) cells ≤ spare (empty_span counts users) cells' → changed' ≡ false
    settled_still e =
        let alike = spare_tight (empty_span counts users) cells cells' settled_right.1 settled_right.0.small e in
        let same : args ≡ args'
        = ext_get_or 0 args args' (sym long) (λ r l.
        let m : r < row_limit = omega (arith, t.args_long) in
        t.agree.exact r m ∙ sym (argument_same (empty_span counts users) cells cells' alike r) ∙ sym ((exact_empty counts users zeros back s.agree).exact r m)) in
        f.still (t.taken ∙ same)

    -- each turn but the last leaves less to spare
    pub turning_less : changed ≡ true → 2 * spare (empty_span counts users) cells' + bit_of changed' < 2 * spare (empty_span counts users) cells + bit_of changed
    turning_less e =
        by_cases (dec_lt (spare (empty_span counts users) cells') (spare (empty_span counts users) cells))
        (λ l. omega (arith, ap bit_of e, bit_small changed'))
        (λ l. omega (arith, ap bit_of e, ap bit_of (settled_still (omega arith)), spare_grows (empty_span counts users) cells cells' settled_right.1))

-- ---- the last

module _ {counts users uses args cells back : List ℕ} {changed : Bool} (links : Links counts users uses) (t : Turning counts users args cells back changed) (rest : changed ≡ false)
    (chars subs : ℕ → ℕ → ℕ → Bool) (are : UsersAre counts users subs) where
  last_sums : (p d : ℕ) → p < length counts → d < arity_in counts p
      → get_or args (row_of (arity_in counts) p d) 0 ≡ sum_below (length counts) (λ q. bit_of (subs p d q) * get_or cells (row_of (arity_in counts) q (arity_in counts q)) 0)
  unfolding argument_of used_sum span_of whole
  last_sums p d l m =
      let same = sum_same _ _ (length counts) (λ q k. ap (λ (n : ℕ). n * get_or cells (row_of (arity_in counts) q (arity_in counts q)) 0) (are.takes p d q l m k)) in
      t.agree.exact (row_of (arity_in counts) p d) (row_room links p d l (omega arith)) ∙ zero-add _ ∙ same

  pub turning_last : EmptyRight (grammar_of counts chars subs) cells args
  turning_last =
      record {
        small = t.right.small;
        begins = t.right.begins;
        shown = t.right.shown chars subs are;
        closed = λ p d l m. rw (← row_shift (arity_in counts) p d) (t.closed rest p d l m);
        sums = last_sums;
      }
