-- The first row of each production gets its 1, one after the other.
use Prim.Native.Nat.{ℕ, ◌+◌, ◌-◌, ◌*◌, ◌≤◌, ◌<◌}
use mathlib.Core.Path.{◌≡◌, refl, sym, ◌∙◌, ap}
use mathlib.Core.Bool.{Bool, false, true}
use mathlib.Core.List.{List}
use mathlib.Core.Logic.{◌≢◌}
use native.Mathlib.Omega.{arith}
use native.Mathlib.Decide.{ℕ_discrete}
use native.Mathlib.Nat.{le_refl, mul-le-mul}
use lib.Dec.{eqb}
use lib.ListN.{length, get_or, take, drop, set, length-set}
use lib.Seq.{get_or-set_same, get_or-set_other}
use borrow.Author.Tests.{eqb-true, eqb-false}
use mir.Val.{bool_byte}
use Rattle.chart.proofs.LayoutLaws.{row_same}
use Rattle.chart.specs.Layout.{row_limit}
use Rattle.tables.specs.Layout.{arity_in}
use Rattle.common.proofs.BelowLaws.{sum_bound}
use Rattle.common.specs.Zeros.{AllZero}
use Rattle.empty.proofs.RowLaws.{row_room}
use Rattle.empty.specs.Turns.{empty_span, first_row, Begun}
use Rattle.span.proofs.SpanLaws.{argument_same, argument_rise}
use Rattle.span.proofs.TableLaws.{part_at}
use Rattle.span.specs.Span.{whole, used_sum, argument_of}
use Rattle.span.specs.Tables.{user_at, span_of, Links}
use Rattle.common.specs.Bytes.{byte_values}

-- ---- none yet

no_sum : (counts users cells : List ℕ) → AllZero row_limit cells → (r : ℕ) → argument_of (empty_span counts users) cells r ≡ 0
unfolding argument_of used_sum span_of
no_sum counts users cells z r =
    let f : ℕ → ℕ = λ q. get_or users (user_at q r) 0 * get_or cells (whole (arity_in counts) q) 0 in
    omega (arith, sum_bound 0 f (λ q. omega (arith, ap (λ (n : ℕ). get_or users (user_at q r) 0 * n) (z.zeros (whole (arity_in counts) q)))) (length counts))

pub begun_none : (counts users args cells : List ℕ) → AllZero row_limit args → AllZero row_limit cells → Begun counts users 0 args cells
begun_none counts users args cells a z =
    record {
      args_long = a.long;
      cells_long = z.long;
      small = λ r. omega (arith, z.zeros r);
      firsts = λ p l. absurd (omega arith);
      rest = λ r h. z.zeros r;
      agree = record { exact = λ r l. a.zeros r ∙ sym (no_sum counts users cells z r) };
    }

-- ---- one more

-- the cells with one more 1
abbrev with_first : (counts cells : List ℕ) → ℕ → List ℕ
with_first counts cells p = set cells (first_row counts p) 1

module _ {counts users uses : List ℕ} (links : Links counts users uses) {p : ℕ} {args cells : List ℕ} (among : p < length counts) (b : Begun counts users p args cells) where
  first_room : first_row counts p < length cells
  first_room = omega (arith, row_room links p 0 among (omega arith), b.cells_long)

  first_here : get_or (with_first counts cells p) (first_row counts p) 0 ≡ 1
  first_here = get_or-set_same cells (first_row counts p) 1 0 first_room

  first_other : (r : ℕ) → r ≢ first_row counts p → get_or (with_first counts cells p) r 0 ≡ get_or cells r 0
  first_other r n = get_or-set_other cells (first_row counts p) r 1 0 n

  -- the row had a 0
  first_before : get_or cells (first_row counts p) 0 ≡ 0
  first_before = b.rest (first_row counts p) (λ q l e. let f = (row_same (arity_in counts) p q 0 0 (omega arith) (omega arith) e).0 in omega arith)

  -- it is the row with all arguments of no other production
  whole_apart : (q : ℕ) → q ≢ p → whole (arity_in counts) q ≢ first_row counts p
  unfolding whole
  whole_apart q n e = n (row_same (arity_in counts) q p (arity_in counts q) 0 (le_refl (arity_in counts q)) (omega arith) e).0

  -- the arguments of the rows that take p rise if it has no arguments
  next_sum : (t : Bool) → eqb (arity_in counts p) 0 ≡ t → (r : ℕ)
      → argument_of (empty_span counts users) (with_first counts cells p) r ≡ argument_of (empty_span counts users) cells r + bool_byte t * get_or users (user_at p r) 0
  unfolding span_of whole
  next_sum true e r =
      argument_rise (empty_span counts users) cells (with_first counts cells p) p 1
      (record {
        among = among;
        by = rw (eqb-true (arity_in counts p) 0 e, first_here, first_before) refl;
        others = λ q l n. first_other (whole (arity_in counts) q) (whole_apart q n);
      }) r
  next_sum false e r =
      argument_same (empty_span counts users) cells (with_first counts cells p)
      (λ q l. first_other (whole (arity_in counts) q) (λ f.
      let (g, h) = row_same (arity_in counts) q p (arity_in counts q) 0 (le_refl (arity_in counts q)) (omega arith) f in
      eqb-false (arity_in counts p) 0 e (rw g at h))) r
      ∙ omega arith

  -- no sum overflows
  begun_few : (r : ℕ) → r < row_limit → get_or args r 0 ≤ length counts
  unfolding argument_of used_sum span_of
  begun_few r l =
      omega (arith, b.agree.exact r l, sum_bound 1 (λ q. get_or users (user_at q r) 0 * get_or cells (whole (arity_in counts) q) 0) (λ q. mul-le-mul (links.bits (user_at q r)) (b.small (whole (arity_in counts) q))) (length counts))

  pub begun_fits : (r : ℕ) → r < row_limit
      → get_or args r 0 + bool_byte (eqb (arity_in counts p) 0) * get_or (take ((p + 1) * row_limit - p * row_limit) (drop (p * row_limit) users)) r 0 < byte_values
  begun_fits r l =
      rw (part_at users p row_limit r l)
      (omega (arith, begun_few r l, links.few_productions, mul-le-mul (byte_small (eqb (arity_in counts p) 0)) (links.bits (p * row_limit + r))))
    where
      byte_small : (t : Bool) → bool_byte t ≤ 1
      byte_small true = omega arith
      byte_small false = omega arith

  pub begun_more : (base : ℕ) (args' : List ℕ) → base ≡ first_row counts p → length args' ≡ length args
      → ((r : ℕ) → r < row_limit → get_or args' r 0 ≡ get_or args r 0 + bool_byte (eqb (arity_in counts p) 0) * get_or (take ((p + 1) * row_limit - p * row_limit) (drop (p * row_limit) users)) r 0)
      → Begun counts users (p + 1) args' (set cells base 1)
  unfolding user_at
  begun_more base args' at long spread =
      rw at
      record {
        args_long = long ∙ b.args_long;
        cells_long = length-set cells (first_row counts p) 1 ∙ b.cells_long;
        small = λ r. elim (ℕ_discrete r (first_row counts p)) [
          | yes e ↦ rw e (omega (arith, first_here))
          | no e ↦ omega (arith, first_other r e, b.small r)
        ];
        firsts = λ q l. elim (ℕ_discrete q p) [
          | yes e ↦ rw e first_here
          | no e ↦ first_other (first_row counts q) (λ f. e (row_same (arity_in counts) q p 0 0 (omega arith) (omega arith) f).0) ∙ b.firsts q (omega arith)
        ];
        rest = λ r h. first_other r (h p (omega arith)) ∙ b.rest r (λ q l. h q (omega arith));
        agree = record {
          exact = λ r l. omega (arith, spread r l, b.agree.exact r l, next_sum (eqb (arity_in counts p) 0) refl r, ap (λ (n : ℕ). bool_byte (eqb (arity_in counts p) 0) * n) (part_at users p row_limit r l));
        };
      }
