-- Cells of the empty span that count no more than there is.
use Prim.Native.Nat.{ℕ, zero, suc, ◌+◌, ◌*◌, max, ◌≤◌, ◌<◌}
use mathlib.Core.Path.{◌≡◌, refl, ◌∙◌, ap}
use mathlib.Core.Bool.{Bool}
use mathlib.Core.List.{List}
use mathlib.Core.Logic.{◌≢◌}
use native.Mathlib.Omega.{arith}
use native.Mathlib.Decide.{ℕ_discrete}
use native.Mathlib.Nat.{le_refl}
use native.Mathlib.Numerals.{add-one}
use lib.ListN.{length, get_or, set, length-set}
use lib.Seq.{get_or-set_same, get_or-set_other}
use Rattle.chart.proofs.LayoutLaws.{row_same, row_shift}
use Rattle.chart.specs.Layout.{row_limit, row_of}
use Rattle.tables.specs.Layout.{arity_in}
use Rattle.tables.specs.Theory.{grammar_of}
use Rattle.common.proofs.BelowLaws.{sum_same}
use Rattle.common.specs.Below.{sum_below, bit_of}
use Rattle.empty.proofs.RowLaws.{row_room}
use Rattle.empty.specs.Turns.{empty_span, first_row, Begun}
use Rattle.span.specs.Span.{whole, used_sum}
use Rattle.span.specs.Tables.{user_at, span_of, Links, UsersAre}
use Rattle.theory.proofs.SoundLaws.{shown_less, shown_max, argument_shown, splits_shown}
use Rattle.theory.proofs.SplitLaws.{split_empty}
use Rattle.theory.specs.Counts.{Shown}
use Rattle.theory.specs.Grammar.{Grammar, Spells, Stands}
use Rattle.theory.specs.Tree.{Tree, Forest, none}

-- Each row with no argument has its 1, and each cell has its lists of trees, whatever the text and the place.
pub record Right (counts users x : List ℕ) : Type 0 where
  pub long : length x ≡ row_limit
  pub small : (r : ℕ) → get_or x r 0 ≤ 2
  pub begins : (p : ℕ) → p < length counts → get_or x (first_row counts p) 0 ≡ 1
  pub shown : (chars subs : ℕ → ℕ → ℕ → Bool) → UsersAre counts users subs → (w : List ℕ) (p d i : ℕ) → p < length counts → d ≤ arity_in counts p → i ≤ length w
      → Shown (λ (f : Forest). Spells (grammar_of counts chars subs) w p f d i i) (get_or x (row_of (arity_in counts) p d) 0)

-- ---- what can be shown

shown_zero : {A : Type 0} (P : A → Type 0) (v : ℕ) → v ≡ 0 → Shown P v
shown_zero P v e = record { one = λ h. absurd (omega arith); two = λ h. absurd (omega arith) }

-- with no argument, the empty list
none_shown : (g : Grammar) (w : List ℕ) (p i v : ℕ) → i ≤ length w → v ≡ 1 → Shown (λ (f : Forest). Spells g w p f 0 i i) v
unfolding Spells
none_shown g w p i v l e = record { one = λ h. (none, (refl, l)); two = λ h. absurd (omega arith) }

-- ---- at first

pub begun_right : {counts users args cells : List ℕ} → Begun counts users (length counts) args cells → Right counts users cells
begun_right {counts} {cells = cells} b =
    record {
      long = b.cells_long;
      small = λ r. omega (arith, b.small r);
      begins = b.firsts;
      shown = λ chars subs are w p d i l m k. begun_shown chars subs w p i l k d m;
    }
  where
    begun_shown : (chars subs : ℕ → ℕ → ℕ → Bool) (w : List ℕ) (p i : ℕ) → p < length counts → i ≤ length w → (d : ℕ) → d ≤ arity_in counts p
        → Shown (λ (f : Forest). Spells (grammar_of counts chars subs) w p f d i i) (get_or cells (row_of (arity_in counts) p d) 0)
    begun_shown chars subs w p i l k zero m = none_shown (grammar_of counts chars subs) w p i (get_or cells (first_row counts p) 0) k (b.firsts p l)
    begun_shown chars subs w p i l k (suc d) m =
        shown_zero _ _ (b.rest (row_of (arity_in counts) p (suc d)) (λ q o e.
        let f = (row_same (arity_in counts) p q (suc d) 0 m (omega arith) e).1 in
        omega arith))

-- ---- one argument more

-- the cell of production p after its first d arguments, raised to v
abbrev pub raised_to : (counts x : List ℕ) → ℕ → ℕ → ℕ → List ℕ
raised_to counts x p d v = set x (row_of (arity_in counts) p d + 1) (max (get_or x (row_of (arity_in counts) p d + 1) 0) v)

module _ {counts users uses x : List ℕ} (links : Links counts users uses) (right : Right counts users x) (p d : ℕ) (among : p < length counts) (within : d < arity_in counts p) where
  module _ (chars subs : ℕ → ℕ → ℕ → Bool) (are : UsersAre counts users subs) (w : List ℕ) (i : ℕ) (il : i ≤ length w) where
    -- as many trees can be shown as may stand as the next argument
    argument_there : Shown (λ (t : Tree). Stands (grammar_of counts chars subs) w p d t i i) (used_sum (empty_span counts users) x (row_of (arity_in counts) p d))
    unfolding used_sum span_of whole
    argument_there =
        let g = grammar_of counts chars subs in
        let v : ℕ → ℕ = λ q. get_or x (row_of (arity_in counts) q (arity_in counts q)) 0 in
        let same : sum_below (length counts) (λ q. get_or users (user_at q (row_of (arity_in counts) p d)) 0 * v q) ≡ sum_below (length counts) (λ q. bit_of (subs p d q) * v q)
        = sum_same _ _ (length counts) (λ q l. ap (λ (n : ℕ). n * v q) (are.takes p d q among within l)) in
        shown_less _ _ _ (omega arith)
        (argument_shown g w p d i i il v (λ q l. right.shown chars subs are w q (arity_in counts q) i l (le_refl (arity_in counts q)) il))

    -- so many lists, times the lists before
    product_there : Shown (λ (f : Forest). Spells (grammar_of counts chars subs) w p f (suc d) i i)
        (get_or x (row_of (arity_in counts) p d) 0 * used_sum (empty_span counts users) x (row_of (arity_in counts) p d))
    product_there =
        let g = grammar_of counts chars subs in
        let a = get_or x (row_of (arity_in counts) p d) 0 in
        let b = used_sum (empty_span counts users) x (row_of (arity_in counts) p d) in
        rw (← split_empty (λ _. a * b) i)
        (splits_shown g w p d i i (le_refl i) (λ _. a) (λ _. b)
        (λ m l h. let e : m ≡ i = omega arith in rw e (right.shown chars subs are w p d i among (omega arith) il))
        (λ m l h. let e : m ≡ i = omega arith in rw e argument_there))

  -- ---- a cell is raised to no more than that

  module _ (v : ℕ) where
    -- the cell after the row
    raised_here : get_or (raised_to counts x p d v) (row_of (arity_in counts) p d + 1) 0 ≡ max (get_or x (row_of (arity_in counts) p d + 1) 0) v
    raised_here = get_or-set_same x (row_of (arity_in counts) p d + 1) _ 0 (omega (arith, row_room links p (d + 1) among (omega arith), row_shift (arity_in counts) p d, right.long))

    -- no other cell changes
    raised_other : (k : ℕ) → k ≢ row_of (arity_in counts) p d + 1 → get_or (raised_to counts x p d v) k 0 ≡ get_or x k 0
    raised_other k n = get_or-set_other x (row_of (arity_in counts) p d + 1) k _ 0 n

    -- none falls
    pub raised_grows : (k : ℕ) → get_or x k 0 ≤ get_or (raised_to counts x p d v) k 0
    raised_grows k =
        elim (ℕ_discrete k (row_of (arity_in counts) p d + 1)) [
          | yes e ↦ rw e (omega (arith, raised_here))
          | no e ↦ omega (arith, raised_other k e)
        ]

    module _ (two : v ≤ 2) (few : v ≤ get_or x (row_of (arity_in counts) p d) 0 * used_sum (empty_span counts users) x (row_of (arity_in counts) p d)) where
      raised_small : (r : ℕ) → get_or (raised_to counts x p d v) r 0 ≤ 2
      raised_small r =
          elim (ℕ_discrete r (row_of (arity_in counts) p d + 1)) [
            | yes e ↦ rw e (omega (arith, raised_here, right.small (row_of (arity_in counts) p d + 1)))
            | no e ↦ omega (arith, raised_other r e, right.small r)
          ]

      -- no row with no argument is raised
      raised_begins : (q : ℕ) → q < length counts → get_or (raised_to counts x p d v) (first_row counts q) 0 ≡ 1
      raised_begins q l =
          raised_other (first_row counts q) (λ e.
          let f = (row_same (arity_in counts) q p 0 (d + 1) (omega arith) (omega arith) (e ∙ row_shift (arity_in counts) p d)).1 in
          omega arith)
          ∙ right.begins q l

      raised_shown : (chars subs : ℕ → ℕ → ℕ → Bool) → UsersAre counts users subs → (w : List ℕ) (q e i : ℕ) → q < length counts → e ≤ arity_in counts q → i ≤ length w
          → Shown (λ (f : Forest). Spells (grammar_of counts chars subs) w q f e i i) (get_or (raised_to counts x p d v) (row_of (arity_in counts) q e) 0)
      raised_shown chars subs are w q e i l m k =
          elim (ℕ_discrete (row_of (arity_in counts) q e) (row_of (arity_in counts) p d + 1)) [
            | yes o ↦ let (f, h) = row_same (arity_in counts) q p e (d + 1) m (omega arith) (o ∙ row_shift (arity_in counts) p d) in
                rw (o, raised_here, f, h, add-one d)
                (shown_max _ _ _
                (rw (row_shift (arity_in counts) p d, add-one d) (right.shown chars subs are w p (suc d) i among (omega arith) k))
                (shown_less _ _ _ few (product_there chars subs are w i k)))
            | no o ↦ rw (raised_other (row_of (arity_in counts) q e) o) (right.shown chars subs are w q e i l m k)
          ]

      pub raised_right : Right counts users (raised_to counts x p d v)
      raised_right =
          record {
            long = length-set x (row_of (arity_in counts) p d + 1) _ ∙ right.long;
            small = raised_small;
            begins = raised_begins;
            shown = raised_shown;
          }
