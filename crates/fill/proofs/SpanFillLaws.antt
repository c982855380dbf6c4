-- One span of the chart: the numbers it is settled by are the parts of its equation, so settled cells have their lists of trees and are closed.
use Prim.Native.Nat.{ℕ, suc, ◌+◌, ◌-◌, ◌*◌, max, ◌≤◌, ◌<◌}
use mathlib.Core.Path.{◌≡◌, refl, sym, ◌∙◌, ap, ap₂, subst, subst⁻¹, subst₂}
use mathlib.Core.List.{List}
use mathlib.Core.Logic.{by_cases}
use native.Mathlib.Omega.{arith}
use native.Mathlib.Decide.{ℕ_discrete, dec_lt}
use native.Mathlib.Nat.{zero-add, le_refl}
use native.Mathlib.Numerals.{add-one}
use lib.ListN.{length, get_or, set, length-set}
use lib.Seq.{set_out, get_or-set_same, get_or-set_other}
use borrow.Author.Tests.{eq-eqb, ne_eqb}
use Rattle.chart.proofs.LayoutLaws.{row_in, row_same, row_shift}
use Rattle.chart.specs.Layout.{row_limit, row_of, entry_at}
use Rattle.tables.specs.Layout.{row_count}
use Rattle.chart.specs.ByEnds.{place_at}
use Rattle.common.proofs.BelowLaws.{sum_same}
use Rattle.common.specs.Below.{sum_below, bit_of}
use Rattle.common.specs.Zeros.{AllZero}
use Rattle.empty.specs.Empty.{EmptyRight}
use Rattle.fill.specs.Filling.{view_of, over}
use Rattle.span.specs.Span.{Span, whole, used_sum, argument_of, step_of, Raised, as_before, raised}
use Rattle.theory.proofs.SoundLaws.{shown_less, shown_max, argument_shown, splits_shown}
use Rattle.theory.proofs.SplitLaws.{split_ends, split_empty}
use Rattle.theory.specs.Counts.{Shown}
use Rattle.theory.specs.Grammar.{Grammar, Spells}
use Rattle.theory.specs.Steps.{Chart, cap, char_entry, argument_sum, split_sum}
use Rattle.theory.specs.Tree.{Forest}

-- ---- cells of one span put into a chart

module _ (arity : ℕ → ℕ) (c : Chart) (i j : ℕ) (x : List ℕ) where
  pub over_here : (p d : ℕ) → over arity c i j x p d i j ≡ get_or x (row_of arity p d) 0
  unfolding over
  over_here p d = rw (eq-eqb i i refl, eq-eqb j j refl) refl

  pub over_else : (p d i' j' : ℕ) → (i' ≡ i → j' ≡ j → ⊥) → over arity c i j x p d i' j' ≡ c p d i' j'
  unfolding over
  over_else p d i' j' apart =
      elim (ℕ_discrete i' i) [
        | yes e ↦ elim (ℕ_discrete j' j) [
          | yes h ↦ absurd (apart e h)
          | no h ↦ rw (eq-eqb i' i e, ne_eqb j' j h) refl
        ]
        | no e ↦ rw (ne_eqb i' i e) refl
      ]

-- ---- the view of a chart

module _ (arity : ℕ → ℕ) (n : ℕ) (empty bytes : List ℕ) where
  pub view_empty : (p d i : ℕ) → view_of arity n empty bytes p d i i ≡ get_or empty (row_of arity p d) 0
  unfolding view_of
  view_empty p d i = rw (eq-eqb i i refl) refl

  pub view_cell : (p d i j : ℕ) → i < j → view_of arity n empty bytes p d i j ≡ entry_at bytes (place_at n (row_of arity p d) i j)
  unfolding view_of
  view_cell p d i j l = rw (ne_eqb i j (λ e. omega arith)) refl

-- ---- cells that were raised

-- raised cells stay small
pub raised_small : (s : Span) (x y : List ℕ) → Raised s x y → ((r : ℕ) → get_or x r 0 ≤ 2) → (r : ℕ) → get_or y r 0 ≤ 2
unfolding step_of
raised_small s x y as_before small r = small r
raised_small s x z (raised {y} p d up lp ld) small r =
    let k = row_of s.arity p d + 1 in
    let v = max (get_or y k 0) (step_of s y (row_of s.arity p d)) in
    let yet : (n : ℕ) → get_or y n 0 ≤ 2 = λ n. raised_small s x y up small n in
    let fits : v ≤ 2 = omega (arith, yet k) in
    elim (ℕ_discrete r k) [
      | yes e ↦ by_cases (dec_lt k (length y))
          (λ l. subst⁻¹ (λ (u : ℕ). get_or (set y k v) u 0 ≤ 2) e (omega (arith, get_or-set_same y k v 0 l)))
          (λ l. subst⁻¹ (λ (u : List ℕ). get_or u r 0 ≤ 2) (set_out y k v (omega arith)) (yet r))
      | no e ↦ omega (arith, get_or-set_other y k r v 0 e, yet r)
    ]

-- ---- empty spans

-- the argument over an empty span: no character stands there
pub empty_argument : (g : Grammar) (w empty back : List ℕ) → EmptyRight g empty back → (c : Chart) → ((p d m : ℕ) → c p d m m ≡ get_or empty (row_of g.arity p d) 0)
    → (p d j : ℕ) → p < g.count → d < g.arity p → argument_sum g w c p d j j ≡ get_or back (row_of g.arity p d) 0
unfolding argument_sum char_entry
empty_argument g w empty back bottom c diagonal p d j lp ld =
    rw (ne_eqb (j + 1) j (λ e. omega arith))
    (zero-add (sum_below g.count (λ q. bit_of (g.subs p d q) * c q (g.arity q) j j))
    ∙ sum_same (λ q. bit_of (g.subs p d q) * c q (g.arity q) j j) (λ q. bit_of (g.subs p d q) * get_or empty (row_of g.arity q (g.arity q)) 0) g.count
    (λ q l. ap (λ (n : ℕ). bit_of (g.subs p d q) * n) (diagonal q (g.arity q) j))
    ∙ sym (bottom.sums p d lp ld))

-- the step over an empty span
pub empty_step : (g : Grammar) (w empty back : List ℕ) → EmptyRight g empty back → (c : Chart) → ((p d m : ℕ) → c p d m m ≡ get_or empty (row_of g.arity p d) 0)
    → (p d m : ℕ) → p < g.count → d < g.arity p → cap (split_sum g w c p d m m) ≤ c p (d + 1) m m
unfolding split_sum
empty_step g w empty back bottom c diagonal p d m lp ld =
    let one = split_empty (λ k. c p d m k * argument_sum g w c p d k m) m in
    let product : c p d m m * argument_sum g w c p d m m ≡ get_or empty (row_of g.arity p d) 0 * get_or back (row_of g.arity p d) 0
    = ap₂ ◌*◌ (diagonal p d m) (empty_argument g w empty back bottom c diagonal p d m lp ld) in
    omega (arith, one, product, bottom.closed p d lp ld, diagonal p (d + 1) m)

-- ---- the equation of a span

module _ (g : Grammar) (w empty back : List ℕ) (bottom : EmptyRight g empty back) (c : Chart)
    (diagonal : (p d m : ℕ) → c p d m m ≡ get_or empty (row_of g.arity p d) 0)
    (i j : ℕ) (ij : i < j) (jw : j ≤ length w) (users : ℕ → ℕ → ℕ) (bare inner : ℕ → ℕ) where
  abbrev s : Span
  s = record { count = g.count; arity = g.arity; users = users; bare = bare; inner = inner; front = λ r. get_or empty r 0; back = λ r. get_or back r 0 }

  abbrev row : ℕ → ℕ → ℕ
  row p d = row_of g.arity p d

  -- what the tables of the span hold
  pub record Known : Type 0 where
    pub users_are : (p d q : ℕ) → p < g.count → d < g.arity p → q < g.count → users q (row_of g.arity p d) ≡ bit_of (g.subs p d q)
    pub bare_are : (p d : ℕ) → p < g.count → d < g.arity p → bare (row_of g.arity p d) ≡ char_entry g w p d i j
    pub inner_are : (p d : ℕ) → p < g.count → d < g.arity p
        → inner (row_of g.arity p d) ≡ cap (sum_below (j - i - 1) (λ k. c p d i (i + 1 + k) * argument_sum g w c p d (i + 1 + k) j))

  module _ (known : Known) (x : List ℕ) where
    abbrev o : Chart
    o = over g.arity c i j x

    -- the argument over the whole span
    pub argument_whole : (p d : ℕ) → p < g.count → d < g.arity p → argument_sum g w o p d i j ≡ argument_of s x (row p d)
    unfolding argument_sum argument_of used_sum whole
    argument_whole p d lp ld =
        ap₂ ◌+◌ (sym (known.bare_are p d lp ld))
        (sum_same (λ q. bit_of (g.subs p d q) * o q (g.arity q) i j) (λ q. users q (row p d) * get_or x (row q (g.arity q)) 0) g.count
        (λ q l. ap₂ ◌*◌ (sym (known.users_are p d q lp ld l)) (over_here g.arity c i j x q (g.arity q))))

    -- the argument over a part that ends where the span does
    argument_part : (p d m : ℕ) → i < m → argument_sum g w o p d m j ≡ argument_sum g w c p d m j
    unfolding argument_sum
    argument_part p d m l =
        ap (λ (n : ℕ). char_entry g w p d m j + n)
        (sum_same (λ q. bit_of (g.subs p d q) * o q (g.arity q) m j) (λ q. bit_of (g.subs p d q) * c q (g.arity q) m j) g.count
        (λ q h. ap (λ (n : ℕ). bit_of (g.subs p d q) * n) (over_else g.arity c i j x q (g.arity q) m j (λ e f. omega arith))))

    -- the step of the span is the step of the chart
    pub step_split : (p d : ℕ) → p < g.count → d < g.arity p → step_of s x (row p d) ≡ cap (split_sum g w o p d i j)
    unfolding step_of split_sum
    step_split p d lp ld =
        let f : ℕ → ℕ = λ m. o p d i m * argument_sum g w o p d m j in
        let start : f i ≡ get_or empty (row p d) 0 * argument_of s x (row p d) = ap₂ ◌*◌
        (over_else g.arity c i j x p d i i (λ e h. omega arith) ∙ diagonal p d i) (argument_whole p d lp ld) in
        let final : f j ≡ get_or x (row p d) 0 * get_or back (row p d) 0 = ap₂ ◌*◌
        (over_here g.arity c i j x p d) (argument_part p d j ij ∙ empty_argument g w empty back bottom c diagonal p d j lp ld) in
        let inside : sum_below (j - i - 1) (λ k. f (i + 1 + k)) ≡ sum_below (j - i - 1) (λ k. c p d i (i + 1 + k) * argument_sum g w c p d (i + 1 + k) j)
        = sum_same (λ k. f (i + 1 + k)) (λ k. c p d i (i + 1 + k) * argument_sum g w c p d (i + 1 + k) j) (j - i - 1)
        (λ k l. ap₂ ◌*◌ (over_else g.arity c i j x p d i (i + 1 + k) (λ e h. omega arith)) (argument_part p d (i + 1 + k) (omega arith))) in
        let parts = split_ends f i j ij in
        let inn = known.inner_are p d lp ld in
        omega (arith, start, final, inside, parts, inn)

  -- ---- settled cells have their lists of trees

  -- the cells x have theirs
  pub record Fine (x : List ℕ) : Type 0 where
    pub fine : (p d : ℕ) → p < g.count → d ≤ g.arity p → Shown (λ (f : Forest). Spells g w p f d i j) (get_or x (row_of g.arity p d) 0)

  -- so have the cells of c inside the span
  pub record Inside : Type 0 where
    pub fronts : (p d m : ℕ) → p < g.count → d ≤ g.arity p → i ≤ m → m < j → Shown (λ (f : Forest). Spells g w p f d i m) (c p d i m)
    pub backs : (p m : ℕ) → p < g.count → i < m → m ≤ j → Shown (λ (f : Forest). Spells g w p f (g.arity p) m j) (c p (g.arity p) m j)

  module _ (known : Known) (within : Inside) where
    front_shown : (x : List ℕ) → Fine x → (p d m : ℕ) → p < g.count → d < g.arity p → i ≤ m → m ≤ j
        → Shown (λ (f : Forest). Spells g w p f d i m) (over g.arity c i j x p d i m)
    front_shown x fine p d m lp ld im mj =
        elim (ℕ_discrete m j) [
          | yes e ↦ subst⁻¹ (λ (n : ℕ). Shown (λ (f : Forest). Spells g w p f d i n) (over g.arity c i j x p d i n)) e
              (subst⁻¹ (λ (v : ℕ). Shown (λ (f : Forest). Spells g w p f d i j) v) (over_here g.arity c i j x p d) (fine.fine p d lp (omega arith)))
          | no e ↦ subst⁻¹ (λ (v : ℕ). Shown (λ (f : Forest). Spells g w p f d i m) v) (over_else g.arity c i j x p d i m (λ a b. e b))
              (within.fronts p d m lp (omega arith) im (by_cases (dec_lt m j) (λ l. l) (λ l. absurd (e (omega arith)))))
        ]

    back_shown : (x : List ℕ) → Fine x → (q m : ℕ) → q < g.count → i ≤ m → m ≤ j
        → Shown (λ (f : Forest). Spells g w q f (g.arity q) m j) (over g.arity c i j x q (g.arity q) m j)
    back_shown x fine q m lq im mj =
        elim (ℕ_discrete m i) [
          | yes e ↦ subst⁻¹ (λ (n : ℕ). Shown (λ (f : Forest). Spells g w q f (g.arity q) n j) (over g.arity c i j x q (g.arity q) n j)) e
              (subst⁻¹ (λ (v : ℕ). Shown (λ (f : Forest). Spells g w q f (g.arity q) i j) v) (over_here g.arity c i j x q (g.arity q)) (fine.fine q (g.arity q) lq (le_refl (g.arity q))))
          | no e ↦ subst⁻¹ (λ (v : ℕ). Shown (λ (f : Forest). Spells g w q f (g.arity q) m j) v) (over_else g.arity c i j x q (g.arity q) m j (λ a b. e a))
              (within.backs q m lq (by_cases (dec_lt i m) (λ l. l) (λ l. absurd (e (omega arith)))) mj)
        ]

    step_shown : (x : List ℕ) → Fine x → (p d : ℕ) → p < g.count → d < g.arity p → Shown (λ (f : Forest). Spells g w p f (suc d) i j) (step_of s x (row p d))
    unfolding split_sum argument_sum
    step_shown x fine p d lp ld =
        subst⁻¹ (λ (v : ℕ). Shown (λ (f : Forest). Spells g w p f (suc d) i j) v) (step_split known x p d lp ld)
        (shown_less (λ (f : Forest). Spells g w p f (suc d) i j) (cap (split_sum g w (over g.arity c i j x) p d i j)) (split_sum g w (over g.arity c i j x) p d i j) (omega arith)
        (splits_shown g w p d i j (omega arith) (λ m. over g.arity c i j x p d i m) (λ m. argument_sum g w (over g.arity c i j x) p d m j)
        (λ m im mj. front_shown x fine p d m lp ld im mj)
        (λ m im mj. argument_shown g w p d m j jw (λ q. over g.arity c i j x q (g.arity q) m j) (λ q l. back_shown x fine q m l im mj))))

    raised_fine : (x y : List ℕ) → Raised s x y → row_count g.arity g.count ≤ length x → Fine x → Fine y × (length y ≡ length x)
    raised_fine x y as_before l fine = (fine, refl)
    raised_fine x z (raised {y} p d r lp ld) l fine =
        let (yet, same) = raised_fine x y r l fine in
        let k = row p d + 1 in
        let v = max (get_or y k 0) (step_of s y (row p d)) in
        let at : k ≡ row p (d + 1) = row_shift g.arity p d in
        let room : k < length y = omega (arith, row_in g.arity p (d + 1) g.count lp (omega arith)) in
        let new : Shown (λ (f : Forest). Spells g w p f (d + 1) i j) (get_or (set y k v) k 0) =
        subst⁻¹ (λ (u : ℕ). Shown (λ (f : Forest). Spells g w p f (d + 1) i j) u) (get_or-set_same y k v 0 room)
        (shown_max (λ (f : Forest). Spells g w p f (d + 1) i j) (get_or y k 0) (step_of s y (row p d))
        (subst⁻¹ (λ (u : ℕ). Shown (λ (f : Forest). Spells g w p f (d + 1) i j) (get_or y u 0)) at (yet.fine p (d + 1) lp (omega arith)))
        (subst⁻¹ (λ (e : ℕ). Shown (λ (f : Forest). Spells g w p f e i j) (step_of s y (row p d))) (add-one d) (step_shown y yet p d lp ld))) in (
          record {
            fine = λ p' d' lp' ld'. elim (ℕ_discrete (row p' d') k) [
              | yes e ↦ let (a, b) = row_same g.arity p' p d' (d + 1) ld' (omega arith) (e ∙ at) in
                  subst₂ (λ (a' b' : ℕ). Shown (λ (f : Forest). Spells g w a' f b' i j) (get_or (set y k v) (row a' b') 0)) (sym a) (sym b)
                  (subst (λ (u : ℕ). Shown (λ (f : Forest). Spells g w p f (d + 1) i j) (get_or (set y k v) u 0)) at new)
              | no e ↦ subst⁻¹ (λ (u : ℕ). Shown (λ (f : Forest). Spells g w p' f d' i j) u) (get_or-set_other y k (row p' d') v 0 e) (yet.fine p' d' lp' ld')
            ];
          },
          length-set y k v ∙ same,
        )

    -- settled from zeros, all cells have their lists of trees
    pub settled_fine : (x y : List ℕ) → AllZero row_limit x → row_count g.arity g.count ≤ row_limit → Raised s x y → Fine y
    settled_fine x y z few r =
        (raised_fine x y r (omega (arith, z.long))
        (record {
          fine = λ p d lp ld. record {
            one = λ h. absurd (omega (arith, z.zeros (row p d)));
            two = λ h. absurd (omega (arith, z.zeros (row p d)));
          };
        })).0
