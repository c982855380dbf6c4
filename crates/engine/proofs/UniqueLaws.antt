-- The promise determines the outcome: for one input, two outcomes that meet it have the same answer and the same bytes.
use Prim.Native.Nat.{ℕ, ◌*◌, ◌≤◌, ◌<◌}
use mathlib.Core.Path.{◌≡◌, refl, sym, ◌∙◌, ap, ap₂}
use mathlib.Core.List.{List}
use native.Mathlib.Omega.{arith}
use lib.ListN.{length, take}
use Rattle.chart.proofs.CountedLaws.{counted_unique}
use Rattle.common.specs.Lists.{overwritten}
use Rattle.engine.specs.Outcome.{Parsing, Answered, ChartAfter, Parsed}
use Rattle.engine.specs.declared.Answer.{Answer}
use Rattle.numbers.specs.Written.{bytes_of}
use Rattle.theory.specs.Counts.{Only, Two}
use Rattle.theory.specs.Tree.{Tree, listing}
use Rattle.engine.specs.declared.Answer.TheVariants.{None, One, Several, Refused}
use Rattle.refusal.specs.Verdict.{refusal}
use Rattle.refusal.specs.declared.Fault.{Fault}
use Rattle.refusal.specs.declared.Refusal.{Refusal}

-- ---- the chart

-- two charts that meet the promise are the same
pub chart_unique : (s : Parsing) (c₀ c c' : List ℕ) → ChartAfter s c₀ c → ChartAfter s c₀ c' → c ≡ c'
chart_unique s c₀ c c' a b =
    let same = counted_unique s.entry s.arity s.count s.size a.entries b.entries a.long b.long a.counted b.counted in
    a.whole ∙ ap (λ (l : List ℕ). overwritten l c₀) same ∙ sym b.whole

-- ---- the answer

-- two trees each of which is the only one are the same
same_tree : {P : Tree → Type 0} {t u : Tree} → Only P t → Only P u → t ≡ u
same_tree {t = t} a b = b.alone t a.holds

-- where one tree is the only one there are no two
not_two : {P : Tree → Type 0} {t : Tree} → Only P t → Two P → ⊥
not_two a (x, y, p, q, apart) = apart (a.alone x p ∙ sym (a.alone y q))

-- equal answers that refuse have one refusal
pub same_refused : {x y : Refusal} → Refused x ≡ Refused y → x ≡ y
same_refused e = cc

module _ (P : Tree → Type 0) (l₀ : List ℕ) where
  -- the only tree has one listing, so it doesn't both fit and not fit
  fits_not : (t u : Tree) → Only P t → Only P u → 2 * length (listing t) ≤ length l₀ → length l₀ < 2 * length (listing u) → ⊥
  fits_not t u a b low high = omega (arith, ap (λ (x : Tree). length (listing x)) (same_tree a b))

  -- No two kinds of answer hold of one text, and of each kind only one.
  pub answer_unique : (r r' : Answer Refusal) (l l' : List ℕ) → Answered P l₀ r l → Answered P l₀ r' l' → (r ≡ r') × (l ≡ l')
  unfolding Answered
  answer_unique None None l l' a b = (refl, a.1 ∙ sym b.1)
  answer_unique None (One n) l l' a b = absurd (a.0 b.0 b.1.holds)
  answer_unique None Several l l' a b = absurd (a.0 b.0.0 b.0.2)
  answer_unique None (Refused r) l l' a b = absurd (a.0 b.0 b.1.holds)
  answer_unique (One n) None l l' a b = absurd (b.0 a.0 a.1.holds)
  answer_unique (One n) (One m) l l' (t, a, length_t, _, e) (u, b, length_u, _, h) =
      let q = same_tree a b in
      (ap (λ (n : ℕ). One n) (length_t ∙ ap (λ (x : Tree). length (listing x)) q ∙ sym length_u), e ∙ ap (λ (x : Tree). overwritten (bytes_of (listing x)) l₀) q ∙ sym h)
  answer_unique (One n) Several l l' a b = absurd (not_two a.1 b.0)
  answer_unique (One n) (Refused r) l l' a b = absurd (fits_not a.0 b.0 a.1 b.1 (omega (arith, a.2, a.3)) b.4)
  answer_unique Several None l l' a b = absurd (b.0 a.0.0 a.0.2)
  answer_unique Several (One n) l l' a b = absurd (not_two b.1 a.0)
  answer_unique Several Several l l' a b = (refl, a.1 ∙ sym b.1)
  answer_unique Several (Refused r) l l' a b = absurd (not_two b.1 a.0)
  answer_unique (Refused r) None l l' a b = absurd (b.0 a.0 a.1.holds)
  answer_unique (Refused r) (One n) l l' a b = absurd (fits_not b.0 a.0 b.1 a.1 (omega (arith, b.2, b.3)) a.4)
  answer_unique (Refused r) Several l l' a b = absurd (not_two a.1 b.0)
  answer_unique (Refused r) (Refused r') l l' (t, a, number_t, place_t, _, e) (u, b, number_u, place_u, _, h) =
      let places = place_t ∙ sym place_u in
      (ap₂ (λ (f : Fault) (n : ℕ). Refused (refusal f n)) (number_t ∙ sym number_u) places, e ∙ ap₂ (λ (x : Tree) (n : ℕ). overwritten (bytes_of (take n (listing x))) l₀) (same_tree a b) places ∙ sym h)

-- ---- the outcome

-- for one input, two outcomes that meet the promise have the same answer and the same bytes
pub parsed_unique : (s : Parsing) (c₀ l₀ : List ℕ) (r r' : Answer Refusal) (c c' l l' : List ℕ) → Parsed s c₀ l₀ r c l → Parsed s c₀ l₀ r' c' l' → (r ≡ r') × (c ≡ c') × (l ≡ l')
parsed_unique s c₀ l₀ r r' c c' l l' a b =
    let (same_answer, same_listing) = answer_unique s.parse l₀ r r' l l' a.answer b.answer in
    (same_answer, chart_unique s c₀ c c' a.chart b.chart, same_listing)
