-- The stages of a check, each by itself: what it refuses is the first of its conditions, and if it passes none of them holds. Stages 0 to 4: the frame.
use Prim.Native.Nat.{ℕ, zero, suc, min, ◌≤◌, ◌<◌}
use mathlib.Core.Path.{◌≡◌, refl}
use mathlib.Core.Bool.{false, not}
use mathlib.Core.List.{List}
use mathlib.Core.Logic.{◌⊎◌, inl, inr, ⊎_elim, by_cases}
use native.Mathlib.Omega.{arith}
use native.Mathlib.Decide.{dec_lt}
use lib.Dec.{leb, ltb, eqb}
use lib.ListN.{length}
use borrow.Author.Tests.{ltb-true, ltb-false, leb-true, leb-false, eqb-true, eqb-false, not-true, not-false}
use Rattle.common.proofs.BoolLaws.{not_both}
use Rattle.grammar.proofs.FormedLaws.{each_accepted}
use Rattle.refusal.proofs.VerdictLaws.{refuse_accepted, and_assoc, first_all, refuse_case, and_refused, and_first, and_second, FirstIn, here, there, order_first, first_of}
use Rattle.grammar.specs.Check.{outside, short_header, header_lines, header_bytes, bad_header, short_contents, bad_argument_count, bad_range_count, bad_argument_counts, bad_range_counts, bad_length, bad_productions, bad_declarations, repeated_productions}
use Rattle.refusal.specs.Verdict.{and_then, first_refusal, Verdict, accepted, by_number}
use Rattle.std.specs.Prelude.{Err}
use Rattle.refusal.specs.declared.Refusal.{Refusal}
use Rattle.layout.specs.Layout.{byte_at, sorts, productions, classes, start_sort, argument_count_at, range_count_at, argument_count, range_count, bodies_at, production_at, needed_length}
use Rattle.layout.specs.Limits.{sort_limit, production_limit, class_limit, argument_limit, range_limit, header_length}
use Rattle.priority.specs.Check.{circles, checked}
use Rattle.priority.specs.Refusals.{BadHeaderByte, bad_sorts, bad_production_count, bad_class_count, bad_start, bad_last, LargeCount, many_arguments, many_ranges, NamesNothing, BadDeclarationByte, EqualsEarlier, OnCircle, Holds, refusal1, refusal1', refusal2, refusal3, refusal4, refusal5, refusal7, refusal8, refusal9}
use Rattle.refusal.specs.declared.Fault.TheVariants.{Short, Header, Count, Length}
use Rattle.refusal.specs.Fault.{number_of}

-- two numbers in order, or the same
pub in_order : (p q : ℕ) → (p < q) ⊎ ((p ≡ q) ⊎ (q < p))
in_order p q = by_cases (dec_lt p q) (λ l. inl l) (λ l. inr (by_cases (dec_lt q p) (λ h. inr h) (λ h. inl (omega arith))))

module _ (b : List ℕ) where
  -- ---- the stages of the check

  abbrev pub stage : ℕ → Verdict
  stage zero = short_header b
  stage (suc zero) = bad_header b
  stage (suc (suc zero)) = short_contents b
  stage (suc (suc (suc zero))) = and_then (bad_argument_counts b) (bad_range_counts b)
  stage (suc (suc (suc (suc zero)))) = bad_length b
  stage (suc (suc (suc (suc (suc zero))))) = and_then (bad_productions b) (bad_declarations b)
  stage (suc (suc (suc (suc (suc (suc zero)))))) = repeated_productions b
  stage (suc (suc (suc (suc (suc (suc (suc zero))))))) = circles b
  stage (suc (suc (suc (suc (suc (suc (suc (suc s)))))))) = accepted

  pub checked_stages : checked b ≡ first_refusal 8 stage
  unfolding checked first_refusal
  checked_stages = simp and_assoc

  -- What a line of the table says, taken apart by its stage.
  abbrev pub Line : ℕ → ℕ → ℕ → Type 0
  Line zero n k = (n ≡ 1) × (k ≡ length b) × (length b < header_length)
  Line (suc zero) n k = (n ≡ 2) × BadHeaderByte b k
  Line (suc (suc zero)) n k = (n ≡ 1) × (k ≡ length b) × (length b < bodies_at b)
  Line (suc (suc (suc zero))) n k = (n ≡ 3) × LargeCount b k
  Line (suc (suc (suc (suc zero)))) n k = (n ≡ 4) × (k ≡ min (length b) (needed_length b)) × (length b ≡ needed_length b → ⊥)
  Line (suc (suc (suc (suc (suc zero))))) n k = ((n ≡ 5) × NamesNothing b k) ⊎ ((n ≡ 7) × BadDeclarationByte b k)
  Line (suc (suc (suc (suc (suc (suc zero)))))) n k = (n ≡ 8) × (p : ℕ) × (k ≡ production_at b p) × EqualsEarlier b p
  Line (suc (suc (suc (suc (suc (suc (suc zero))))))) n k = (n ≡ 9) × OnCircle b k
  Line (suc (suc (suc (suc (suc (suc (suc (suc s)))))))) n k = ⊥

  pub line : {s n k : ℕ} → Holds b s n k → Line s n k
  line (refusal1 h) = (refl, refl, h)
  line (refusal2 h) = (refl, h)
  line (refusal1' h) = (refl, refl, h)
  line (refusal3 h) = (refl, h)
  line (refusal4 h) = (refl, refl, h)
  line (refusal5 h) = inl (refl, h)
  line (refusal7 h) = inr (refl, h)
  line (refusal8 {p} h) = (refl, p, refl, h)
  line (refusal9 h) = (refl, h)

  -- a refusal of a stage: its condition holds, and none of the stage at a lower place
  abbrev pub Given : ℕ → ℕ → ℕ → Type 0
  Given s n k = Holds b s n k × ((m j : ℕ) → j < k → Line s m j → ⊥)

  -- ---- 1

  pub given1 : {r : Refusal} → stage 0 ≡ Err r → Given 0 (number_of r.fault) r.place
  unfolding short_header
  given1 e =
      refuse_case (by_number (Given 0)) (ltb (length b) header_length) Short (length b) e
      (λ t. (refusal1 (ltb-true (length b) header_length t), λ m j l h. omega (arith, h.1)))

  pub none1 : stage 0 ≡ accepted → {n k : ℕ} → Line 0 n k → ⊥
  unfolding short_header
  none1 e h = omega (arith, ltb-false (length b) header_length (refuse_accepted _ Short (length b) e), h.2)

  pub given1' : {r : Refusal} → stage 2 ≡ Err r → Given 2 (number_of r.fault) r.place
  unfolding short_contents
  given1' e =
      refuse_case (by_number (Given 2)) (ltb (length b) (bodies_at b)) Short (length b) e
      (λ t. (refusal1' (ltb-true (length b) (bodies_at b) t), λ m j l h. omega (arith, h.1)))

  pub none1' : stage 2 ≡ accepted → {n k : ℕ} → Line 2 n k → ⊥
  unfolding short_contents
  none1' e h = omega (arith, ltb-false (length b) (bodies_at b) (refuse_accepted _ Short (length b) e), h.2)

  -- ---- 2

  -- no header byte below k is bad, if those checked before byte k are not
  header_below : (k : ℕ) → k ≤ 6 → (0 < k → outside 1 sort_limit (sorts b) ≡ false) → (1 < k → outside 1 production_limit (productions b) ≡ false)
      → (2 < k → ltb class_limit (classes b) ≡ false) → (4 < k → leb (sorts b) (start_sort b) ≡ false) → (5 < k → ltb 0 (byte_at b 5) ≡ false)
      → (j : ℕ) → j < k → BadHeaderByte b j → ⊥
  header_below k m s p c a z j h (bad_sorts t) = not_both (outside 1 sort_limit (sorts b)) t (s h)
  header_below k m s p c a z j h (bad_production_count t) = not_both (outside 1 production_limit (productions b)) t (p h)
  header_below k m s p c a z j h (bad_class_count t) = omega (arith, ltb-false class_limit (classes b) (c h))
  header_below k m s p c a z j h (bad_start t) = omega (arith, leb-false (sorts b) (start_sort b) (a h))
  header_below k m s p c a z j h (bad_last t) = omega (arith, ltb-false 0 (byte_at b 5) (z h))

  never : {A : Type 0} (k m : ℕ) → m ≤ k → k < m → A
  never k m l h = absurd (omega arith)

  -- the checks of the header bytes, in order
  abbrev bytes : List Verdict
  bytes = header_lines (sorts b) (productions b) (classes b) (start_sort b) (byte_at b 5)

  by_header : {r : Refusal} → FirstIn bytes r → Given 1 (number_of r.fault) r.place
  by_header (here e) =
      refuse_case (by_number (Given 1)) (outside 1 sort_limit (sorts b)) Header 0 e (λ t. (refusal2 (bad_sorts t), λ m j l h. absurd (omega arith)))
  by_header (there s (here e)) =
      refuse_case (by_number (Given 1)) (outside 1 production_limit (productions b)) Header 1 e
      (λ t. (refusal2 (bad_production_count t), λ m j l h. header_below 1 (omega arith) (λ x. refuse_accepted _ Header 0 s) (never 1 1 (omega arith)) (never 2 1 (omega arith)) (never 4 1 (omega arith)) (never 5 1 (omega arith)) j l h.1))
  by_header (there s (there p (here e))) =
      refuse_case (by_number (Given 1)) (ltb class_limit (classes b)) Header 2 e
      (λ t. (refusal2 (bad_class_count (ltb-true class_limit (classes b) t)), λ m j l h. header_below 2 (omega arith) (λ x. refuse_accepted _ Header 0 s) (λ x. refuse_accepted _ Header 1 p) (never 2 2 (omega arith)) (never 4 2 (omega arith)) (never 5 2 (omega arith)) j l h.1))
  by_header (there s (there p (there c (here e)))) =
      refuse_case (by_number (Given 1)) (leb (sorts b) (start_sort b)) Header 4 e
      (λ t. (refusal2 (bad_start (leb-true (sorts b) (start_sort b) t)), λ m j l h. header_below 4 (omega arith) (λ x. refuse_accepted _ Header 0 s) (λ x. refuse_accepted _ Header 1 p) (λ x. refuse_accepted _ Header 2 c) (never 4 4 (omega arith)) (never 5 4 (omega arith)) j l h.1))
  by_header (there s (there p (there c (there a (here e))))) =
      refuse_case (by_number (Given 1)) (ltb 0 (byte_at b 5)) Header 5 e
      (λ t. (refusal2 (bad_last (ltb-true 0 (byte_at b 5) t)), λ m j l h. header_below 5 (omega arith) (λ x. refuse_accepted _ Header 0 s) (λ x. refuse_accepted _ Header 1 p) (λ x. refuse_accepted _ Header 2 c) (λ x. refuse_accepted _ Header 4 a) (never 5 5 (omega arith)) j l h.1))
  by_header (there s (there p (there c (there a (there _ n))))) = elim n [ ]

  pub given2 : {r : Refusal} → stage 1 ≡ Err r → Given 1 (number_of r.fault) r.place
  unfolding bad_header header_bytes
  given2 e = by_header (order_first bytes e)

  header_at : {k : ℕ} → BadHeaderByte b k → k < 6
  header_at (bad_sorts t) = omega arith
  header_at (bad_production_count t) = omega arith
  header_at (bad_class_count t) = omega arith
  header_at (bad_start t) = omega arith
  header_at (bad_last t) = omega arith

  pub none2 : stage 1 ≡ accepted → {n k : ℕ} → Line 1 n k → ⊥
  unfolding bad_header header_bytes
  none2 e {n} {k} h =
      let a = each_accepted bytes e in
      header_below 6 (omega arith) (λ x. refuse_accepted _ Header 0 a.0) (λ x. refuse_accepted _ Header 1 a.1.0) (λ x. refuse_accepted _ Header 2 a.1.1.0) (λ x. refuse_accepted _ Header 4 a.1.1.1.0) (λ x. refuse_accepted _ Header 5 a.1.1.1.1.0)
      k (header_at h.1) h.1

  -- ---- 3

  few_arguments_lem : (p : ℕ) → bad_argument_count b p ≡ accepted → argument_count b p ≤ argument_limit
  unfolding bad_argument_count
  few_arguments_lem p e = ltb-false argument_limit (argument_count b p) (refuse_accepted _ Count (argument_count_at b p) e)

  few_ranges_lem : (k : ℕ) → bad_range_count b k ≡ accepted → range_count b k ≤ range_limit
  unfolding bad_range_count
  few_ranges_lem k e = ltb-false range_limit (range_count b k) (refuse_accepted _ Count (range_count_at b k) e)

  arguments_below : (i : ℕ) → i < productions b → ((q : ℕ) → q < i → bad_argument_count b q ≡ accepted) → (j : ℕ) → j < argument_count_at b i → LargeCount b j → ⊥
  arguments_below i l before j h (many_arguments q m t) = omega (arith, few_arguments_lem q (before q (omega arith)))
  arguments_below i l before j h (many_ranges q m t) = omega arith

  ranges_below : (i : ℕ) → ((q : ℕ) → q < productions b → bad_argument_count b q ≡ accepted) → ((q : ℕ) → q < i → bad_range_count b q ≡ accepted)
      → (j : ℕ) → j < range_count_at b i → LargeCount b j → ⊥
  ranges_below i arguments before j h (many_arguments q m t) = omega (arith, few_arguments_lem q (arguments q m))
  ranges_below i arguments before j h (many_ranges q m t) = omega (arith, few_ranges_lem q (before q (omega arith)))

  many_arguments_lem : {r : Refusal} → bad_argument_counts b ≡ Err r → Given 3 (number_of r.fault) r.place
  unfolding bad_argument_count
  many_arguments_lem e =
      let f = first_of (bad_argument_count b) (productions b) e in
      let i = f.index in
      refuse_case (by_number (Given 3)) (ltb argument_limit (argument_count b i)) Count (argument_count_at b i) f.refused
      (λ t. (refusal3 (many_arguments i f.below (ltb-true argument_limit (argument_count b i) t)), λ m j l h. arguments_below i f.below f.before j l h.1))

  many_ranges_lem : {r : Refusal} → bad_argument_counts b ≡ accepted → bad_range_counts b ≡ Err r → Given 3 (number_of r.fault) r.place
  unfolding bad_range_count
  many_ranges_lem a e =
      let f = first_of (bad_range_count b) (classes b) e in
      let i = f.index in
      refuse_case (by_number (Given 3)) (ltb range_limit (range_count b i)) Count (range_count_at b i) f.refused
      (λ t. (refusal3 (many_ranges i f.below (ltb-true range_limit (range_count b i) t)), λ m j l h. ranges_below i (first_all (bad_argument_count b) (productions b) a) f.before j l h.1))

  pub given3 : {r : Refusal} → stage 3 ≡ Err r → Given 3 (number_of r.fault) r.place
  given3 e = ⊎_elim (λ a. many_arguments_lem a) (λ a. many_ranges_lem a.0 a.1) (and_refused (bad_argument_counts b) (bad_range_counts b) e)

  pub none3 : stage 3 ≡ accepted → {n k : ℕ} → Line 3 n k → ⊥
  none3 e {n} {k} h =
      no_large (first_all (bad_argument_count b) (productions b) (and_first (bad_argument_counts b) (bad_range_counts b) e)) (first_all (bad_range_count b) (classes b) (and_second (bad_argument_counts b) (bad_range_counts b) e)) h.1
    where
      no_large : ((q : ℕ) → q < productions b → bad_argument_count b q ≡ accepted) → ((q : ℕ) → q < classes b → bad_range_count b q ≡ accepted) → {j : ℕ} → LargeCount b j → ⊥
      no_large arguments ranges (many_arguments q m t) = omega (arith, few_arguments_lem q (arguments q m))
      no_large arguments ranges (many_ranges q m t) = omega (arith, few_ranges_lem q (ranges q m))

  -- ---- 4

  pub given4 : {r : Refusal} → stage 4 ≡ Err r → Given 4 (number_of r.fault) r.place
  unfolding bad_length
  given4 e =
      refuse_case (by_number (Given 4)) (not (eqb (length b) (needed_length b))) Length (min (length b) (needed_length b)) e
      (λ t. (refusal4 (eqb-false (length b) (needed_length b) (not-true (eqb (length b) (needed_length b)) t)), λ m j l h. omega (arith, h.1)))

  pub none4 : stage 4 ≡ accepted → {n k : ℕ} → Line 4 n k → ⊥
  unfolding bad_length
  none4 e h = h.2 (eqb-true (length b) (needed_length b) (not-false (eqb (length b) (needed_length b)) (refuse_accepted _ Length _ e)))
