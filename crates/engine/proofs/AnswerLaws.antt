-- Each answer exactly under its condition over trees, and what the buffer holds then.
use Prim.Native.Nat.{ℕ, ◌*◌, ◌≤◌, ◌<◌}
use mathlib.Core.Path.{◌≡◌, refl, sym, ◌∙◌, ap, subst}
use mathlib.Core.List.{List}
use mathlib.Core.Logic.{◌↔◌}
use native.Mathlib.Omega.{arith}
use lib.ListN.{length, take}
use Rattle.common.specs.Lists.{overwritten}
use Rattle.engine.proofs.UniqueLaws.{answer_unique}
use Rattle.engine.specs.Outcome.{Answered}
use Rattle.engine.specs.declared.Answer.{Answer}
use Rattle.numbers.specs.Written.{bytes_of, room}
use Rattle.theory.specs.Counts.{Only, Two}
use Rattle.theory.specs.Tree.{Tree, listing}
use Rattle.engine.specs.declared.Answer.TheVariants.{None, One, Several, Refused}
use Rattle.refusal.specs.Verdict.{refusal}
use Rattle.refusal.specs.declared.Fault.TheVariants.{LongListing}
use Rattle.refusal.specs.declared.Refusal.{Refusal}

module _ (P : Tree → Type 0) (l₀ : List ℕ) where
  -- ---- what makes an answer right

  none_right : ((t : Tree) → P t → ⊥) → Answered P l₀ None l₀
  unfolding Answered
  none_right h = (h, refl)

  several_right : Two P → Answered P l₀ Several l₀
  unfolding Answered
  several_right h = (h, refl)

  one_right : (t : Tree) → Only P t → 2 * length (listing t) ≤ length l₀ → Answered P l₀ (One (length (listing t))) (overwritten (bytes_of (listing t)) l₀)
  unfolding Answered
  one_right t h fits = (t, h, refl, fits, refl)

  long_right : (t : Tree) → Only P t → length l₀ < 2 * length (listing t) → Answered P l₀ (Refused (refusal LongListing (room l₀))) (overwritten (bytes_of (take (room l₀) (listing t))) l₀)
  unfolding Answered
  long_right t h long = (t, h, refl, refl, long, refl)

  module _ (r : Answer Refusal) (l : List ℕ) (a : Answered P l₀ r l) where
    -- ---- none and several

    pub none_exactly : (r ≡ None) ↔ ((t : Tree) → P t → ⊥)
    unfolding Answered
    none_exactly = (
      (λ e. (subst (λ (x : Answer Refusal). Answered P l₀ x l) e a).0),
      (λ h. (answer_unique P l₀ r None l l₀ a (none_right h)).0),
    )

    pub none_buffer : ((t : Tree) → P t → ⊥) → l ≡ l₀
    none_buffer h = (answer_unique P l₀ r None l l₀ a (none_right h)).1

    pub several_exactly : (r ≡ Several) ↔ Two P
    unfolding Answered
    several_exactly = (
      (λ e. (subst (λ (x : Answer Refusal). Answered P l₀ x l) e a).0),
      (λ h. (answer_unique P l₀ r Several l l₀ a (several_right h)).0),
    )

    pub several_buffer : Two P → l ≡ l₀
    several_buffer h = (answer_unique P l₀ r Several l l₀ a (several_right h)).1

    -- ---- one

    pub one_exactly : (n : ℕ) → (r ≡ One n) ↔ ((t : Tree) × Only P t × (n ≡ length (listing t)) × (2 * n ≤ length l₀))
    unfolding Answered
    one_exactly n = (
      (λ e. let (t, only, count, fits, wrote) = subst (λ (x : Answer Refusal). Answered P l₀ x l) e a in (t, only, count, fits)),
      (λ (t, only, count, fits). (answer_unique P l₀ r (One (length (listing t))) l _ a (one_right t only (omega arith))).0 ∙ ap (λ (m : ℕ). One m) (sym count)),
    )

    -- the buffer starts with the listing, whole
    pub one_buffer : (t : Tree) → Only P t → 2 * length (listing t) ≤ length l₀ → l ≡ overwritten (bytes_of (listing t)) l₀
    one_buffer t only fits = (answer_unique P l₀ r (One (length (listing t))) l _ a (one_right t only fits)).1

    -- ---- 22

    pub long_exactly : (k : ℕ) → (r ≡ Refused (refusal LongListing k)) ↔ ((t : Tree) × Only P t × (length l₀ < 2 * length (listing t)) × (k ≡ room l₀))
    unfolding Answered
    long_exactly k = (
      (λ e. let (t, only, number, place, long, wrote) = subst (λ (x : Answer Refusal). Answered P l₀ x l) e a in (t, only, long, place)),
      (λ (t, only, long, place). (answer_unique P l₀ r (Refused (refusal LongListing (room l₀))) l _ a (long_right t only long)).0 ∙ ap (λ (n : ℕ). Refused (refusal LongListing n)) (sym place)),
    )

    -- the buffer starts with the first numbers of the listing, as many as fit whole
    pub long_buffer : (t : Tree) → Only P t → length l₀ < 2 * length (listing t) → l ≡ overwritten (bytes_of (take (room l₀) (listing t))) l₀
    long_buffer t only long = (answer_unique P l₀ r (Refused (refusal LongListing (room l₀))) l _ a (long_right t only long)).1

    -- no other refusal comes
    pub refused_is_long : (x : Refusal) → r ≡ Refused x → x.fault ≡ LongListing
    unfolding Answered
    refused_is_long x e = (subst (λ (y : Answer Refusal). Answered P l₀ y l) e a).2
