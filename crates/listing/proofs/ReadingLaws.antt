-- What checking a listing answers, over the grammar's own trees: right exactly if the numbers are the listing of a parse of the text; what parsing answers with one
-- is found right; and each refusal is given only under its condition.
use Prim.Native.Nat.{ℕ, ◌*◌, ◌≤◌, ◌<◌}
use mathlib.Core.List.{List, [], ◌∷◌}
use mathlib.Core.Logic.{◌↔◌}
use mathlib.Core.Path.{◌≡◌, sym, ap}
use native.Mathlib.Omega.{arith}
use lib.ListN.{length, get_or, take, drop}
use lib.Seq.{take_at}
use Rattle.charset.specs.Set.{characters}
use Rattle.common.specs.Lists.{overwritten}
use Rattle.engine.specs.Refusals.{too_long}
use Rattle.flatten.proofs.FlatLaws.{flat_numbered, flat_trees}
use Rattle.flatten.specs.Flat.{flat_grammar, plain_class}
use Rattle.flatten.specs.Reading.{Reading}
use Rattle.refusal.proofs.VerdictLaws.{and_first, unless_answer}
use Rattle.grammar.specs.Formed.{WellFormed}
use Rattle.refusal.specs.Verdict.{and_then, in_order, Verdict, accepted}
use Rattle.layout.specs.Layout.{start_sort}
use Rattle.listing.proofs.BadListingLaws.{listing_accepted}
use Rattle.listing.proofs.TreeLaws.{judge_right}
use Rattle.listing.specs.Answer.{ListingAnswer, byte_limit, bad_listing, judged, listing_answer}
use Rattle.listing.specs.declared.Judgement.TheVariants.{Right}
use Rattle.numbers.proofs.NumbersLaws.{numbers_joined}
use Rattle.numbers.proofs.WrittenLaws.{bytes_long}
use Rattle.numbers.specs.Numbers.{numbers_of}
use Rattle.numbers.specs.Written.{bytes_of}
use Rattle.priority.proofs.CheckLaws.{accepted_formed}
use Rattle.priority.specs.Check.{checked}
use Rattle.theory.specs.Tree.{Tree, listing}
use Rattle.std.specs.Prelude.{Ok}
use Rattle.listing.specs.declared.Judgement.{Judgement}

-- ---- right

module _ (b : List ℕ) (formed : WellFormed b) (bytes : (k : ℕ) → get_or b k 0 < characters) (w l : List ℕ) where
  right_reading : judged b w l ≡ Right → (t : Tree) × Reading b w t × (listing t ≡ numbers_of l)
  unfolding judged
  right_reading e =
      let (t, tree, list, spells) = (judge_right (flat_grammar b) (flat_numbered b) (plain_class b (start_sort b)) (numbers_of l) w).0 e in
      let (built, free) = (flat_trees b formed bytes (start_sort b) t).1 tree in
      (t, record { built = built; free = free; spells = spells }, list)

  reading_right : (t : Tree) → Reading b w t → listing t ≡ numbers_of l → judged b w l ≡ Right
  unfolding judged
  reading_right t r list =
      (judge_right (flat_grammar b) (flat_numbered b) (plain_class b (start_sort b)) (numbers_of l) w).1
      (t, (flat_trees b formed bytes (start_sort b) t).0 (r.built, r.free), list, r.spells)

-- For a well-formed grammar the numbers are found right exactly if they are the listing of a parse of the text.
pub judged_right : (b : List ℕ) → WellFormed b → ((k : ℕ) → get_or b k 0 < characters) → (w l : List ℕ)
    → (judged b w l ≡ Right) ↔ ((t : Tree) × Reading b w t × (listing t ≡ numbers_of l))
judged_right b formed bytes w l = ((λ e. right_reading b formed bytes w l e), (λ h. reading_right b formed bytes w l h.0 h.1 h.2))

-- ---- the whole answer

module _ (b w l : List ℕ) where
  -- the refusals, in order
  abbrev pub refusals : Verdict
  refusals = in_order (checked b ∷ too_long w ∷ bad_listing l ∷ [])

  -- "right" is no refusal: then the numbers decide
  right_parts : (listing_answer b w l ≡ Ok Right) ↔ ((refusals ≡ accepted) × (judged b w l ≡ Right))
  unfolding listing_answer
  right_parts =
      let answer = unless_answer refusals (Ok (judged b w l)) Right in
      ((λ e. let (free, own) = answer.0 e in (free, found own)), (λ h. answer.1 (h.0, ap (λ (j : Judgement). Ok j) h.1)))
    where
      found : {j k : Judgement} → ◌≡◌ {A = ListingAnswer} (Ok j) (Ok k) → j ≡ k
      found e = cc

  refusals_formed : refusals ≡ accepted → WellFormed b
  refusals_formed e = accepted_formed b (and_first (checked b) (and_then (too_long w) (bad_listing l)) e)

-- The answer is "right" exactly if nothing is refused and the numbers are the listing of a parse of the text.
pub listing_right : (b : List ℕ) → ((k : ℕ) → get_or b k 0 < characters) → (w l : List ℕ)
    → (listing_answer b w l ≡ Ok Right) ↔ ((in_order (checked b ∷ too_long w ∷ bad_listing l ∷ []) ≡ accepted) × ((t : Tree) × Reading b w t × (listing t ≡ numbers_of l)))
listing_right b bytes w l = (
  (λ e. let (accepted, e') = (right_parts b w l).0 e in (accepted, (judged_right b (refusals_formed b w l accepted) bytes w l).0 e')),
  (λ h. (right_parts b w l).1 (h.0, (judged_right b (refusals_formed b w l h.0) bytes w l).1 h.1)),
)

-- ---- a listing that was written

-- the listing of a parse, written at the start of a buffer, is found right
pub reading_written : (b : List ℕ) → ((k : ℕ) → get_or b k 0 < characters) → (w l₀ l : List ℕ) (t : Tree) → checked b ≡ accepted → too_long w ≡ accepted → Reading b w t
    → 2 * length (listing t) ≤ byte_limit → l ≡ overwritten (bytes_of (listing t)) l₀ → listing_answer b w (take (2 * length (listing t)) l) ≡ Ok Right
reading_written b bytes w l₀ l t good short reading small wrote =
    let ns = listing t in
    let long = bytes_long ns in
    let start : take (2 * length ns) l ≡ bytes_of ns = rw wrote (take_at (bytes_of ns) (drop (length (bytes_of ns)) l₀) (2 * length ns) long) in
    let few = listing_accepted (bytes_of ns) (omega arith) (omega arith) in
    rw start ((listing_right b bytes w (bytes_of ns)).1 (rw (good, short) few, (t, reading, sym (numbers_joined ns))))
