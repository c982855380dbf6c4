-- The number of no answer is too large for 64 bits: each reply fits. Reading a text is in ViewerLaws.antt.
use Prim.Native.Nat.{ℕ, ◌≤◌, ◌<◌}
use mathlib.Core.List.{List, [], ◌∷◌}
use mathlib.Core.Path.{◌≡◌, refl}
use native.Mathlib.Omega.{arith}
use lib.ListN.{length, get_or}
use Rattle.ccg.proofs.TextLaws.{tabulate_text_short}
use Rattle.ccg.specs.Text.{grammar_text}
use Rattle.charset.specs.Set.{characters}
use Rattle.common.proofs.ListLaws.{length_tabulate}
use Rattle.engine.specs.Refusals.{too_long}
use Rattle.flatten.specs.Answer.{flat_answer}
use Rattle.flatten.specs.Flat.{flat_class, flat_line, flat_line_in, flat_grammar, flat_grammar_in, plain_class}
use Rattle.refusal.proofs.VerdictLaws.{and_second}
use Rattle.grammar.specs.Formed.{WellFormed}
use Rattle.refusal.specs.Verdict.{Verdict, accepted, refusal, and_then, in_order, unless_refused}
use Rattle.layout.specs.Layout.{productions, start_sort, argument_count}
use Rattle.listing.proofs.BadListingLaws.{listing_good}
use Rattle.listing.specs.Answer.{byte_limit, bad_listing, judged, listing_answer, ListingAnswer}
use Rattle.numbers.proofs.NumbersLaws.{numbers_length}
use Rattle.numbers.specs.Numbers.{numbers_of}
use Rattle.page.proofs.RightLaws.{right_few}
use Rattle.page.specs.Answer.{page_length, page_if, page_answer}
use Rattle.priority.proofs.CheckLaws.{accepted_formed}
use Rattle.priority.specs.Check.{checked}
use Rattle.priority.specs.Conflict.{conflicts}
use Rattle.question.specs.Answer.{is_there, conflict_answer}
use Rattle.reply.proofs.AnswersLaws.{own_conflict_fits, write_fits, judge_fits}
use Rattle.reply.proofs.ReplyLaws.{answered_fits, refusal_fits}
use Rattle.reply.specs.Answers.{check_reply, conflict_reply, count_reply, listing_reply}
use Rattle.reply.specs.Reply.{refused, value_limit, Fits}
use Rattle.reply.specs.declared.Reply.{Reply}
use Rattle.listing.specs.declared.Judgement.TheVariants.{Right, Wrong}
use Rattle.std.specs.Prelude.{Result, Ok, Err}
use Rattle.refusal.specs.declared.Fault.TheVariants.{LongFlat, WrongListing, LongPage}
use Rattle.refusal.specs.declared.Refusal.{Refusal}

-- An operation that refuses what a verdict refuses: its reply fits if its own answer's does.
unless_fits : {A : Type 0} (reply : Result A Refusal → Reply) (v : Verdict) (answer : Result A Refusal) → ((r : Refusal) → reply (Err r) ≡ refused r)
    → (v ≡ accepted → Fits (reply answer)) → Fits (reply (unless_refused v answer))
unless_fits reply (Ok _) answer form own = own refl
unless_fits reply (Err r) answer form own = rw (form r) (refusal_fits r)

-- ---- checking a grammar

verdict_fits : (v : Verdict) → Fits (check_reply refused v)
unfolding check_reply
verdict_fits (Ok _) = answered_fits 0 0 (omega arith) (omega arith)
verdict_fits (Err r) = refusal_fits r

pub check_fits : (b : List ℕ) → Fits (check_reply refused (checked b))
check_fits b = verdict_fits (checked b)

-- ---- the conflict question

pub conflict_fits : (b : List ℕ) (p i q : ℕ) → Fits (conflict_reply refused (conflict_answer b p i q))
unfolding conflict_answer conflict_reply
conflict_fits b p i q =
    unless_fits (conflict_reply refused) (checked b) _ (λ r. refl) (λ e. own_conflict_fits (is_there b p i q) (conflicts b p i q))

-- ---- writing a character class grammar

flat_text_short : (b : List ℕ) → WellFormed b → length (grammar_text (flat_grammar b)) < value_limit
unfolding flat_grammar_in flat_line_in
flat_text_short b formed =
    let short =
    tabulate_text_short (productions b) (flat_line b) formed.framed.few_productions
    (λ p l. omega (arith, length_tabulate (argument_count b p) (flat_class b p), formed.framed.few_arguments p l)) in
    omega arith

pub flat_fits : (b : List ℕ) (size : ℕ) → Fits (count_reply refused (flat_answer b size))
unfolding flat_answer count_reply
flat_fits b size =
    unless_fits (count_reply refused) (checked b) _ (λ r. refl)
    (λ e. write_fits LongFlat (length (grammar_text (flat_grammar b))) size (flat_text_short b (accepted_formed b e)))

-- ---- checking a listing

module _ (b w l : List ℕ) where
  -- the refusals in order, and the first of them
  abbrev lines : List Verdict
  lines = checked b ∷ too_long w ∷ bad_listing l ∷ []

  abbrev refusals : Verdict
  refusals = in_order lines

  listing_short : refusals ≡ accepted → length l ≤ byte_limit
  listing_short e = (listing_good l (and_second (too_long w) (bad_listing l) (and_second (checked b) (and_then (too_long w) (bad_listing l)) e))).1

  judged_fits : length l ≤ byte_limit → Fits (listing_reply refused (Ok (judged b w l)))
  unfolding judged
  judged_fits h = judge_fits (flat_grammar b) (numbers_of l) (plain_class b (start_sort b) ∷ []) w 0 (omega (arith, numbers_length l))

  pub listing_fits : Fits (listing_reply refused (listing_answer b w l))
  unfolding listing_answer listing_reply
  listing_fits = unless_fits (listing_reply refused) refusals (Ok (judged b w l)) (λ r. refl) (λ e. judged_fits (listing_short e))

-- ---- the page

module _ (b w l : List ℕ) (bytes : (k : ℕ) → get_or b k 0 < characters) (size : ℕ) where
  page_fits_if : (a : ListingAnswer) → listing_answer b w l ≡ a → Fits (listing_reply refused a) → Fits (count_reply refused (page_if a (page_length l) size))
  unfolding page_if listing_reply count_reply page_length
  page_fits_if (Ok Right) e h = write_fits LongPage (page_length l) size (omega (arith, right_few (record { bytes = bytes; right = e })))
  page_fits_if (Ok (Wrong index)) e h = refusal_fits (refusal WrongListing index)
  page_fits_if (Err r) e h = h

  pub page_fits : Fits (count_reply refused (page_answer b w l size))
  unfolding page_answer
  page_fits = page_fits_if (listing_answer b w l) refl (listing_fits b w l)
