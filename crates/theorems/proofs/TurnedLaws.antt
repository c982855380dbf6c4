-- A grammar with ranges turned round (02, [3]): the conflict question, the check of a listing, the page and the text under a number are answered alike.
use Prim.Native.Nat.{ℕ}
use mathlib.Core.Path.{◌≡◌, refl, ◌∙◌, ap, subst}
use mathlib.Core.Bool.{Bool, true, false, cond}
use mathlib.Core.List.{List}
use native.Mathlib.Omega.{arith}
use lib.ListN.{length}
use Rattle.common.proofs.BoolLaws.{same_test}
use Rattle.flatten.proofs.TurnedLaws.{turned_flat, turned_root, turned_reading}
use Rattle.grammar.proofs.SameFrontLaws.{same_productions, same_count}
use Rattle.grammar.proofs.TurnedLaws.{turned_front, turned_back}
use Rattle.grammar.specs.Turned.{TurnedRound}
use Rattle.refusal.specs.Verdict.{refused, unless_refused}
use Rattle.refusal.specs.declared.Fault.TheVariants.{Absent}
use Rattle.refusal.specs.declared.Refusal.{Refusal}
use Rattle.std.specs.Prelude.{Result, Ok, Err}
use Rattle.listing.specs.Answer.{ListingAnswer, judged, listing_answer}
use Rattle.listing.specs.declared.Judgement.TheVariants.{Right, Wrong}
use Rattle.page.specs.Answer.{Listed, page_length, page_if, page_answer, PageAfter, PageOutcome, RowIf, RowUnder, TextUnder}
use Rattle.priority.proofs.TurnedLaws.{turned_checked, turned_conflicts}
use Rattle.priority.specs.Check.{checked}
use Rattle.priority.specs.Conflict.{conflicts}
use Rattle.question.proofs.AnswerLaws.{there_test, test_there}
use Rattle.question.specs.Answer.{There, is_there, conflict_answer}
use Rattle.rows.specs.declared.Row.{Row}
use Rattle.theory.specs.Tree.{Tree}

module _ (b c : List ℕ) (t : TurnedRound b c) where
  -- ---- the conflict question

  module _ (p i q : ℕ) where
    -- what is there by the one is there by the other
    turned_there : There b p i q → There c p i q
    turned_there (lp, li, lq) =
        let same = turned_front b c t in
        (omega (arith, same_productions b c same), omega (arith, same_count b c same p lp), omega (arith, same_productions b c same))

    -- the answer, if nothing is refused
    own_same : (v : Bool) → (v ≡ true → There b p i q) → cond v (Ok (conflicts c p i q)) (refused Absent 0) ≡ cond v (Ok (conflicts b p i q)) (refused Absent 0)
    own_same true h = let (lp, li, lq) = h refl in ap Ok (turned_conflicts b c t p i q lp li lq)
    own_same false h = refl

  -- ---- checking a listing

  pub turned_listing : (w l : List ℕ) → listing_answer c w l ≡ listing_answer b w l
  unfolding listing_answer judged
  turned_listing w l = rw (turned_checked b c t, turned_flat b c t, turned_root b c t) refl

  -- ---- the page, and the text under a number

  module _ (w l : List ℕ) where
    turned_listed : {u : Tree} → Listed c w l u → Listed b w l u
    turned_listed {u} h = record { reading = (turned_reading b c t w u).0 h.reading; listed = h.listed }

    turned_page_answer : (room : ℕ) → page_answer c w l room ≡ page_answer b w l room
    unfolding page_answer
    turned_page_answer room = ap (λ (a : ListingAnswer). page_if a (page_length l) room) (turned_listing w l)

    turned_after : (page₀ : List ℕ) (r : Result ℕ Refusal) (page : List ℕ) → PageAfter c w l page₀ r page → PageAfter b w l page₀ r page
    unfolding PageAfter
    turned_after page₀ (Ok n) page (u, h, e) = (u, turned_listed h, e)
    turned_after page₀ (Err x) page h = h

    pub turned_page : (page₀ : List ℕ) (r : Result ℕ Refusal) (page : List ℕ) → PageOutcome c w l page₀ r page → PageOutcome b w l page₀ r page
    turned_page page₀ r page o = record { answer = o.answer ∙ turned_page_answer (length page₀); after = turned_after page₀ r page o.after }

    turned_row_if : (a : ListingAnswer) (index : ℕ) (r : Row) → RowIf a c w l index r → RowIf a b w l index r
    unfolding RowIf
    turned_row_if (Ok Right) index r (u, h, e) = (u, turned_listed h, e)
    turned_row_if (Ok (Wrong k)) index r h = h
    turned_row_if (Err x) index r h = h

    pub turned_row : (index : ℕ) (r : Row) → RowUnder c w l index r → RowUnder b w l index r
    turned_row index r h =
        record {
          is_row = turned_row_if (listing_answer b w l) index r (subst (λ (a : ListingAnswer). RowIf a c w l index r) (turned_listing w l) h.is_row);
          ordered = h.ordered;
          within = h.within;
        }

    pub turned_part : (index : ℕ) (part : List ℕ) → TextUnder c w l index part → TextUnder b w l index part
    turned_part index part h = record { row = h.row; under = turned_row index h.row h.under; is_part = h.is_part }

-- the conflict question is answered alike
pub turned_question : (b c : List ℕ) → TurnedRound b c → (p i q : ℕ) → conflict_answer c p i q ≡ conflict_answer b p i q
unfolding conflict_answer
turned_question b c t p i q =
    let there : is_there c p i q ≡ is_there b p i q =
    same_test (is_there c p i q) (is_there b p i q)
    (λ e. there_test b p i q (turned_there c b (turned_back b c t) p i q (test_there c p i q e)))
    (λ e. there_test c p i q (turned_there b c t p i q (test_there b p i q e))) in
    rw (turned_checked b c t, there) (ap (unless_refused (checked b)) (own_same b c t p i q (is_there b p i q) (test_there b p i q)))
