-- What was lent determines the page and the part handed back: a listing has one parse.
use Prim.Native.Nat.{ℕ, ◌+◌, ◌*◌, ◌<◌}
use mathlib.Core.List.{List}
use mathlib.Core.Path.{◌≡◌, refl, sym, ◌∙◌, ap, subst}
use lib.ListN.{length, get_or}
use lib.Seq.{slice}
use Rattle.ccg.proofs.ListingLaws.{listing_determines}
use Rattle.charset.specs.Set.{characters}
use Rattle.common.specs.Lists.{overwritten}
use Rattle.flatten.proofs.FlatLaws.{flat_numbered, flat_trees}
use Rattle.flatten.specs.Flat.{flat_grammar, plain_class}
use Rattle.layout.specs.Layout.{start_sort}
use Rattle.listing.specs.Answer.{listing_answer, ListingAnswer}
use Rattle.page.proofs.AnswerLaws.{page_fits}
use Rattle.page.proofs.RightLaws.{right_formed}
use Rattle.page.specs.Answer.{Listed, page_answer, PageAfter, PageOutcome, RowIf, RowUnder, TextUnder, PlacesUnder}
use Rattle.lines.specs.Text.{page_text}
use Rattle.rows.specs.Rows.{no_row, rows}
use Rattle.rows.specs.Table.{places}
use Rattle.rows.specs.declared.Row.{Row}
use Rattle.theory.specs.Tree.{Tree}
use Rattle.listing.specs.declared.Judgement.TheVariants.{Right, Wrong}
use Rattle.std.specs.Prelude.{Result, Ok, Err}
use Rattle.refusal.specs.declared.Refusal.{Refusal}

module _ (b : List ℕ) (bytes : (k : ℕ) → get_or b k 0 < characters) (w l : List ℕ) where
  -- a listing that is right is that of one parse
  pub one_listed : listing_answer b w l ≡ Ok Right → (t u : Tree) → Listed b w l t → Listed b w l u → t ≡ u
  one_listed right t u h k =
      let formed = right_formed (record { bytes = bytes; right = right }) in
      let cc = plain_class b (start_sort b) in
      listing_determines (flat_grammar b) (flat_numbered b) cc cc t u
      ((flat_trees b formed bytes (start_sort b) t).0 (h.reading.built, h.reading.free)) ((flat_trees b formed bytes (start_sort b) u).0 (k.reading.built, k.reading.free))
      (h.listed ∙ sym k.listed)

  -- ---- the page

  module _ (page₀ : List ℕ) where
    after_one : (r : Result ℕ Refusal) (page page' : List ℕ) → r ≡ page_answer b w l (length page₀) → PageAfter b w l page₀ r page → PageAfter b w l page₀ r page' → page ≡ page'
    unfolding PageAfter
    after_one (Ok n) page page' e h k =
        let same = one_listed ((page_fits b w l (length page₀) n).0 (sym e)).0 h.0 k.0 h.1 k.1 in
        h.2 ∙ ap (λ (t : Tree). overwritten (page_text w (rows 0 0 t)) page₀) same ∙ sym k.2
    after_one (Err r) page page' e h k = h ∙ sym k

    pub page_one : (r r' : Result ℕ Refusal) (page page' : List ℕ) → PageOutcome b w l page₀ r page → PageOutcome b w l page₀ r' page' → (r ≡ r') × (page ≡ page')
    page_one r r' page page' h k =
        let same : r ≡ r' = h.answer ∙ sym k.answer in
        (same, after_one r page page' h.answer h.after (subst (λ (a : Result ℕ Refusal). PageAfter b w l page₀ a page') (sym same) k.after))

  -- ---- the text under a number

  module _ (index : ℕ) where
    row_if_one : (a : ListingAnswer) (r r' : Row) → listing_answer b w l ≡ a → RowIf a b w l index r → RowIf a b w l index r' → r ≡ r'
    unfolding RowIf
    row_if_one (Ok Right) r r' e h k =
        h.2 ∙ ap (λ (t : Tree). get_or (rows 0 0 t) index no_row) (one_listed e h.0 k.0 h.1 k.1) ∙ sym k.2
    row_if_one (Ok (Wrong j)) r r' e h k = h ∙ sym k
    row_if_one (Err x) r r' e h k = h ∙ sym k

    -- which part it is: its start and its end
    pub row_one : (r r' : Row) → RowUnder b w l index r → RowUnder b w l index r' → r ≡ r'
    row_one r r' h k = row_if_one (listing_answer b w l) r r' refl h.is_row k.is_row

    -- and so its bytes
    pub part_one : (part part' : List ℕ) → TextUnder b w l index part → TextUnder b w l index part' → part ≡ part'
    part_one part part' h k = h.is_part ∙ ap (λ (r : Row). slice r.start r.end w) (row_one h.row k.row h.under k.under) ∙ sym k.is_part

    -- and the number that says which part it is
    pub places_one : (n m : ℕ) → PlacesUnder b w l index n → PlacesUnder b w l index m → n ≡ m
    places_one n m h k = h.says ∙ ap (λ (r : Row). places * r.start + r.end) (row_one h.row k.row h.under k.under) ∙ sym k.says
