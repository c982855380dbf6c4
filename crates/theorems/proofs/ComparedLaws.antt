-- What a comparison says of the readings: by their trees, the other way about, in a row, and by a grammar with ranges turned round.
use Prim.Native.Nat.{ℕ, ◌<◌}
use mathlib.Core.List.{List}
use mathlib.Core.Path.{◌≡◌, refl, sym, ◌∙◌, ap, subst, subst₂}
use mathlib.Core.Logic.{◌↔◌}
use lib.ListN.{get_or}
use Rattle.charset.specs.Set.{characters}
use Rattle.compare.proofs.OneLaws.{compared_one, ordered_exactly, ordered_accepted, not_compared_exactly}
use Rattle.compare.proofs.UsesLaws.{listed_uses}
use Rattle.compare.specs.Answer.{CompareAnswer, Compared}
use Rattle.compare.specs.Refusals.{ComparisonRefused}
use Rattle.compare.specs.Uses.{occurrences, uses, tree_uses}
use Rattle.grammar.proofs.SameFrontLaws.{same_productions}
use Rattle.grammar.proofs.TurnedLaws.{turned_front}
use Rattle.grammar.specs.Turned.{TurnedRound}
use Rattle.layout.specs.Layout.{start_sort}
use Rattle.listing.specs.Answer.{ListingAnswer, listing_answer}
use Rattle.listing.specs.declared.Judgement.TheVariants.{Right}
use Rattle.std.specs.Prelude.{Ok, Err}
use Rattle.order.proofs.OrderLaws.{lower_transitive, says_equal, says_swapped, says_carried}
use Rattle.order.specs.Order.{OrderIs, swapped}
use Rattle.order.specs.declared.Order.{Order}
use Rattle.order.specs.declared.Order.TheVariants.{Below, Equal}
use Rattle.page.specs.Answer.{Listed}
use Rattle.priority.proofs.TurnedLaws.{turned_list}
use Rattle.priority.specs.Priorities.{HigherIn, Higher}
use Rattle.priority.specs.declared.Declaration.{Declaration}
use Rattle.theorems.proofs.TurnedLaws.{turned_listing}
use Rattle.theory.specs.Tree.{Tree, production_number}

-- ---- the trees

pub uses_listed : (b : List ℕ) → ((k : ℕ) → get_or b k 0 < characters) → (w l : List ℕ) (t : Tree) → Listed b w l t → (p : ℕ) → uses l p ≡ tree_uses t p
unfolding uses
uses_listed b bytes w l t h p =
    ap (occurrences (production_number p)) (sym h.listed) ∙ listed_uses b bytes p t (start_sort b) h.reading.built

module _ (b w l m : List ℕ) where
  pub says_trees : ((k : ℕ) → get_or b k 0 < characters) → (o : Order) → Compared b w l m (Ok o)
      → (t u : Tree) → Listed b w l t → Listed b w m u → OrderIs b (tree_uses t) (tree_uses u) o
  says_trees bytes o h t u lists also =
      says_equal b (ordered_accepted b w l m o h) (uses l) (tree_uses t) (uses m) (tree_uses u)
      (λ p there. uses_listed b bytes w l t lists p) (λ p there. uses_listed b bytes w m u also p) o ((ordered_exactly b w l m o).0 h).2

  -- ---- the other way about

  pub compared_swapped : (o : Order) → Compared b w l m (Ok o) → Compared b w m l (Ok (swapped o))
  compared_swapped o h =
      let (right, also, says) = (ordered_exactly b w l m o).0 h in
      (ordered_exactly b w m l (swapped o)).1 (also, right, says_swapped b (uses l) (uses m) o says)

-- ---- in a row

module _ (b w l m n : List ℕ) where
  pub compared_below : Compared b w l m (Ok Below) → Compared b w m n (Ok Below) → Compared b w l n (Ok Below)
  unfolding OrderIs
  compared_below h k =
      let (right, _, first) = (ordered_exactly b w l m Below).0 h in
      let (_, also, second) = (ordered_exactly b w m n Below).0 k in
      (ordered_exactly b w l n Below).1 (right, also, lower_transitive b (ordered_accepted b w l m Below h) (uses l) (uses m) (uses n) first second)

  pub compared_equal : Compared b w l m (Ok Equal) → Compared b w m n (Ok Equal) → Compared b w l n (Ok Equal)
  unfolding OrderIs
  compared_equal h k =
      let (right, _, first) = (ordered_exactly b w l m Equal).0 h in
      let (_, also, second) = (ordered_exactly b w m n Equal).0 k in
      (ordered_exactly b w l n Equal).1 (right, also, λ p there. first p there ∙ second p there)

pub compared_itself : (b w l : List ℕ) (r : CompareAnswer) → Compared b w l l r → listing_answer b w l ≡ Ok Right → r ≡ Ok Equal
unfolding OrderIs
compared_itself b w l r h right = compared_one b w l l r (Ok Equal) h ((ordered_exactly b w l l Equal).1 (right, right, λ p there. refl))

-- ---- a grammar with ranges turned round

turned_higher : (b c : List ℕ) → TurnedRound b c → (x y : ℕ) → Higher c x y ↔ Higher b x y
turned_higher b c t x y = (
  (λ h. subst (λ (ls : List Declaration). HigherIn ls x y) (turned_list b c t) h),
  (λ h. subst (λ (ls : List Declaration). HigherIn ls x y) (sym (turned_list b c t)) h),
)

pub turned_compared : (b c : List ℕ) → TurnedRound b c → (w l m : List ℕ) (r : CompareAnswer) → Compared c w l m r → Compared b w l m r
turned_compared b c t w l m (Ok o) h =
    let (right, also, says) = (ordered_exactly c w l m o).0 h in
    (ordered_exactly b w l m o).1 (
      sym (turned_listing b c t w l) ∙ right,
      sym (turned_listing b c t w m) ∙ also,
      says_carried c b (same_productions b c (turned_front b c t)) (turned_higher b c t) (uses l) (uses m) o says,
    )
turned_compared b c t w l m (Err x) h =
    (not_compared_exactly b w l m x).1
    (subst₂ (λ (a d : ListingAnswer). ComparisonRefused a d x) (turned_listing b c t w l) (turned_listing b c t w m) ((not_compared_exactly c w l m x).0 h))
