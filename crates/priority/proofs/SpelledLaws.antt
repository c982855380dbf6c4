-- Groups spelled out declare the same pairs (02, [2]); so whatever declarations decide is the same by the spelled-out list, however long that is.
use Prim.Native.Nat.{ℕ, zero, suc, ◌+◌, ◌-◌, ◌*◌, ◌≤◌, ◌<◌}
use mathlib.Core.Path.{◌≡◌, refl, sym, ◌∙◌, ap, ap₂}
use mathlib.Core.Bool.{Bool, false, true, ◌&&◌, ◌||◌, false≢true, or-true}
use mathlib.Core.List.{List, [], ◌∷◌}
use mathlib.Core.Logic.{◌↔◌, ◌⊎◌, inl, inr, ⊎_elim, by_cases}
use native.Mathlib.Omega.{arith}
use native.Mathlib.Decide.{dec_lt}
use lib.Dec.{leb, ltb, eqb}
use lib.ListN.{length, length-append}
use borrow.Author.Tests.{le-ltb, ltb-true, leb-true, eqb-true, eq-eqb}
use Rattle.common.proofs.BelowLaws.{between_in, between_ends}
use Rattle.common.proofs.BoolLaws.{or_cases, or_first, or_second, and_first_true, and_second_true, same_test, true_or_false}
use Rattle.common.proofs.AllLaws.{all_append, all_tabulate}
use Rattle.common.proofs.ListLaws.{length_tabulate, joined_one}
use Rattle.common.specs.Below.{between}
use Rattle.common.specs.Lists.{tabulate, joined, All}
use Rattle.refusal.proofs.VerdictLaws.{first_same}
use Rattle.grammar.specs.Check.{is_group}
use Rattle.layout.specs.Layout.{productions}
use Rattle.layout.specs.Limits.{kind_limit, pair_kind_limit, group_step}
use Rattle.priority.proofs.ChainLaws.{chain_map}
use Rattle.priority.proofs.CoverLaws.{declared_append, declared_one, declared_found, declared_made, declared_none}
use Rattle.priority.specs.Chain.{through}
use Rattle.priority.specs.Check.{circle, circles_in}
use Rattle.priority.specs.Conflict.{right_or_nonassoc, left_or_nonassoc, ConflictIn, anywhere, at_first, at_last, barred, conflicts_in}
use Rattle.priority.specs.Priorities.{Kind, higher, left, right, nonassoc, kind_number, said_kind, either_way, names_pair, covers, declared_in, HigherIn, is_higher_in}
use Rattle.priority.specs.declared.Declaration.{Declaration}
use Rattle.priority.specs.Spelled.{IsOfTwo, pairs_from, spelled, spelled_out}

-- ---- kinds of groups

-- a kind of groups says one of the kinds 2, 3 and 4
module _ (n : ℕ) (g : is_group n ≡ true) where
  pub said_bounds : (2 ≤ said_kind n) × (said_kind n ≤ pair_kind_limit)
  unfolding is_group said_kind
  said_bounds =
      let above = ltb-true pair_kind_limit n (and_first_true (ltb pair_kind_limit n) (leb n kind_limit) g) in
      let below = leb-true n kind_limit (and_second_true (ltb pair_kind_limit n) (leb n kind_limit) g) in
      rw g (omega arith, omega arith)

  -- which is no kind of groups
  said_single : is_group (said_kind n) ≡ false
  unfolding is_group
  said_single = rw (le-ltb pair_kind_limit (said_kind n) said_bounds.1) refl

  -- and holds either way round
  said_way : (k : Kind) → said_kind n ≡ kind_number k → either_way k ≡ true
  unfolding kind_number either_way
  said_way higher e = absurd (omega (arith, said_bounds.0))
  said_way left e = refl
  said_way right e = refl
  said_way nonassoc e = refl

-- the number of the groups of a kind
pub group_number : (k : Kind) → either_way k ≡ true → (n : ℕ) → n ≡ kind_number k + group_step → (is_group n ≡ true) × (said_kind n ≡ kind_number k)
unfolding either_way kind_number is_group said_kind
group_number higher h n e = absurd (false≢true h)
group_number left h n e = rw e (refl, refl)
group_number right h n e = rw e (refl, refl)
group_number nonassoc h n e = rw e (refl, refl)

-- a number says one kind at most
kind_of : ℕ → Kind
kind_of zero = nonassoc
kind_of (suc zero) = higher
kind_of (suc (suc zero)) = left
kind_of (suc (suc (suc zero))) = right
kind_of (suc (suc (suc (suc n)))) = nonassoc

kind_numbered : (k : Kind) → kind_of (kind_number k) ≡ k
unfolding kind_of kind_number
kind_numbered higher = refl
kind_numbered left = refl
kind_numbered right = refl
kind_numbered nonassoc = refl

same_kind : (k k' : Kind) → kind_number k ≡ kind_number k' → k ≡ k'
same_kind k k' e = sym (kind_numbered k) ∙ ap kind_of e ∙ kind_numbered k'

-- ---- a declaration of two productions

-- it covers what it did before there were groups
module _ (l : Declaration) (g : IsOfTwo l) where
  covers_single : (k : Kind) (x y : ℕ)
      → covers l k x y ≡ (eqb l.kind (kind_number k) && (eqb l.first x && eqb l.second y || either_way k && (eqb l.first y && eqb l.second x)))
  unfolding covers names_pair said_kind
  covers_single k x y = rw g refl

  -- its kind is k, and it names the pair so, or turned round if k holds either way
  pub single_found : (k : Kind) (x y : ℕ) → covers l k x y ≡ true
      → (l.kind ≡ kind_number k) × (((l.first ≡ x) × (l.second ≡ y)) ⊎ ((either_way k ≡ true) × (l.first ≡ y) × (l.second ≡ x)))
  single_found k x y e =
      let f = l.first in
      let s = l.second in
      let e' = sym (covers_single k x y) ∙ e in
      let one = eqb f x && eqb s y in
      let turned = eqb f y && eqb s x in (
        eqb-true l.kind (kind_number k) (and_first_true (eqb l.kind (kind_number k)) (one || either_way k && turned) e'),
        ⊎_elim
            (λ a. inl (eqb-true f x (and_first_true (eqb f x) (eqb s y) a), eqb-true s y (and_second_true (eqb f x) (eqb s y) a)))
            (λ a. let t = and_second_true (either_way k) turned a in
            inr (and_first_true (either_way k) turned a, eqb-true f y (and_first_true (eqb f y) (eqb s x) t), eqb-true s x (and_second_true (eqb f y) (eqb s x) t)))
            (or_cases one (either_way k && turned) (and_second_true (eqb l.kind (kind_number k)) (one || either_way k && turned) e')),
      )

  pub single_written : (k : Kind) (x y : ℕ) → l.kind ≡ kind_number k → l.first ≡ x → l.second ≡ y → covers l k x y ≡ true
  single_written k x y e f s = covers_single k x y ∙ rw (eq-eqb l.kind (kind_number k) e, eq-eqb l.first x f, eq-eqb l.second y s) refl

  pub single_turned : (k : Kind) (x y : ℕ) → l.kind ≡ kind_number k → either_way k ≡ true → l.first ≡ y → l.second ≡ x → covers l k x y ≡ true
  single_turned k x y e w f s =
      covers_single k x y
      ∙ rw (eq-eqb l.kind (kind_number k) e, w, eq-eqb l.first y f, eq-eqb l.second x s) (or-true (eqb l.first x && eqb l.second y))

-- ---- a declaration of a group

-- it covers every two from its first to its second, with the kind that it says
module _ (l : Declaration) (g : is_group l.kind ≡ true) (k : Kind) (x y : ℕ) where
  abbrev named : (ℕ → ℕ → Bool)
  named u v = between l.first l.second u && between l.first l.second v

  group_covers : covers l k x y ≡ (eqb (said_kind l.kind) (kind_number k) && (named x y || either_way k && named y x))
  unfolding covers names_pair
  group_covers = rw g refl

  pub group_found : covers l k x y ≡ true → (said_kind l.kind ≡ kind_number k) × (l.first ≤ x) × (x ≤ l.second) × (l.first ≤ y) × (y ≤ l.second)
  group_found e =
      let f = l.first in
      let s = l.second in
      let inside = between f s in
      let says = eqb (said_kind l.kind) (kind_number k) in
      let e' = sym group_covers ∙ e in
      let (px, py) : (inside x ≡ true) × (inside y ≡ true) =
      ⊎_elim
      (λ a. (and_first_true (inside x) (inside y) a, and_second_true (inside x) (inside y) a))
      (λ a. let c = and_second_true (either_way k) (named y x) a in (and_second_true (inside y) (inside x) c, and_first_true (inside y) (inside x) c))
      (or_cases (named x y) (either_way k && named y x) (and_second_true says (named x y || either_way k && named y x) e')) in
      let (lx, hx) = between_ends f s x px in
      let (ly, hy) = between_ends f s y py in
      (eqb-true (said_kind l.kind) (kind_number k) (and_first_true says (named x y || either_way k && named y x) e'), lx, hx, ly, hy)

  pub group_made : said_kind l.kind ≡ kind_number k → l.first ≤ x → x ≤ l.second → l.first ≤ y → y ≤ l.second → covers l k x y ≡ true
  group_made e lx hx ly hy =
      group_covers ∙ rw (eq-eqb (said_kind l.kind) (kind_number k) e, between_in l.first l.second x lx hx, between_in l.first l.second y ly hy) refl

-- and with no other
pub group_only : (l : Declaration) → is_group l.kind ≡ true → (k other : Kind) → said_kind l.kind ≡ kind_number k → (x y : ℕ) → covers l other x y ≡ true → other ≡ k
group_only l g k other e x y h = same_kind other k (sym (group_found l g other x y h).0 ∙ e)

-- ---- the pairs of a group

-- the first of the group, f, with the one j behind it
abbrev pair : (m f j : ℕ) → Declaration
pair m f j = record { kind = m; first = f; second = f + j }

module _ (m : ℕ) (g : is_group m ≡ false) (k : Kind) where
  pairs_found : (n f x y : ℕ) → declared_in (pairs_from m f n) k x y ≡ true → (m ≡ kind_number k) × (f ≤ x) × (x < f + n) × (f ≤ y) × (y < f + n)
  unfolding pairs_from
  pairs_found zero f x y e = absurd (false≢true (sym (declared_none k x y) ∙ e))
  pairs_found (suc n) f x y e =
      ⊎_elim
      (λ a. let (j, l, h) = declared_found (suc n) (pair m f) k x y a in
      let (kind, ends) = single_found (pair m f j) g k x y h in
      ⊎_elim (λ o. (kind, omega arith, omega arith, omega arith, omega arith)) (λ o. (kind, omega arith, omega arith, omega arith, omega arith)) ends)
      (λ a. let (kind, lx, hx, ly, hy) = pairs_found n (suc f) x y a in (kind, omega arith, omega arith, omega arith, omega arith))
      (or_cases (declared_in (tabulate (suc n) (pair m f)) k x y) (declared_in (pairs_from m (suc f) n) k x y)
      (sym (declared_append (tabulate (suc n) (pair m f)) (pairs_from m (suc f) n) k x y) ∙ e))

  module _ (e : m ≡ kind_number k) (way : either_way k ≡ true) where
    pairs_made : (n f x y : ℕ) → f ≤ x → x < f + n → f ≤ y → y < f + n → declared_in (pairs_from m f n) k x y ≡ true
    unfolding pairs_from
    pairs_made zero f x y lx hx ly hy = absurd (omega arith)
    pairs_made (suc n) f x y lx hx ly hy =
        let own = declared_in (tabulate (suc n) (pair m f)) k x y in
        let rest = declared_in (pairs_from m (suc f) n) k x y in
        declared_append (tabulate (suc n) (pair m f)) (pairs_from m (suc f) n) k x y
        ∙ by_cases (dec_lt f x)
        (λ a. by_cases (dec_lt f y)
        (λ c. or_second own rest (pairs_made n (suc f) x y (omega arith) (omega arith) (omega arith) (omega arith)))
        (λ c. or_first own rest (declared_made (suc n) (pair m f) k x y (x - f) (omega arith) (single_turned (pair m f (x - f)) g k x y e way (omega arith) (omega arith)))))
        (λ a. or_first own rest (declared_made (suc n) (pair m f) k x y (y - f) (omega arith) (single_written (pair m f (y - f)) g k x y e (omega arith) (omega arith))))

-- there are n (n + 1) / 2 of n productions
pairs_length : (m f n : ℕ) → 2 * length (pairs_from m f n) ≡ n * (n + 1)
unfolding pairs_from
pairs_length m f zero = refl
pairs_length m f (suc n) =
    omega (arith, pairs_length m (suc f) n, length-append (tabulate (suc n) (pair m f)) (pairs_from m (suc f) n), length_tabulate (suc n) (pair m f))

-- what holds of every two, the first not above the second, holds of each of them
pairs_all : (P : Declaration → Type 0) (m f n : ℕ) → ((x j : ℕ) → f ≤ x → x + j < f + n → P (pair m x j)) → All P (pairs_from m f n)
unfolding pairs_from
pairs_all P m f zero h = tt
pairs_all P m f (suc n) h =
    all_append P (tabulate (suc n) (pair m f)) (pairs_from m (suc f) n)
    (all_tabulate P (suc n) (pair m f) (λ j l. h f j (omega arith) (omega arith)))
    (pairs_all P m (suc f) n (λ x j l k. h x j (omega arith) (omega arith)))

-- ---- a list of declarations

-- the pairs of a group, so many that they end at its second production, cover what the group covers
pairs_cover : (l : Declaration) → is_group l.kind ≡ true → (n : ℕ) → ((z : ℕ) → l.first ≤ z → (z < l.first + n) ↔ (z ≤ l.second)) → (k : Kind) (x y : ℕ)
    → declared_in (pairs_from (said_kind l.kind) l.first n) k x y ≡ covers l k x y
pairs_cover l g n ends k x y =
    let m = said_kind l.kind in
    let single = said_single l.kind g in
    same_test (declared_in (pairs_from m l.first n) k x y) (covers l k x y)
    (λ e. let (kind, lx, hx, ly, hy) = pairs_found m single k n l.first x y e in group_made l g k x y kind lx ((ends x lx).0 hx) ly ((ends y ly).0 hy))
    (λ e. let (kind, lx, hx, ly, hy) = group_found l g k x y e in
    pairs_made m single k kind (said_way l.kind g k kind) n l.first x y lx ((ends x lx).1 hx) ly ((ends y ly).1 hy))

spelled_covers : (l : Declaration) (k : Kind) (x y : ℕ) → declared_in (spelled l) k x y ≡ covers l k x y
unfolding spelled
spelled_covers l k x y =
    ⊎_elim
    (λ (g : is_group l.kind ≡ true). rw g (pairs_cover l g _ (λ z h. ((λ a. omega arith), (λ a. omega arith))) k x y))
    (λ (g : is_group l.kind ≡ false). rw g (declared_one l k x y))
    (true_or_false (is_group l.kind))

-- The spelled-out list declares the same pairs.
pub spelled_declared : (ls : List Declaration) (k : Kind) (x y : ℕ) → declared_in (spelled_out ls) k x y ≡ declared_in ls k x y
unfolding spelled_out joined declared_in
spelled_declared [] k x y = refl
spelled_declared (l ∷ ls) k x y =
    declared_append (spelled l) (spelled_out ls) k x y ∙ ap₂ ◌||◌ (spelled_covers l k x y) (spelled_declared ls k x y)

-- what holds of the pairs of a group, or of a declaration of two productions, holds of what is spelled out
pub spelled_all : (P : Declaration → Type 0) (l : Declaration)
    → (is_group l.kind ≡ true → (x j : ℕ) → l.first ≤ x → x + j ≤ l.second → P (record { kind = said_kind l.kind; first = x; second = x + j }))
    → (IsOfTwo l → P l) → All P (spelled l)
unfolding spelled
spelled_all P l h own =
    ⊎_elim
    (λ (g : is_group l.kind ≡ true). rw g (pairs_all P (said_kind l.kind) l.first (l.second + 1 - l.first) (λ x j lx hy. h g x j lx (omega arith))))
    (λ (g : is_group l.kind ≡ false). rw g (own g, tt))
    (true_or_false (is_group l.kind))

-- It has no group,
pub spelled_none : (ls : List Declaration) → All IsOfTwo (spelled_out ls)
unfolding spelled_out joined
spelled_none [] = tt
spelled_none (l ∷ ls) = all_append IsOfTwo (spelled l) (spelled_out ls) (spelled_all IsOfTwo l (λ g x j lx hy. said_single l.kind g) (λ g. g)) (spelled_none ls)

-- is the list itself if that has none,
pub spelled_same : (ls : List Declaration) → All IsOfTwo ls → spelled_out ls ≡ ls
unfolding spelled_out joined spelled
spelled_same [] h = refl
spelled_same (l ∷ ls) h = rw (h.0, spelled_same ls h.1) refl

-- and of a group of n + 1 productions it has (n + 1) (n + 2) / 2 declarations: of nine, forty-five.
pub spelled_many : (kind first n : ℕ) → is_group kind ≡ true → 2 * length (spelled_out (record { kind = kind; first = first; second = first + n } ∷ [])) ≡ (n + 1) * (n + 2)
unfolding spelled_out spelled
spelled_many kind first n g =
    let l : Declaration = record { kind = kind; first = first; second = first + n } in
    let e : first + n + 1 - first ≡ n + 1 = omega arith in
    rw (joined_one spelled l, g, e) (pairs_length (said_kind kind) first (n + 1) ∙ omega arith)

-- ---- lists that declare the same pairs

through_alike : (r s : ℕ → ℕ → Bool) → ((x y : ℕ) → r x y ≡ s x y) → (n x y : ℕ) → through r n x y ≡ through s n x y
unfolding through
through_alike r s e zero x y = e x y
through_alike r s e (suc n) x y = rw (through_alike r s e n x y, through_alike r s e n x n, through_alike r s e n n y) refl

module _ (ls ms : List Declaration) (e : (k : Kind) (x y : ℕ) → declared_in ls k x y ≡ declared_in ms k x y) where
  -- have the same closed priorities
  pub higher_alike : (x y : ℕ) → HigherIn ls x y ↔ HigherIn ms x y
  higher_alike x y = (chain_map (λ u v h. sym (e higher u v) ∙ h), chain_map (λ u v h. e higher u v ∙ h))

  pub is_higher_alike : (n x y : ℕ) → is_higher_in n ls x y ≡ is_higher_in n ms x y
  unfolding is_higher_in
  is_higher_alike = through_alike (declared_in ls higher) (declared_in ms higher) (e higher)

  -- the same refusal 9
  pub circles_alike : (b : List ℕ) → circles_in b ls ≡ circles_in b ms
  unfolding circle
  circles_alike b = first_same (circle (productions b) ls) (circle (productions b) ms) (productions b) (λ p l. rw (is_higher_alike (productions b) p p) refl)

  -- and the same conflicts
  right_alike : (x y : ℕ) → right_or_nonassoc ls x y ≡ right_or_nonassoc ms x y
  unfolding right_or_nonassoc
  right_alike x y = ap₂ ◌||◌ (e right x y) (e nonassoc x y)

  left_alike : (x y : ℕ) → left_or_nonassoc ls x y ≡ left_or_nonassoc ms x y
  unfolding left_or_nonassoc
  left_alike x y = ap₂ ◌||◌ (e left x y) (e nonassoc x y)

  pub conflicts_alike : (b : List ℕ) (p i q : ℕ) → conflicts_in b ls p i q ≡ conflicts_in b ms p i q
  unfolding conflicts_in barred
  conflicts_alike b p i q = rw (is_higher_alike (productions b) p q, right_alike p q, left_alike p q) refl

-- a conflict by one list is one by the other
pub conflict_carried : (ls ms : List Declaration) → ((k : Kind) (x y : ℕ) → declared_in ls k x y ≡ declared_in ms k x y)
    → {b : List ℕ} {p i q : ℕ} → ConflictIn b ls p i q → ConflictIn b ms p i q
conflict_carried ls ms e {p = p} {q = q} (anywhere fit h) = anywhere fit ((higher_alike ls ms e p q).0 h)
conflict_carried ls ms e {p = p} {q = q} (at_first fit f h) = at_first fit f (sym (right_alike ls ms e p q) ∙ h)
conflict_carried ls ms e {p = p} {q = q} (at_last fit f h) = at_last fit f (sym (left_alike ls ms e p q) ∙ h)
