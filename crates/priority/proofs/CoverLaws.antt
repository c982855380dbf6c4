-- Laws of lists of declarations: what one more covers, in the list and in a table of pairs.
use Prim.Native.Nat.{ℕ, zero, suc, ◌+◌, ◌≤◌, ◌<◌}
use mathlib.Core.Path.{◌≡◌, refl, sym, ◌∙◌, ap, ap₂}
use mathlib.Core.Bool.{Bool, false, true, not, ◌&&◌, ◌||◌, false≢true, and_comm, and-true, and-false, or_self, or-true, or-false, or_comm, or_assoc}
use mathlib.Core.List.{List, [], ◌∷◌, ◌++◌}
use mathlib.Core.Logic.{⊎_elim, by_cases}
use native.Mathlib.Omega.{arith}
use native.Mathlib.Decide.{ℕ_discrete, dec_lt}
use lib.Dec.{eqb}
use lib.ListN.{get_or, set}
use borrow.Author.Tests.{eqb-true, ne_eqb}
use Rattle.common.proofs.BelowLaws.{between_in}
use Rattle.common.proofs.BoolLaws.{or_cases, or_first, or_second, and_both, and_first_true, and_second_true, true_or_false}
use Rattle.common.proofs.ListLaws.{tabulate_next}
use Rattle.common.specs.Below.{between}
use Rattle.common.specs.Lists.{tabulate}
use Rattle.grammar.specs.Check.{is_group}
use Rattle.priority.proofs.TableLaws.{square_put, entry_put_or}
use Rattle.priority.specs.Chain.{entry, Square}
use Rattle.priority.specs.Priorities.{Kind, higher, left, right, nonassoc, kind_number, said_kind, either_way, names_pair, covers, declared_in}
use Rattle.priority.specs.declared.Declaration.{Declaration}

-- ---- lists

pub declared_none : (k : Kind) (x y : ℕ) → declared_in [] k x y ≡ false
unfolding declared_in
declared_none k x y = refl

pub declared_append : (ls ms : List Declaration) (k : Kind) (x y : ℕ) → declared_in (ls ++ ms) k x y ≡ (declared_in ls k x y || declared_in ms k x y)
unfolding declared_in
declared_append [] ms k x y = refl
declared_append (l ∷ ls) ms k x y =
    ap (λ (v : Bool). covers l k x y || v) (declared_append ls ms k x y) ∙ sym (or_assoc (covers l k x y) (declared_in ls k x y) (declared_in ms k x y))

pub declared_one : (l : Declaration) (k : Kind) (x y : ℕ) → declared_in (l ∷ []) k x y ≡ covers l k x y
unfolding declared_in
declared_one l k x y = or-false (covers l k x y)

-- one declaration more
pub declared_next : (n : ℕ) (f : ℕ → Declaration) (k : Kind) (x y : ℕ) → declared_in (tabulate (n + 1) f) k x y ≡ (declared_in (tabulate n f) k x y || covers (f n) k x y)
declared_next n f k x y =
    rw (tabulate_next n f, declared_append (tabulate n f) (f n ∷ []) k x y, declared_one (f n) k x y) refl

-- the declaration that covers a declared pair
pub declared_found : (n : ℕ) (f : ℕ → Declaration) (k : Kind) (x y : ℕ) → declared_in (tabulate n f) k x y ≡ true → (d : ℕ) × (d < n) × (covers (f d) k x y ≡ true)
unfolding tabulate
declared_found zero f k x y e = absurd (false≢true (sym (declared_none k x y) ∙ e))
declared_found (suc n) f k x y e =
    ⊎_elim
    (λ a. let (d, l, h) = declared_found n f k x y a in (d, omega arith, h))
    (λ a. (n, omega arith, sym (declared_one (f n) k x y) ∙ a))
    (or_cases (declared_in (tabulate n f) k x y) (declared_in (f n ∷ []) k x y) (sym (declared_append (tabulate n f) (f n ∷ []) k x y) ∙ e))

pub declared_made : (n : ℕ) (f : ℕ → Declaration) (k : Kind) (x y d : ℕ) → d < n → covers (f d) k x y ≡ true → declared_in (tabulate n f) k x y ≡ true
unfolding tabulate
declared_made zero f k x y d l e = absurd (omega arith)
declared_made (suc n) f k x y d l e =
    let earlier = declared_in (tabulate n f) k x y in
    let last = declared_in (f n ∷ []) k x y in
    declared_append (tabulate n f) (f n ∷ []) k x y
    ∙ by_cases (dec_lt d n)
    (λ h. or_first earlier last (declared_made n f k x y d h e))
    (λ h. let same : d ≡ n = omega arith in or_second earlier last (declared_one (f n) k x y ∙ ap (λ (m : ℕ). covers (f m) k x y) (sym same) ∙ e))

-- a kind that holds either way round covers a pair as it covers the pair turned
covers_turned : (l : Declaration) (k : Kind) (x y : ℕ) → either_way k ≡ true → covers l k x y ≡ covers l k y x
unfolding covers
covers_turned l k x y e =
    rw e (ap (λ (v : Bool). eqb (said_kind l.kind) (kind_number k) && v) (or_comm (names_pair l x y) (names_pair l y x)))

pub declared_turned : (ls : List Declaration) (k : Kind) (x y : ℕ) → either_way k ≡ true → declared_in ls k x y ≡ declared_in ls k y x
unfolding declared_in
declared_turned [] k x y e = refl
declared_turned (l ∷ ls) k x y e = ap₂ ◌||◌ (covers_turned l k x y e) (declared_turned ls k x y e)

-- ---- kinds by their numbers

-- of a declaration that says kind k: it holds either way round exactly if its number is not that of "higher"
way_number : (n : ℕ) (k : Kind) → (eqb n (kind_number k) && either_way k) ≡ (eqb n (kind_number k) && not (eqb n (kind_number higher)))
unfolding kind_number either_way
way_number n higher = never (eqb n (kind_number higher))
  where
    never : (v : Bool) → (v && false) ≡ (v && not v)
    never true = refl
    never false = refl
way_number n left = elim (ℕ_discrete n (kind_number left)) [ yes e ↦ rw e refl | no e ↦ rw (ne_eqb n (kind_number left) e) refl ]
way_number n right = elim (ℕ_discrete n (kind_number right)) [ yes e ↦ rw e refl | no e ↦ rw (ne_eqb n (kind_number right) e) refl ]
way_number n nonassoc = elim (ℕ_discrete n (kind_number nonassoc)) [ yes e ↦ rw e refl | no e ↦ rw (ne_eqb n (kind_number nonassoc) e) refl ]

-- the pair as it is written, and turned round unless the number is that of "higher"
covers_number : (l : Declaration) (k : Kind) (x y : ℕ)
    → covers l k x y ≡ (eqb (said_kind l.kind) (kind_number k) && (names_pair l x y || not (eqb (said_kind l.kind) (kind_number higher)) && names_pair l y x))
unfolding covers
covers_number l k x y =
    let said = said_kind l.kind in
    same (eqb said (kind_number k)) (either_way k) (not (eqb said (kind_number higher))) (names_pair l x y) (names_pair l y x) (way_number said k)
  where
    same : (v e g m n : Bool) → (v && e) ≡ (v && g) → (v && (m || e && n)) ≡ (v && (m || g && n))
    same true e g m n h = ap (λ (w : Bool). m || w && n) h
    same false e g m n h = refl

-- ---- a table that takes up one declaration more

either_kind : (v w g m n : Bool) → ((v || w) && m || ((v || w) && g) && n) ≡ (v && (m || g && n) || w && (m || g && n))
either_kind true true g m n = sym (or_self (m || g && n))
either_kind true false g m n = sym (or-false (m || g && n))
either_kind false w g m n = spread w g m n
  where
    spread : (w g m n : Bool) → (w && m || (w && g) && n) ≡ (w && (m || g && n))
    spread true g m n = refl
    spread false g m n = refl

-- what a declaration names, as it is written and turned round, is what it covers with the one kind or the other
names_covered : (l : Declaration) (k k' : Kind) (x y : ℕ) (written turned : Bool)
    → written ≡ (eqb (said_kind l.kind) (kind_number k) || eqb (said_kind l.kind) (kind_number k'))
    → turned ≡ (written && not (eqb (said_kind l.kind) (kind_number higher)))
    → (written && names_pair l x y || turned && names_pair l y x) ≡ (covers l k x y || covers l k' x y)
names_covered l k k' x y written turned e f =
    let said = said_kind l.kind in
    rw (f, e, covers_number l k x y, covers_number l k' x y)
    (either_kind (eqb said (kind_number k)) (eqb said (kind_number k')) (not (eqb said (kind_number higher))) (names_pair l x y) (names_pair l y x))

-- the ends of a group are in it
ends_between : (first second x y : ℕ) → first ≤ second → (eqb first x && eqb second y) ≡ true → (between first second x && between first second y) ≡ true
ends_between first second x y h e =
    let f = eqb-true first x (and_first_true (eqb first x) (eqb second y) e) in
    let s = eqb-true second y (and_second_true (eqb first x) (eqb second y) e) in
    and_both (between first second x) (between first second y) (between_in first second x (omega arith) (omega arith)) (between_in first second y (omega arith) (omega arith))

-- so a table with the square of a group, in which its ends are marked too, has what the group names
square_named : (written way ends back square : Bool) → (ends ≡ true → square ≡ true) → (back ≡ true → square ≡ true)
    → ((written && ends || (written && way) && back) || written && square) ≡ (written && square || (written && way) && square)
square_named false way ends back square f g = refl
square_named true way ends back true f g = or-true (ends || way && back)
square_named true way true back false f g = absurd (false≢true (f refl))
square_named true way false true false f g = absurd (false≢true (g refl))
square_named true way false false false f g = or-false (way && false)

-- what code marks for a declaration, its two productions and the square of its group, is what it names
marks_named : (l : Declaration) (x y : ℕ) (written turned way : Bool) → (is_group l.kind ≡ true → l.first ≤ l.second) → turned ≡ (written && way)
    → ((written && (eqb l.first x && eqb l.second y) || turned && (eqb l.first y && eqb l.second x))
    || (written && is_group l.kind) && (between l.first l.second x && between l.first l.second y))
    ≡ (written && names_pair l x y || turned && names_pair l y x)
unfolding names_pair
marks_named l x y written turned way rises e =
    let f = l.first in
    let s = l.second in
    ⊎_elim
    (λ (g : is_group l.kind ≡ true). rw (e, g) (rw (and-true written)
    (square_named written way (eqb f x && eqb s y) (eqb f y && eqb s x) (between f s x && between f s y)
    (ends_between f s x y (rises g))
    (λ h. and_comm (between f s x) (between f s y) ∙ ends_between f s y x (rises g) h)
    ∙ ap (λ (v : Bool). written && (between f s x && between f s y) || (written && way) && v) (and_comm (between f s x) (between f s y)))))
    (λ (g : is_group l.kind ≡ false). rw g (rw (and-false written) (or-false (written && (eqb f x && eqb s y) || turned && (eqb f y && eqb s x)))))
    (true_or_false (is_group l.kind))

-- two lists, each with one test more
or_swapped : (a b c d : Bool) → ((a || c) || (b || d)) ≡ ((a || b) || (c || d))
or_swapped true b c d = refl
or_swapped false b true d = or_comm true b
or_swapped false b false d = refl

turned_pair : (a v w f₁ s₁ f₂ s₂ g : Bool) → (((a || v && (f₁ && s₁)) || w && (s₂ && f₂)) || g) ≡ (a || ((v && (f₁ && s₁) || w && (f₂ && s₂)) || g))
turned_pair a v w f₁ s₁ f₂ s₂ g =
    ap (λ (z : Bool). z || g) (or_assoc a (v && (f₁ && s₁)) (w && (s₂ && f₂)) ∙ ap (λ (z : Bool). a || (v && (f₁ && s₁) || w && z)) (and_comm s₂ f₂))
    ∙ or_assoc a (v && (f₁ && s₁) || w && (f₂ && s₂)) g

module _ (n d : ℕ) (f : ℕ → Declaration) (l : Declaration) (own : l ≡ f d) (t : List (List Bool)) (q : Square n t) (hf : l.first < n) (hs : l.second < n)
    (rises : is_group l.kind ≡ true → l.first ≤ l.second) (k k' : Kind)
    (now : (x y : ℕ) → entry t x y ≡ (declared_in (tabulate d f) k x y || declared_in (tabulate d f) k' x y))
    (written turned v w : Bool) (ew : written ≡ (eqb (said_kind l.kind) (kind_number k) || eqb (said_kind l.kind) (kind_number k')))
    (et : turned ≡ (written && not (eqb (said_kind l.kind) (kind_number higher)))) where
  abbrev once : List (List Bool)
  once = set t l.first (set (get_or t l.first []) l.second v)

  abbrev twice : List (List Bool)
  twice = set once l.second (set (get_or once l.second []) l.first w)

  -- the table with the declaration's pair written, the pair turned round, and the square of a group
  pub pairs_more : v ≡ (entry t l.first l.second || written) → w ≡ (entry once l.second l.first || turned) → (wider : List (List Bool))
      → ((x y : ℕ) → entry wider x y ≡ (entry twice x y || (written && is_group l.kind) && (between l.first l.second x && between l.first l.second y)))
      → (x y : ℕ) → entry wider x y ≡ (declared_in (tabulate (d + 1) f) k x y || declared_in (tabulate (d + 1) f) k' x y)
  pairs_more e₁ e₂ wider e₃ x y =
      let s = square_put n t l.first l.second v q hf hs in
      let one = entry_put_or n t l.first l.second v written q hf hs e₁ x y in
      let two = entry_put_or n once l.second l.first w turned s hs hf e₂ x y in
      let old = declared_in (tabulate d f) k x y in
      let old' = declared_in (tabulate d f) k' x y in
      let square = (written && is_group l.kind) && (between l.first l.second x && between l.first l.second y) in
      e₃ x y
      ∙ ap (λ (z : Bool). z || square) (two ∙ ap (λ (z : Bool). z || turned && (eqb l.second x && eqb l.first y)) (one ∙ ap (λ (z : Bool). z || written && (eqb l.first x && eqb l.second y)) (now x y)))
      ∙ turned_pair (old || old') written turned (eqb l.first x) (eqb l.second y) (eqb l.first y) (eqb l.second x) square
      ∙ ap (λ (z : Bool). (old || old') || z) (marks_named l x y written turned (not (eqb (said_kind l.kind) (kind_number higher))) rises et ∙ names_covered l k k' x y written turned ew et)
      ∙ or_swapped old (covers l k x y) old' (covers l k' x y)
      ∙ ap (λ (m : Declaration). (old || covers m k x y) || (old' || covers m k' x y)) own
      ∙ sym (ap₂ ◌||◌ (declared_next d f k x y) (declared_next d f k' x y))
