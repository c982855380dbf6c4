-- Laws of lists made of a function, and of lists.
use Prim.Native.Nat.{ℕ, zero, suc, ◌+◌, ◌-◌, ◌≤◌, ◌<◌}
use mathlib.Core.Path.{◌≡◌, refl, sym, ◌∙◌, ap}
use mathlib.Core.List.{List, [], ◌∷◌, ◌++◌, append_assoc, append-nil}
use mathlib.Core.Logic.{by_cases}
use native.Mathlib.Omega.{arith}
use native.Mathlib.Decide.{dec_lt}
use native.Mathlib.Nat.{le_refl}
use native.Mathlib.Numerals.{add-one}
use lib.ListN.{length, get_or, take, drop, replicate, length-append, length-replicate, get_or-replicate, get_or-append, get_or-eq_default}
use lib.Seq.{get_or_at, drop_at, take-add, length-take-le, ext_get_or, slice}
use Rattle.common.specs.Lists.{tabulate, joined}

-- ---- a list made of a function

pub length_tabulate : {A : Type 0} (n : ℕ) (f : ℕ → A) → length (tabulate n f) ≡ n
unfolding tabulate
length_tabulate zero f = refl
length_tabulate (suc n) f = length-append (tabulate n f) (f n ∷ []) ∙ rw (length_tabulate n f) (omega arith)

pub get_d_tabulate : {A : Type 0} (n : ℕ) (f : ℕ → A) (i : ℕ) (d : A) → i < n → get_or (tabulate n f) i d ≡ f i
unfolding tabulate
get_d_tabulate zero f i d h = absurd (omega arith)
get_d_tabulate (suc n) f i d h =
    by_cases (dec_lt i n)
    (λ l. get_or-append (tabulate n f) (f n ∷ []) d i (omega (arith, length_tabulate n f)) ∙ get_d_tabulate n f i d l)
    (λ m. let e : n ≡ i = omega arith in get_or_at (tabulate n f) (f n) [] d i (length_tabulate n f ∙ e) ∙ ap f e)

pub tabulate_next : {A : Type 0} (n : ℕ) (f : ℕ → A) → tabulate (n + 1) f ≡ tabulate n f ++ (f n ∷ [])
unfolding tabulate
tabulate_next n f = rw add-one refl

-- functions that agree below n make the same list
pub tabulate_same : {A : Type 0} (n : ℕ) (f g : ℕ → A) → ((i : ℕ) → i < n → f i ≡ g i) → tabulate n f ≡ tabulate n g
unfolding tabulate
tabulate_same zero f g h = refl
tabulate_same (suc n) f g h = rw (tabulate_same n f g (λ i l. h i (omega arith)), h n (omega arith)) refl

-- a list is made of the function that gives its members
pub tabulate_members : {A : Type 0} (d : A) (f : ℕ → A) (l : List A) → ((i : ℕ) → i < length l → f i ≡ get_or l i d) → tabulate (length l) f ≡ l
tabulate_members d f l h =
    let long = length_tabulate (length l) f in
    ext_get_or d (tabulate (length l) f) l long (λ i k. let m : i < length l = omega (arith, long) in get_d_tabulate (length l) f i d m ∙ h i m)

-- ---- lists joined

pub joined_append : {A B : Type 0} (f : A → List B) (a b : List A) → joined f (a ++ b) ≡ joined f a ++ joined f b
unfolding joined
joined_append f [] b = refl
joined_append f (x ∷ a) b = rw (joined_append f a b) (sym (append_assoc (f x) (joined f a) (joined f b)))

pub joined_one : {A B : Type 0} (f : A → List B) (a : A) → joined f (a ∷ []) ≡ f a
unfolding joined
joined_one f a = append-nil (f a)

pub joined_tabulate_next : {A B : Type 0} (f : A → List B) (n : ℕ) (g : ℕ → A) → joined f (tabulate (n + 1) g) ≡ joined f (tabulate n g) ++ f (g n)
joined_tabulate_next f n g = rw (tabulate_next n g, joined_append f (tabulate n g) (g n ∷ []), joined_one f (g n)) refl

-- what is joined of fewer is no longer
pub joined_grows : {A B : Type 0} (f : A → List B) (g : ℕ → A) (i n : ℕ) → i ≤ n → length (joined f (tabulate i g)) ≤ length (joined f (tabulate n g))
joined_grows f g i zero l = let e : i ≡ zero = omega arith in rw e (le_refl (length (joined f (tabulate zero g))))
joined_grows f g i (suc n) l =
    by_cases (dec_lt n i)
    (λ h. let e : i ≡ suc n = omega arith in rw e (le_refl (length (joined f (tabulate (suc n) g)))))
    (λ h. omega (arith, joined_grows f g i n (omega arith), ap length (rw add-one at (joined_tabulate_next f n g)), length-append (joined f (tabulate n g)) (f (g n))))

-- ---- a part of a list

-- the part that a slice from i to j lends
pub part_slice : {A : Type 0} (l : List A) (i j : ℕ) → i ≤ j → j ≤ length l → take (j - i) (drop i l) ≡ slice i j l
part_slice {A} l i j h k =
    let e : i + (j - i) ≡ j = omega arith in
    sym (ap (λ (n : ℕ). drop i (take n l)) (sym e) ∙ ap (drop i) (take-add i (j - i) l) ∙ drop_at (take i l) (take (j - i) (drop i l)) i (length-take-le i l (omega arith)))

-- at a place that is there it doesn't matter what stands for one that isn't
pub get_d_there : {A : Type 0} (l : List A) (i : ℕ) (d e : A) → i < length l → get_or l i d ≡ get_or l i e
get_d_there [] i d e h = absurd (omega arith)
get_d_there (a ∷ l) zero d e h = refl
get_d_there (a ∷ l) (suc i) d e h = get_d_there l i d e (omega arith)

-- a list of one thing has it everywhere, if that thing also stands for a place that isn't there
pub get_d_all : {A : Type 0} (n : ℕ) (a : A) (i : ℕ) → get_or (replicate n a) i a ≡ a
get_d_all n a i =
    by_cases (dec_lt i n)
    (λ l. get_or-replicate n i a a l)
    (λ l. let out : length (replicate n a) ≤ i = omega (arith, length-replicate n a) in get_or-eq_default (replicate n a) a out)
