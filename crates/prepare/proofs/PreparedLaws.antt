-- Laws of what is prepared: its parts, written one after the other.
use Prim.Native.Nat.{ℕ, ◌+◌, ◌-◌, ◌≤◌, ◌<◌}
use mathlib.Core.Path.{◌≡◌, sym, ◌∙◌, ap, subst, subst₂, subst⁻¹}
use mathlib.Core.List.{List, ◌++◌}
use mathlib.Core.Logic.{by_cases}
use native.Mathlib.Omega.{arith}
use native.Mathlib.Decide.{dec_lt}
use lib.ListN.{length, get_or, take, drop, length-drop, length-append, get_or-eq_default}
use lib.Seq.{length-take-le, get_or-take, get_or-drop, ext_get_or, take_at, drop_at}
use borrow.Rule.Slice.PartMut.{put_mid, same_len_mid, take_put}
use Rattle.common.specs.Zeros.{AllZero}
use Rattle.empty.specs.Empty.{EmptyRight}
use Rattle.layout.specs.Limits.{production_limit}
use Rattle.links.proofs.LinkedLaws.{linked_links, linked_users}
use Rattle.links.specs.Linked.{UsersTo, UsesTo}
use Rattle.prepare.specs.Prepared.{uses_at, counts_at, empty_at, back_at, prepared_bytes, users_in, uses_in, counts_in, empty_in, back_in, Linked, Prepared}
use Rattle.span.specs.Tables.{Links, UsersAre}
use Rattle.tables.proofs.LayoutLaws.{counts_few}
use Rattle.tables.specs.Layout.{slot, counts_of, takes_production, ParserTables}
use Rattle.tables.specs.Theory.{theory_of}

-- ---- parts of a list

pub part_long : (a k : ℕ) (xs : List ℕ) → a + k ≤ length xs → length (take k (drop a xs)) ≡ k
part_long a k xs l = length-take-le k (drop a xs) (omega (arith, length-drop a xs))

module _ (a k : ℕ) (xs ys : List ℕ) (inside : a + k ≤ length xs) (long : length ys ≡ k) where
  -- a part that was written
  pub part_here : take k (drop a (put_mid a k xs ys)) ≡ ys
  part_here = ap (take k) (drop_at (take a xs) (ys ++ drop k (drop a xs)) a (length-take-le a xs (omega arith))) ∙ take_at ys (drop k (drop a xs)) k long

  pub put_long : length (put_mid a k xs ys) ≡ length xs
  put_long = same_len_mid a k xs ys (long ∙ sym (part_long a k xs inside))

  before : (i : ℕ) → i < a → get_or (put_mid a k xs ys) i 0 ≡ get_or xs i 0
  before i l = sym (get_or-take a (put_mid a k xs ys) i 0 l) ∙ ap (λ (m : List ℕ). get_or m i 0) (take_put a k xs ys (omega arith)) ∙ get_or-take a xs i 0 l

  -- a part before it is as it was
  pub part_before : (a' k' : ℕ) → a' + k' ≤ a → take k' (drop a' (put_mid a k xs ys)) ≡ take k' (drop a' xs)
  part_before a' k' l =
      let whole : length (take k' (drop a' (put_mid a k xs ys))) ≡ k' = part_long a' k' (put_mid a k xs ys) (omega (arith, put_long)) in
      let whole' : length (take k' (drop a' xs)) ≡ k' = part_long a' k' xs (omega arith) in
      ext_get_or 0 (take k' (drop a' (put_mid a k xs ys))) (take k' (drop a' xs)) (whole ∙ sym whole')
      (λ i h. get_or-take k' (drop a' (put_mid a k xs ys)) i 0 (omega arith) ∙ get_or-drop a' (put_mid a k xs ys) i 0 ∙ before (a' + i) (omega arith) ∙ sym (get_or-drop a' xs i 0) ∙ sym (get_or-take k' (drop a' xs) i 0 (omega arith)))

-- a first part of zeros
pub front_zeros : (n m : ℕ) (b : List ℕ) → n ≤ m → AllZero m b → AllZero n (take n b)
front_zeros n m b l z =
    record {
      long = long;
      zeros = λ k. by_cases (dec_lt k n)
          (λ h. get_or-take n b k 0 h ∙ z.zeros k)
          (λ h. get_or-eq_default (take n b) 0 (omega (arith, long)));
    }
  where
    long : length (take n b) ≡ n
    long = length-take-le n b (omega (arith, z.long))

-- ---- what is prepared

-- the links
module _ (t : List ℕ) (parsed : ParserTables t) (b users uses : List ℕ) (long : length b ≡ prepared_bytes)
    (u : UsersTo (counts_of t) t (length (counts_of t)) users) (s : UsesTo (counts_of t) t (length (counts_of t)) uses) where
  front : List ℕ
  front = users ++ drop uses_at b

  pub front_long : length (users ++ drop uses_at b) ≡ prepared_bytes
  front_long = length-append users (drop uses_at b) ∙ omega (arith, u.long, length-drop uses_at b)

  both : List ℕ
  both = put_mid uses_at (counts_at - uses_at) front uses

  inside : uses_at + (counts_at - uses_at) ≤ length front
  unfolding front
  inside = omega (arith, front_long)

  users_same : users_in both ≡ users
  unfolding front both
  users_same = part_before uses_at (counts_at - uses_at) front uses inside s.long 0 uses_at (omega arith) ∙ take_at users (drop uses_at b) uses_at u.long

  uses_same : uses_in both ≡ uses
  unfolding both
  uses_same = part_here uses_at (counts_at - uses_at) front uses inside s.long

  pub linked : Linked t (put_mid uses_at (counts_at - uses_at) (users ++ drop uses_at b) uses)
  unfolding front both
  linked =
      record {
        long = put_long uses_at (counts_at - uses_at) front uses inside s.long ∙ front_long;
        links = subst₂ (Links (counts_of t)) (sym users_same) (sym uses_same) (linked_links (counts_of t) t (counts_few t parsed) parsed.few_arguments users uses u s);
        users = subst (λ (x : List ℕ). UsersAre (counts_of t) x (λ (p d q : ℕ). takes_production t (slot p d) q)) (sym users_same) (linked_users (counts_of t) t (counts_few t parsed) parsed.few_arguments users uses u s);
      }

-- what is put behind the links
pub linked_kept : (t b ys : List ℕ) (a k : ℕ) → counts_at ≤ a → a + k ≤ prepared_bytes → length ys ≡ k → Linked t b → Linked t (put_mid a k b ys)
linked_kept t b ys a k l h e r =
    let inside : a + k ≤ length b = omega (arith, r.long) in
    let users : users_in (put_mid a k b ys) ≡ users_in b = part_before a k b ys inside e 0 uses_at (omega arith) in
    let uses : uses_in (put_mid a k b ys) ≡ uses_in b = part_before a k b ys inside e uses_at (counts_at - uses_at) (omega arith) in
    record {
      long = put_long a k b ys inside e ∙ r.long;
      links = subst₂ (Links (counts_of t)) (sym users) (sym uses) r.links;
      users = subst (λ (x : List ℕ). UsersAre (counts_of t) x (λ (p d q : ℕ). takes_production t (slot p d) q)) (sym users) r.users;
    }

-- the argument counts, the empty span, and what is behind it, put one after the other
module _ (t b counts empty back : List ℕ) (few : length (counts_of t) ≤ production_limit) (are : counts ≡ counts_of t)
    (e : length empty ≡ back_at - empty_at) (k : length back ≡ prepared_bytes - back_at) (l : Linked t b) where
  n : ℕ
  n = counts_at + length counts - counts_at

  counted : List ℕ
  counted = put_mid counts_at n b counts

  with_cells : List ℕ
  with_cells = put_mid empty_at (back_at - empty_at) counted empty

  all : List ℕ
  all = put_mid back_at (prepared_bytes - back_at) with_cells back

  long₀ : length counts ≡ n
  unfolding n
  long₀ = omega arith

  inside₀ : counts_at + n ≤ empty_at
  inside₀ = omega (arith, long₀, ap length are)

  l₁ : Linked t counted
  unfolding counted
  l₁ = linked_kept t b counts counts_at n (omega arith) (omega (arith, inside₀)) long₀ l

  l₂ : Linked t with_cells
  unfolding with_cells
  l₂ = linked_kept t counted empty empty_at (back_at - empty_at) (omega arith) (omega arith) e l₁

  inside₁ : empty_at + (back_at - empty_at) ≤ length counted
  inside₁ = omega (arith, l₁.long)

  inside₂ : back_at + (prepared_bytes - back_at) ≤ length with_cells
  inside₂ = omega (arith, l₂.long)

  counts_same : counts_in (length counts) all ≡ counts
  unfolding n counted with_cells all
  counts_same =
      part_before back_at (prepared_bytes - back_at) with_cells back inside₂ k counts_at n (omega (arith, inside₀))
      ∙ part_before empty_at (back_at - empty_at) counted empty inside₁ e counts_at n inside₀
      ∙ part_here counts_at n b counts (omega (arith, inside₀, l.long)) long₀

  cells_same : empty_in all ≡ empty
  unfolding with_cells all
  cells_same = part_before back_at (prepared_bytes - back_at) with_cells back inside₂ k empty_at (back_at - empty_at) (omega arith) ∙ part_here empty_at (back_at - empty_at) counted empty inside₁ e

  back_same : back_in all ≡ back
  unfolding all
  back_same = part_here back_at (prepared_bytes - back_at) with_cells back inside₂ k

  pub all_prepared : EmptyRight (theory_of t) empty back
      → Prepared t (put_mid back_at (prepared_bytes - back_at) (put_mid empty_at (back_at - empty_at) (put_mid counts_at (counts_at + length counts - counts_at) b counts) empty) back)
  unfolding n counted with_cells all
  all_prepared r =
      record {
        linked = linked_kept t with_cells back back_at (prepared_bytes - back_at) (omega arith) (omega arith) k l₂;
        counts = ap (λ (m : ℕ). counts_in m all) (sym (ap length are)) ∙ counts_same ∙ are;
        empty = subst₂ (EmptyRight (theory_of t)) (sym cells_same) (sym back_same) r;
      }

-- the same if what is put there are copies
pub copies_prepared : (t b counts counts' empty empty' back back' : List ℕ) → counts' ≡ counts → empty' ≡ empty → back' ≡ back
    → length (counts_of t) ≤ production_limit → counts ≡ counts_of t → length empty ≡ back_at - empty_at → length back ≡ prepared_bytes - back_at → Linked t b → EmptyRight (theory_of t) empty back
    → Prepared t (put_mid back_at (prepared_bytes - back_at) (put_mid empty_at (back_at - empty_at) (put_mid counts_at (counts_at + length counts - counts_at) b counts') empty') back')
copies_prepared t b counts counts' empty empty' back back' p q r few are e k l right =
    subst⁻¹ (λ (x : List ℕ). Prepared t (put_mid back_at (prepared_bytes - back_at) (put_mid empty_at (back_at - empty_at) (put_mid counts_at (counts_at + length counts - counts_at) b x) empty') back')) p
    (subst⁻¹ (λ (x : List ℕ). Prepared t (put_mid back_at (prepared_bytes - back_at) (put_mid empty_at (back_at - empty_at) (put_mid counts_at (counts_at + length counts - counts_at) b counts) x) back')) q
    (subst⁻¹ (λ (x : List ℕ). Prepared t (put_mid back_at (prepared_bytes - back_at) (put_mid empty_at (back_at - empty_at) (put_mid counts_at (counts_at + length counts - counts_at) b counts) empty) x)) r
    (all_prepared t b counts empty back few are e k l right)))

-- the argument counts, as code reads them
pub counts_read : (t b : List ℕ) (n : ℕ) → n ≡ length (counts_of t) → Prepared t b → counts_in n b ≡ counts_of t
counts_read t b n e p = ap (λ (m : ℕ). counts_in m b) e ∙ p.counts
