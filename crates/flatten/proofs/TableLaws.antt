-- Laws of the flat tables as they are written: what a class has, one class more, one production more.
use Prim.Native.Nat.{◌*◌, ◌/◌, ◌%◌, ◌^◌, ℕ, ◌+◌, ◌-◌, ◌≤◌, ◌<◌}
use mathlib.Core.Bool.{or-true, or-false, and-false, Bool, false, true, not, ◌&&◌, ◌||◌}
use mathlib.Core.Path.{sym, ◌≡◌, refl, ◌∙◌, ap}
use mathlib.Core.List.{List, []}
use mathlib.Core.Logic.{◌↔◌, ◌≢◌, by_cases}
use native.Mathlib.Omega.{arith}
use native.Mathlib.Decide.{ℕ_discrete, dec_lt}
use lib.Bits.{bit_or}
use lib.ListN.{set, replicate, length-set, length-replicate, get_or-replicate, length, get_or, drop, length-drop, get_or-eq_default}
use lib.Seq.{get_or-set_same, get_or-set_other, length-take-le, get_or-take, get_or-drop}
use lib.Dec.{leb, ltb, eqb}
use borrow.Author.Tests.{le-leb, lt-leb, eq-eqb, lt-ltb, le-ltb, ne_eqb}
use Rattle.charset.proofs.BitsLaws.{one_bit}
use Rattle.charset.proofs.BitLaws.{bit_or_lem, bit_zero}
use Rattle.charset.specs.Set.{bit, has, word_bits, characters}
use Rattle.classes.specs.Classes.{is_class, class_has}
use Rattle.flatten.specs.Tables.{BarringSets, result_words, result_has, ByResult, FlatTables, BarringRows, count_bytes, ArgumentWritten, RootWritten, WrittenBelow}
use Rattle.tables.specs.Layout.{production_words, slot, root_slot, arity_in}
use Rattle.flatten.specs.Flat.{may_stand, may_stand_in}
use Rattle.common.proofs.BoolLaws.{eqb_sym, taken_out}
use Rattle.grammar.specs.Formed.{WellFormed}
use Rattle.layout.proofs.FramedLaws.{bodies_in}
use Rattle.layout.specs.Layout.{productions, start_sort, argument_count, result_sort, argument}
use Rattle.layout.specs.Limits.{sort_limit, production_limit, argument_limit, class_base, header_length}
use Rattle.priority.proofs.ConflictLaws.{fits_result}
use Rattle.priority.proofs.PriorityLaws.{table_higher}
use Rattle.priority.specs.Chain.{entry}
use Rattle.priority.specs.Conflict.{fits, is_first, is_last, right_or_nonassoc, left_or_nonassoc, barred, conflicts_in}
use Rattle.priority.specs.Priorities.{left, right, nonassoc, kind_number, DeclaredPairs, Higher, declarations_of}
use Rattle.tables.proofs.LayoutLaws.{slot_in}
use Rattle.tables.proofs.PutLaws.{put_counts, put_tables, char_stays, production_stays, counts_stay}
use Rattle.tables.specs.Put.{CountsPut, ClassPut}

-- ---- what is barred at an argument

pub barred_set : (b : List ℕ) (p i count : ℕ) (above firsts lasts : List ℕ) → BarringSets b p above firsts lasts → count ≡ argument_count b p → (q : ℕ) → q < production_limit
    → (has above q || (eqb i 0 && leb 2 count) && has firsts q || (eqb (i + 1) count && leb 2 count) && has lasts q) ≡ barred b (declarations_of b) p i q
unfolding barred is_first is_last
barred_set b p i count above firsts lasts r e q l = rw (r.higher_set q l, r.first_set q l, r.last_set q l, e) refl

pub barring_rows : (b : List ℕ) → WellFormed b → (above firsts lasts : List (List Bool)) → ((x y : ℕ) → (entry above x y ≡ true) ↔ Higher b x y)
    → DeclaredPairs b (kind_number right) (kind_number nonassoc) firsts → DeclaredPairs b (kind_number left) (kind_number nonassoc) lasts
    → (p : ℕ) → BarringRows b p (get_or above p []) (get_or firsts p []) (get_or lasts p [])
unfolding entry right_or_nonassoc left_or_nonassoc
barring_rows b w above firsts lasts h f l p =
    record {
      higher_row = λ q. table_higher b w above h p q;
      first_row = f right nonassoc refl refl p;
      last_row = l left nonassoc refl refl p;
    }

-- a row as a set
abbrev pub SetOf : List Bool → List ℕ → Type 0
SetOf row set = (q : ℕ) → q < production_limit → has set q ≡ get_or row q false

pub barring_sets : {b : List ℕ} {p : ℕ} {above firsts lasts : List Bool} → BarringRows b p above firsts lasts → (above' firsts' lasts' : List ℕ)
    → SetOf above above' → SetOf firsts firsts' → SetOf lasts lasts' → BarringSets b p above' firsts' lasts'
barring_sets r above' firsts' lasts' a f l =
    record {
      higher_set = λ q h. a q h ∙ r.higher_row q;
      first_set = λ q h. f q h ∙ r.first_row q;
      last_set = λ q h. l q h ∙ r.last_row q;
    }

-- taking out three times, the first time always, is taking out what one of them has
pub taken_three : (a x c y d z : Bool) → (((a && not (true && x)) && not (c && y)) && not (d && z)) ≡ (a && not (x || c && y || d && z))
taken_three false x c y d z = refl
taken_three true true c y d z = refl
taken_three true false true true d z = refl
taken_three true false true false d z = refl
taken_three true false false y d z = refl

-- ---- productions by their results

-- no production yet
pub results_none : (b : List ℕ) → ByResult b 0 (replicate result_words 0)
results_none b =
    record {
      long = length-replicate {A = ℕ} result_words 0;
      are = λ x q lx lq. ap (λ (v : ℕ). bit v (q % word_bits)) (get_or-replicate result_words (x * production_words + q / word_bits) 0 0 (omega arith)) ∙ bit_zero (q % word_bits) ∙ sym (rw (le-ltb q 0 (omega arith)) refl);
    }

-- one production more, with result y: its bit is set
module _ (b : List ℕ) (n y : ℕ) (sets : List ℕ) (r : ByResult b n sets) (ln : n < production_limit) (ly : y < sort_limit) (is : y ≡ result_sort b n) where
  abbrev word : ℕ
  word = y * production_words + n / word_bits

  abbrev with : ℕ
  with = bit_or (get_or sets word 0) (1 * 2 ^ (n % word_bits) % 2 ^ word_bits)

  abbrev sets' : List ℕ
  sets' = set sets word with

  word_in : word < length sets
  word_in = omega (arith, r.long)

  -- another production is neither before n nor n for the first time
  before_same : (q : ℕ) → q ≢ n → ltb q (n + 1) ≡ ltb q n
  before_same q e =
      by_cases (dec_lt q n)
      (λ l. lt-ltb q (n + 1) (omega arith) ∙ sym (lt-ltb q n l))
      (λ l. let m : n < q = by_cases (dec_lt n q) (λ o. o) (λ o. absurd (e (omega arith))) in le-ltb q (n + 1) (omega arith) ∙ sym (le-ltb q n (omega arith)))

  -- the word that is written: bit k is set if it was, or if it is n's
  written_word : (k : ℕ) → bit (get_or sets' word 0) k ≡ (bit (get_or sets word 0) k || (leb (n % word_bits) k && ltb k (n % word_bits + 1)))
  written_word k = ap (λ (v : ℕ). bit v k) (get_or-set_same sets word with 0 word_in) ∙ bit_or_lem (get_or sets word 0) (1 * 2 ^ (n % word_bits) % 2 ^ word_bits) k ∙ rw (one_bit true (n % word_bits) k (omega arith)) refl

  -- a bit of that word
  bit_there : (x q : ℕ) → x < sort_limit → q < production_limit → x * production_words + q / word_bits ≡ word
      → (bit (get_or sets word 0) (q % word_bits) || (leb (n % word_bits) (q % word_bits) && ltb (q % word_bits) (n % word_bits + 1))) ≡ (ltb q (n + 1) && eqb (result_sort b q) x)
  bit_there x q lx lq e =
      let old : bit (get_or sets word 0) (q % word_bits) ≡ (ltb q n && eqb (result_sort b q) x) = rw (← e) (r.are x q lx lq) in
      elim (ℕ_discrete q n) [
        | yes z ↦ let own : result_sort b q ≡ x = ap (result_sort b) z ∙ sym is ∙ omega arith in
            rw (le-leb (n % word_bits) (q % word_bits) (omega arith), lt-ltb (q % word_bits) (n % word_bits + 1) (omega arith), or-true (bit (get_or sets word 0) (q % word_bits)), lt-ltb q (n + 1) (omega arith), eq-eqb (result_sort b q) x own) refl
        | no z ↦ let apart : (leb (n % word_bits) (q % word_bits) && ltb (q % word_bits) (n % word_bits + 1)) ≡ false = other_bit q z (omega arith) in
            rw (apart, or-false (bit (get_or sets word 0) (q % word_bits)), old, before_same q z) refl
      ]
    where
      other_bit : (q : ℕ) → q ≢ n → q / word_bits ≡ n / word_bits → (leb (n % word_bits) (q % word_bits) && ltb (q % word_bits) (n % word_bits + 1)) ≡ false
      other_bit q z same =
          by_cases (dec_lt (q % word_bits) (n % word_bits))
          (λ l. rw (lt-leb (n % word_bits) (q % word_bits) l) refl)
          (λ l. let above : n % word_bits < q % word_bits = by_cases (dec_lt (n % word_bits) (q % word_bits)) (λ o. o) (λ o. absurd (z (omega arith))) in
          rw (le-ltb (q % word_bits) (n % word_bits + 1) (omega arith)) (and-false (leb (n % word_bits) (q % word_bits))))

  -- a bit of another word
  bit_elsewhere : (x q : ℕ) → x * production_words + q / word_bits ≢ word → (ltb q n && eqb (result_sort b q) x) ≡ (ltb q (n + 1) && eqb (result_sort b q) x)
  bit_elsewhere x q e =
      elim (ℕ_discrete q n) [
        | yes z ↦ let other : eqb (result_sort b q) x ≡ false = ne_eqb (result_sort b q) x (λ o. e (omega (arith, z, ap (result_sort b) z))) in
            rw (other, and-false (ltb q n), and-false (ltb q (n + 1))) refl
        | no z ↦ rw (before_same q z) refl
      ]

  pub results_more : ByResult b (n + 1) sets'
  results_more =
      record {
        long = length-set sets word with ∙ r.long;
        are = λ x q lx lq. elim (ℕ_discrete (x * production_words + q / word_bits) word) [
          | yes e ↦ rw e (written_word (q % word_bits)) ∙ bit_there x q lx lq e
          | no e ↦ (ap (λ (v : ℕ). bit v (q % word_bits)) (get_or-set_other sets word (x * production_words + q / word_bits) with 0 e) ∙ r.are x q lx lq ∙ bit_elsewhere x q e)
        ];
      }

-- ---- which productions a class has

module _ (b : List ℕ) (w : WellFormed b) (sets : List ℕ) (rs : ByResult b (productions b) sets) (q : ℕ) (lq : q < production_limit) where
  -- those of its sort
  pub has_result : (x : ℕ) → result_has sets x q ≡ (ltb q (productions b) && eqb (result_sort b q) x)
  unfolding result_has
  has_result x =
      by_cases (dec_lt x sort_limit)
      (λ l. rw (lt-ltb x sort_limit l) (rs.are x q l lq))
      (λ l. rw (le-ltb x sort_limit (omega arith))
      (by_cases (dec_lt q (productions b))
      (λ m. sym (rw (lt-ltb q (productions b) m, ne_eqb (result_sort b q) x (λ e. omega (arith, w.result_named q m, w.framed.few_sorts))) refl))
      (λ m. sym (rw (le-ltb q (productions b) (omega arith)) refl))))

  module _ (p i : ℕ) (lp : p < productions b) (li : i < argument_count b p) where
    may_stand_lem : q < productions b → may_stand b p i q ≡ (eqb (result_sort b q) (argument b p i) && not (barred b (declarations_of b) p i q))
    unfolding may_stand_in conflicts_in
    may_stand_lem l = rw (taken_out (fits b p i q) (barred b (declarations_of b) p i q), fits_result b w p i q l, eqb_sym (argument b p i) (result_sort b q)) refl

    -- at an argument those may stand that the grammar lets stand
    pub stands_at_argument : (x : ℕ) → x ≡ argument b p i → (result_has sets x q && not (barred b (declarations_of b) p i q)) ≡ (ltb q (productions b) && may_stand b p i q)
    stands_at_argument x e =
        rw (has_result x)
        (by_cases (dec_lt q (productions b))
        (λ m. rw (lt-ltb q (productions b) m, may_stand_lem m, e) refl)
        (λ m. rw (le-ltb q (productions b) (omega arith)) refl))

-- ---- the argument counts of a grammar

module _ (b : List ℕ) (w : WellFormed b) where
  -- there is one for each production
  count_bytes_long : length (count_bytes b) ≡ productions b
  count_bytes_long = length-take-le (productions b) (drop header_length b) (simp length-drop (omega (arith, bodies_in b w.framed)))

  few_count_bytes : length (count_bytes b) ≤ production_limit
  few_count_bytes = omega (arith, count_bytes_long, w.framed.few_productions)

  count_byte : (p : ℕ) → p < productions b → arity_in (count_bytes b) p ≡ argument_count b p
  unfolding argument_count
  count_byte p l = get_or-take (productions b) (drop header_length b) p 0 l ∙ get_or-drop header_length b p 0

  -- none is above the limit
  small_count : (p : ℕ) → arity_in (count_bytes b) p ≤ argument_limit
  small_count p =
      by_cases (dec_lt p (productions b))
      (λ l. omega (arith, count_byte p l, w.framed.few_arguments p l))
      (λ l. omega (arith, get_or-eq_default (count_bytes b) 0 {n = p} (omega (arith, count_bytes_long))))

-- ---- no class of an argument yet

module _ (b : List ℕ) (w : WellFormed b) (chars stands : ℕ → Bool) (t₀ t : List ℕ) (put : ClassPut root_slot chars stands t₀ t)
    (none : (c : ℕ) → c < characters → chars c ≡ false)
    (starts : (q : ℕ) → q < production_limit → stands q ≡ (ltb q (productions b) && eqb (result_sort b q) (start_sort b))) where
  pub written_none : CountsPut (count_bytes b) (length (count_bytes b)) t₀ → WrittenBelow b (slot 0 0) t
  unfolding slot
  written_none counts =
      record {
        counts = counts_stay root_slot chars stands t₀ t put (count_bytes b) (few_count_bytes b w) counts;
        root = record { chars_are = λ c l. put.chars_are c l ∙ none c l; productions_are = λ q l. put.productions_are q l ∙ starts q l };
        arguments = λ p i lp li l. absurd (omega arith);
      }

-- ---- one class more

module _ (b : List ℕ) (w : WellFormed b) (p i : ℕ) (lp : p < productions b) (li : i < argument_count b p) (chars stands : ℕ → Bool) (t₀ t : List ℕ)
    (put : ClassPut (slot p i) chars stands t₀ t)
    (chars_are : (c : ℕ) → c < characters → chars c ≡ (is_class b (argument b p i) && class_has b (argument b p i - class_base) c))
    (stands_are : (q : ℕ) → q < production_limit → stands q ≡ (ltb q (productions b) && may_stand b p i q)) where
  here : ArgumentWritten b p i t
  here = record { chars_are = λ c l. put.chars_are c l ∙ chars_are c l; productions_are = λ q l. put.productions_are q l ∙ stands_are q l }

  -- another class is as it was
  argument_stays : (r j : ℕ) → slot r j ≢ slot p i → ArgumentWritten b r j t₀ → ArgumentWritten b r j t
  argument_stays r j n a =
      record {
        chars_are = λ c l. char_stays (slot p i) chars stands t₀ t put (slot r j) c n l ∙ a.chars_are c l;
        productions_are = λ q l. production_stays (slot p i) chars stands t₀ t put (slot r j) q n l ∙ a.productions_are q l;
      }

  -- so is the root's
  root_apart : root_slot ≢ slot p i
  root_apart e = omega (arith, slot_in p i (omega (arith, w.framed.few_productions)) (omega (arith, w.framed.few_arguments p lp)))

  root_stays : RootWritten b t₀ → RootWritten b t
  root_stays r =
      record {
        chars_are = λ c l. char_stays (slot p i) chars stands t₀ t put root_slot c root_apart l ∙ r.chars_are c l;
        productions_are = λ q l. production_stays (slot p i) chars stands t₀ t put root_slot q root_apart l ∙ r.productions_are q l;
      }

  -- an argument up to this one is this one, or its class was written before
  argument_more : WrittenBelow b (slot p i) t₀ → (r j : ℕ) → r < productions b → j < argument_count b r → slot r j < slot p (i + 1) → ArgumentWritten b r j t
  unfolding slot
  argument_more old r j lr lj l =
      elim (ℕ_discrete (slot r j) (slot p i)) [
        | yes e ↦ let same : r ≡ p = omega (arith, w.framed.few_arguments r lr, w.framed.few_arguments p lp) in
            let also : j ≡ i = omega arith in
            rw (same, also) here
        | no e ↦ argument_stays r j e (old.arguments r j lr lj (omega arith))
      ]

  pub written_more : WrittenBelow b (slot p i) t₀ → WrittenBelow b (slot p (i + 1)) t
  written_more old =
      record {
        counts = counts_stay (slot p i) chars stands t₀ t put (count_bytes b) (few_count_bytes b w) old.counts;
        root = root_stays old.root;
        arguments = argument_more old;
      }

-- ---- one production more

pub written_next : (b : List ℕ) → WellFormed b → (p : ℕ) (t : List ℕ) → WrittenBelow b (slot p (argument_count b p)) t → WrittenBelow b (slot (p + 1) 0) t
unfolding slot
written_next b w p t u =
    record {
      counts = u.counts;
      root = u.root;
      arguments = λ r j lr lj l. u.arguments r j lr lj (before r j lr lj l);
    }
  where
    before : (r j : ℕ) → r < productions b → j < argument_count b r → slot r j < slot (p + 1) 0 → slot r j < slot p (argument_count b p)
    before r j lr lj l =
        by_cases (dec_lt r p)
        (λ m. omega (arith, w.framed.few_arguments r lr))
        (λ m. let same : r ≡ p = omega arith in omega (arith, ap (argument_count b) same))

-- all productions: the tables are the grammar's
pub written_all : (b : List ℕ) → WellFormed b → (t : List ℕ) → WrittenBelow b (slot (productions b) 0) t → FlatTables b t
unfolding slot
written_all b w t u =
    let counts = put_counts (count_bytes b) t (few_count_bytes b w) u.counts in
    record {
      readable = put_tables (count_bytes b) t (few_count_bytes b w) u.counts (small_count b w);
      count_is = ap (length {A = ℕ}) counts ∙ count_bytes_long b w;
      counts_are = λ p l. ap (λ (c : List ℕ). arity_in c p) counts ∙ count_byte b w p l;
      chars_are = λ p i c lp li l. (u.arguments p i lp li (below p i lp li)).chars_are c l;
      productions_are = λ p i q lp li l. (u.arguments p i lp li (below p i lp li)).productions_are q l;
      root_chars = u.root.chars_are;
      roots_are = u.root.productions_are;
    }
  where
    below : (p i : ℕ) → p < productions b → i < argument_count b p → slot p i < slot (productions b) 0
    below p i lp li = omega (arith, w.framed.few_arguments p lp)
