-- What writing changes in the tables: counts one by one, and a class among others.
use Prim.Native.Nat.{ℕ, ◌+◌, ◌/◌, ◌%◌, ◌≤◌, ◌<◌}
use mathlib.Core.Path.{◌≡◌, sym, ◌∙◌, ap, subst⁻¹}
use mathlib.Core.Bool.{Bool}
use mathlib.Core.List.{List}
use mathlib.Core.Logic.{◌≢◌, by_cases}
use native.Mathlib.Omega.{arith}
use native.Mathlib.Decide.{ℕ_discrete, dec_lt}
use lib.ListN.{length, get_or, set, length-set}
use lib.Seq.{get_or-set_same, get_or-set_other, ext_get_or}
use Rattle.charset.specs.Set.{characters, bit, has, word_bits, set_words}
use Rattle.common.proofs.BelowLaws.{sum_none, sum_more}
use Rattle.common.specs.Region.{Region}
use Rattle.layout.specs.Limits.{production_limit, argument_limit}
use Rattle.tables.proofs.LayoutLaws.{counts_long, count_at}
use Rattle.tables.specs.Layout.{counts_at, rows_at, classes_at, production_words, class_words, slot_at, table_words, counts_of, arity_in, row_count, takes_char, takes_production, ParserTables}
use Rattle.tables.specs.Put.{CountsPut, ClassesKept, ClassPut}

-- ---- counts

pub row_none : (counts : List ℕ) → row_count (arity_in counts) 0 ≡ 0
unfolding row_count
row_none counts = sum_none (λ q. arity_in counts q + 1)

pub row_more : (counts : List ℕ) (p : ℕ) → row_count (arity_in counts) (p + 1) ≡ row_count (arity_in counts) p + (get_or counts p 0 + 1)
unfolding row_count
row_more counts p = sum_more p (λ q. arity_in counts q + 1)

-- none yet: the count of productions, and the first row of the first
pub counts_none : (counts t : List ℕ) (v : ℕ) → length t ≡ table_words → v ≡ length counts → CountsPut counts 0 (set (set t 0 v) rows_at 0)
counts_none counts t v l e =
    record {
      long = length-set (set t 0 v) rows_at 0 ∙ length-set t 0 v ∙ l;
      count_is = get_or-set_other (set t 0 v) rows_at 0 0 0 (λ q. omega arith) ∙ get_or-set_same t 0 v 0 (omega arith) ∙ e;
      counts_are = λ p m. absurd (omega arith);
      rows_are = λ p m. let z : p ≡ 0 = omega arith in
          subst⁻¹ (λ (k : ℕ). get_or (set (set t 0 v) rows_at 0) (rows_at + k) 0 ≡ row_count (arity_in counts) k) z
          (get_or-set_same (set t 0 v) rows_at 0 0 (omega (arith, length-set t 0 v)) ∙ sym (row_none counts));
    }

-- one production more
pub counts_more : (counts t : List ℕ) (p v row : ℕ) → p < length counts → length counts ≤ production_limit → CountsPut counts p t
    → v ≡ get_or counts p 0 → row ≡ row_count (arity_in counts) (p + 1) → CountsPut counts (p + 1) (set (set t (counts_at + p) v) (rows_at + p + 1) row)
counts_more counts t p v row l few c e r =
    let t₁ = set t (counts_at + p) v in
    record {
      long = length-set t₁ (rows_at + p + 1) row ∙ length-set t (counts_at + p) v ∙ c.long;
      count_is = get_or-set_other t₁ (rows_at + p + 1) 0 row 0 (λ q. omega arith) ∙ get_or-set_other t (counts_at + p) 0 v 0 (λ q. omega arith) ∙ c.count_is;
      counts_are = λ k m. get_or-set_other t₁ (rows_at + p + 1) (counts_at + k) row 0 (λ q. omega arith) ∙ elim (ℕ_discrete k p) [
        | yes z ↦ rw (z, get_or-set_same t (counts_at + p) v 0 (omega (arith, c.long))) e
        | no z ↦ (get_or-set_other t (counts_at + p) (counts_at + k) v 0 (λ q. z (omega arith)) ∙ c.counts_are k (omega arith))
      ];
      rows_are = λ k m. elim (ℕ_discrete k (p + 1)) [
        | yes z ↦ let e : rows_at + k ≡ rows_at + p + 1 = omega arith in
            rw (e, z) (get_or-set_same t₁ (rows_at + p + 1) row 0 (omega (arith, length-set t (counts_at + p) v, c.long)) ∙ r)
        | no z ↦ (get_or-set_other t₁ (rows_at + p + 1) (rows_at + k) row 0 (λ q. z (omega arith))
            ∙ get_or-set_other t (counts_at + p) (rows_at + k) v 0 (λ q. omega arith) ∙ c.rows_are k (omega arith))
      ];
    }

-- a word before the classes leaves these as they are
pub classes_kept : (t : List ℕ) (at v : ℕ) → at < classes_at → ClassesKept t (set t at v)
classes_kept t at v l k h = get_or-set_other t at k v 0 (λ e. omega arith)

module _ (counts t : List ℕ) (few : length counts ≤ production_limit) (c : CountsPut counts (length counts) t) where
  -- the counts of the tables are those that were written
  pub put_counts : counts_of t ≡ counts
  put_counts =
      let long : length (counts_of t) ≡ length counts = counts_long t c.long (omega (arith, c.count_is)) ∙ c.count_is in
      ext_get_or 0 (counts_of t) counts long (λ p l. count_at t p (omega (arith, c.count_is)) ∙ c.counts_are p (omega arith))

  -- and a parser can read the tables
  pub put_tables : ((p : ℕ) → arity_in counts p ≤ argument_limit) → ParserTables t
  put_tables h =
      record {
        long = c.long;
        few_productions = omega (arith, c.count_is);
        few_arguments = λ p. rw put_counts (h p);
        rows = λ p l. rw put_counts (c.rows_are p (omega (arith, c.count_is)));
      }

-- ---- a class

module _ (s at : ℕ) (here : at ≡ slot_at s) (words bits t₀ t₁ t : List ℕ) (words_long : length words ≡ set_words) (bits_long : length bits ≡ production_words)
    (chars : Region (λ (k : ℕ) (v : ℕ). v ≡ get_or words k 0) 0 at (length words) t₀ t₁) (productions : Region (λ (k : ℕ) (v : ℕ). v ≡ get_or bits k 0) 0 (at + set_words) (length bits) t₁ t) where
  -- the words of the characters and then those of the productions
  pub class_put : ClassPut s (has words) (has bits) t₀ t
  unfolding takes_char takes_production has
  class_put =
      record {
        long = productions.long ∙ chars.long;
        chars_are = λ c l. rw (← here) (ap (λ (v : ℕ). bit v (c % word_bits)) (productions.below (at + c / word_bits) (omega arith) ∙ chars.inside (c / word_bits) (omega arith)));
        productions_are = λ q l. rw (← here) (ap (λ (v : ℕ). bit v (q % word_bits)) (productions.inside (q / word_bits) (omega arith)));
        below = λ k l. productions.below k (omega arith) ∙ chars.below k (omega arith);
        above = λ k l. productions.above k (omega arith) ∙ chars.above k (omega arith);
      }

module _ (s : ℕ) (chars productions : ℕ → Bool) (t₀ t : List ℕ) (c : ClassPut s chars productions t₀ t) where
  -- words of another slot's class are as they were
  word_stays : (s' k : ℕ) → s' ≢ s → k < class_words → get_or t (slot_at s' + k) 0 ≡ get_or t₀ (slot_at s' + k) 0
  unfolding slot_at
  word_stays s' k n l =
      by_cases (dec_lt s' s)
      (λ m. c.below (slot_at s' + k) (omega arith))
      (λ m. let h : s < s' = by_cases (dec_lt s s') (λ o. o) (λ o. absurd (n (omega arith))) in c.above (slot_at s' + k) (omega arith))

  -- so is what may stand there
  pub char_stays : (s' k : ℕ) → s' ≢ s → k < characters → takes_char t s' k ≡ takes_char t₀ s' k
  unfolding takes_char
  char_stays s' k n l = ap (λ (v : ℕ). bit v (k % word_bits)) (word_stays s' (k / word_bits) n (omega arith))

  pub production_stays : (s' q : ℕ) → s' ≢ s → q < production_limit → takes_production t s' q ≡ takes_production t₀ s' q
  unfolding takes_production
  production_stays s' q n l =
      let w = word_stays s' (set_words + q / word_bits) n (omega arith) in
      ap (λ (v : ℕ). bit v (q % word_bits)) (subst⁻¹ (λ (k : ℕ). get_or t k 0 ≡ get_or t₀ k 0) (omega arith) w)

  -- and so are the counts and the rows
  head_stays : (k : ℕ) → k < classes_at → get_or t k 0 ≡ get_or t₀ k 0
  unfolding slot_at
  head_stays k l = c.below k (omega arith)

  pub counts_stay : (counts : List ℕ) → length counts ≤ production_limit → CountsPut counts (length counts) t₀ → CountsPut counts (length counts) t
  counts_stay counts few p =
      record {
        long = c.long ∙ p.long;
        count_is = head_stays 0 (omega arith) ∙ p.count_is;
        counts_are = λ k l. head_stays (counts_at + k) (omega arith) ∙ p.counts_are k l;
        rows_are = λ k l. head_stays (rows_at + k) (omega arith) ∙ p.rows_are k l;
      }
