-- Tables that get another root hold the same grammar.
use Prim.Native.Nat.{ℕ, ◌+◌, ◌-◌, ◌/◌, ◌%◌, ◌≤◌, ◌<◌}
use mathlib.Core.Bool.{Bool}
use mathlib.Core.List.{List}
use mathlib.Core.Logic.{by_cases}
use mathlib.Core.Path.{◌≡◌, refl, sym, ◌∙◌, ap, fun_ext}
use native.Mathlib.Decide.{dec_lt}
use native.Mathlib.Omega.{arith}
use lib.ListN.{length, get_or}
use lib.Seq.{ext_get_or}
use Rattle.ccg.proofs.TablesLaws.{table_of_character, table_between, table_of_production, table_above}
use Rattle.ccg.specs.Tables.{table_class, table_line, table_grammar}
use Rattle.ccg.specs.Text.{number_limit}
use Rattle.charset.specs.Set.{characters, bit, set_words, word_bits}
use Rattle.common.proofs.ListLaws.{tabulate_same}
use Rattle.layout.specs.Limits.{production_limit}
use Rattle.tables.proofs.LayoutLaws.{counts_long, counts_few, count_at, slot_in}
use Rattle.tables.specs.Layout.{slot, slots, root_slot, rows_at, slot_at, table_words, count_of, counts_of, arity_in, takes_char, takes_production, ParserTables}
use Rattle.tables.specs.Put.{ClassPut}
use Rattle.theory.specs.Tree.{production_number}

-- the class of a slot stands before the root's
before_root : (s w : ℕ) → s < slots → w < set_words + 1 → slot_at s + w < slot_at root_slot
unfolding slot_at
before_root s w l h = omega arith

header_before : (k : ℕ) → k < slot_at 0 → k < slot_at root_slot
unfolding slot_at
header_before k l = omega arith

rows_before : (p : ℕ) → p ≤ production_limit → rows_at + p < slot_at 0
unfolding slot_at
rows_before p l = omega arith

module _ (t₀ t : List ℕ) (chars subs : ℕ → Bool) (put : ClassPut root_slot chars subs t₀ t) (h : ParserTables t₀) where
  word_same : (k : ℕ) → k < slot_at 0 → get_or t k 0 ≡ get_or t₀ k 0
  word_same k l = put.below k (header_before k l)

  count_same : count_of t ≡ count_of t₀
  unfolding slot_at
  count_same = word_same 0 (omega arith)

  long_same : length t ≡ table_words
  long_same = put.long ∙ h.long

  counts_same : counts_of t ≡ counts_of t₀
  unfolding slot_at
  counts_same =
      let long : length (counts_of t) ≡ count_of t = counts_long t long_same (omega (arith, count_same, h.few_productions)) in
      let long₀ : length (counts_of t₀) ≡ count_of t₀ = counts_long t₀ h.long h.few_productions in
      ext_get_or 0 (counts_of t) (counts_of t₀) (long ∙ count_same ∙ sym long₀)
      (λ p l. let few = h.few_productions in
      count_at t p (omega arith) ∙ word_same _ (omega (arith, count_same)) ∙ sym (count_at t₀ p (omega (arith, count_same))))

  pub root_tables : ParserTables t
  root_tables =
      record {
        long = long_same;
        few_productions = omega (arith, count_same, h.few_productions);
        few_arguments = λ p. rw counts_same (h.few_arguments p);
        rows = λ p l. let less : p ≤ count_of t₀ = omega (arith, count_same) in
            word_same (rows_at + p) (rows_before p (omega (arith, h.few_productions))) ∙ rw counts_same (h.rows p less);
      }

  -- a class before the root's
  class_same : (s : ℕ) → s < slots → table_class t s ≡ table_class t₀ s
  unfolding takes_char takes_production
  class_same s l =
      fun_ext λ n.
      by_cases (dec_lt n characters)
      (λ m. table_of_character t s n m ∙ ap (λ (v : ℕ). bit v (n % word_bits)) (put.below (slot_at s + n / word_bits) (before_root s (n / word_bits) l (omega arith))) ∙ sym (table_of_character t₀ s n m))
      (λ m. by_cases (dec_lt n (production_number 0))
      (λ o. table_between t s n (omega arith) o ∙ sym (table_between t₀ s n (omega arith) o))
      (λ o. by_cases (dec_lt n number_limit)
      (λ q. let p = n - production_number 0 in
      let at : slot_at s + set_words + p / word_bits < slot_at root_slot = omega (arith, before_root s (set_words + p / word_bits) l (omega arith)) in
      table_of_production t s n (omega arith) q ∙ ap (λ (v : ℕ). bit v (p % word_bits)) (put.below (slot_at s + set_words + p / word_bits) at) ∙ sym (table_of_production t₀ s n (omega arith) q))
      (λ q. table_above t s n (omega arith) ∙ sym (table_above t₀ s n (omega arith)))))

  line_same : (p : ℕ) → p < length (counts_of t₀) → table_line t p ≡ table_line t₀ p
  unfolding table_line
  line_same p l =
      rw (
        counts_same,
        tabulate_same (arity_in (counts_of t₀) p) (λ i. table_class t (slot p i)) (λ i. table_class t₀ (slot p i))
            (λ i m. class_same (slot p i) (slot_in p i (omega (arith, counts_few t₀ h)) (omega (arith, h.few_arguments p)))),
      ) refl

  pub root_grammar : table_grammar t ≡ table_grammar t₀
  unfolding table_grammar
  root_grammar = rw counts_same (tabulate_same (length (counts_of t₀)) (table_line t) (table_line t₀) line_same)
