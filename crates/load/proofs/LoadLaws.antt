-- What the tables hold at the end is the grammar that the text says.
use Prim.Native.Nat.{ℕ, ◌+◌, ◌-◌, ◌/◌, ◌≤◌, ◌<◌}
use mathlib.Core.Bool.{false}
use mathlib.Core.List.{List}
use mathlib.Core.Logic.{inl, inr, ⊎_elim, by_cases}
use mathlib.Core.Path.{◌≡◌, refl, sym, ◌∙◌, ap, fun_ext, subst, subst⁻¹}
use native.Mathlib.Decide.{dec_lt}
use native.Mathlib.Omega.{arith}
use lib.ListN.{length, get_or, take, get_or-eq_default}
use lib.Seq.{length-take-le, get_or-take}
use Rattle.ccg.proofs.TablesLaws.{table_above}
use Rattle.ccg.specs.Ccg.{Class, Line, no_line, no_class}
use Rattle.ccg.specs.Tables.{table_class, table_line, table_grammar}
use Rattle.ccg.specs.Text.{number_limit}
use Rattle.ccg.specs.Written.{OneKind}
use Rattle.charset.specs.Set.{set_words, word_bits}
use Rattle.common.proofs.BoolLaws.{true_or_false}
use Rattle.common.proofs.ListLaws.{tabulate_members}
use Rattle.form.specs.Form.{Writable, Says}
use Rattle.form.specs.Read.{Memory}
use Rattle.refusal.specs.Verdict.{accepted, refusal}
use Rattle.refusal.specs.declared.Fault.{Fault}
use Rattle.std.specs.Prelude.{Result, Ok, Err}
use Rattle.refusal.specs.declared.Refusal.{Refusal}
use Rattle.layout.specs.Limits.{production_limit}
use Rattle.load.specs.Absent.{absent_names}
use Rattle.load.specs.Check.{lines_answer, Loaded, Checked}
use Rattle.load.specs.Held.{Held, LinesRead, Few}
use Rattle.tables.proofs.PutLaws.{put_counts, put_tables}
use Rattle.tables.specs.Layout.{slot, slot_at, counts_of, arity_in, takes_char, takes_production, ParserTables}
use Rattle.tables.specs.Put.{CountsPut, ClassesKept}
use Rattle.theory.specs.Tree.{production_number}

-- ---- the answer

pub answer_refused : (g : List Line) (r : Refusal) → absent_names g ≡ Err r → Err r ≡ lines_answer g
unfolding lines_answer
answer_refused g r e = rw e refl

pub answer_lines : (g : List Line) (n : ℕ) → absent_names g ≡ accepted → n ≡ length g → Ok n ≡ lines_answer g
unfolding lines_answer
answer_lines g n e f = rw (e, f) refl

-- ---- the classes stay when the counts are put

class_kept : (t₀ t : List ℕ) → ClassesKept t₀ t → (s n : ℕ) → table_class t s n ≡ table_class t₀ s n
unfolding table_class takes_char takes_production slot_at
class_kept t₀ t kept s n =
    let q = n - production_number 0 in
    rw (kept (slot_at s + n / word_bits) (omega arith), kept (slot_at s + set_words + q / word_bits) (omega arith)) refl

-- a class of one kind has nothing above the numbers
kind_above : (cc : Class) → OneKind cc → (n : ℕ) → number_limit ≤ n → cc n ≡ false
kind_above cc kind n l =
    elim (true_or_false (cc n)) [
      | inl e ↦ ⊎_elim (λ f. absurd (omega (arith, f n e))) (λ f. absurd (omega (arith, (f n e).1))) kind
      | inr e ↦ e
    ]

-- ---- the grammar of the tables

module _ (m : Memory) (t₀ c t : List ℕ) (held : Held m t₀ c) (few : Writable m.lines) (counts : List ℕ) (are : counts ≡ take (length m.lines) c)
    (put : CountsPut counts (length counts) t) (kept : ClassesKept t₀ t) where
  abbrev g : List Line
  g = m.lines

  counts_long : length counts ≡ length g
  counts_long = ap (length {A = ℕ}) are ∙ length-take-le (length g) c (omega (arith, held.many, few.few))

  count_is_lem : (p : ℕ) → p < length g → get_or counts p 0 ≡ length (get_or g p no_line).arguments
  count_is_lem p l = ap (λ (x : List ℕ). get_or x p 0) are ∙ get_or-take (length g) c p 0 l ∙ held.counted p l

  pub counts_few : Few counts
  counts_few p =
      by_cases (dec_lt p (length g))
      (λ l. omega (arith, count_is_lem p l, few.few_arguments p l))
      (λ no. omega (arith, get_or-eq_default counts 0 {n = p} (omega (arith, counts_long))))

  counts_are_lem : counts_of t ≡ counts
  counts_are_lem = put_counts counts t (omega (arith, counts_long, few.few)) put

  arity_is_lem : (p : ℕ) → p < length g → arity_in (counts_of t) p ≡ length (get_or g p no_line).arguments
  arity_is_lem p l = rw counts_are_lem (count_is_lem p l)

  class_is : (p i : ℕ) → p < length g → i < length (get_or g p no_line).arguments → table_class t (slot p i) ≡ get_or (get_or g p no_line).arguments i no_class
  class_is p i lp li =
      fun_ext λ n. by_cases (dec_lt n number_limit)
      (λ l. class_kept t₀ t kept (slot p i) n ∙ held.lines p i lp li n l)
      (λ no. table_above t (slot p i) n (omega arith) ∙ sym (kind_above (get_or (get_or g p no_line).arguments i no_class) (few.form.classes p i lp li) n (omega arith)))

  arguments_are : (p : ℕ) → p < length g → (table_line t p).arguments ≡ (get_or g p no_line).arguments
  unfolding table_line
  arguments_are p l = rw (arity_is_lem p l) (tabulate_members no_class (λ i. table_class t (slot p i)) (get_or g p no_line).arguments (λ i. class_is p i l))

  line_is : (p : ℕ) → p < length g → table_line t p ≡ get_or g p no_line
  unfolding table_line
  line_is p l = λ i. record { arguments = arguments_are p l i; result = sym (few.form.numbered.own p l) i }

  pub grammar_is : table_grammar t ≡ g
  unfolding table_grammar
  grammar_is =
      let long : length (counts_of t) ≡ length g = ap (length {A = ℕ}) counts_are_lem ∙ counts_long in
      rw long (tabulate_members no_line (table_line t) g line_is)

  pub tables_are : ParserTables t
  tables_are = put_tables counts t (omega (arith, counts_long, few.few)) put counts_few

-- ---- what reading the lines left

-- The lines were read: what was read, and that the text says it.
pub record Known (text : List ℕ) (n : ℕ) (t c : List ℕ) : Type 0 where
  pub memory : Memory
  pub held : Held memory t c
  pub says : Says text memory.lines
  pub count : n ≡ length memory.lines

pub lines_known : (text : List ℕ) (r : Result ℕ Refusal) (n : ℕ) (t c : List ℕ) → LinesRead text r t c → r ≡ Ok n → Known text n t c
unfolding LinesRead
lines_known text r n t c h e =
    let (m, held, says, count) : LinesRead text (Ok n) t c = subst (λ (x : Result ℕ Refusal). LinesRead text x t c) e h in
    record { memory = m; held = held; says = says; count = count }

pub known_short : (text : List ℕ) (n : ℕ) (t c : List ℕ) → Known text n t c → (n ≤ length c) × (length (take n c) ≤ production_limit)
known_short text n t c k =
    let few = k.says.writable.few in
    let less : n ≤ length c = omega (arith, k.count, k.held.many) in
    (less, omega (arith, length-take-le n c less, k.count))

pub known_few : (text : List ℕ) (n : ℕ) (t c : List ℕ) → Known text n t c → Few (take n c)
known_few text n t c k p =
    let few = k.says.writable in
    by_cases (dec_lt p n)
    (λ l. omega (arith, get_or-take n c p 0 l, k.held.counted p (omega (arith, k.count)), few.few_arguments p (omega (arith, k.count))))
    (λ no. omega (arith, get_or-eq_default (take n c) 0 {n = p} (omega (arith, length-take-le n c (known_short text n t c k).0))))

-- ---- the promise

pub loaded_refused : (text : List ℕ) (r : Result ℕ Refusal) (x : Refusal) (t₁ c t : List ℕ) → LinesRead text r t₁ c → r ≡ Err x → Loaded text (Err x) t
unfolding LinesRead Loaded
loaded_refused text r x t₁ c t h e =
    let (is, not) : LinesRead text (Err x) t₁ c = subst (λ (y : Result ℕ Refusal). LinesRead text y t₁ c) e h in
    inl (x.place, not, ap (λ (f : Fault). Err (refusal f x.place)) is)

pub loaded_lines : (text : List ℕ) (r : Result ℕ Refusal) (n : ℕ) (t₀ c t : List ℕ) → Known text n t₀ c → CountsPut (take n c) (length (take n c)) t → ClassesKept t₀ t
    → r ≡ lines_answer (table_grammar t) → Loaded text r t
unfolding Loaded
loaded_lines text r n t₀ c t k put kept e =
    let m = k.memory in
    let few = k.says.writable in
    let are : take n c ≡ take (length m.lines) c = ap (λ (i : ℕ). take i c) k.count in
    let same = grammar_is m t₀ c t k.held few (take n c) are put kept in
    inr (tables_are m t₀ c t k.held few (take n c) are put kept, subst⁻¹ (Says text) same k.says, e)

-- the tables apart, it is the promise of checking
pub loaded_checked : (text : List ℕ) (r : Result ℕ Refusal) (t : List ℕ) → Loaded text r t → Checked text r
unfolding Loaded Checked
loaded_checked text r t h = ⊎_elim (λ a. inl a) (λ a. inr (table_grammar t, a.1, a.2)) h
