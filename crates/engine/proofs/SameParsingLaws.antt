-- Parsings that say the same promise the same: the same answers, the same chart, the same listing.
use Prim.Native.Nat.{ℕ, ◌+◌, ◌*◌, ◌≤◌, ◌<◌}
use mathlib.Core.Path.{◌≡◌, ◌∙◌, ap, subst}
use mathlib.Core.Bool.{true≢false}
use mathlib.Core.List.{List}
use mathlib.Core.Logic.{◌↔◌}
use native.Mathlib.Omega.{arith}
use Rattle.chart.specs.Counted.{entry_of}
use Rattle.chart.specs.Layout.{row_of, span_count, cell_at, chart_bytes, entry_at}
use Rattle.common.proofs.BelowLaws.{sum_same}
use Rattle.engine.specs.Outcome.{Parsing, Answered, ChartAfter, Parsed, UnlessRefused}
use Rattle.engine.specs.declared.Answer.{Answer}
use Rattle.refusal.specs.Verdict.{Verdict}
use Rattle.refusal.specs.declared.Refusal.{Refusal}
use Rattle.tables.specs.Layout.{row_count}
use Rattle.theory.proofs.CountLaws.{counts_same}
use Rattle.theory.specs.Counts.{Only, Counts}
use Rattle.theory.specs.Tree.{Tree, Forest}
use Rattle.engine.specs.declared.Answer.TheVariants.{None, One, Several, Refused}
use Rattle.std.specs.Prelude.{Ok, Err}

-- The same parses, and the same lists of trees to count for each entry in range.
pub record SameParsing (s u : Parsing) : Type 0 where
  pub size : s.size ≡ u.size
  pub count : s.count ≡ u.count
  pub arity : (p : ℕ) → p < u.count → s.arity p ≡ u.arity p
  pub parse : (t : Tree) → s.parse t ↔ u.parse t
  pub entry : (p d i j : ℕ) → p < u.count → d ≤ u.arity p → i ≤ j → j ≤ u.size → (f : Forest) → s.entry p d i j f ↔ u.entry p d i j f

-- ---- the same answer for a predicate that says the same

only_same : (P Q : Tree → Type 0) → ((t : Tree) → P t ↔ Q t) → (t : Tree) → Only P t → Only Q t
only_same P Q e t o = record { holds = (e t).0 o.holds; alone = λ u h. o.alone u ((e u).1 h) }

answered_same : (P Q : Tree → Type 0) → ((t : Tree) → P t ↔ Q t) → (l₀ : List ℕ) (r : Answer Refusal) (l : List ℕ) → Answered P l₀ r l → Answered Q l₀ r l
unfolding Answered
answered_same P Q e l₀ None l a = ((λ t h. a.0 t ((e t).1 h)), a.1)
answered_same P Q e l₀ (One n) l a = (a.0, only_same P Q e a.0 a.1, a.2, a.3, a.4)
answered_same P Q e l₀ Several l a = ((a.0.0, a.0.1, (e a.0.0).0 a.0.2, (e a.0.1).0 a.0.3, a.0.4), a.1)
answered_same P Q e l₀ (Refused r) l a = (a.0, only_same P Q e a.0 a.1, a.2, a.3, a.4, a.5)

-- ---- the same chart for the same argument counts

-- as many rows
rows_same : (f g : ℕ → ℕ) (n : ℕ) → ((p : ℕ) → p < n → f p ≡ g p) → row_count f n ≡ row_count g n
unfolding row_count
rows_same f g n e = sum_same (λ q. f q + 1) (λ q. g q + 1) n (λ k l. ap (λ (m : ℕ). m + 1) (e k l))

-- and each where it was
row_same_arity : (f g : ℕ → ℕ) (n p d : ℕ) → p < n → ((q : ℕ) → q < n → f q ≡ g q) → row_of f p d ≡ row_of g p d
unfolding row_of
row_same_arity f g n p d l e = ap (λ (m : ℕ). m + d) (sum_same (λ q. f q + 1) (λ q. g q + 1) p (λ k h. ap (λ (m : ℕ). m + 1) (e k (omega arith))))

-- as many bytes
pub chart_bytes_same : (f g : ℕ → ℕ) (m n size : ℕ) → m ≡ n → ((p : ℕ) → p < n → f p ≡ g p) → chart_bytes f m size ≡ chart_bytes g n size
chart_bytes_same f g m n size h e = ap (λ (k : ℕ). k * span_count size) (ap (row_count f) h ∙ rows_same f g n e)

-- ---- the promise

module _ (s u : Parsing) (same : SameParsing s u) where
  -- an entry in range
  entry_same : (entries : List ℕ) (p d i j : ℕ) → p < u.count → entry_of s.arity s.size entries p d i j ≡ entry_of u.arity u.size entries p d i j
  unfolding entry_of
  entry_same entries p d i j l =
      ap (λ (n : ℕ). entry_at entries (cell_at n (row_of s.arity p d) i j)) same.size
      ∙ ap (λ (n : ℕ). entry_at entries (cell_at u.size n i j)) (row_same_arity s.arity u.arity u.count p d l same.arity)

  pub chart_same_lem : (c₀ c : List ℕ) → ChartAfter s c₀ c → ChartAfter u c₀ c
  chart_same_lem c₀ c h =
      let entries = h.entries in
      record {
        entries = entries;
        long = h.long ∙ ap (chart_bytes s.arity s.count) same.size ∙ chart_bytes_same s.arity u.arity s.count u.count u.size same.count same.arity;
        counted = record {
          counts = λ p d i j lp ld ij jn wp. subst (Counts (u.entry p d i j)) (entry_same entries p d i j lp)
              (counts_same (s.entry p d i j) (u.entry p d i j) (entry_of s.arity s.size entries p d i j)
              (same.entry p d i j lp ld ij jn)
              (h.counted.counts p d i j (omega (arith, same.count)) (omega (arith, same.arity p lp)) ij (omega (arith, same.size)) wp));
          unwanted = λ p d i j lp ld ij jn no. absurd (true≢false no);
        };
        whole = h.whole;
      }

  parsed_same : (c₀ l₀ : List ℕ) (r : Answer Refusal) (c l : List ℕ) → Parsed s c₀ l₀ r c l → Parsed u c₀ l₀ r c l
  parsed_same c₀ l₀ r c l h = record { chart = chart_same_lem c₀ c h.chart; answer = answered_same s.parse u.parse same.parse l₀ r l h.answer }

  -- A refusal, or none, is the same of both.
  pub unless_same : (v : Verdict) (c₀ l₀ : List ℕ) (r : Answer Refusal) (c l : List ℕ) → UnlessRefused v s c₀ l₀ r c l → UnlessRefused v u c₀ l₀ r c l
  unfolding UnlessRefused
  unless_same (Ok _) c₀ l₀ r c l h = parsed_same c₀ l₀ r c l h
  unless_same (Err x) c₀ l₀ r c l h = h
