-- What parsing a text promises, of its answer and of every lent byte afterwards (01, "Readings, listings and the chart"; demand 3).
use Rattle.std.specs.Prelude.{ℕ, ◌*◌, ◌≤◌, ◌<◌, ◌≡◌, List, length, take, Ok, Err}
use Rattle.chart.specs.Counted.{Counted}
use Rattle.chart.specs.Layout.{chart_bytes}
use Rattle.common.specs.Lists.{overwritten}
use Rattle.numbers.specs.Written.{bytes_of, room}
use Rattle.refusal.specs.Verdict.{Verdict}
use Rattle.theory.specs.Counts.{Only, Two}
use Rattle.theory.specs.Steps.{everything}
use Rattle.theory.specs.Tree.{Tree, Forest, listing}
use Rattle.engine.specs.declared.Answer.{Answer}
use Rattle.engine.specs.declared.Answer.TheVariants.{None, One, Several, Refused}
use Rattle.refusal.specs.declared.Fault.TheVariants.{LongListing}
use Rattle.refusal.specs.declared.Refusal.{Refusal}

-- What is asked of a text of `size` characters: `parse` says which trees are its parses; `entry p d i j` says which lists of trees the entry of the chart counts for
-- production p, the first d of its arguments, start i and end j.
pub record Parsing : Type 1 where
  pub parse : Tree → Type 0
  pub entry : ℕ → ℕ → ℕ → ℕ → Forest → Type 0
  pub arity : ℕ → ℕ
  pub count : ℕ
  pub size : ℕ

-- The answer, if P says which trees are parses of the text; the buffer for the listing held l₀ before, and holds l afterwards.
-- After none and several the buffer stays. After one it starts with the listing, two bytes a number, and stays beyond.
-- A listing that doesn't fit is refusal 22: the place is how many numbers were written, the first of the listing, as many as fit whole.
unfoldable pub Answered : (Tree → Type 0) → List ℕ → Answer Refusal → List ℕ → Type 0
Answered P l₀ None l = ((t : Tree) → P t → ⊥) × (l ≡ l₀)
Answered P l₀ (One n) l = (t : Tree) × Only P t × (n ≡ length (listing t)) × (2 * n ≤ length l₀) × (l ≡ overwritten (bytes_of (listing t)) l₀)
Answered P l₀ Several l = Two P × (l ≡ l₀)
Answered P l₀ (Refused r) l =
    (t : Tree) × Only P t × (r.fault ≡ LongListing) × (r.place ≡ room l₀) × (length l₀ < 2 * length (listing t)) × (l ≡ overwritten (bytes_of (take r.place (listing t))) l₀)

-- The chart, which held c₀ before, starts with its entries, each the count of its lists of trees; bytes beyond stay.
pub record ChartAfter (s : Parsing) (c₀ c : List ℕ) : Type 0 where
  pub entries : List ℕ
  pub long : length entries ≡ chart_bytes s.arity s.count s.size
  pub counted : Counted s.entry s.arity s.count s.size everything entries
  pub whole : c ≡ overwritten entries c₀

pub record Parsed (s : Parsing) (c₀ l₀ : List ℕ) (r : Answer Refusal) (c l : List ℕ) : Type 0 where
  pub chart : ChartAfter s c₀ c
  pub answer : Answered s.parse l₀ r l

-- By a refusal nothing is changed. Otherwise chart and listing, which held c₀ and l₀, and the answer are as parsing promises.
unfoldable pub UnlessRefused : Verdict → Parsing → (c₀ l₀ : List ℕ) → Answer Refusal → (c l : List ℕ) → Type 0
UnlessRefused (Ok _) s c₀ l₀ r c l = Parsed s c₀ l₀ r c l
UnlessRefused (Err x) s c₀ l₀ r c l = (r ≡ Refused x) × (c ≡ c₀) × (l ≡ l₀)
