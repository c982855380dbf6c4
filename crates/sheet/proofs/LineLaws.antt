-- What becomes of one line: by the answer of reading it, whatever room its listing has; and that this is determined.
use Prim.Native.Nat.{ℕ, ◌≤◌, ◌<◌}
use mathlib.Core.Path.{◌≡◌, refl, sym, ◌∙◌, ap, subst}
use mathlib.Core.Bool.{cond}
use mathlib.Core.List.{List, [], ◌∷◌}
use native.Mathlib.Omega.{arith}
use lib.ListN.{length, get_or}
use borrow.Author.Tests.{ne_eqb}
use Rattle.charset.specs.Set.{characters}
use Rattle.engine.proofs.RefusalsLaws.{text_long, chart_short}
use Rattle.engine.proofs.SameParsingLaws.{SameParsing, chart_same_lem}
use Rattle.engine.proofs.UniqueLaws.{chart_unique}
use Rattle.engine.specs.Outcome.{Parsing, Answered, UnlessRefused}
use Rattle.engine.specs.declared.Answer.{Answer}
use Rattle.engine.specs.Refusals.{too_long, chart_too_short, text_refusal}
use Rattle.engine.specs.Roots.{parsing_by, TablesOutcome}
use Rattle.flatten.specs.Tables.{FlatTables}
use Rattle.grammar.specs.Formed.{WellFormed}
use Rattle.refusal.specs.Verdict.{in_order, Verdict, accepted}
use Rattle.parse.proofs.CarryLaws.{same_needed, tables_same}
use Rattle.parse.proofs.OutcomeLaws.{accepted_grammar}
use Rattle.parse.specs.Outcome.{needed, reading_by, Outcome, AcceptedOutcome}
use Rattle.priority.specs.Check.{checked}
use Rattle.sheet.specs.Outcome.{fault_byte, refused_byte, byte_of, LineRead, LineBy, TablesLine}
use Rattle.theory.proofs.CountLaws.{counts_bounds, counts_unique, counts_same}
use Rattle.theory.specs.Counts.{Counts}
use Rattle.theory.specs.Tree.{Tree}
use Rattle.engine.specs.declared.Answer.TheVariants.{None, One, Several, Refused}
use Rattle.std.specs.Prelude.{Ok, Err, ⊤}
use Rattle.refusal.specs.declared.Refusal.{Refusal}
use Rattle.refusal.specs.Fault.{number_of}
use Rattle.refusal.proofs.VerdictLaws.{same_refusal}

-- ---- by the answer

-- the byte of an answer counts the parses; 22 is one
answered_counts : (P : Tree → Type 0) (l₀ : List ℕ) (r : Answer Refusal) (l : List ℕ) → Answered P l₀ r l → Counts P (byte_of r)
unfolding Answered Counts byte_of fault_byte
answered_counts P l₀ None l a = a.0
answered_counts P l₀ (One n) l a = (a.0, a.1)
answered_counts P l₀ Several l a = a.0
answered_counts P l₀ (Refused x) l a = rw a.2 (a.0, a.1)

-- 10 and 20 are all the refusals of a text
module _ (w chart : List ℕ) (need : ℕ) where
  text_number : (u v : Verdict) → u ≡ too_long w → v ≡ chart_too_short need chart → (x : Refusal) → in_order (u ∷ v ∷ []) ≡ Err x → number_of x.fault ≤ 20
  text_number (Ok _) v eu ev x e = omega (arith, (chart_short need chart (sym ev ∙ e)).0)
  text_number (Err y) v eu ev x e = omega (arith, ap (λ (z : Refusal). number_of z.fault) (same_refusal {B = ⊤} e), (text_long w (sym eu)).0)

  -- What parsing a line promises, with whatever buffer for the listing, is what becomes of the line.
  pub line_read : (p : Parsing) (l₀ : List ℕ) (r : Answer Refusal) (c l : List ℕ)
      → UnlessRefused (in_order (too_long w ∷ chart_too_short need chart ∷ [])) p chart l₀ r c l
      → LineRead (in_order (too_long w ∷ chart_too_short need chart ∷ [])) p chart (byte_of r) c
  unfolding UnlessRefused LineRead byte_of fault_byte
  line_read p l₀ r c l = by_verdict (in_order (too_long w ∷ chart_too_short need chart ∷ [])) (text_number (too_long w) (chart_too_short need chart) refl refl)
    where
      by_verdict : (v : Verdict) → ((x : Refusal) → v ≡ Err x → number_of x.fault ≤ 20) → UnlessRefused v p chart l₀ r c l → LineRead v p chart (byte_of r) c
      by_verdict (Ok _) small h = (answered_counts p.parse l₀ r l h.answer, h.chart)
      by_verdict (Err x) small h = (ap byte_of h.0 ∙ ap (λ t. cond t 1 refused_byte) (ne_eqb (number_of x.fault) 22 (λ e. omega (arith, small x refl))), h.1)

-- by a grammar, and by tables
pub line_by : (b w c₀ l₀ : List ℕ) (r : Answer Refusal) (c l : List ℕ) → AcceptedOutcome b w c₀ l₀ r c l → LineBy b w c₀ (byte_of r) c
unfolding AcceptedOutcome LineBy
line_by b w c₀ l₀ r c l h = line_read w c₀ (needed b (length w)) (reading_by b w) l₀ r c l h

pub tables_line : (t w c₀ l₀ : List ℕ) (r : Answer Refusal) (c l : List ℕ) → TablesOutcome t w c₀ l₀ r c l → TablesLine t w c₀ (byte_of r) c
unfolding TablesOutcome TablesLine text_refusal
tables_line t w c₀ l₀ r c l h = line_read w c₀ _ (parsing_by t w) l₀ r c l h

-- ---- parsings that say the same

pub line_same : (p u : Parsing) → SameParsing p u → (v : Verdict) (c₀ : List ℕ) (n : ℕ) (c : List ℕ) → LineRead v p c₀ n c → LineRead v u c₀ n c
unfolding LineRead
line_same p u same (Ok _) c₀ n c h = (counts_same p.parse u.parse n same.parse h.0, chart_same_lem p u same c₀ c h.1)
line_same p u same (Err x) c₀ n c h = h

-- what becomes of a line by the tables becomes of it by their grammar
pub line_carried : (b : List ℕ) → WellFormed b → ((k : ℕ) → get_or b k 0 < characters) → (t : List ℕ) → FlatTables b t
    → (w : List ℕ) → ((k : ℕ) → get_or w k 0 < characters) → (c₀ : List ℕ) (v : ℕ) (c : List ℕ) → TablesLine t w c₀ v c → LineBy b w c₀ v c
unfolding TablesLine LineBy text_refusal
line_carried b formed bytes t flat w text c₀ v c h =
    subst (λ (n : ℕ). LineRead (in_order (too_long w ∷ chart_too_short n c₀ ∷ [])) (reading_by b w) c₀ v c) (same_needed b formed bytes t flat (length w))
    (line_same (parsing_by t w) (reading_by b w) (tables_same b formed bytes t flat w text) (text_refusal t w c₀) c₀ v c h)

-- ---- its byte is one of four

read_small : (v : Verdict) (p : Parsing) (c₀ : List ℕ) (n : ℕ) (c : List ℕ) → LineRead v p c₀ n c → n ≤ refused_byte
unfolding LineRead
read_small (Ok _) p c₀ n c h = omega (arith, (counts_bounds p.parse n h.0).at_most_two)
read_small (Err x) p c₀ n c h = omega (arith, h.0)

pub line_small : (b w c₀ : List ℕ) (n : ℕ) (c : List ℕ) → LineBy b w c₀ n c → n ≤ refused_byte
unfolding LineBy
line_small b w c₀ n c h = read_small _ (reading_by b w) c₀ n c h

-- ---- it is determined

read_unique : (v : Verdict) (p : Parsing) (c₀ : List ℕ) (n m : ℕ) (c d : List ℕ) → LineRead v p c₀ n c → LineRead v p c₀ m d → (n ≡ m) × (c ≡ d)
unfolding LineRead
read_unique (Ok _) p c₀ n m c d h k = (counts_unique p.parse n m h.0 k.0, chart_unique p c₀ c d h.1 k.1)
read_unique (Err x) p c₀ n m c d h k = (h.0 ∙ sym k.0, h.1 ∙ sym k.1)

pub line_unique : (b w c₀ : List ℕ) (n m : ℕ) (c d : List ℕ) → LineBy b w c₀ n c → LineBy b w c₀ m d → (n ≡ m) × (c ≡ d)
unfolding LineBy
line_unique b w c₀ n m c d h k = read_unique _ (reading_by b w) c₀ n m c d h k

-- So what becomes of a line is what reading it alone gives, with whatever buffer for the listing.
pub line_alone : (b : List ℕ) → checked b ≡ accepted → (w c₀ : List ℕ) (v : ℕ) (c : List ℕ) → LineBy b w c₀ v c
    → (l₀ : List ℕ) (r : Answer Refusal) (d l : List ℕ) → Outcome b w c₀ l₀ r d l → (v ≡ byte_of r) × (c ≡ d)
line_alone b e w c₀ v c h l₀ r d l o = line_unique b w c₀ v (byte_of r) c d h (line_by b w c₀ l₀ r d l (accepted_grammar b w c₀ l₀ r d l e o))
