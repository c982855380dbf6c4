-- The promise of the operation "reading by a flat text" (02, [7]; demand 3), for every flat text, root, text, chart and buffer.
use Rattle.std.specs.Prelude.{ℕ, ◌-◌, ◌≤◌, ◌<◌, ◌≡◌, Bool, false, true, ◌&&◌, List, [], ◌∷◌, ◌⊎◌, leb, length, get_or}
use Rattle.std.proofs.Math.Seq.{slice}
use Rattle.ccg.specs.Ccg.{Class, Line, no_line, Generated, Each}
use Rattle.chart.specs.Layout.{chart_bytes}
use Rattle.engine.specs.Outcome.{Parsing, UnlessRefused}
use Rattle.engine.specs.declared.Answer.{Answer}
use Rattle.engine.specs.Refusals.{too_long, chart_too_short}
use Rattle.form.specs.Form.{Says, NotInForm}
use Rattle.refusal.specs.Verdict.{Verdict, refusal, in_order}
use Rattle.layout.specs.Limits.{production_limit}
use Rattle.load.specs.Absent.{absent_in, absent_names, Names}
use Rattle.theory.specs.Tree.{Tree, Forest, production_number, yield, yields}
use Rattle.refusal.specs.declared.Fault.TheVariants.{Form}
use Rattle.refusal.specs.declared.Refusal.{Refusal}
use Rattle.engine.specs.declared.Answer.TheVariants.{Refused}

-- The numbers of the lines that are allowed at the root: an entry for each line that there could be.
unfoldable pub root_class : List Bool → Class
root_class roots n = leb (production_number 0) n && get_or roots (n - production_number 0) false

-- how many arguments line p has
unfoldable pub line_arity : List Line → ℕ → ℕ
line_arity g p = length (get_or g p no_line).arguments

-- The parses of the text w: the trees of the lines (000, Definition 3.4) with an allowed line at the root, that spell w. An entry of the chart counts the lists of such
-- trees for the first d arguments of line p that spell w from i to j.
abbrev pub trees_of : List Line → (roots : List Bool) → (w : List ℕ) → Parsing
trees_of g roots w =
    record {
      parse = λ (t : Tree). Generated g (root_class roots) t × (yield t ≡ w);
      entry = λ (p d i j : ℕ) (f : Forest). Each g (get_or g p no_line).arguments f d × (yields f ≡ slice i j w);
      arity = line_arity g;
      count = length g;
      size = length w;
    }

-- The refusals behind 27, in order: 28 for a class, 28 for the root, 10, 20.
unfoldable pub flat_refusal : List Line → (roots : List Bool) → (w chart : List ℕ) → Verdict
flat_refusal g roots w chart =
    in_order (absent_names g ∷ absent_in (length g) (root_class roots) ∷ too_long w ∷ chart_too_short (chart_bytes (line_arity g) (length g) (length w)) chart ∷ [])

-- Reading by a grammar: by one of these refusals nothing is changed, and otherwise the answer and every lent byte afterwards are those of the grammar's trees.
abbrev pub GrammarOutcome : List Line → (roots : List Bool) (w c₀ l₀ : List ℕ) → Answer Refusal → (c l : List ℕ) → Type 0
GrammarOutcome g roots w c₀ l₀ r c l = UnlessRefused (flat_refusal g roots w c₀) (trees_of g roots w) c₀ l₀ r c l

-- Either the flat text is not in the written form: then it is refused by 27, and nothing is changed. Or it says a grammar, and is read by that.
unfoldable pub FlatOutcome : (flat : List ℕ) (roots : List Bool) (w c₀ l₀ : List ℕ) → Answer Refusal → (c l : List ℕ) → Type 0
FlatOutcome flat roots w c₀ l₀ r c l =
    ((place : ℕ) × NotInForm flat place × (r ≡ Refused (refusal Form place)) × (c ≡ c₀) × (l ≡ l₀))
    ⊎ ((g : List Line) × Says flat g × GrammarOutcome g roots w c₀ l₀ r c l)

-- ---- the refusals without a search

-- The place of 28 for the root: the number of the lowest line that an entry allows and that is not there.
pub record LowestRoot (g : List Line) (roots : List Bool) (place : ℕ) : Type 0 where
  pub q : ℕ
  pub absent : length g ≤ q
  pub number : q < production_limit
  pub allowed : get_or roots q false ≡ true
  pub is_place : place ≡ production_number q
  pub lower : (q' : ℕ) → length g ≤ q' → q' < q → get_or roots q' false ≡ false

-- Every line that a class or an entry names is there.
pub record AllThere (g : List Line) (roots : List Bool) : Type 0 where
  pub classes : (p i q : ℕ) → Names g p i q → ⊥
  pub entries : (q : ℕ) → length g ≤ q → q < production_limit → get_or roots q false ≡ false
