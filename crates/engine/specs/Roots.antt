-- Parsing by flat tables: the productions allowed at the root, and a chart that is filled for them.
use Rattle.std.specs.Prelude.{ℕ, ◌*◌, ◌<◌, ◌≡◌, true, List, length}
use Rattle.common.specs.Below.{bit_of}
use Rattle.engine.specs.Outcome.{Parsing, UnlessRefused}
use Rattle.engine.specs.declared.Answer.{Answer}
use Rattle.engine.specs.Refusals.{text_refusal}
use Rattle.extract.specs.Places.{Walkable, cell_of}
use Rattle.refusal.specs.declared.Refusal.{Refusal}
use Rattle.tables.specs.Layout.{root_slot, counts_of, arity_in, takes_production}
use Rattle.tables.specs.Theory.{theory_of}
use Rattle.theory.specs.Grammar.{Spells, Parse}
use Rattle.theory.specs.Tree.{Tree, Forest}

-- A parse of the text w: a tree of the tables' grammar, with a production at its root that the root's class has, that spells w.
abbrev pub ParseBy : (tables w : List ℕ) → Tree → Type 0
ParseBy tables w = Parse (theory_of tables) (takes_production tables root_slot) w

-- what production p counts for at the root
unfoldable pub root_term : (tables w chart : List ℕ) → ℕ → ℕ
root_term tables w chart p = bit_of (takes_production tables root_slot p) * cell_of tables w chart p (arity_in (counts_of tables) p) 0 (length w)

-- Parsing the text w by flat tables.
abbrev pub parsing_by : (tables w : List ℕ) → Parsing
parsing_by tables w =
    record {
      parse = ParseBy tables w;
      entry = λ (p d i j : ℕ) (f : Forest). Spells (theory_of tables) w p f d i j;
      arity = arity_in (counts_of tables);
      count = length (counts_of tables);
      size = length w;
    }

-- The chart is filled where it was wanted, and productions allowed at the root are wanted at the start.
pub record Filled (tables w chart : List ℕ) : Type 0 where
  pub walkable : Walkable tables w chart
  pub roots_wanted : (p : ℕ) → p < length (counts_of tables) → takes_production tables root_slot p ≡ true → walkable.wanted p 0 ≡ true

-- What parsing a text by flat tables promises: refused by 10 or 20, or parsed.
unfoldable pub TablesOutcome : (tables w c₀ l₀ : List ℕ) → Answer Refusal → (c l : List ℕ) → Type 0
TablesOutcome tables w c₀ l₀ r c l = UnlessRefused (text_refusal tables w c₀) (parsing_by tables w) c₀ l₀ r c l
