-- The promise of the operation "checking a flat text" (02, [7]), for every text.
use Rattle.std.specs.Prelude.{ℕ, ◌≡◌, List, ◌⊎◌, length, Result, Ok}
use Rattle.ccg.specs.Ccg.{Line}
use Rattle.ccg.specs.Tables.{table_grammar}
use Rattle.form.specs.Form.{Says, NotInForm}
use Rattle.refusal.specs.Verdict.{refused, unless_refused}
use Rattle.refusal.specs.declared.Fault.TheVariants.{Form}
use Rattle.refusal.specs.declared.Refusal.{Refusal}
use Rattle.load.specs.Absent.{absent_names}
use Rattle.tables.specs.Layout.{ParserTables}

-- the answer for a text that says a grammar: 28, or how many lines there are
unfoldable pub lines_answer : List Line → Result ℕ Refusal
lines_answer g = unless_refused (absent_names g) (Ok (length g))

-- Either the text is not in the form, and refused by 27; or it says a grammar, and the answer is that grammar's.
unfoldable pub Checked : List ℕ → Result ℕ Refusal → Type 0
Checked text r = ((place : ℕ) × NotInForm text place × (r ≡ refused Form place)) ⊎ ((g : List Line) × Says text g × (r ≡ lines_answer g))

-- The same, where the grammar that the text says is that of the tables.
unfoldable pub Loaded : List ℕ → Result ℕ Refusal → (tables : List ℕ) → Type 0
Loaded text r tables =
    ((place : ℕ) × NotInForm text place × (r ≡ refused Form place)) ⊎ (ParserTables tables × Says text (table_grammar tables) × (r ≡ lines_answer (table_grammar tables)))
