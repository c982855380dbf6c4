-- `read_accepted` meets its contract: what becomes of the lines by the tables is carried to the grammar.
use Prim.Native.Nat.{ℕ, ◌<◌}
use mathlib.Core.List.{List}
use native.Mathlib.Omega.{arith}
use lib.ListN.{get_or}
use Rattle.charset.specs.Set.{characters}
use Rattle.sheet.proofs.LineLaws.{line_carried}
use Rattle.split.proofs.LinesLaws.{lines_below}
use Rattle.sheet.proofs.SummedLaws.{summed_carried}
use Rattle.sheet.specs.Outcome.{TablesLine, LineBy}
use Rattle.sheet.proofs.read_accepted.Goals as goal

pub returns : goal.returns
returns c =
    let a = c.args in
    let flat = c.flatten in
    let read = c.read_lines in
    let book : (k : ℕ) → get_or a.book.now k 0 < characters = λ k. omega (arith, c.type_inv.book k) in
    let sheet : (k : ℕ) → get_or a.sheet.now k 0 < characters = λ k. omega (arith, c.type_inv.sheet k) in
    let t = flat.new.tables in
    summed_carried (λ (w : List ℕ). (k : ℕ) → get_or w k 0 < characters) (TablesLine t) (LineBy a.book.now) (line_carried a.book.now c.requires.well_formed book t flat.ensures)
    a.sheet.now a.chart.now a.summary.now read.new.chart read.new.summary (lines_below characters a.sheet.now sheet) read.ensures
