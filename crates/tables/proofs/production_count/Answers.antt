-- `production_count` meets its contract: it is the first word.
use mathlib.Core.Path.{sym}
use Rattle.tables.proofs.LayoutLaws.{counts_long}
use Rattle.tables.proofs.production_count.Goals as goal

pub returns : goal.returns
returns c =
    let start = c in
    sym (counts_long start.args.tables.now start.requires.long start.requires.few_productions)
