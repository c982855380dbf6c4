-- `parse_loaded` meets its contract.
use mathlib.Core.Path.{sym, ◌∙◌}
use native.Mathlib.Omega.{arith}
use borrow.Author.Rules.{rules}
use Rattle.archive.proofs.OutcomeLaws.{tables_root, root_absent, root_refused, root_carried}
use Rattle.charset.proofs.BytesLaws.{bytes_of}
use Rattle.tables.proofs.LayoutLaws.{counts_few}
use Rattle.archive.proofs.parse_loaded.Goals as goal

pub production_count-requires : goal.production_count-requires
production_count-requires c =
    let start = c in
    let put-class = c.put_class in
    let root = tables_root start.args.tables.now put-class.new.tables start.args.roots _ _ put-class.ensures start.requires.0 c.of.ensures in
    root

pub check_class-requires : goal.check_class-requires
check_class-requires c =
    let start = c in
    let put-class = c.put_class in
    let root = tables_root start.args.tables.now put-class.new.tables start.args.roots _ _ put-class.ensures start.requires.0 c.of.ensures in
    (root.long, omega arith, omega (arith, c.production_count.ensures, counts_few _ root))

pub parse_tables-requires : goal.parse_tables-requires
parse_tables-requires c =
    let start = c in
    let put-class = c.put_class in
    let root = tables_root start.args.tables.now put-class.new.tables start.args.roots _ _ put-class.ensures start.requires.0 c.of.ensures in
    root

pub returns-in-Err : goal.returns-in-Err
returns-in-Err c =
    let start = c in
    let put-class = c.put_class in
    let root = root_refused start.args.tables.now put-class.new.tables start.args.roots _ _ put-class.ensures start.requires.0 c.of.ensures in
    let found = root_absent start.args.tables.now put-class.new.tables start.args.roots _ _ put-class.ensures start.requires.0 c.of.ensures _ c.production_count.ensures in
    root start.requires.1 _ _ _ _ (sym found ∙ sym c.check_class.ensures ∙ c.in-Err.is)

pub returns-in-Ok : goal.returns-in-Ok
returns-in-Ok c =
    let start = c in
    let put-class = c.put_class in
    let root = root_carried start.args.tables.now put-class.new.tables start.args.roots _ _ put-class.ensures start.requires.0 c.of.ensures in
    let found = root_absent start.args.tables.now put-class.new.tables start.args.roots _ _ put-class.ensures start.requires.0 c.of.ensures _ c.production_count.ensures in
    root start.requires.1 _ _ _ (search rules) (bytes_of start.args.text.now c.type_inv.text) (sym found ∙ sym c.check_class.ensures ∙ c.in-Ok.is) _ _ _ c.parse_tables.ensures
