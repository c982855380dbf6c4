-- `with_counts` meets its contract.
use Prim.Native.Nat.{ℕ}
use mathlib.Core.Path.{sym, ◌∙◌, ap}
use lib.ListN.{length}
use Rattle.ccg.proofs.TablesLaws.{table_length}
use Rattle.std.proofs.lemmas.Result.{err_from_is_err_and}
use Rattle.load.proofs.LoadLaws.{answer_refused, answer_lines}
use Rattle.tables.proofs.PutLaws.{put_counts, put_tables}
use Rattle.load.proofs.with_counts.Goals as goal

pub check_names-requires : goal.check_names-requires
check_names-requires c =
    let start = c in
    put_tables start.args.counts.now _ start.requires.1 c.put_counts.ensures.counts_put start.requires.2

pub returns-in_err-check_names : goal.returns-in_err-check_names
returns-in_err-check_names c =
    let p = err_from_is_err_and c.from_residual.result c.from_residual.ensures.1 in
    record {
      counts_put = c.put_counts.ensures.counts_put;
      classes_kept = c.put_counts.ensures.classes_kept;
      value = rw (p.1, p.2) (answer_refused _ _ (sym c.check_names.ensures ∙ c.in_err-check_names.was));
    }

pub returns : goal.returns
returns c =
    let start = c in
    let answer = answer_lines _ _ (sym c.check_names.ensures ∙ c.in_ok-check_names.was) (sym (table_length _ ∙ ap (length {A = ℕ}) (put_counts start.args.counts.now _ start.requires.1 c.put_counts.ensures.counts_put))) in
    record { counts_put = c.put_counts.ensures.counts_put; classes_kept = c.put_counts.ensures.classes_kept; value = answer }
