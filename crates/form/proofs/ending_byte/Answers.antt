-- `ending_byte` meets its contract.
use Rattle.form.proofs.EndingLaws.{ending_at}
use Rattle.form.proofs.ending_byte.Goals as goal

pub returns : goal.returns
returns c =
    let start = c in
    ending_at start.args.line start.args.k _ _ _ start.requires.0 c.digit.ensures c.digit-2.ensures c.digit-3.ensures
