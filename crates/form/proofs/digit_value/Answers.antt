-- `digit_value` meets its contract.
use Rattle.form.proofs.StepLaws.{digit_value}
use Rattle.form.proofs.digit_value.Goals as goal

pub overflow_sub-byte : goal.overflow_sub-byte
overflow_sub-byte c = (digit_value c.args.byte c.requires).0
