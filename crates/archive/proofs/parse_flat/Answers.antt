-- `parse_flat` meets its contract.
use Rattle.archive.proofs.OutcomeLaws.{loaded_named, flat_refused, flat_carried}
use Rattle.archive.proofs.parse_flat.Goals as goal

pub parse_loaded-requires : goal.parse_loaded-requires
parse_loaded-requires c =
    let (readable, named, says) = loaded_named _ _ _ _ c.load.ensures c.in-Ok.is in
    (readable, named)

pub returns-in-Err : goal.returns-in-Err
returns-in-Err c = flat_refused _ _ _ _ _ _ _ _ c.load.ensures c.in-Err.is

pub returns-in-Ok : goal.returns-in-Ok
returns-in-Ok c =
    let (readable, named, says) = loaded_named _ _ _ _ c.load.ensures c.in-Ok.is in
    flat_carried _ _ _ _ _ _ _ _ _ says c.parse_loaded.ensures
