-- `note` meets its contract.
use mathlib.Core.Path.{refl}
use native.Mathlib.Omega.{arith}
use Rattle.load.proofs.NoteLaws.{notable_number, notable_ending}
use Rattle.load.specs.Held.{Noted}
use Rattle.tables.specs.Layout.{slot}
use Rattle.load.proofs.note.Goals as goal

pub overflow_mul-line : goal.overflow_mul-line
overflow_mul-line c =
    let start = c in
    omega (arith, notable_number _ _ _ _ _ _ start.requires.notable c.in-Number.is)

pub overflow_add-line : goal.overflow_add-line
overflow_add-line c =
    let start = c in
    omega (arith, notable_number _ _ _ _ _ _ start.requires.notable c.in-Number.is)

pub note_range-requires : goal.note_range-requires
note_range-requires c =
    let start = c in
    let (room, below, dashes) = notable_number _ _ _ _ _ _ start.requires.notable c.in-Number.is in
    (start.requires.tables_len.0, omega (arith, room), below, dashes)

pub overflow_cast-counts : goal.overflow_cast-counts
overflow_cast-counts c =
    let start = c in
    omega (arith, notable_ending _ _ _ _ start.requires.notable c.in-Ending.is)

pub bounds-counts-line : goal.bounds-counts-line
bounds-counts-line c =
    let start = c in
    omega (arith, start.requires.tables_len.1, notable_ending _ _ _ _ start.requires.notable c.in-Ending.is)

pub returns-in-Between : goal.returns-in-Between
unfolding Noted
returns-in-Between c = rw c.in-Between.is (refl, refl)

pub returns-in-Opened : goal.returns-in-Opened
unfolding Noted
returns-in-Opened c = rw c.in-Opened.is (refl, refl)

pub returns-in-Slash : goal.returns-in-Slash
unfolding Noted
returns-in-Slash c = rw c.in-Slash.is (refl, refl)

pub returns-in-Number : goal.returns-in-Number
unfolding Noted slot
returns-in-Number c = rw c.in-Number.is (c.note_range.ensures, refl)

pub returns-in-Dash : goal.returns-in-Dash
unfolding Noted
returns-in-Dash c = rw c.in-Dash.is (refl, refl)

pub returns-in-Closed : goal.returns-in-Closed
unfolding Noted
returns-in-Closed c = rw c.in-Closed.is (refl, refl)

pub returns-in-Ending : goal.returns-in-Ending
unfolding Noted
returns-in-Ending c = rw c.in-Ending.is (refl, refl)

pub returns-in-Stuck : goal.returns-in-Stuck
unfolding Noted
returns-in-Stuck c = rw c.in-Stuck.is (refl, refl)
