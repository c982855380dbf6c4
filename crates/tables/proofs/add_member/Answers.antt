-- `add_member` meets its contract.
use Prim.Native.Nat.{ℕ, ◌+◌, ◌/◌}
use mathlib.Core.Path.{ap}
use Rattle.charset.specs.Set.{word_bits}
use Rattle.tables.proofs.MemberLaws.{member_added}
use Rattle.tables.proofs.add_member.Goals as goal

pub returns : goal.returns
returns c =
    let start = c in
    member_added start.args.tables.now start.args.s start.args.x _ start.requires.0 start.requires.1 start.requires.2 (ap (λ (n : ℕ). n + start.args.x / word_bits) c.slot_at.ensures.place)
