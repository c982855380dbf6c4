-- `row_octets` meets its contract: the table is written by the octets of the arguments.
use Prim.Native.Nat.{ℕ}
use Rattle.std.proofs.Common.{rules}
use Rattle.tables.specs.Layout.{slot, production_octet}
use Rattle.links.proofs.row_octets.Goals as goal

pub returns : goal.returns
unfolding slot
returns c = c.fill_rows.ensures (λ (p d : ℕ). production_octet c.args.tables.now (slot p d) c.args.k) (λ p d r l m e. search rules)
