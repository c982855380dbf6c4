-- `prepare_links` meets its contract: both parts are linked.
use Prim.Native.Nat.{ℕ, ◌-◌, ◌≤◌}
use mathlib.Core.List.{List, ◌++◌}
use mathlib.Core.Path.{sym, subst, subst⁻¹}
use native.Mathlib.Omega.{arith}
use lib.ListN.{length, drop, length-drop, length-append}
use lib.Seq.{length-take-le}
use Rattle.layout.specs.Limits.{production_limit, argument_limit}
use Rattle.links.specs.Linked.{UsersTo, UsesTo}
use Rattle.prepare.proofs.PreparedLaws.{front_zeros, linked}
use Rattle.prepare.specs.Prepared.{uses_at, counts_at, prepared_bytes}
use Rattle.tables.proofs.LayoutLaws.{counts_few}
use Rattle.tables.specs.Layout.{arity_in}
use Rattle.prepare.proofs.prepare_links.Goals as goal

pub slice_bounds-link_users-end-2 : goal.slice_bounds-link_users-end-2
slice_bounds-link_users-end-2 c =
    let start = c in
    sym (length-take-le uses_at start.args.prepared.now (omega (arith, start.requires.all_zero.long)))

pub link_users-requires : goal.link_users-requires
link_users-requires c = let start = c in
    let few = subst⁻¹ (λ (l : List ℕ). length l ≤ production_limit) start.requires.counts_value (counts_few start.args.tables.now start.requires.parser_tables) in
    let short = subst⁻¹ (λ (l : List ℕ). (p : ℕ) → arity_in l p ≤ argument_limit) start.requires.counts_value start.requires.parser_tables.few_arguments in
    record { counts_len_bound = (few, short, start.requires.parser_tables.long); all_zero = front_zeros uses_at prepared_bytes start.args.prepared.now (omega arith) start.requires.all_zero }

pub link_uses-requires : goal.link_uses-requires
link_uses-requires c = let start = c in
    let link-users = c.link_users in
    let few = subst⁻¹ (λ (l : List ℕ). length l ≤ production_limit) start.requires.counts_value (counts_few start.args.tables.now start.requires.parser_tables) in
    let short = subst⁻¹ (λ (l : List ℕ). (p : ℕ) → arity_in l p ≤ argument_limit) start.requires.counts_value start.requires.parser_tables.few_arguments in
    let front = link-users.new.users ++ drop uses_at start.args.prepared.now in
    record { counts_len_bound = (few, short, start.requires.parser_tables.long); uses_len = length-take-le (counts_at - uses_at) (drop uses_at front) (omega (arith, length-drop uses_at front, length-append link-users.new.users (drop uses_at start.args.prepared.now), length-drop uses_at start.args.prepared.now, link-users.ensures.long, start.requires.all_zero.long)) }

pub returns : goal.returns
returns c =
    let start = c in
    let link-users = c.link_users in
    let link-uses = c.link_uses in
    let users = subst (λ (l : List ℕ). UsersTo l start.args.tables.now (length l) link-users.new.users) start.requires.counts_value link-users.ensures in
    let uses = subst (λ (l : List ℕ). UsesTo l start.args.tables.now (length l) link-uses.new.uses) start.requires.counts_value link-uses.ensures in
    linked start.args.tables.now start.requires.parser_tables start.args.prepared.now link-users.new.users link-uses.new.uses start.requires.all_zero.long users uses
