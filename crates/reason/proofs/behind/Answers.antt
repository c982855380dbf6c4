-- `behind` meets its contract: the three lines in order.
use Prim.Native.Nat.{ℕ}
use mathlib.Core.Path.{◌≡◌, refl, sym, ◌∙◌}
use mathlib.Core.Bool.{Bool, false, true}
use mathlib.Core.List.{List}
use mathlib.Core.Logic.{◌↔◌}
use Rattle.common.proofs.BoolLaws.{not_both}
use Rattle.priority.specs.Chain.{entry}
use Rattle.priority.specs.Priorities.{left, right, kind_number, either_way, Higher}
use Rattle.reason.proofs.ReasonLaws.{yes_accepted, yes_formed, yes_there, reasoned_higher, first_covered, reasoned_first, last_covered, reasoned_last}
use Rattle.reason.proofs.behind.Goals as goal

-- the entry that is read, and what it says
module _ (b : List ℕ) (table : List (List Bool)) (p q : ℕ) (on : Bool) (all : (x y : ℕ) → (entry table x y ≡ true) ↔ Higher b x y) (read : on ≡ entry table p q) where
  higher_on : on ≡ true → Higher b p q
  higher_on e = (all p q).0 (sym read ∙ e)

  higher_off : on ≡ false → Higher b p q → ⊥
  higher_off e h = not_both (entry table p q) ((all p q).1 h) (sym read ∙ e)

pub priorities-requires : goal.priorities-requires
priorities-requires c = yes_formed _ _ _ _ c.requires

pub entry_at-requires : goal.entry_at-requires
entry_at-requires c = yes_there _ _ _ _ c.requires

pub write_chain-requires : goal.write_chain-requires
write_chain-requires c = (yes_accepted _ _ _ _ c.requires, higher_on _ _ _ _ _ c.priorities.ensures c.entry_at.ensures c.if-entry_at.true)

pub returns-then-entry_at : goal.returns-then-entry_at
returns-then-entry_at c = reasoned_higher _ _ _ _ _ c.requires c.write_chain.result _ (higher_on _ _ _ _ _ c.priorities.ensures c.entry_at.ensures c.if-entry_at.true) c.write_chain.ensures

pub lowest-requires : goal.lowest-requires
unfolding kind_number either_way
lowest-requires c = record { well_formed = yes_formed _ _ _ _ c.requires; side = (right, (refl, refl), first_covered _ _ _ _ c.requires (higher_off _ _ _ _ _ c.priorities.ensures c.entry_at.ensures c.if-entry_at.false) c.if-i-eq0.true) }

pub returns-then-i-eq0 : goal.returns-then-i-eq0
unfolding kind_number either_way
returns-then-i-eq0 c = reasoned_first _ _ _ _ _ c.requires (higher_off _ _ _ _ _ c.priorities.ensures c.entry_at.ensures c.if-entry_at.false) c.lowest.result c.if-i-eq0.true (c.lowest.ensures right (refl, refl))

pub lowest-requires-2 : goal.lowest-requires-2
unfolding kind_number either_way
lowest-requires-2 c = record { well_formed = yes_formed _ _ _ _ c.requires; side = (left, (refl, refl), last_covered _ _ _ _ c.requires (higher_off _ _ _ _ _ c.priorities.ensures c.entry_at.ensures c.if-entry_at.false) c.if-i-eq0.false) }

pub returns : goal.returns
unfolding kind_number either_way
returns c = reasoned_last _ _ _ _ _ c.requires (higher_off _ _ _ _ _ c.priorities.ensures c.entry_at.ensures c.if-entry_at.false) c.lowest-2.result c.if-i-eq0.false (c.lowest-2.ensures left (refl, refl))
