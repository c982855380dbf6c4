-- `first_child` meets its contract: no production before q fits.
use Prim.Native.Nat.{ℕ, ◌<◌}
use Rattle.extract.proofs.ArgumentLaws.{Child}
use Rattle.extract.proofs.first_child.Given as goal

abbrev pub invariant-loop-q : goal.invariant-loop-q
invariant-loop-q l = (k : ℕ) → k < l.q → Child l.tables l.text l.chart l.p l.d l.m l.j k → ⊥
