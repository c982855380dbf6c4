-- The declarations of an accepted grammar are a priority declaration (000, Definition 2.5).
use Prim.Native.Nat.{ℕ}
use mathlib.Core.Path.{◌≡◌, refl, sym, ◌∙◌}
use mathlib.Core.Bool.{true}
use mathlib.Core.List.{List}
use Rattle.refusal.specs.Verdict.{accepted}
use Rattle.priority.proofs.ChainLaws.{chain_append}
use Rattle.priority.proofs.CheckLaws.{accepted_formed}
use Rattle.priority.proofs.CoverLaws.{declared_turned}
use Rattle.priority.proofs.PriorityLaws.{declared_there_lem, higher_there_lem}
use Rattle.priority.proofs.RefusalLaws.{accepted_free}
use Rattle.priority.specs.Check.{checked}
use Rattle.priority.specs.Priorities.{Kind, left, right, nonassoc, either_way, declarations_of, declared, PriorityDeclaration}
use Rattle.priority.specs.Refusals.{refusal9}

-- a kind that holds either way round is a symmetric relation
declared_symmetric : (b : List ℕ) (k : Kind) → either_way k ≡ true → (x y : ℕ) → declared b k x y ≡ true → declared b k y x ≡ true
declared_symmetric b k h x y e = sym (declared_turned (declarations_of b) k x y h) ∙ e

pub accepted_declares : (b : List ℕ) → checked b ≡ accepted → PriorityDeclaration b
unfolding either_way
accepted_declares b e =
    let w = accepted_formed b e in
    record {
      higher_there = λ x y c. higher_there_lem b w c;
      declared_there = declared_there_lem b w;
      irreflexive = λ x c. accepted_free b e 7 9 x (refusal9 (record { there = (higher_there_lem b w c).0; circle = c }));
      transitive = λ x y z c d. chain_append c d;
      left_symmetric = declared_symmetric b left refl;
      right_symmetric = declared_symmetric b right refl;
      nonassoc_symmetric = declared_symmetric b nonassoc refl;
    }
