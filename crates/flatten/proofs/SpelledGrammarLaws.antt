-- The grammar with its groups spelled out (02, [2]) has the same character class grammar and the same readings.
use Prim.Native.Nat.{ℕ}
use mathlib.Core.Path.{◌≡◌, ◌∙◌}
use mathlib.Core.List.{List}
use mathlib.Core.Logic.{◌↔◌}
use Rattle.flatten.proofs.AlikeLaws.{flat_alike, reading_alike}
use Rattle.flatten.proofs.SameFrontLaws.{front_flat, front_reading}
use Rattle.flatten.specs.Flat.{flat_grammar}
use Rattle.flatten.specs.Reading.{Reading}
use Rattle.grammar.proofs.SameFrontLaws.{front_back}
use Rattle.grammar.specs.Formed.{WellFormed}
use Rattle.priority.proofs.SpelledGrammarLaws.{spelled_front, spelled_pairs}
use Rattle.priority.specs.Priorities.{declarations_of}
use Rattle.priority.specs.Spelled.{spelled_grammar}
use Rattle.theory.specs.Tree.{Tree}

module _ (b : List ℕ) (w : WellFormed b) where
  -- Its character class grammar is the grammar's.
  pub spelled_flat : flat_grammar (spelled_grammar b) ≡ flat_grammar b
  spelled_flat =
      let c = spelled_grammar b in
      flat_alike (declarations_of c) (declarations_of b) (spelled_pairs b w) c ∙ front_flat b c (spelled_front b w.framed) (declarations_of b)

  -- Its readings of a text are the grammar's.
  pub spelled_reading : (text : List ℕ) (t : Tree) → Reading (spelled_grammar b) text t ↔ Reading b text t
  spelled_reading text t =
      let c = spelled_grammar b in
      let same = spelled_front b w.framed in
      let alike = reading_alike (declarations_of c) (declarations_of b) (spelled_pairs b w) c text t in
      ((λ r. front_reading c b (front_back b c same) (declarations_of b) text t (alike.0 r)), (λ r. alike.1 (front_reading b c same (declarations_of b) text t r)))
