-- The numbers of a tree of a grammar are numbers that a listing may have.
use Prim.Native.Nat.{ℕ, zero, suc, ◌-◌, ◌≤◌, ◌<◌}
use mathlib.Core.List.{List}
use native.Mathlib.Omega.{arith}
use lib.ListN.{get_or}
use Rattle.charset.specs.Set.{characters}
use Rattle.classes.proofs.ClassesLaws.{class_character}
use Rattle.common.proofs.AllLaws.{all_append}
use Rattle.common.specs.Lists.{All}
use Rattle.flatten.specs.Trees.{Built, Arguments}
use Rattle.layout.specs.Layout.{productions, argument_count}
use Rattle.layout.specs.Limits.{class_base, production_limit}
use Rattle.theory.specs.Tree.{Tree, leaf, node, Forest, none, ◌▷◌, production_number, listing, listings}

-- a character, or the number of a production
abbrev pub SomeNumber : ℕ → Type 0
SomeNumber n = n < production_number production_limit

mutual
  unfolding Built listing

  pub built_numbers : (b : List ℕ) → ((k : ℕ) → get_or b k 0 < characters) → productions b ≤ production_limit → (t : Tree) (x : ℕ) → Built b x t → All SomeNumber (listing t)
  built_numbers b bytes few (leaf c) x h = (omega (arith, class_character b bytes (x - class_base) c h.1), tt)
  built_numbers b bytes few (node p f) x h = (omega (arith, h.0), arguments_numbers b bytes few f p (argument_count b p) h.2)

  arguments_numbers : (b : List ℕ) → ((k : ℕ) → get_or b k 0 < characters) → productions b ≤ production_limit → (f : Forest) (p d : ℕ) → Arguments b p f d → All SomeNumber (listings f)
  arguments_numbers b bytes few none p d h = tt
  arguments_numbers b bytes few (f ▷ t) p zero h = absurd h
  arguments_numbers b bytes few (f ▷ t) p (suc d) h =
      all_append SomeNumber (listings f) (listing t) (arguments_numbers b bytes few f p d h.0) (built_numbers b bytes few t _ h.1)
