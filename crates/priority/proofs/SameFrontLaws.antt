-- Grammars that differ only in their declarations and in which end of a range stands first have the same conflicts by a list of declarations.
use Prim.Native.Nat.{ℕ, ◌+◌, ◌<◌}
use mathlib.Core.Path.{◌≡◌, refl, ◌∙◌, ap}
use mathlib.Core.Bool.{◌&&◌}
use mathlib.Core.List.{List}
use lib.Dec.{leb, eqb}
use Rattle.grammar.proofs.SameFrontLaws.{SameFront, same_sorts, same_productions, same_count, same_result, same_argument_lem}
use Rattle.layout.specs.Layout.{productions, argument_count}
use Rattle.priority.specs.Conflict.{is_sort, fits, is_first, is_last, ConflictIn, anywhere, at_first, at_last, barred, conflicts_in}
use Rattle.priority.specs.declared.Declaration.{Declaration}

module _ (b c : List ℕ) (same : SameFront b c) (p i q : ℕ) (lp : p < productions b) (li : i < argument_count b p) (lq : q < productions b) where
  -- what fits as an argument
  pub front_fits : fits c p i q ≡ fits b p i q
  unfolding fits is_sort
  front_fits = rw (same_argument_lem b c same p i lp li, same_result b c same q lq, same_sorts b c same) refl

  -- which argument is the first of several
  front_first : is_first c p i ≡ is_first b p i
  unfolding is_first
  front_first = ap (λ (n : ℕ). eqb i 0 && leb 2 n) (same_count b c same p lp)

  -- which is the last
  front_last : is_last c p i ≡ is_last b p i
  unfolding is_last
  front_last = ap (λ (n : ℕ). eqb (i + 1) n && leb 2 n) (same_count b c same p lp)

  -- a conflict by the one grammar is one by the other
  pub front_conflict : {ls : List Declaration} → ConflictIn b ls p i q → ConflictIn c ls p i q
  front_conflict (anywhere fit h) = anywhere (front_fits ∙ fit) h
  front_conflict (at_first fit f h) = at_first (front_fits ∙ fit) (front_first ∙ f) h
  front_conflict (at_last fit f h) = at_last (front_fits ∙ fit) (front_last ∙ f) h

  -- and by the test
  pub front_conflicts : (ls : List Declaration) → conflicts_in c ls p i q ≡ conflicts_in b ls p i q
  unfolding conflicts_in barred
  front_conflicts ls = rw (front_fits, front_first, front_last, same_productions b c same) refl
