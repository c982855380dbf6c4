-- Behind a complete tree: the listing and the text must end with it.
use Prim.Native.Nat.{ℕ, ◌≤◌, ◌<◌}
use mathlib.Core.Path.{◌≡◌, refl}
use mathlib.Core.List.{List, []}
use lib.ListN.{length, drop, drop_of_length-le}
use lib.Seq.{drop-cons}
use Rattle.ccg.specs.Ccg.{Line}
use Rattle.listing.specs.Judge.{judge}
use Rattle.listing.specs.declared.Judgement.TheVariants.{Right, Wrong}

module _ (g : List Line) (numbers w : List ℕ) (next place : ℕ) where
  -- a number comes after it
  pub numbers_left : next < length numbers → judge g (drop next numbers) [] (drop place w) next ≡ Wrong next
  unfolding judge
  numbers_left h = rw (drop-cons numbers next 0 h) refl

  -- text is left over
  pub text_left : length numbers ≤ next → place < length w → judge g (drop next numbers) [] (drop place w) next ≡ Wrong next
  unfolding judge
  text_left h l = rw (drop_of_length-le numbers h, drop-cons w place 0 l) refl

  pub nothing_left : length numbers ≤ next → length w ≤ place → judge g (drop next numbers) [] (drop place w) next ≡ Right
  unfolding judge
  nothing_left h l = rw (drop_of_length-le numbers h, drop_of_length-le w l) refl
