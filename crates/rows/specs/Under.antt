-- The text under a number of a listing (02, [1]).
use Rattle.std.specs.Prelude.{ℕ, List, ◌++◌, ◌≡◌, drop}
use Rattle.std.proofs.Math.Seq.{slice}
use Rattle.rows.specs.declared.Row.{Row}
use Rattle.theory.specs.Tree.{Tree, yield, listing, Subtree}

-- What stands at number k of the listing of t: a subtree (02, [1]; the text under a number).
pub record Stands (t : Tree) (k : ℕ) (r : Row) : Type 0 where
  pub subtree : Tree
  pub is_subtree : Subtree subtree t
  -- its listing begins there
  pub others : List ℕ
  pub begins : drop k (listing t) ≡ listing subtree ++ others
  -- and it spells the text from the row's start to its end
  pub spells : slice r.start r.end (yield t) ≡ yield subtree
