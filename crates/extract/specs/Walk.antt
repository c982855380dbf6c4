-- A stack of levels in the middle of writing a tree: a level for each production whose arguments are not all written yet.
use Rattle.std.specs.Prelude.{ℕ, zero, suc, ◌+◌, ◌-◌, ◌*◌, ◌≤◌, ◌<◌, true, List, ◌∷◌, ◌++◌, ◌≡◌, length, get_or}
use Rattle.chart.specs.Layout.{places}
use Rattle.extract.specs.Places.{Walkable}
use Rattle.layout.specs.Limits.{production_limit}
use Rattle.levels.specs.Levels.{level_bytes, production_of, written_of, places_of}
use Rattle.numbers.specs.Written.{room, Written}
use Rattle.tables.specs.Theory.{theory_of}
use Rattle.theory.specs.Counts.{Only}
use Rattle.theory.specs.Grammar.{Grammar, Spells, Stands}
use Rattle.theory.specs.Paths.{Path}
use Rattle.theory.specs.Tree.{Tree, node, Forest, production_number, listing, listings}

-- ---- how many levels there are

-- most levels: an only tree is no higher than there are productions and places
abbrev pub level_limit : ℕ
level_limit = production_limit * places

-- ---- what a stack says

-- Level n, counted from 0, of a tree of q₀ from i₀ to j₀: production q, whose arguments begin at the places of `ends`; its first d arguments are written.
-- `done` is written; once all arguments are, what is written is as Next says.
pub record Level (g : Grammar) (w : List ℕ) (q₀ i₀ j₀ n q d : ℕ) (ends : List ℕ) (Next : List ℕ → Type 0) (done : List ℕ) : Type 0 where
  pub path : Path g w q₀ i₀ j₀ q (get_or ends 0 0) (get_or ends (g.arity q) 0) (suc n)
  pub few : d ≤ g.arity q
  -- what is written of it
  pub trees : Forest
  pub spelled : Spells g w q trees d (get_or ends 0 0) (get_or ends d 0)
  pub start : List ℕ
  pub listed : done ≡ start ++ (production_number q ∷ listings trees)
  -- what is left
  pub left : (k : ℕ) → d ≤ k → k < g.arity q → (t : Tree) × Stands g w q k t (get_or ends k 0) (get_or ends (k + 1) 0)
  pub onward : (h : Forest) → Spells g w q h (g.arity q) (get_or ends 0 0) (get_or ends (g.arity q) 0) → Next (start ++ listing (node q h))

-- The first n levels stand open, with their productions, counts of written arguments and places, and `done` is written. With no level open it is a whole tree.
unfoldable pub Walk : (g : Grammar) (w : List ℕ) (q₀ i₀ j₀ : ℕ) (production written : ℕ → ℕ) (ends : ℕ → List ℕ) (n : ℕ) → List ℕ → Type 0
Walk g w q₀ i₀ j₀ production written ends zero done = (h : Forest) × Spells g w q₀ h (g.arity q₀) i₀ j₀ × (done ≡ listing (node q₀ h))
Walk g w q₀ i₀ j₀ production written ends (suc n) done =
    Level g w q₀ i₀ j₀ n (production n) (written n) (ends n) (Walk g w q₀ i₀ j₀ production written ends n) done

-- The only tree of q over the whole text is being written, with n levels open, into a buffer that held l₀ and holds l now; r is the next place.
pub record Writing (g : Grammar) (w : List ℕ) (q : ℕ) (l₀ levels : List ℕ) (n : ℕ) (l : List ℕ) (r : ℕ) : Type 0 where
  pub trees : Forest
  pub only : Only (λ (f : Forest). Spells g w q f (g.arity q) 0 (length w)) trees
  pub enough : g.count * (length w + 1) * level_bytes ≤ length levels
  pub high : n ≤ g.count * (length w + 1)
  pub done : List ℕ
  pub stack : Walk g w q 0 (length w) (production_of levels) (written_of levels) (places_of levels) n done
  pub written : Written done l₀ 0 l r

-- Some tree is being written by a filled chart.
pub record Midway (tables w chart levels : List ℕ) (n : ℕ) (l : List ℕ) (r : ℕ) : Type 0 where
  pub walkable : Walkable tables w chart
  pub root : ℕ
  pub root_wanted : walkable.wanted root 0 ≡ true
  pub before : List ℕ
  pub writing : Writing (theory_of tables) w root before levels n l r

-- Whatever tree was being written still is.
abbrev pub StillWriting : (g : Grammar) (w levels : List ℕ) (n : ℕ) (l : List ℕ) (r : ℕ) (levels' : List ℕ) (n' : ℕ) (l' : List ℕ) (r' : ℕ) → Type 0
StillWriting g w levels n l r levels' n' l' r' = (q : ℕ) (l₀ : List ℕ) → Writing g w q l₀ levels n l r → Writing g w q l₀ levels' n' l' r'

-- A step further: it still is, and there is less to do.
pub record Further (g : Grammar) (w levels : List ℕ) (n : ℕ) (l : List ℕ) (r : ℕ) (levels' : List ℕ) (n' : ℕ) (l' : List ℕ) (r' : ℕ) : Type 0 where
  pub still : StillWriting g w levels n l r levels' n' l' r'
  pub less : 2 * (room l' + 1 - r') + n' < 2 * (room l + 1 - r) + n

-- The only tree of q over the whole text was written: as many of its numbers as there is room for.
pub record OnlyWritten (g : Grammar) (w : List ℕ) (q : ℕ) (l₀ l : List ℕ) (r : ℕ) : Type 0 where
  pub trees : Forest
  pub only : Only (λ (f : Forest). Spells g w q f (g.arity q) 0 (length w)) trees
  pub written : Written (listing (node q trees)) l₀ 0 l r

-- To the end: whatever tree was being written is.
abbrev pub WrittenOut : (g : Grammar) (w levels : List ℕ) (n : ℕ) (l : List ℕ) (r : ℕ) (l' : List ℕ) (r' : ℕ) → Type 0
WrittenOut g w levels n l r l' r' = (q : ℕ) (l₀ : List ℕ) → Writing g w q l₀ levels n l r → OnlyWritten g w q l₀ l' r'
