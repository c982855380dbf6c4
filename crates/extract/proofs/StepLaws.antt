-- One step of writing a tree: what the last level says is there, and what writing it leads to.
use Prim.Native.Nat.{ℕ, ◌+◌, ◌-◌, ◌*◌, ◌≤◌, ◌<◌}
use mathlib.Core.Path.{◌≡◌, refl, sym, subst, subst₂}
use mathlib.Core.Bool.{false, true}
use mathlib.Core.List.{List, [], ◌∷◌}
use native.Mathlib.Omega.{arith}
use native.Mathlib.Nat.{mul-le-mul}
use lib.ListN.{length, get_or, set}
use Rattle.tables.specs.Layout.{slot, counts_of, arity_in, takes_production}
use Rattle.tables.proofs.LayoutLaws.{counts_few}
use Rattle.tables.specs.Theory.{theory_of}
use Rattle.chart.specs.Layout.{places}
use Rattle.common.specs.Region.{Region}
use Rattle.extract.proofs.ArgumentLaws.{Standing, char_test, char_stands, node_stands, child_there}
use Rattle.extract.proofs.CellLaws.{cell_wanted, cell_trees, cell_only}
use Rattle.levels.proofs.LevelsLaws.{Opens}
use Rattle.extract.proofs.WritingLaws.{last_fits, level_fits, last_count, last_few, last_left, last_wanted, writing_start, writing_pop, writing_tree, next_high, writing_push, writing_over, writing_all, room_less}
use Rattle.numbers.proofs.WrittenLaws.{written_room}
use Rattle.extract.specs.Places.{Walkable, FirstChild, Splits, cell_of}
use Rattle.levels.specs.Levels.{end_count, level_bytes, production_of, written_of, places_of, DueAt}
use Rattle.extract.specs.Walk.{level_limit, Writing, Midway, StillWriting, Further, WrittenOut}
use Rattle.numbers.specs.Written.{room, Written}
use Rattle.layout.specs.Limits.{argument_limit}
use Rattle.theory.proofs.SpellsLaws.{stands_rises}
use Rattle.theory.specs.Grammar.{Grammar, Spells, Stands}
use Rattle.theory.specs.Steps.{NextWanted}
use Rattle.theory.specs.Tree.{leaf, node, Forest, none, ◌▷◌, production_number, listing}

-- no arguments, no trees
no_trees : (g : Grammar) (w : List ℕ) (p : ℕ) (f : Forest) (i j : ℕ) → Spells g w p f 0 i j → f ≡ none
unfolding Spells
no_trees g w p none i j s = refl
no_trees g w p (f ▷ t) i j s = absurd s

module _ {tables w chart levels : List ℕ} {n : ℕ} {l : List ℕ} {r : ℕ} (h : Midway tables w chart levels n l r) (is_open : 1 ≤ n) where
  abbrev last : ℕ
  last = n - 1

  -- the last level has room, and names a production
  pub last_room : (last + 1) * level_bytes ≤ length levels
  last_room = last_fits (theory_of tables) w h.root h.before levels n l r h.writing is_open

  pub last_production : production_of levels last < length (counts_of tables)
  last_production = last_count (theory_of tables) w h.root h.before levels n l r h.writing is_open

  pub last_within : written_of levels last ≤ arity_in (counts_of tables) (production_of levels last)
  last_within = last_few (theory_of tables) w h.root h.before levels n l r h.writing is_open

  -- ---- the level is done

  pub closed_further : written_of levels last ≡ arity_in (counts_of tables) (production_of levels last) → Further (theory_of tables) w levels n l r levels last l r
  closed_further e =
      record {
        still = λ q l₀ s. writing_pop (theory_of tables) w q l₀ levels n l r s is_open e;
        less = omega (arith, is_open);
      }

  -- ---- it is not

  module _ (roomy : r ≤ room l) (less : written_of levels last < arity_in (counts_of tables) (production_of levels last)) where
    pub few_written : written_of levels last < argument_limit
    few_written = omega (arith, h.walkable.fits.tables.few_arguments (production_of levels last))

    -- argument d of p, from m to j, comes next
    module _ (p d m j : ℕ) (due : DueAt levels last p d m j) where
      here : (A : ℕ → ℕ → Type 0) → A (production_of levels last) (written_of levels last) → A p d
      here A x = subst₂ A (sym due.is_production) (sym due.is_argument) x

      pub due_production : p < length (counts_of tables)
      due_production = omega (arith, due.is_production, last_production)

      pub due_argument : d < arity_in (counts_of tables) p
      due_argument = here (λ (x y : ℕ). y < arity_in (counts_of tables) x) less

      abbrev AtPlaces : (x y : ℕ) → Type 0
      AtPlaces x y = Standing tables w x y (get_or (places_of levels last) y 0) (get_or (places_of levels last) (y + 1) 0)

      pub due_standing : Standing tables w p d m j
      due_standing =
          subst₂ (λ (x : ℕ) (y : ℕ). Standing tables w p d x y) (sym due.is_from) (sym due.is_to)
          (here AtPlaces (last_left (theory_of tables) w h.root h.before levels n l r h.writing is_open less))

      pub due_rises : (m ≤ j) × (j ≤ length w)
      due_rises = let (t, s) = due_standing in stands_rises (theory_of tables) w p d t m j s

      due_wanted : NextWanted (theory_of tables) h.walkable.wanted p d m
      due_wanted =
          subst (λ (x : ℕ). NextWanted (theory_of tables) h.walkable.wanted p d x) (sym due.is_from)
          (here (λ (x y : ℕ). NextWanted (theory_of tables) h.walkable.wanted x y (get_or (places_of levels last) y 0))
          (last_wanted (theory_of tables) w h.root h.before levels n l r h.writing is_open h.walkable.wanted h.walkable.dues h.root_wanted less))

      -- what stands from m to j stands where the level says
      there : (A : ℕ → ℕ → ℕ → ℕ → Type 0) → A p d m j
          → A (production_of levels last) (written_of levels last) (get_or (places_of levels last) (written_of levels last) 0) (get_or (places_of levels last) (written_of levels last + 1) 0)
      there A x =
          subst₂ (λ (a b : ℕ). A a b (get_or (places_of levels last) b 0) (get_or (places_of levels last) (b + 1) 0)) due.is_production due.is_argument
          (subst₂ (λ (a b : ℕ). A p d a b) due.is_from due.is_to x)

      -- a character
      pub char_further : (levels' l' : List ℕ) (r' c : ℕ) → levels' ≡ set levels (last * level_bytes + 1) (written_of levels last + 1) → char_test tables w p d m j ≡ true → c ≡ get_or w m 0
          → Written (c ∷ []) l r l' r' → Further (theory_of tables) w levels n l r levels' n l' r'
      unfolding listing
      char_further levels' l' r' c is e same v =
          let stands = there (λ (a b x y : ℕ). Stands (theory_of tables) w a b (leaf c) x y)
          (subst (λ (x : ℕ). Stands (theory_of tables) w p d (leaf x) m j) (sym same) (char_stands tables w p d m j due_rises.1 e)) in
          record {
            still = λ q l₀ s. subst (λ (x : List ℕ). Writing (theory_of tables) w q l₀ x n l' r') (sym is) (writing_tree (theory_of tables) w q l₀ levels n l r s is_open (leaf c) l' r' less stands v);
            less = omega (arith, room_less c l l' r r' n v roomy);
          }

      -- a production
      module _ (no_char : char_test tables w p d m j ≡ false) (u : ℕ) (first : FirstChild tables w chart p d m j u) where
        pub child_count : u < length (counts_of tables)
        child_count = child_there h.walkable p d m j u due_wanted first no_char due_standing

        pub child_cell : 1 ≤ cell_of tables w chart u (arity_in (counts_of tables) u) m j
        child_cell = (first.stands child_count).1

        child_trees : (f : Forest) × Spells (theory_of tables) w u f (arity_in (counts_of tables) u) m j
        child_trees = cell_trees h.walkable u (arity_in (counts_of tables) u) m j child_count (omega arith) due_rises.0 due_rises.1 child_cell

        -- without arguments it is a whole tree
        pub bare_further : (levels' l' : List ℕ) (r' : ℕ) → levels' ≡ set levels (last * level_bytes + 1) (written_of levels last + 1) → arity_in (counts_of tables) u ≡ 0
            → Written (production_number u ∷ []) l r l' r' → Further (theory_of tables) w levels n l r levels' n l' r'
        unfolding listing
        bare_further levels' l' r' is zero_arity v =
            let (f, s) = child_trees in
            let alone = no_trees (theory_of tables) w u f m j (subst (λ (x : ℕ). Spells (theory_of tables) w u f x m j) zero_arity s) in
            let spelled = subst (λ (x : Forest). Spells (theory_of tables) w u x (arity_in (counts_of tables) u) m j) alone s in
            let stands = there (λ (a b x y : ℕ). Stands (theory_of tables) w a b (node u none) x y) (node_stands tables w p d m j u none child_count (first.stands child_count).0 spelled) in
            record {
              still = λ q l₀ s. subst (λ (x : List ℕ). Writing (theory_of tables) w q l₀ x n l' r') (sym is)
                  (writing_tree (theory_of tables) w q l₀ levels n l r s is_open (node u none) l' r' less stands v);
              less = omega (arith, room_less (production_number u) l l' r r' n v roomy);
            }

        pub child_high : n + 1 ≤ length (counts_of tables) * (length w + 1)
        child_high =
            let (f, s) = child_trees in
            next_high (theory_of tables) w h.root h.before levels n l r h.writing is_open u f less
            (there (λ (a b x y : ℕ). Stands (theory_of tables) w a b (node u f) x y) (node_stands tables w p d m j u f child_count (first.stands child_count).0 s))

        -- so there are few levels
        pub child_few : n + 1 ≤ level_limit
        child_few =
            let places_few : length w + 1 ≤ places = omega (arith, h.walkable.fits.short) in
            omega (arith, child_high, mul-le-mul (counts_few tables h.walkable.fits.tables) places_few)

        pub child_room : (n + 1) * level_bytes ≤ length levels
        child_room = level_fits (theory_of tables) w h.root h.before levels n l r h.writing is_open n (omega (arith, child_high))

        pub child_further : (ends mid levels' l' : List ℕ) (r' : ℕ) → mid ≡ set levels (last * level_bytes + 1) (written_of levels last + 1) → length ends ≡ end_count
            → Splits (theory_of tables) w u 0 m j ends → Region (Opens u ends) 0 (n * level_bytes) level_bytes mid levels'
            → Written (production_number u ∷ []) l r l' r' → Further (theory_of tables) w levels n l r levels' (n + 1) l' r'
        child_further ends mid levels' l' r' is long splits opened v =
            let at_places = there (λ (a b x y : ℕ). Splits (theory_of tables) w u 0 x y ends) splits in
            let start = there (λ (a b x y : ℕ). x ≤ length w) (omega (arith, due_rises)) in
            let sub = there (λ (a b x y : ℕ). takes_production tables (slot a b) u ≡ true) (first.stands child_count).0 in
            record {
              still = λ q l₀ s. writing_push (theory_of tables) w q l₀ levels n l r s is_open u ends levels' l' r' less child_count sub child_high long at_places start (subst (λ (x : List ℕ). Region (Opens u ends) 0 (n * level_bytes) level_bytes x levels') is opened) v;
              less = room_less (production_number u) l l' r r' n v roomy;
            }

-- ---- many steps

-- the first level is open, and its number written
module _ {tables w chart : List ℕ} (h : Walkable tables w chart) (q : ℕ) (levels levels' ends l₀ l : List ℕ) (r : ℕ) (lq : q < length (counts_of tables))
    (one : cell_of tables w chart q (arity_in (counts_of tables) q) 0 (length w) ≡ 1) (enough : length (counts_of tables) * (length w + 1) * level_bytes ≤ length levels) (long : length ends ≡ end_count)
    (splits : Splits (theory_of tables) w q 0 0 (length w) ends) (opened : Region (Opens q ends) 0 (0 * level_bytes) level_bytes levels levels')
    (v : Written (production_number q ∷ []) l₀ 0 l r) where
  pub started_writing : Writing (theory_of tables) w q l₀ levels' 1 l r
  started_writing =
      let (f, o) = cell_only h q (arity_in (counts_of tables) q) 0 (length w) lq (omega arith) (omega arith) (omega arith) one in
      writing_start (theory_of tables) w q f levels levels' ends l₀ l r lq o enough long splits opened v

  pub started : Midway tables w chart levels' 1 l r
  started =
      record {
        walkable = h;
        root = q;
        root_wanted = cell_wanted h q (arity_in (counts_of tables) q) 0 (length w) lq (omega arith) (omega arith) (omega arith) (omega arith);
        before = l₀;
        writing = started_writing;
      }

-- a tree that still is being written
pub midway_still : {tables w chart levels : List ℕ} {n : ℕ} {l : List ℕ} {r : ℕ} (levels' : List ℕ) (n' : ℕ) (l' : List ℕ) (r' : ℕ) → Midway tables w chart levels n l r
    → StillWriting (theory_of tables) w levels n l r levels' n' l' r' → Midway tables w chart levels' n' l' r'
midway_still levels' n' l' r' h still = record { walkable = h.walkable; root = h.root; root_wanted = h.root_wanted; before = h.before; writing = still h.root h.before h.writing }

-- no room is left, or no level is open
pub out_of_room : (g : Grammar) (w levels : List ℕ) (n : ℕ) (l : List ℕ) (r : ℕ) (levels' : List ℕ) (n' : ℕ) (l' : List ℕ) (r' : ℕ) → StillWriting g w levels n l r levels' n' l' r' → room l' < r'
    → WrittenOut g w levels n l r l' r'
out_of_room g w levels n l r levels' n' l' r' still h q l₀ s =
    let t = still q l₀ s in
    writing_over g w q l₀ levels' n' l' r' t (omega (arith, t.written.next, written_room t.done l₀ l' 0 r' t.written))

pub all_closed : (g : Grammar) (w levels : List ℕ) (n : ℕ) (l : List ℕ) (r : ℕ) (levels' : List ℕ) (n' : ℕ) (l' : List ℕ) (r' : ℕ) → StillWriting g w levels n l r levels' n' l' r' → n' ≡ 0
    → WrittenOut g w levels n l r l' r'
all_closed g w levels n l r levels' n' l' r' still e q l₀ s = writing_all g w q l₀ levels' n' l' r' (still q l₀ s) e
