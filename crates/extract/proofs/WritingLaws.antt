-- Writing a tree with a stack of levels in bytes: its first level, one argument more, a level more, a level less, and its end.
use Prim.Native.Nat.{ℕ, suc, ◌+◌, ◌-◌, ◌*◌, ◌≤◌, ◌<◌}
use mathlib.Core.Path.{◌≡◌, sym, ◌∙◌, ap, subst}
use mathlib.Core.Bool.{true}
use mathlib.Core.List.{List, [], ◌∷◌, ◌++◌}
use native.Mathlib.Omega.{arith}
use native.Mathlib.Nat.{mul-le-mul_right}
use lib.ListN.{length, get_or, length-set}
use Rattle.common.specs.Region.{Region}
use Rattle.levels.proofs.LevelsLaws.{Opens, SameLevel, counted, counted_written, counted_production, counted_places, counted_other, opened_production, opened_written, opened_places, opened_before}
use Rattle.extract.proofs.WalkLaws.{Moved, walk_start, walk_pop, walk_more, walk_push, walk_room, walk_complete}
use Rattle.numbers.proofs.WrittenLaws.{written_over, written_append, written_room}
use Rattle.extract.specs.Places.{Splits}
use Rattle.levels.specs.Levels.{end_count, level_bytes, production_of, written_of, places_of}
use Rattle.extract.specs.Walk.{Walk, Writing, OnlyWritten}
use Rattle.numbers.specs.Written.{room, Written}
use Rattle.theory.proofs.PathsLaws.{OnlyTrees, path_bound, path_count, path_wanted}
use Rattle.theory.specs.Grammar.{Grammar, Stands}
use Rattle.theory.specs.Paths.{top}
use Rattle.theory.specs.Steps.{Wanted, DueWanted, NextWanted}
use Rattle.theory.specs.Tree.{Tree, node, Forest, production_number, listing}

-- ---- the first level

-- a tree has a level at least
one_level : (g : Grammar) (w : List ℕ) (q : ℕ) (f : Forest) → q < g.count → OnlyTrees g w q 0 (length w) f → 1 ≤ g.count * (length w + 1)
one_level g w q f l o = path_bound g w q 0 (length w) f o q 0 (length w) 1 (top l) f o.holds

pub first_fits : (g : Grammar) (w levels : List ℕ) (q : ℕ) (f : Forest) → q < g.count → OnlyTrees g w q 0 (length w) f → g.count * (length w + 1) * level_bytes ≤ length levels
    → (0 + 1) * level_bytes ≤ length levels
first_fits g w levels q f l o h = omega (arith, mul-le-mul_right level_bytes (one_level g w q f l o))

pub writing_start : (g : Grammar) (w : List ℕ) (q : ℕ) (f : Forest) (levels levels' ends l₀ l : List ℕ) (r : ℕ) → q < g.count → OnlyTrees g w q 0 (length w) f
    → g.count * (length w + 1) * level_bytes ≤ length levels → length ends ≡ end_count → Splits g w q 0 0 (length w) ends
    → Region (Opens q ends) 0 (0 * level_bytes) level_bytes levels levels' → Written (production_number q ∷ []) l₀ 0 l r
    → Writing g w q l₀ levels' 1 l r
writing_start g w q f levels levels' ends l₀ l r lq o h long s opened v =
    let fits = first_fits g w levels q f lq o h in
    record {
      trees = f;
      only = o;
      enough = omega (arith, opened.long);
      high = one_level g w q f lq o;
      done = production_number q ∷ [];
      stack = walk_start g w q 0 (length w) (production_of levels') (written_of levels') (places_of levels') lq (omega arith)
          (opened_production levels levels' 0 q ends long fits opened) (opened_written levels levels' 0 q ends long fits opened)
          (subst (λ (x : List ℕ). Splits g w q 0 0 (length w) x) (sym (opened_places levels levels' 0 q ends long fits opened)) s);
      written = v;
    }

-- ---- the last level

module _ (g : Grammar) (w : List ℕ) (q : ℕ) (l₀ levels : List ℕ) (n : ℕ) (l : List ℕ) (r : ℕ) (s : Writing g w q l₀ levels n l r) (o : 1 ≤ n) where
  abbrev k : ℕ
  k = n - 1

  abbrev p : ℕ
  p = production_of levels (n - 1)

  abbrev d : ℕ
  d = written_of levels (n - 1)

  abbrev places : List ℕ
  places = places_of levels (n - 1)

  last_level : Walk g w q 0 (length w) (production_of levels) (written_of levels) (places_of levels) (suc k) s.done
  last_level = let e : n ≡ suc k = omega arith in subst (λ (m : ℕ). Walk g w q 0 (length w) (production_of levels) (written_of levels) (places_of levels) m s.done) e s.stack

  -- levels up to the last, and one more if there may be one, have room
  pub level_fits : (m : ℕ) → m < g.count * (length w + 1) → (m + 1) * level_bytes ≤ length levels
  level_fits m h = let a : m + 1 ≤ g.count * (length w + 1) = omega arith in omega (arith, s.enough, mul-le-mul_right level_bytes a)

  pub last_fits : (k + 1) * level_bytes ≤ length levels
  last_fits = level_fits k (omega (arith, s.high))

  pub last_count : p < g.count
  unfolding Walk
  last_count = path_count g w q 0 (length w) p (get_or places 0 0) (get_or places (g.arity p) 0) (suc k) last_level.path

  pub last_few : d ≤ g.arity p
  unfolding Walk
  last_few = last_level.few

  -- a tree stands as its next argument, and what may stand there is wanted
  pub last_left : d < g.arity p → (t : Tree) × Stands g w p d t (get_or places d 0) (get_or places (d + 1) 0)
  unfolding Walk
  last_left h = last_level.left d (omega arith) h

  pub last_wanted : (wanted : Wanted) → DueWanted g w wanted → wanted q 0 ≡ true → d < g.arity p → NextWanted g wanted p d (get_or places d 0)
  unfolding Walk
  last_wanted wanted dues root h =
      dues.due p d (get_or places 0 0) (get_or places d 0) last_level.trees last_count h
      (path_wanted g w wanted dues q 0 (length w) p (get_or places 0 0) (get_or places (g.arity p) 0) (suc k) root last_level.path) last_level.spelled

  -- ---- steps

  -- all its arguments are written
  pub writing_pop : d ≡ g.arity p → Writing g w q l₀ levels k l r
  writing_pop e =
      record {
        trees = s.trees;
        only = s.only;
        enough = s.enough;
        high = omega (arith, s.high);
        done = s.done;
        stack = walk_pop g w q 0 (length w) (production_of levels) (written_of levels) (places_of levels) k s.done last_level e;
        written = s.written;
      }

  -- an argument is counted: the levels before stay
  counted_moves : Moved g w q 0 (length w) (production_of levels) (production_of (counted levels k (d + 1))) (written_of levels) (written_of (counted levels k (d + 1))) (places_of levels) (places_of (counted levels k (d + 1))) k
  counted_moves = (
    (λ j h. let same = counted_other levels k (d + 1) j (level_fits j (omega (arith, s.high))) (λ e. omega arith) in (same.production, same.written, same.places)),
    counted_production levels k (d + 1) k,
    sym (counted_written levels k (d + 1) last_fits),
    counted_places levels k (d + 1) k last_fits,
  )

  -- a tree is written whole
  pub writing_tree : (t : Tree) (l' : List ℕ) (r' : ℕ) → d < g.arity p → Stands g w p d t (get_or places d 0) (get_or places (d + 1) 0) → Written (listing t) l r l' r'
      → Writing g w q l₀ (counted levels k (d + 1)) n l' r'
  writing_tree t l' r' h stands v =
      let e : suc k ≡ n = omega arith in
      let levels' = counted levels k (d + 1) in
      record {
        trees = s.trees;
        only = s.only;
        enough = omega (arith, s.enough, length-set levels (k * level_bytes + 1) (d + 1));
        high = s.high;
        done = s.done ++ listing t;
        stack = subst (λ (m : ℕ). Walk g w q 0 (length w) (production_of levels') (written_of levels') (places_of levels') m (s.done ++ listing t)) e
            (walk_more g w q 0 (length w) (production_of levels) (production_of levels') (written_of levels) (written_of levels') (places_of levels) (places_of levels') k s.done t last_level counted_moves h stands);
        written = written_append s.done (listing t) l₀ l l' 0 r r' s.written v;
      }

  -- a production has room for a level of its own
  pub next_high : (u : ℕ) (f : Forest) → d < g.arity p → Stands g w p d (node u f) (get_or places d 0) (get_or places (d + 1) 0) → n + 1 ≤ g.count * (length w + 1)
  next_high u f h t =
      omega (arith, walk_room g w q 0 (length w) (production_of levels) (written_of levels) (places_of levels) k s.done u f s.trees s.only last_level h t)

  -- its number is written, and its level opened
  pub writing_push : (u : ℕ) (ends levels' l' : List ℕ) (r' : ℕ) → d < g.arity p → u < g.count → g.subs p d u ≡ true → n + 1 ≤ g.count * (length w + 1) → length ends ≡ end_count
      → Splits g w u 0 (get_or places d 0) (get_or places (d + 1) 0) ends → get_or places d 0 ≤ length w
      → Region (Opens u ends) 0 (n * level_bytes) level_bytes (counted levels k (d + 1)) levels' → Written (production_number u ∷ []) l r l' r'
      → Writing g w q l₀ levels' (n + 1) l' r'
  writing_push u ends levels' l' r' h lu sub high long splits within opened v =
      let mid = counted levels k (d + 1) in
      let same_long = length-set levels (k * level_bytes + 1) (d + 1) in
      let back : suc k ≡ n = omega arith in
      let twice : suc (suc k) ≡ n + 1 = omega arith in
      let fits : (n + 1) * level_bytes ≤ length mid = omega (arith, level_fits n (omega arith), same_long) in
      let kept : (j : ℕ) → j < n → SameLevel mid levels' j = opened_before mid levels' n u ends long fits opened in
      let last_kept = kept k (omega arith) in
      record {
        trees = s.trees;
        only = s.only;
        enough = omega (arith, s.enough, same_long, opened.long);
        high = high;
        done = s.done ++ (production_number u ∷ []);
        stack = subst (λ (m : ℕ). Walk g w q 0 (length w) (production_of levels') (written_of levels') (places_of levels') m (s.done ++ (production_number u ∷ []))) twice
            (walk_push g w q 0 (length w) (production_of levels) (production_of levels') (written_of levels) (written_of levels') (places_of levels) (places_of levels') k s.done u last_level (
              (λ j m. let a = counted_moves.0 j m in let b = kept j (omega arith) in (a.0 ∙ b.production, a.1 ∙ b.written, a.2 ∙ b.places)),
              counted_moves.1 ∙ last_kept.production,
              counted_moves.2 ∙ last_kept.written,
              counted_moves.3 ∙ last_kept.places,
            ) h lu sub
            (subst (λ (x : List ℕ). Splits g w u 0 (get_or places d 0) (get_or places (d + 1) 0) x) (sym (opened_places mid levels' n u ends long fits opened) ∙ ap (places_of levels') (sym back)) splits)
            within
            (ap (production_of levels') back ∙ opened_production mid levels' n u ends long fits opened)
            (ap (written_of levels') back ∙ opened_written mid levels' n u ends long fits opened));
        written = written_append s.done (production_number u ∷ []) l₀ l l' 0 r r' s.written v;
      }

-- ---- the end

-- whatever is written when the room is used up, the tree's listing begins so
pub writing_over : (g : Grammar) (w : List ℕ) (q : ℕ) (l₀ levels : List ℕ) (n : ℕ) (l : List ℕ) (r : ℕ) → Writing g w q l₀ levels n l r → r ≡ room l₀ + 1 → OnlyWritten g w q l₀ l r
unfolding listing
writing_over g w q l₀ levels n l r s e =
    let (f, spelled, more) = walk_complete g w q 0 (length w) (production_of levels) (written_of levels) (places_of levels) n s.done s.stack in
    let same = s.only.alone f spelled in
    record {
      trees = s.trees;
      only = s.only;
      written = subst (λ (x : Forest). Written (listing (node q x)) l₀ 0 l r) same
          (subst (λ (x : List ℕ). Written x l₀ 0 l r) (sym more.1) (written_over s.done more.0 l₀ l 0 r s.written e));
    }

-- with no level open the whole tree is written
pub writing_all : (g : Grammar) (w : List ℕ) (q : ℕ) (l₀ levels : List ℕ) (n : ℕ) (l : List ℕ) (r : ℕ) → Writing g w q l₀ levels n l r → n ≡ 0 → OnlyWritten g w q l₀ l r
unfolding Walk
writing_all g w q l₀ levels n l r s e =
    let (f, spelled, listed) = subst (λ (m : ℕ). Walk g w q 0 (length w) (production_of levels) (written_of levels) (places_of levels) m s.done) e s.stack in
    let same = s.only.alone f spelled in
    record {
      trees = s.trees;
      only = s.only;
      written = subst (λ (x : Forest). Written (listing (node q x)) l₀ 0 l r) same (subst (λ (x : List ℕ). Written x l₀ 0 l r) listed s.written);
    }

-- ---- less to do

-- a number that has room leaves less of it, even if a level is opened
pub room_less : (x : ℕ) (l l' : List ℕ) (r r' n : ℕ) → Written (x ∷ []) l r l' r' → r ≤ room l → 2 * (room l' + 1 - r') + (n + 1) < 2 * (room l + 1 - r) + n
room_less x l l' r r' n v h = omega (arith, v.next, written_room (x ∷ []) l l' r r' v)
