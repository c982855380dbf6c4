-- The walk over a tree: the trees of a production's arguments are placed one behind the other, and then the production itself.
use Prim.Native.Nat.{ℕ, zero, suc, ◌+◌, ◌-◌, ◌≤◌, ◌<◌}
use mathlib.Core.List.{List, [], ◌∷◌, ◌++◌, append_assoc, map, map-append, append-nil}
use mathlib.Core.Logic.{by_cases}
use mathlib.Core.Path.{◌≡◌, refl, sym, ◌∙◌, ap, ap₂, subst}
use native.Mathlib.Decide.{dec_lt}
use native.Mathlib.Numerals.{add-one}
use native.Mathlib.Omega.{arith}
use lib.ListN.{length, get_or, set, drop, length-append, length-map, length-drop}
use lib.Seq.{set_comm, drop-drop, get_or-drop, drop-append_seam, sets}
use Rattle.charset.specs.Set.{characters}
use Rattle.classes.proofs.ClassesLaws.{class_character}
use Rattle.common.proofs.OverwrittenLaws.{sets_append}
use Rattle.flatten.specs.Trees.{Built, Arguments}
use Rattle.layout.specs.Layout.{productions, argument_count, argument}
use Rattle.layout.specs.Limits.{class_base}
use Rattle.numbers.specs.Numbers.{listing_limit}
use Rattle.rows.proofs.RowsLaws.{rows_below_length, yields_short}
use Rattle.rows.specs.Rows.{rows, rows_below}
use Rattle.rows.specs.Table.{word, packed}
use Rattle.rows.specs.Walk.{ListedAt, WalkFrom, words, Placed}
use Rattle.rows.specs.declared.Next.{Next}
use Rattle.theory.specs.Tree.{Tree, leaf, node, Forest, none, ◌▷◌, production_number, yield, yields, listing, listings, size}

-- ---- the first trees of a list

-- The list begins with the trees of f: it is f, or has more behind.
pub data Front (f : Forest) : Forest → Type 0 where
  all : Front f f
  more : {g : Forest} {t : Tree} → Front f g → Front f (g ▷ t)

front_none : (f : Forest) → Front none f
front_none none = all
front_none (f ▷ t) = more (front_none f)

front_size : {f g : Forest} → Front f g → size f ≤ size g
unfolding size
front_size all = omega arith
front_size (more h) = omega (arith, front_size h)

front_all : {f g : Forest} → Front f g → size g ≤ size f → f ≡ g
unfolding size
front_all all l = refl
front_all (more h) l = absurd (omega (arith, front_size h))

-- one tree more
front_next : {f g : Forest} → Front f g → size f < size g → (t : Tree) × Front (f ▷ t) g
unfolding size
front_next all l = absurd (omega arith)
front_next {f} (more {g} {t} h) l =
    by_cases (dec_lt (size f) (size g))
    (λ s. let (u, k) = front_next h s in (u, more k))
    (λ s. (t, subst (λ (e : Forest). Front (f ▷ t) (e ▷ t)) (front_all h (omega arith)) all))

-- what stands behind them in the listing
front_listings : {f g : Forest} → Front f g → (others : List ℕ) × (listings g ≡ listings f ++ others)
unfolding listing
front_listings {f} all = ([], sym (append-nil (listings f)))
front_listings {f} (more {g} {t} h) =
    let (others, e) = front_listings h in
    (others ++ listing t, rw e (append_assoc (listings f) others (listing t)))

module _ (b : List ℕ) (p : ℕ) where
  arguments_size : (f : Forest) (d : ℕ) → Arguments b p f d → size f ≡ d
  unfolding Built size
  arguments_size none zero h = refl
  arguments_size none (suc d) h = absurd h
  arguments_size (f ▷ t) zero h = absurd h
  arguments_size (f ▷ t) (suc d) h = omega (arith, arguments_size f d h.0)

  -- the tree behind them stands as its argument
  built_next : {f : Forest} {t : Tree} {g : Forest} → Front (f ▷ t) g → (d : ℕ) → Arguments b p g d → Built b (argument b p (size f)) t
  unfolding Built
  built_next all zero h = absurd h
  built_next {f} {t = t} all (suc d) h = subst (λ (k : ℕ). Built b (argument b p k) t) (sym (arguments_size f d h.0)) h.1
  built_next (more k) zero h = absurd h
  built_next (more k) (suc d) h = built_next k d h.0

-- ---- writing into the table

-- a word before others that are written may be written behind them
set_sets : {A : Type 0} (vs l : List A) (i j : ℕ) (a : A) → i < j → set (sets l j vs) i a ≡ sets (set l i a) j vs
set_sets [] l i j a h = refl
set_sets {A} (v ∷ vs) l i j a h =
    set_sets vs (set l j v) i (suc j) a (omega arith) ∙ ap (λ (x : List A). sets x (suc j) vs) (set_comm l j i v a (λ e. omega arith))

-- what is behind a number and those that follow it
drop_behind : (at : ℕ) (numbers : List ℕ) (n : ℕ) (v others : List ℕ) → drop at numbers ≡ n ∷ v ++ others → drop (at + 1 + length v) numbers ≡ others
drop_behind at numbers n v others e =
    let k : at + 1 + length v ≡ at + suc (length v) = omega arith in
    rw k (sym (drop-drop (suc (length v)) at numbers) ∙ ap (drop (suc (length v))) e ∙ drop-append_seam v others)

abbrev next : (number byte : ℕ) → Next
next number byte = record { number = number; byte = byte }

-- ---- the trees of a production's arguments

-- the words of the rows of a list of trees
abbrev words_below : (d i : ℕ) → Forest → List ℕ
words_below d i f = map word (rows_below d i f)

-- The first d trees of the arguments g are placed; numbers and text go on behind them.
pub record Progress (g : Forest) (depth at place : ℕ) (table₀ table : List ℕ) (d number byte : ℕ) : Type 0 where
  front : Forest
  is_front : Front front g
  count : size front ≡ d
  wrote : table ≡ sets table₀ (at + 1) (words_below (depth + 1) place front)
  next : number ≡ at + 1 + length (listings front)
  after : byte ≡ place + length (yields front)

module _ (b numbers : List ℕ) (p : ℕ) (g : Forest) (depth at place : ℕ) (table₀ : List ℕ) (listed : ListedAt b numbers at (node p g)) where
  progress_none : Progress g depth at place table₀ table₀ 0 (at + 1) place
  unfolding rows listing yield size
  progress_none = record { front = none; is_front = front_none g; count = refl; wrote = refl; next = omega arith; after = omega arith }

  -- the tree behind the first ones
  listed_next : (f : Forest) (t : Tree) → Front (f ▷ t) g → ListedAt b numbers (at + 1 + length (listings f)) t
  unfolding Built listing
  listed_next f t h =
      let (others, e) = front_listings h in
      let behind = listing t ++ (others ++ listed.others) in
      let moved : listings g ++ listed.others ≡ listings f ++ behind =
      rw e (append_assoc (listings f ++ listing t) others listed.others ∙ append_assoc (listings f) (listing t) (others ++ listed.others)) in
      record {
        sort = argument b p (size f);
        built = built_next b p h (argument_count b p) listed.built.2;
        others = others ++ listed.others;
        begins = drop_behind at numbers (production_number p) (listings f) behind (listed.begins ∙ ap (λ (v : List ℕ). production_number p ∷ v) moved);
      }

  progress_next : (table table' : List ℕ) (d number byte : ℕ) (r : Next) → d < size g → Progress g depth at place table₀ table d number byte
      → ((t : Tree) → ListedAt b numbers number t → Placed t (depth + 1) number byte table table' r) → Progress g depth at place table₀ table' (d + 1) r.number r.byte
  unfolding rows listing yield size
  progress_next table table' d number byte r l made placed =
      let f = made.front in
      let (t, h) = front_next made.is_front (omega (arith, made.count)) in
      let new = placed t (subst (λ (k : ℕ). ListedAt b numbers k t) (sym made.next) (listed_next f t h)) in
      let below = words_below (depth + 1) place f in
      let long : at + 1 + length below ≡ number = omega (arith, made.next, length-map (rows_below (depth + 1) place f) word, rows_below_length (depth + 1) place f) in
      let both : words_below (depth + 1) place (f ▷ t) ≡ below ++ words (depth + 1) byte t =
      rw made.after (map-append word (rows_below (depth + 1) place f) (rows (depth + 1) (place + length (yields f)) t)) in
      record {
        front = f ▷ t;
        is_front = h;
        count = omega (arith, made.count);
        wrote =
            new.wrote ∙ ap₂ (λ (x : List ℕ) (k : ℕ). sets x k (words (depth + 1) byte t)) made.wrote (sym long)
            ∙ sym (sets_append below (words (depth + 1) byte t) table₀ (at + 1)) ∙ ap (sets table₀ (at + 1)) (sym both);
        next = omega (arith, new.number, made.next, length-append (listings f) (listing t));
        after = omega (arith, new.byte, made.after, length-append (yields f) (yield t));
      }

  -- all are placed: then the production
  progress_all : (table : List ℕ) (d number byte : ℕ) → size g ≤ d → Progress g depth at place table₀ table d number byte
      → Placed (node p g) depth at place table₀ (set table at (packed depth place byte)) (next number byte)
  unfolding rows listing yield
  progress_all table d number byte l made =
      let whole : made.front ≡ g = front_all made.is_front (omega (arith, made.count)) in
      let below = words_below (depth + 1) place g in
      let wrote : table ≡ sets table₀ (suc at) below = made.wrote ∙ rw (whole, add-one at) refl in
      let end : byte ≡ place + length (yields g) = made.after ∙ rw whole refl in
      record {
        wrote = rw (wrote, end) (set_sets below table₀ at (suc at) (packed depth place (place + length (yields g))) (omega arith));
        number = made.next ∙ rw whole (omega arith);
        byte = end;
      }

-- ---- one number

-- the number of a tree's root
abbrev root_number : Tree → ℕ
root_number (leaf c) = c
root_number (node p f) = production_number p

listing_some : (t : Tree) → listing t ≡ root_number t ∷ drop 1 (listing t)
unfolding listing
listing_some (leaf c) = refl
listing_some (node p f) = refl

module _ (b numbers : List ℕ) (at : ℕ) where
  listed_front : (t : Tree) (listed : ListedAt b numbers at t) → drop at numbers ≡ root_number t ∷ drop 1 (listing t) ++ listed.others
  listed_front t listed = listed.begins ∙ ap (λ (v : List ℕ). v ++ listed.others) (listing_some t)

  listed_there : (t : Tree) → ListedAt b numbers at t → at < length numbers
  listed_there t listed = omega (arith, ap (length {A = ℕ}) (listed_front t listed), length-drop at numbers)

  listed_root : (t : Tree) → ListedAt b numbers at t → get_or numbers at 0 ≡ root_number t
  listed_root t listed =
      let k : at ≡ at + 0 = omega arith in
      ap (λ (j : ℕ). get_or numbers j 0) k ∙ sym (get_or-drop at numbers 0 0) ∙ ap (λ (v : List ℕ). get_or v 0 0) (listed_front t listed)

  -- the trees placed stand within the numbers, and have at most as many characters
  progress_within : (p : ℕ) (g : Forest) (depth place : ℕ) (table₀ table : List ℕ) (d number byte : ℕ) → place ≤ at → ListedAt b numbers at (node p g)
      → Progress g depth at place table₀ table d number byte → (at < number) × (byte < number) × (number ≤ length numbers)
  unfolding listing
  progress_within p g depth place table₀ table d number byte l listed made =
      let (others, e) = front_listings made.is_front in
      let whole = ap (length {A = ℕ}) listed.begins in
      let long : length (listings g) ≡ length (listings made.front) + length others = ap (length {A = ℕ}) e ∙ length-append (listings made.front) others in
      let short = yields_short made.front in
      let there = listed_there (node p g) listed in (
        omega (arith, made.next),
        omega (arith, made.next, made.after),
        omega (arith, made.next, length-append (listings g) listed.others, length-drop at numbers),
      )

-- n is the number at `at`; what the grammar has are bytes.
pub record Found (b numbers : List ℕ) (at n : ℕ) : Type 0 where
  pub bytes : (k : ℕ) → get_or b k 0 < characters
  pub here : n ≡ get_or numbers at 0

-- Whatever production is listed at `at`, the first d of its arguments are placed.
abbrev pub SoFar : (b numbers : List ℕ) (depth at place : ℕ) (table₀ table : List ℕ) (d number byte : ℕ) → Type 0
SoFar b numbers depth at place table₀ table d number byte = (p : ℕ) (g : Forest) → ListedAt b numbers at (node p g) → Progress g depth at place table₀ table d number byte

module _ {b numbers : List ℕ} {at n : ℕ} (found : Found b numbers at n) where
  -- a production, with as many arguments as the grammar says
  listed_production : (p : ℕ) (g : Forest) → ListedAt b numbers at (node p g)
      → (production_number 0 ≤ n) × (n - production_number 0 < productions b) × (size g ≡ argument_count b (n - production_number 0))
  unfolding Built
  listed_production p g listed =
      let number : n ≡ production_number p = found.here ∙ listed_root b numbers at (node p g) listed in
      let same : n - production_number 0 ≡ p = omega arith in
      (omega arith, rw same listed.built.0, rw same (arguments_size b p g (argument_count b p) listed.built.2))

  listed_character : (c : ℕ) → ListedAt b numbers at (leaf c) → n < characters
  unfolding Built
  listed_character c listed =
      let small = class_character b found.bytes (listed.sort - class_base) c listed.built.1 in
      omega (arith, found.here, listed_root b numbers at (leaf c) listed)

  -- a number that is no character's is a production's
  production_listed : characters ≤ n → (t : Tree) → ListedAt b numbers at t → (p : ℕ) × (g : Forest) × ListedAt b numbers at (node p g)
  production_listed l (leaf c) listed = absurd (omega (arith, listed_character c listed))
  production_listed l (node p g) listed = (p, g, listed)

  -- ---- a step of the walk

  module _ {depth place : ℕ} {table₀ : List ℕ} where
    pub walk_character : n < characters → (t : Tree) → ListedAt b numbers at t
        → Placed t depth at place table₀ (set table₀ at (packed depth place (place + 1))) (next (at + 1) (place + 1))
    unfolding rows listing yield
    walk_character l (leaf c) listed = record { wrote = refl; number = refl; byte = refl }
    walk_character l (node p g) listed = absurd (omega (arith, (listed_production p g listed).0))

    module _ (from : WalkFrom b numbers table₀ depth at place) (l : characters ≤ n) where
      -- a production that the grammar has
      pub walk_production : (production_number 0 ≤ n) × (n - production_number 0 < productions b)
      walk_production = let (p, g, listed) = production_listed l from.tree from.listed in let h = listed_production p g listed in (h.0, h.1)

      module _ {table : List ℕ} {d number byte : ℕ} (made : SoFar b numbers depth at place table₀ table d number byte) where
        pub walk_within : (at < number) × (byte < number) × (number ≤ length numbers)
        walk_within =
            let (p, g, listed) = production_listed l from.tree from.listed in
            progress_within b numbers at p g depth place table₀ table d number byte from.far listed (made p g listed)

        -- the walk goes on at the next argument
        pub walk_argument : length table ≡ length table₀ → d < argument_count b (n - production_number 0) → WalkFrom b numbers table (depth + 1) number byte
        walk_argument same h =
            let (p, g, listed) = production_listed l from.tree from.listed in
            let now = made p g listed in
            let (u, front) = front_next now.is_front (omega (arith, now.count, (listed_production p g listed).2)) in
            record {
              tree = u;
              listed = subst (λ (j : ℕ). ListedAt b numbers j u) (sym now.next) (listed_next b numbers p g depth at place table₀ listed now.front u front);
              framed = from.framed;
              room = omega (arith, from.room);
              few = omega (arith, from.few);
              deep = omega (arith, from.deep, walk_within.0);
              far = omega (arith, walk_within.1);
            }

        -- and one argument more is placed
        pub walk_placed : {table' : List ℕ} {r : Next} → d < argument_count b (n - production_number 0)
            → ((t : Tree) → ListedAt b numbers number t → Placed t (depth + 1) number byte table table' r)
            → SoFar b numbers depth at place table₀ table' (d + 1) r.number r.byte
        walk_placed {table'} {r} h placed p g listed =
            progress_next b numbers p g depth at place table₀ listed table table' d number byte r (omega (arith, (listed_production p g listed).2)) (made p g listed) placed

        -- until all are
        pub walk_all : argument_count b (n - production_number 0) ≤ d → (t : Tree) → ListedAt b numbers at t
            → Placed t depth at place table₀ (set table at (packed depth place byte)) (next number byte)
        walk_all h (leaf c) listed = absurd (omega (arith, listed_character c listed))
        walk_all h (node p g) listed =
            progress_all b numbers p g depth at place table₀ listed table d number byte (omega (arith, (listed_production p g listed).2)) (made p g listed)

-- before the first argument
pub walk_begun : {b numbers : List ℕ} {depth at place : ℕ} {table : List ℕ} → SoFar b numbers depth at place table table 0 (at + 1) place
walk_begun {b} {numbers} {depth} {at} {place} {table} p g listed = progress_none b numbers p g depth at place table listed

-- there is a number, and neither depth nor place is beyond the table
pub walk_there : {b numbers table : List ℕ} {depth at place : ℕ} → WalkFrom b numbers table depth at place
    → (at < length numbers) × (at < length table) × (depth < listing_limit) × (place < listing_limit)
walk_there {b} {numbers} {table} {depth} {at} {place} from =
    let there = listed_there b numbers at from.tree from.listed in
    (there, omega (arith, from.room), omega (arith, from.room, from.few, from.deep), omega (arith, from.room, from.few, from.far))
