-- Going through a listing by the tables of a grammar, and what the walk over a part of it gives: a tree, or the trees of some arguments.
use Rattle.std.specs.Prelude.{ℕ, ◌+◌, ◌≤◌, ◌≡◌, List, [], ◌∷◌, ◌++◌, length, drop, Result, Ok, Err}
use Rattle.ccg.specs.Ccg.{Class, Line}
use Rattle.ccg.specs.Tables.{table_class, table_line, table_grammar}
use Rattle.listing.specs.Judge.{judge}
use Rattle.listing.specs.declared.Judgement.{Judgement}
use Rattle.listing.specs.declared.Judgement.TheVariants.{Wrong}
use Rattle.numbers.specs.Numbers.{numbers_of}
use Rattle.tables.specs.Layout.{root_slot}
use Rattle.listing.specs.declared.Next.{Next}

-- At the root a production that the tables allow there is due.
unfoldable pub judged_by : (t w l : List ℕ) → Judgement
judged_by t w l = judge (table_grammar t) (numbers_of l) (table_class t root_slot ∷ []) w 0

-- What the walk over a part gives: where it goes on behind a complete one, or the index at which the listing is wrong.
abbrev pub Part : Type 0
Part = Result Next ℕ

-- The answer for the whole listing, if a part of it gave this and then the classes `dues` are due: behind a complete part it goes on, a fault stands.
unfoldable pub after_part : List Line → (numbers : List ℕ) → List Class → (w : List ℕ) → Part → Judgement
after_part g numbers dues w (Ok next) = judge g (drop next.number numbers) dues (drop next.place w) next.number
after_part g numbers dues w (Err index) = Wrong index

-- A complete part ends within the listing and the text; the next number has an index of at least this.
unfoldable pub EndsBeyond : ℕ → (numbers w : List ℕ) → Part → Type 0
EndsBeyond least numbers w (Ok next) = (least ≤ next.number) × (next.number ≤ length numbers) × (next.place ≤ length w)
EndsBeyond least numbers w (Err index) = Unit {0}

-- r is what the walk makes of a part in which the classes `dues` are due, from number `at` and from `place` in the text on.
pub record Walked (g : List Line) (numbers w : List ℕ) (dues : List Class) (at place : ℕ) (r : Part) : Type 0 where
  -- whatever is due behind the part
  pub decides : (others : List Class) → judge g (drop at numbers) (dues ++ others) (drop place w) at ≡ after_part g numbers others w r
  -- each of its trees takes a number
  pub ends : EndsBeyond (at + length dues) numbers w r

-- the classes due at the arguments of production q from argument d on
unfoldable pub dues_from : (t : List ℕ) (q d : ℕ) → List Class
dues_from t q d = drop d (table_line t q).arguments
