-- What the class of a slot has, and which numbers are terminals of the character class grammar that tables hold.
use Prim.Native.Nat.{ℕ, ◌-◌, ◌≤◌, ◌<◌}
use mathlib.Core.Bool.{false, true}
use mathlib.Core.List.{List}
use mathlib.Core.Path.{◌≡◌, refl, ap}
use native.Mathlib.Omega.{arith}
use lib.ListN.{length}
use borrow.Author.Tests.{lt-ltb, le-ltb, le-leb, lt-leb}
use Rattle.ccg.proofs.TerminalLaws.{number_no_terminal, other_terminal}
use Rattle.ccg.specs.Ccg.{Line, no_line, is_terminal, OwnNumbers}
use Rattle.ccg.specs.Tables.{table_class, table_line, table_grammar}
use Rattle.ccg.specs.Text.{number_limit}
use Rattle.charset.specs.Set.{characters}
use Rattle.common.proofs.ListLaws.{length_tabulate, get_d_tabulate}
use Rattle.tables.specs.Layout.{counts_of, takes_char, takes_production}
use Rattle.theory.specs.Tree.{production_number}

module _ (t : List ℕ) (s : ℕ) where
  pub table_of_character : (n : ℕ) → n < characters → table_class t s n ≡ takes_char t s n
  unfolding table_class
  table_of_character n l = rw (lt-ltb n characters l) refl

  -- no number between the characters and the productions
  pub table_between : (n : ℕ) → characters ≤ n → n < production_number 0 → table_class t s n ≡ false
  unfolding table_class
  table_between n l h = rw (le-ltb n characters l, lt-leb (production_number 0) n h) refl

  pub table_of_production : (n : ℕ) → production_number 0 ≤ n → n < number_limit → table_class t s n ≡ takes_production t s (n - production_number 0)
  unfolding table_class
  table_of_production n l h = rw (le-ltb n characters (omega arith), le-leb (production_number 0) n l, lt-ltb n number_limit h) refl

  pub table_above : (n : ℕ) → number_limit ≤ n → table_class t s n ≡ false
  unfolding table_class
  table_above n l = rw (le-ltb n characters (omega arith), le-leb (production_number 0) n (omega arith), le-ltb n number_limit l) refl

-- ---- terminals

module _ (t : List ℕ) where
  abbrev count : ℕ
  count = length (counts_of t)

  pub table_length : length (table_grammar t) ≡ count
  unfolding table_grammar
  table_length = length_tabulate count (table_line t)

  pub table_numbered : OwnNumbers (table_grammar t)
  unfolding table_grammar table_line
  table_numbered = record { own = λ p l. ap (λ (x : Line). x.result) (get_d_tabulate count (table_line t) p no_line (omega (arith, table_length))) }

  pub table_production : (n : ℕ) → production_number 0 ≤ n → n < production_number count → is_terminal (table_grammar t) n ≡ false
  table_production n l h = number_no_terminal (table_grammar t) table_numbered n l (omega (arith, table_length))

  pub table_terminal : (n : ℕ) → (production_number 0 ≤ n → n < production_number count → ⊥) → is_terminal (table_grammar t) n ≡ true
  table_terminal n none_of = other_terminal (table_grammar t) table_numbered n (λ l h. none_of l (omega (arith, table_length)))
