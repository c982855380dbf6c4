-- The marked cases of 01, (a) to (k), stated for the definitions: which trees are readings, and what is refused. No program is run.
use Rattle.std.specs.Prelude.{ℕ, ◌*◌, ◌≤◌, ◌≡◌, List, [], ◌∷◌, ◌++◌, length, replicate}
use Rattle.common.specs.Lists.{overwritten}
use Rattle.engine.specs.declared.Answer.{Answer}
use Rattle.engine.specs.declared.Answer.TheVariants.{None, One, Several, Refused as NotRead}
use Rattle.numbers.specs.Written.{bytes_of}
use Rattle.refusal.specs.Fault.{number_of}
use Rattle.refusal.specs.Verdict.{accepted, RefusedBy}
use Rattle.refusal.specs.declared.Refusal.{Refusal}
use Rattle.parse.specs.Outcome.{refusal, Outcome}
use Rattle.flatten.specs.Reading.{Reading}
use Rattle.priority.specs.Check.{checked}
use Rattle.theory.specs.Counts.{Only, Two}
use Rattle.theory.specs.Tree.{Tree, listing}

-- ---- what a case is, and what it says

-- What is expected of a grammar, a text and a chart.
pub data Expected : Type 0 where
  no_reading : Expected
  -- exactly one reading, with this listing
  one_reading : List ℕ → Expected
  several_readings : Expected
  -- the grammar is refused, with this number and place
  bad_grammar : ℕ → ℕ → Expected
  -- reading the text is refused
  refused : ℕ → ℕ → Expected

unfoldable pub Says : (b w chart : List ℕ) → Expected → Type 0
Says b w chart no_reading = (refusal b w chart ≡ accepted) × ((t : Tree) → Reading b w t → ⊥)
Says b w chart (one_reading numbers) = (refusal b w chart ≡ accepted) × (t : Tree) × Only (Reading b w) t × (listing t ≡ numbers)
Says b w chart several_readings = (refusal b w chart ≡ accepted) × Two (Reading b w)
Says b w chart (bad_grammar number place) = RefusedBy (checked b) number place
Says b w chart (refused number place) = RefusedBy (refusal b w chart) number place

pub record Case : Type 0 where
  pub book : List ℕ
  pub text : List ℕ
  -- how many bytes the chart has
  pub lent : ℕ
  pub expected : Expected

unfoldable pub Statement : Case → Type 0
Statement c = Says c.book c.text (replicate c.lent 0) c.expected

-- Reading answers with a refusal of this number and this place.
abbrev pub ReadRefused : Answer Refusal → (number place : ℕ) → Type 0
ReadRefused r number place = (x : Refusal) × (r ≡ NotRead x) × (number_of x.fault ≡ number) × (x.place ≡ place)

-- The same of the operation's promise: what its answer is, and what the buffer of the listing, which held l₀, holds afterwards.
unfoldable pub Answers : Expected → (l₀ : List ℕ) → Answer Refusal → (l : List ℕ) → Type 0
Answers no_reading l₀ r l = (r ≡ None) × (l ≡ l₀)
Answers (one_reading numbers) l₀ r l = 2 * length numbers ≤ length l₀ → (r ≡ One (length numbers)) × (l ≡ overwritten (bytes_of numbers) l₀)
Answers several_readings l₀ r l = (r ≡ Several) × (l ≡ l₀)
Answers (bad_grammar number place) l₀ r l = ReadRefused r number place × (l ≡ l₀)
Answers (refused number place) l₀ r l = ReadRefused r number place × (l ≡ l₀)

-- any outcome, for every chart of the case's length and every buffer, whatever they hold
unfoldable pub Promised : Case → Type 0
Promised c =
    (chart₀ l₀ : List ℕ) (r : Answer Refusal) (chart l : List ℕ) → length chart₀ ≡ c.lent → Outcome c.book c.text chart₀ l₀ r chart l → Answers c.expected l₀ r l

-- ---- grammars and texts

-- 01's book T, with these declarations and their number: the header, how many arguments and ranges, then production 0, a digit, 1, a product, and 2, a quotient,
-- and the classes of a digit, * and /
abbrev pub book_with : ℕ → List ℕ → List ℕ
book_with many ranks =
    (1 ∷ 3 ∷ 3 ∷ many ∷ 0 ∷ 0 ∷ [])
    ++ (1 ∷ 3 ∷ 3 ∷ [])
    ++ (1 ∷ 1 ∷ 1 ∷ [])
    ++ (0 ∷ 64 ∷ [])
    ++ (0 ∷ 0 ∷ 65 ∷ 0 ∷ [])
    ++ (0 ∷ 0 ∷ 66 ∷ 0 ∷ [])
    ++ (48 ∷ 57 ∷ [])
    ++ (42 ∷ 42 ∷ [])
    ++ (47 ∷ 47 ∷ [])
    ++ ranks

-- three declarations of one kind
abbrev pub book_of : ℕ → List ℕ
book_of k = book_with 3 ((k ∷ 1 ∷ 1 ∷ []) ++ (k ∷ 2 ∷ 2 ∷ []) ++ (k ∷ 1 ∷ 2 ∷ []))

-- T itself
abbrev pub book_t : List ℕ
book_t = book_of 2

-- 8/4*2
abbrev pub mixed : List ℕ
mixed = 56 ∷ 47 ∷ 52 ∷ 42 ∷ 50 ∷ []

-- 8/4/2
abbrev pub quotients : List ℕ
quotients = 56 ∷ 47 ∷ 52 ∷ 47 ∷ 50 ∷ []

-- 8
abbrev pub digit : List ℕ
digit = 56 ∷ []

-- ---- the cases, with charts that are just long enough, but for (h), which needs none, and (k)

abbrev pub case_a : Case
case_a = record { book = book_t; text = mixed; lent = 210; expected = one_reading (259 ∷ 260 ∷ 258 ∷ 56 ∷ 47 ∷ 258 ∷ 52 ∷ 42 ∷ 258 ∷ 50 ∷ []) }

abbrev pub case_b : Case
case_b = record { book = book_t; text = []; lent = 10; expected = no_reading }

abbrev pub case_c : Case
case_c = record { book = book_t; text = digit; lent = 30; expected = one_reading (258 ∷ 56 ∷ []) }

-- no declarations
abbrev pub case_d : Case
case_d = record { book = book_with 0 []; text = mixed; lent = 210; expected = several_readings }

-- "not together" for "left"
abbrev pub case_e : Case
case_e = record { book = book_of 4; text = quotients; lent = 210; expected = no_reading }

-- "right" for "left"
abbrev pub case_f : Case
case_f = record { book = book_of 3; text = quotients; lent = 210; expected = one_reading (260 ∷ 258 ∷ 56 ∷ 47 ∷ 260 ∷ 258 ∷ 52 ∷ 47 ∷ 258 ∷ 50 ∷ []) }

-- products higher than quotients
abbrev pub case_g : Case
case_g =
    record {
      book = book_with 1 (1 ∷ 1 ∷ 2 ∷ []);
      text = mixed;
      lent = 210;
      expected = one_reading (260 ∷ 258 ∷ 56 ∷ 47 ∷ 259 ∷ 258 ∷ 52 ∷ 42 ∷ 258 ∷ 50 ∷ []);
    }

-- and quotients higher than products: a circle
abbrev pub case_h : Case
case_h = record { book = book_with 2 ((1 ∷ 1 ∷ 2 ∷ []) ++ (1 ∷ 2 ∷ 1 ∷ [])); text = []; lent = 0; expected = bad_grammar 9 1 }

-- one production, without arguments
abbrev pub case_i : Case
case_i = record { book = (1 ∷ 1 ∷ 0 ∷ 0 ∷ 0 ∷ 0 ∷ []) ++ (0 ∷ []) ++ (0 ∷ []); text = []; lent = 1; expected = one_reading (258 ∷ []) }

-- a production whose argument is its own result
abbrev pub case_j : Case
case_j =
    record {
      book = (1 ∷ 2 ∷ 1 ∷ 0 ∷ 0 ∷ 0 ∷ []) ++ (1 ∷ 1 ∷ []) ++ (1 ∷ []) ++ (0 ∷ 64 ∷ []) ++ (0 ∷ 0 ∷ []) ++ (56 ∷ 56 ∷ []);
      text = digit;
      lent = 12;
      expected = several_readings;
    }

-- a byte less of chart than in (a)
abbrev pub case_k : Case
case_k = record { book = book_t; text = mixed; lent = 209; expected = refused 20 210 }

abbrev pub table : List Case
table = case_a ∷ case_b ∷ case_c ∷ case_d ∷ case_e ∷ case_f ∷ case_g ∷ case_h ∷ case_i ∷ case_j ∷ case_k ∷ []
