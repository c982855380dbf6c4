-- Laws of the written form of a character class grammar: classes, and how long a text is.
use Prim.Native.Nat.{ℕ, suc, ◌+◌, ◌-◌, ◌*◌, ◌≤◌, ◌<◌}
use mathlib.Core.Path.{◌≡◌, refl}
use mathlib.Core.Bool.{Bool, false, true, cond}
use mathlib.Core.List.{List, [], ◌∷◌, ◌++◌, append_assoc}
use native.Mathlib.Omega.{arith}
use lib.Dec.{eqb}
use lib.ListN.{length, get_or, length-append}
use borrow.Author.Tests.{eq-eqb}
use Rattle.ccg.specs.Ccg.{Class, Line, no_line, no_class}
use Rattle.ccg.specs.Text.{range_text, class_text, arguments_text, result_text, line_text, grammar_text, dash, bracket_open, backslash, bracket_close, number_limit}
use Rattle.charset.proofs.RunLaws.{runs_skip, runs_split, runs_one, Bounded, runs_count, runs_bound}
use Rattle.charset.specs.Runs.{Range, range, runs}
use Rattle.charset.specs.Set.{characters}
use Rattle.common.proofs.ListLaws.{length_tabulate, get_d_tabulate, joined_append, joined_one}
use Rattle.common.specs.Lists.{tabulate, joined}
use Rattle.layout.specs.Limits.{production_limit, argument_limit}
use Rattle.theory.specs.Tree.{production_number}
use Rattle.writing.proofs.NumeralLaws.{numeral_short}
use Rattle.writing.specs.Bytes.{line_feed, space}
use Rattle.writing.specs.Numeral.{numeral}

-- ---- classes

-- the ranges of characters, then those of productions
pub class_text_parts : (cc : Class) → ((n : ℕ) → characters ≤ n → n < production_number 0 → cc n ≡ false)
    → class_text cc ≡ bracket_open ∷ (joined range_text (runs cc 0 characters) ++ (joined range_text (runs cc (production_number 0) production_limit) ++ (bracket_close ∷ [])))
unfolding class_text
class_text_parts cc none =
    let beyond = number_limit - characters in
    let first = runs cc 0 characters in
    let second = runs cc (production_number 0) production_limit in
    let parts : runs cc 0 number_limit ≡ first ++ runs cc characters beyond = runs_split cc characters 0 beyond (none characters (omega arith) (omega arith)) in
    let gap : runs cc characters beyond ≡ second = runs_skip cc (production_number 0 - characters) characters production_limit none in
    rw (parts, gap, joined_append range_text first second, append_assoc (joined range_text first) (joined range_text second) (bracket_close ∷ [])) refl

one_range_text : (n : ℕ) → range_text (range n n) ≡ backslash ∷ numeral n
unfolding range_text
one_range_text n = rw (eq-eqb n n refl) refl

-- the class of one number
pub one_text : (n : ℕ) → n < number_limit → class_text (eqb n) ≡ bracket_open ∷ backslash ∷ (numeral n ++ (bracket_close ∷ []))
unfolding class_text
one_text n h = rw (runs_one n 0 number_limit (omega arith) (omega arith), joined_one range_text (range n n), one_range_text n) refl

-- ---- how long a text is: a numeral has at most as many digits as its number is large, and one more

-- the longest text of a range: two numbers, each with its backslash, and a dash
abbrev range_text_limit : ℕ
range_text_limit = 2 * (number_limit + 1) + 1

-- of a class: a range for each number, and the brackets
abbrev class_text_limit : ℕ
class_text_limit = number_limit * range_text_limit + 2

-- of a line: a class with a space behind it for each argument, and the result
abbrev pub line_text_limit : ℕ
line_text_limit = argument_limit * (class_text_limit + 1) + (class_text_limit + 4)

-- of a grammar
abbrev pub grammar_text_limit : ℕ
grammar_text_limit = production_limit * line_text_limit

range_text_short : (r : Range) → r.low < number_limit → r.high < number_limit → length (range_text r) ≤ range_text_limit
unfolding range_text
range_text_short r l h =
    elim (eqb r.low r.high) as (λ (b : Bool). length (cond b (backslash ∷ numeral r.low) (backslash ∷ numeral r.low ++ dash ∷ backslash ∷ numeral r.high)) ≤ range_text_limit) [
      | true ↦ omega (arith, numeral_short r.low)
      | false ↦ omega (arith, length-append (numeral r.low) (dash ∷ backslash ∷ numeral r.high), numeral_short r.low, numeral_short r.high)
    ]

ranges_text_short : (rs : List Range) → Bounded number_limit rs → length (joined range_text rs) ≤ length rs * range_text_limit
unfolding joined
ranges_text_short [] h = omega arith
ranges_text_short (r ∷ rs) h =
    rw (length-append (range_text r) (joined range_text rs)) (omega (arith, range_text_short r h.0 h.1, ranges_text_short rs h.2))

pub class_text_short : (cc : Class) → length (class_text cc) ≤ class_text_limit
unfolding class_text
class_text_short cc =
    omega (
      arith,
      length-append (joined range_text (runs cc 0 number_limit)) (bracket_close ∷ []),
      ranges_text_short (runs cc 0 number_limit) (runs_bound cc 0 number_limit),
      runs_count cc 0 number_limit,
    )

-- lists of at most m elements each
joined_short : {A B : Type 0} (f : A → List B) (d : A) (m : ℕ) (l : List A) → ((k : ℕ) → k < length l → length (f (get_or l k d)) ≤ m) → length (joined f l) ≤ length l * m
unfolding joined
joined_short f d m [] h = omega arith
joined_short f d m (a ∷ l) h =
    rw (length-append (f a) (joined f l)) (omega (arith, h 0 (omega arith), joined_short f d m l (λ k p. h (suc k) (omega arith))))

arguments_text_short : (ccs : List Class) → length (arguments_text ccs) ≤ length ccs * (class_text_limit + 1)
unfolding arguments_text
arguments_text_short ccs =
    joined_short (λ cc. class_text cc ++ (space ∷ [])) no_class (class_text_limit + 1) ccs
    (λ k l. omega (arith, length-append (class_text (get_or ccs k no_class)) (space ∷ []), class_text_short (get_or ccs k no_class)))

result_text_short : (n : ℕ) → length (result_text n) ≤ class_text_limit + 4
unfolding result_text
result_text_short n = omega (arith, length-append (class_text (eqb n)) (line_feed ∷ []), class_text_short (eqb n))

pub line_text_short : (l : Line) → length l.arguments ≤ argument_limit → length (line_text l) ≤ line_text_limit
unfolding line_text
line_text_short l h =
    rw (length-append (arguments_text l.arguments) (result_text l.result))
    (omega (arith, arguments_text_short l.arguments, result_text_short l.result))

-- no more lines than there may be productions, and no more arguments in each than a production may have
pub grammar_text_short : (g : List Line) → length g ≤ production_limit → ((p : ℕ) → p < length g → length (get_or g p no_line).arguments ≤ argument_limit) → length (grammar_text g) ≤ grammar_text_limit
unfolding grammar_text
grammar_text_short g h few =
    omega (arith, joined_short line_text no_line line_text_limit g (λ p l. line_text_short (get_or g p no_line) (few p l)))

-- the same for lines that a function gives
pub tabulate_text_short : (n : ℕ) (f : ℕ → Line) → n ≤ production_limit → ((p : ℕ) → p < n → length (f p).arguments ≤ argument_limit) → length (grammar_text (tabulate n f)) ≤ grammar_text_limit
tabulate_text_short n f h few =
    grammar_text_short (tabulate n f) (omega (arith, length_tabulate n f))
    (λ p l. let m : p < n = omega (arith, length_tabulate n f) in rw (get_d_tabulate n f p no_line m) (few p m))
