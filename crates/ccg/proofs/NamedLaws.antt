-- The numerals that stand in the text of a character class grammar are those of the numbers that it names.
use Prim.Native.Nat.{ℕ}
use mathlib.Core.Bool.{Bool, false, true, cond}
use mathlib.Core.List.{List, [], ◌∷◌, ◌++◌, append_assoc, append-nil, map, map-append}
use mathlib.Core.Path.{◌≡◌, refl, sym, ◌∙◌, ap}
use native.Mathlib.Omega.{arith}
use lib.Dec.{eqb}
use Rattle.ccg.specs.Ccg.{Class, Line}
use Rattle.ccg.specs.Named.{range_numbers, class_numbers, line_numbers, grammar_numbers}
use Rattle.ccg.specs.Text.{dash, greater, bracket_open, backslash, bracket_close, number_limit, range_text, class_text, arguments_text, result_text, line_text, grammar_text}
use Rattle.charset.specs.Runs.{Range, runs}
use Rattle.common.specs.Lists.{joined}
use Rattle.writing.proofs.DigitsLaws.{NoDigit, numerals_none, numerals_pass, numerals_first}
use Rattle.writing.specs.Bytes.{line_feed, space}
use Rattle.writing.specs.Digits.{Digit, numerals_in}
use Rattle.writing.specs.Numeral.{numeral}

-- ---- pieces of a text

-- A piece of a text names these numbers: its numerals are theirs, whatever follows that is no digit, and then come those of what follows.
abbrev Names : List ℕ → List ℕ → Type 0
Names text ns = (s : List ℕ) → NoDigit s → numerals_in (text ++ s) ≡ map numeral ns ++ numerals_in s

-- A piece that may follow a numeral.
abbrev Opens : List ℕ → Type 0
Opens text = (s : List ℕ) → NoDigit s → NoDigit (text ++ s)

names_number : (n : ℕ) → Names (numeral n) (n ∷ [])
names_number n s h = numerals_first n s h

-- a byte that is no digit says nothing
names_pass : (c : ℕ) (text ns : List ℕ) → (Digit c → ⊥) → Names text ns → Names (c ∷ text) ns
names_pass c text ns d t s h = numerals_pass c (text ++ s) d ∙ t s h

names_none : (c : ℕ) → (Digit c → ⊥) → Names (c ∷ []) []
names_none c d s h = numerals_pass c s d

names_append : (x y ns ms : List ℕ) → Names x ns → Opens y → Names y ms → Names (x ++ y) (ns ++ ms)
names_append x y ns ms p o q s h =
    ap numerals_in (append_assoc x y s) ∙ p (y ++ s) (o s h) ∙ ap (λ (r : List (List ℕ)). map numeral ns ++ r) (q s h)
    ∙ sym (append_assoc (map numeral ns) (map numeral ms) (numerals_in s)) ∙ ap (λ (r : List (List ℕ)). r ++ numerals_in s) (sym (map-append numeral ns ms))

-- pieces one behind the other
module _ {A : Type 0} (f g : A → List ℕ) (opens : (a : A) → Opens (f a)) where
  opens_joined : (l : List A) → Opens (joined f l)
  unfolding joined
  opens_joined [] s h = h
  opens_joined (a ∷ l) s h = rw (append_assoc (f a) (joined f l) s) (opens a (joined f l ++ s) (opens_joined l s h))

  names_joined : ((a : A) → Names (f a) (g a)) → (l : List A) → Names (joined f l) (joined g l)
  unfolding joined
  names_joined names [] = λ s h. refl
  names_joined names (a ∷ l) = names_append (f a) (joined f l) (g a) (joined g l) (names a) (opens_joined l) (names_joined names l)

-- ---- ranges and classes

range_opens : (r : Range) → Opens (range_text r)
unfolding range_text
range_opens r s h =
    elim (eqb r.low r.high) as (λ (b : Bool). NoDigit (cond b (backslash ∷ numeral r.low) (backslash ∷ numeral r.low ++ dash ∷ backslash ∷ numeral r.high) ++ s))
    [ true ↦ λ d. omega arith | false ↦ λ d. omega arith ]

range_names : (r : Range) → Names (range_text r) (range_numbers r)
unfolding range_text range_numbers
range_names r =
    let low = numeral r.low in
    let high = numeral r.high in
    let ends = names_append low (dash ∷ backslash ∷ high) (r.low ∷ []) (r.high ∷ []) (names_number r.low) (λ s h d. omega arith)
    (names_pass dash (backslash ∷ high) (r.high ∷ []) (λ d. omega arith) (names_pass backslash high (r.high ∷ []) (λ d. omega arith) (names_number r.high))) in
    elim (eqb r.low r.high) as (λ (b : Bool). Names (cond b (backslash ∷ low) (backslash ∷ low ++ dash ∷ backslash ∷ high)) (cond b (r.low ∷ []) (r.low ∷ r.high ∷ []))) [
      | true ↦ names_pass backslash low (r.low ∷ []) (λ d. omega arith) (names_number r.low)
      | false ↦ names_pass backslash (low ++ dash ∷ backslash ∷ high) (r.low ∷ r.high ∷ []) (λ d. omega arith) ends
    ]

-- a byte that is no digit may stand behind all that is named
names_closed : (x ns : List ℕ) (c : ℕ) → (Digit c → ⊥) → Names x ns → Names (x ++ (c ∷ [])) ns
names_closed x ns c d p s h = names_append x (c ∷ []) ns [] p (λ t k. d) (names_none c d) s h ∙ ap (λ (r : List ℕ). map numeral r ++ numerals_in s) (append-nil ns)

class_opens : (cc : Class) → Opens (class_text cc)
unfolding class_text
class_opens cc s h d = omega arith

class_names : (cc : Class) → Names (class_text cc) (class_numbers cc)
unfolding class_text class_numbers
class_names cc =
    let rs = runs cc 0 number_limit in
    let inner = names_joined range_text range_numbers range_opens range_names rs in
    names_pass bracket_open (joined range_text rs ++ (bracket_close ∷ [])) (joined range_numbers rs) (λ d. omega arith)
    (names_closed (joined range_text rs) (joined range_numbers rs) bracket_close (λ d. omega arith) inner)

-- ---- lines

-- an argument, with the space behind it
argument_opens : (cc : Class) → Opens (class_text cc ++ (space ∷ []))
argument_opens cc s h = rw (append_assoc (class_text cc) (space ∷ []) s) (class_opens cc (space ∷ s) (λ d. omega arith))

argument_names : (cc : Class) → Names (class_text cc ++ (space ∷ [])) (class_numbers cc)
argument_names cc = names_closed (class_text cc) (class_numbers cc) space (λ d. omega arith) (class_names cc)

result_opens : (n : ℕ) → Opens (result_text n)
unfolding result_text
result_opens n s h d = omega arith

result_names : (n : ℕ) → Names (result_text n) (class_numbers (eqb n))
unfolding result_text
result_names n =
    let own = class_numbers (eqb n) in
    let closed = class_text (eqb n) ++ (line_feed ∷ []) in
    names_pass dash (greater ∷ space ∷ closed) own (λ d. omega arith)
    (names_pass greater (space ∷ closed) own (λ d. omega arith)
    (names_pass space closed own (λ d. omega arith) (names_closed (class_text (eqb n)) own line_feed (λ d. omega arith) (class_names (eqb n)))))

line_names : (l : Line) → Names (line_text l) (line_numbers l)
unfolding line_text line_numbers arguments_text
line_names l =
    names_append (arguments_text l.arguments) (result_text l.result) (joined class_numbers l.arguments) (class_numbers (eqb l.result))
    (names_joined (λ cc. class_text cc ++ (space ∷ [])) class_numbers argument_opens argument_names l.arguments)
    (result_opens l.result)
    (result_names l.result)

line_opens : (l : Line) → Opens (line_text l)
unfolding line_text arguments_text
line_opens l s h =
    rw (append_assoc (arguments_text l.arguments) (result_text l.result) s)
    (opens_joined (λ cc. class_text cc ++ (space ∷ [])) class_numbers argument_opens l.arguments (result_text l.result ++ s) (result_opens l.result s h))

-- ---- the whole text

pub grammar_names : (g : List Line) → numerals_in (grammar_text g) ≡ map numeral (grammar_numbers g)
unfolding grammar_text grammar_numbers
grammar_names g =
    ap numerals_in (sym (append-nil (joined line_text g))) ∙ names_joined line_text line_numbers line_opens line_names g [] tt
    ∙ ap (λ (r : List (List ℕ)). map numeral (joined line_numbers g) ++ r) numerals_none ∙ append-nil (map numeral (joined line_numbers g))
