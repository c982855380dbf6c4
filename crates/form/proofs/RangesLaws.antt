-- Ranges that rise are the normal ranges of a class of one kind, and back.
use Prim.Native.Nat.{ℕ, ◌+◌, ◌-◌, ◌≤◌, ◌<◌}
use mathlib.Core.Bool.{Bool, false, true, true≢false, false≢true}
use mathlib.Core.List.{List, [], ◌∷◌, ◌++◌}
use mathlib.Core.Logic.{inl, inr, ⊎_elim, by_cases}
use mathlib.Core.Path.{◌≡◌, refl, sym, ◌∙◌}
use native.Mathlib.Decide.{dec_lt}
use native.Mathlib.Nat.{le_refl}
use native.Mathlib.Omega.{arith}
use Rattle.ccg.specs.Ccg.{Class}
use Rattle.ccg.specs.Text.{number_limit}
use Rattle.ccg.specs.Written.{OneKind}
use Rattle.charset.proofs.RunLaws.{runs_normal, runs_outside, runs_covered, normal_unique}
use Rattle.charset.specs.Runs.{Range, range, runs, Apart, covered, Normal}
use Rattle.charset.specs.Set.{in_range}
use Rattle.common.proofs.BelowLaws.{between_in, between_ends}
use Rattle.common.proofs.BoolLaws.{or_cases, or_first, or_second, true_or_false}
use Rattle.form.proofs.NumberLaws.{last_low, last_high, last_below, last_same, last_next, allowed_kind, allowed_line, allowed_above, allowed_own, allowed_same}
use Rattle.form.specs.Read.{range_to, Rising, Awaits}
use Rattle.form.specs.Step.{last_character, last_number, last_from, allowed}
use Rattle.theory.specs.Tree.{production_number}

-- ---- one range more

pub rising_more : (low : ℕ) (rs : List Range) (next : ℕ) (r : Range) → Rising low rs next → allowed next r.low ≡ true → r.low ≤ r.high → r.high ≤ last_from r.low
    → Rising low (rs ++ (r ∷ [])) (r.high + 2)
unfolding Rising
rising_more low [] next r h a l b = (rw h a, l, b, refl)
rising_more low (q ∷ rs) next r h a l b = (h.0, h.1, h.2, rising_more (q.high + 2) rs next r h.3 a l b)

-- the range that a number ends which was awaited: it rises, within one kind
pub range_to_kind : (dashed : Bool) (low v : ℕ) (rs : List Range) → Awaits dashed low rs → allowed low v ≡ true
    → ((range_to dashed low v).low ≤ v) × (v ≤ last_from (range_to dashed low v).low) × ((range_to dashed low v).low ≤ last_from (range_to dashed low v).low)
unfolding Awaits range_to
range_to_kind false low v rs h a = (le_refl v, allowed_own low v a, allowed_own low v a)
range_to_kind true low v rs h a =
    let (l, next, rising, may, e) = h in
    let from : low - 1 ≡ l = omega arith in
    let own = allowed_own next l may in
    let kind : last_from low ≡ last_from l = rw e (last_next l 1 (omega arith) own) in
    let (below, same) = allowed_same low v (omega arith) a in
    (omega (arith, allowed_above low v a), rw from (omega arith), rw from own)

pub rising_to : (dashed : Bool) (low v : ℕ) (rs : List Range) → Awaits dashed low rs → allowed low v ≡ true → Rising 0 (rs ++ (range_to dashed low v ∷ [])) (v + 2)
unfolding Awaits range_to
rising_to false low v rs h a = let (rises, below, own) = range_to_kind false low v rs h a in rising_more 0 rs low (range v v) h a rises below
rising_to true low v rs h a =
    let (rises, below, own) = range_to_kind true low v rs h a in
    let (l, next, rising, may, e) = h in
    let from : low - 1 ≡ l = omega arith in
    rising_more 0 rs next (range (low - 1) v) rising (rw from may) rises below

-- ---- ranges that rise are normal

rising_apart : (h : ℕ) (rs : List Range) (next : ℕ) → Rising (h + 2) rs next → Apart h rs
unfolding Rising Apart
rising_apart h [] next k = tt
rising_apart h (r ∷ rs) next k = omega (arith, allowed_above (h + 2) r.low k.0)

rising_normal : (low : ℕ) (rs : List Range) (next : ℕ) → Rising low rs next → Normal rs
unfolding Rising Normal
rising_normal low [] next k = tt
rising_normal low (r ∷ rs) next k = (k.1, rising_apart r.high rs next k.3, rising_normal (r.high + 2) rs next k.3)

not_covered : (c : ℕ) → covered [] c ≡ true → ⊥
unfolding covered
not_covered c e = false≢true e

-- in the range, or in one of the others
covered_cases : (P : Type 0) (r : Range) (rs : List Range) (c : ℕ) → covered (r ∷ rs) c ≡ true → (r.low ≤ c → c ≤ r.high → P) → (covered rs c ≡ true → P) → P
unfolding covered in_range
covered_cases P r rs c e here there =
    ⊎_elim (λ a. let (l, h) = between_ends r.low r.high c a in here l h) there (or_cases (in_range r.low r.high c) (covered rs c) e)

-- what a range covers, and those behind it
covered_from : (r : Range) (rs : List Range) (c : ℕ) → r.low ≤ r.high → r.high ≤ last_from r.low
    → (covered rs c ≡ true → (r.high + 2 ≤ c) × (c ≤ last_from (r.high + 2))) → covered (r ∷ rs) c ≡ true → (r.low ≤ c) × (c ≤ last_from r.low)
covered_from r rs c l h rest e =
    let same = last_same r.low r.high l h in
    covered_cases ((r.low ≤ c) × (c ≤ last_from r.low)) r rs c e
    (λ a b. (a, omega arith))
    (λ a. let (above, below) = rest a in (omega arith, omega (arith, last_next r.high 2 (omega arith) (omega arith))))

covered_behind : (low : ℕ) (rs : List Range) (next c : ℕ) → 0 < low → Rising low rs next → covered rs c ≡ true → (low ≤ c) × (c ≤ last_from low)
unfolding Rising
covered_behind low [] next c some k e = absurd (not_covered c e)
covered_behind low (r ∷ rs) next c some k e =
    let (above, below) = covered_from r rs c k.1 k.2 (λ a. covered_behind (r.high + 2) rs next c (omega arith) k.3 a) e in
    let (in_kind, same) = allowed_same low r.low some k.0 in
    (omega (arith, allowed_above low r.low k.0), omega arith)

-- ---- so they are those of the class that they cover, which is of one kind

pub rising_kind : (rs : List Range) (next : ℕ) → Rising 0 rs next → OneKind (covered rs)
unfolding Rising
rising_kind [] next k = inl (λ n e. absurd (not_covered n e))
rising_kind (r ∷ rs) next k =
    let all : (c : ℕ) → covered (r ∷ rs) c ≡ true → (r.low ≤ c) × (c ≤ last_from r.low) = λ c. covered_from r rs c k.1 k.2 (covered_behind (r.high + 2) rs next c (omega arith) k.3) in
    by_cases (dec_lt r.low (production_number 0))
    (λ l. inl (λ n e. let (above, below) = all n e in omega (arith, last_low r.low l)))
    (λ m. inr (λ n e. let (above, below) = all n e in (omega arith, omega (arith, last_below r.low))))

-- nothing above the numbers
rising_none : (rs : List Range) (next c : ℕ) → Rising 0 rs next → number_limit ≤ c → covered rs c ≡ false
rising_none rs next c k l =
    ⊎_elim
    (λ e. ⊎_elim (λ f. absurd (omega (arith, f c e))) (λ f. absurd (omega (arith, (f c e).1))) (rising_kind rs next k))
    (λ e. e)
    (true_or_false (covered rs c))

pub rising_runs : (rs : List Range) (next : ℕ) → Rising 0 rs next → runs (covered rs) 0 number_limit ≡ rs
rising_runs rs next k =
    normal_unique (runs (covered rs) 0 number_limit) rs (runs_normal (covered rs) 0 number_limit) (rising_normal 0 rs next k)
    (λ c. by_cases (dec_lt c number_limit)
    (λ l. runs_covered (covered rs) 0 number_limit c (omega arith) (omega arith))
    (λ m. runs_outside (covered rs) 0 number_limit c (λ a b. omega arith) ∙ sym (rising_none rs next c k (omega arith))))

-- ---- the normal ranges of a class of one kind rise

covered_head : (r : Range) (rs : List Range) (c : ℕ) → r.low ≤ c → c ≤ r.high → covered (r ∷ rs) c ≡ true
unfolding covered in_range
covered_head r rs c l h = or_first (in_range r.low r.high c) (covered rs c) (between_in r.low r.high c l h)

covered_rest : (r : Range) (rs : List Range) (c : ℕ) → covered rs c ≡ true → covered (r ∷ rs) c ≡ true
unfolding covered
covered_rest r rs c e = or_second (in_range r.low r.high c) (covered rs c) e

-- all numbers from the one to the other are of one kind
abbrev Kind : ℕ → ℕ → Type 0
Kind first last = (n : ℕ) → first ≤ n → n ≤ last → last_from n ≡ last

module _ (first last : ℕ) (kind : Kind first last) where
  abbrev Within : List Range → Type 0
  Within rs = (c : ℕ) → covered rs c ≡ true → (first ≤ c) × (c ≤ last)

  -- the first of them may come next
  abbrev Begin : ℕ → List Range → Type 0
  Begin low [] = Unit {0}
  Begin low (r ∷ rs) = allowed low r.low ≡ true

  head_within : (r : Range) (rs : List Range) → Normal (r ∷ rs) → Within (r ∷ rs) → (first ≤ r.low) × (r.high ≤ last)
  unfolding Normal
  head_within r rs n all =
      ((all r.low (covered_head r rs r.low (le_refl r.low) n.0)).0, (all r.high (covered_head r rs r.high n.0 (le_refl r.high))).1)

  -- those apart from a number of the kind may follow it
  apart_begin : (h : ℕ) (rs : List Range) → first ≤ h → h ≤ last → Apart h rs → Normal rs → Within rs → Begin (h + 2) rs
  unfolding Apart Normal
  apart_begin h [] l b apart n all = tt
  apart_begin h (r ∷ rs) l b apart n all =
      let (above, below) = head_within r rs n all in
      let own = kind h l b in
      allowed_kind (h + 2) r.low (omega arith) (omega (arith, n.0, last_next h 2 (omega arith) (omega arith)))

  normal_rises : (low : ℕ) (rs : List Range) → Begin low rs → Normal rs → Within rs → (next : ℕ) × Rising low rs next
  unfolding Rising Normal
  normal_rises low [] may n all = (low, refl)
  normal_rises low (r ∷ rs) may n all =
      let (above, below) = head_within r rs n all in
      let own = kind r.low above (omega (arith, n.0)) in
      let rest : Within rs = λ c e. all c (covered_rest r rs c e) in
      let (next, rises) = normal_rises (r.high + 2) rs (apart_begin r.high rs (omega (arith, n.0)) below n.1 n.2 rest) n.2 rest in
      (next, (may, n.0, omega arith, rises))

characters_kind : Kind 0 last_character
characters_kind n l h = last_low n (omega arith)

productions_kind : Kind (production_number 0) last_number
productions_kind n l h = last_high n l

-- the ranges have only numbers of the class
runs_in : (cc : Class) (c : ℕ) → covered (runs cc 0 number_limit) c ≡ true → cc c ≡ true
runs_in cc c e =
    by_cases (dec_lt c number_limit)
    (λ l. sym (runs_covered cc 0 number_limit c (omega arith) (omega arith)) ∙ e)
    (λ m. absurd (true≢false (sym e ∙ runs_outside cc 0 number_limit c (λ a b. omega arith))))

-- any range of one kind may come first
begin_characters : (rs : List Range) → Normal rs → ((c : ℕ) → covered rs c ≡ true → (0 ≤ c) × (c ≤ last_character)) → Begin 0 last_character characters_kind 0 rs
unfolding Normal
begin_characters [] n all = tt
begin_characters (r ∷ rs) n all =
    let (above, below) = head_within 0 last_character characters_kind r rs n all in
    allowed_kind 0 r.low above (omega (arith, n.0, last_low 0 (omega arith)))

begin_productions : (rs : List Range) → Normal rs → ((c : ℕ) → covered rs c ≡ true → (production_number 0 ≤ c) × (c ≤ last_number)) → Begin (production_number 0) last_number productions_kind 0 rs
unfolding Normal
begin_productions [] n all = tt
begin_productions (r ∷ rs) n all =
    let (above, below) = head_within (production_number 0) last_number productions_kind r rs n all in
    allowed_line 0 r.low refl above (omega (arith, n.0))

pub kind_rising : (cc : Class) → OneKind cc → (next : ℕ) × Rising 0 (runs cc 0 number_limit) next
kind_rising cc kind =
    let rs = runs cc 0 number_limit in
    let normal = runs_normal cc 0 number_limit in
    ⊎_elim
    (λ f. let all : (c : ℕ) → covered rs c ≡ true → (0 ≤ c) × (c ≤ last_character) = λ c e. (omega arith, omega (arith, f c (runs_in cc c e))) in
    normal_rises 0 last_character characters_kind 0 rs (begin_characters rs normal all) normal all)
    (λ f. let all : (c : ℕ) → covered rs c ≡ true → (production_number 0 ≤ c) × (c ≤ last_number) = λ c e. ((f c (runs_in cc c e)).0, omega (arith, (f c (runs_in cc c e)).1)) in
    normal_rises (production_number 0) last_number productions_kind 0 rs (begin_productions rs normal all) normal all)
    kind
