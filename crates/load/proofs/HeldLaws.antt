-- One byte more: the tables hold what is complete then.
use Prim.Native.Nat.{ℕ, ◌+◌, ◌≤◌, ◌<◌}
use mathlib.Core.Bool.{Bool, false, true, true≢false}
use mathlib.Core.List.{List, [], ◌∷◌, ◌++◌}
use mathlib.Core.Logic.{inl, inr, ⊎_elim, by_cases}
use mathlib.Core.Path.{◌≡◌, refl, sym, ◌∙◌}
use native.Mathlib.Decide.{dec_lt}
use native.Mathlib.Omega.{arith}
use lib.Dec.{eqb}
use lib.ListN.{length, get_or, set, length-set, length-append}
use lib.Seq.{get_or-set_same, get_or-set_other}
use Rattle.ccg.specs.Ccg.{Class, Line, no_line, no_class}
use Rattle.charset.specs.Runs.{Range, covered}
use Rattle.common.proofs.BoolLaws.{true_or_false}
use Rattle.common.specs.Zeros.{AllZero}
use Rattle.form.proofs.NumberLaws.{last_low}
use Rattle.form.proofs.RangesLaws.{range_to_kind}
use Rattle.form.proofs.ReadLaws.{each_more, range_ends, small_told}
use Rattle.form.specs.Read.{Memory, nothing, range_to, with_range, with_argument, with_line, ends_range, remember, Awaits, Room, Expected, Told}
use Rattle.form.specs.Step.{allowed, ending_length, in_number, state, step_at, step, goes_on, SmallSpot}
use Rattle.form.specs.declared.Spot.{Spot}
use Rattle.form.specs.declared.Spot.TheVariants.{Between, Opened, Slash, Number, Dash, Closed, Ending, Stuck}
use Rattle.form.specs.declared.State.{State}
use Rattle.layout.specs.Limits.{production_limit, argument_limit}
use Rattle.load.proofs.NoteLaws.{OneSort, has_range, has_other, table_zero}
use Rattle.load.specs.Held.{number_bit, BitsAdded, RangeNoted, Noted, Notable, Has, Held}
use Rattle.tables.proofs.LayoutLaws.{slot_in}
use Rattle.tables.specs.Layout.{slot, slots, table_words}
use Rattle.theory.specs.Tree.{production_number}

-- ---- slots

slot_below : (p i : ℕ) → p < production_limit → i < argument_limit → slot p i ≤ slots
slot_below p i l h = omega (arith, slot_in p i l h)

slot_apart : (p i r a : ℕ) → i < argument_limit → a < argument_limit → slot p i ≡ slot r a → (p ≡ r) × (i ≡ a)
unfolding slot
slot_apart p i r a l h e = omega arith

covered_none : (t : List ℕ) (s : ℕ) → Has t s no_class → Has t s (covered [])
unfolding covered
covered_none t s has n h = has n h

-- ---- one range more

-- The lines that are complete, as told.
abbrev FewLines : Memory → Type 0
FewLines m = (length m.lines ≤ production_limit) × ((p : ℕ) → p < length m.lines → length (get_or m.lines p no_line).arguments ≤ argument_limit)

module _ (m : Memory) (c : List ℕ) (few : FewLines m) where
  abbrev r : ℕ
  r = length m.lines

  abbrev a : ℕ
  a = length m.arguments

  held_range : (x : Range) (t₀ t : List ℕ) → Room r a → OneSort x.low x.high → BitsAdded (slot r a) (number_bit x.low) (number_bit x.high + 1) t₀ t → Held m t₀ c → Held (with_range m x) t c
  held_range x t₀ t room kind added h =
      let other = has_other (slot r a) x t₀ t kind added in
      record {
        long = added.long ∙ h.long;
        many = h.many;
        counted = h.counted;
        lines = λ p i lp li. let short : i < argument_limit = omega (arith, few.1 p lp) in
            other (slot p i) (get_or (get_or m.lines p no_line).arguments i no_class) (slot_below p i (omega (arith, few.0)) short)
            (λ e. omega (arith, slot_apart p i r a short room.1 e)) (h.lines p i lp li);
        arguments = λ i li. other (slot r i) (get_or m.arguments i no_class) (slot_below r i room.0 (omega (arith, room.1)))
            (λ e. omega (arith, slot_apart r i r a (omega (arith, room.1)) room.1 e)) (h.arguments i li);
        ranges = λ place. has_range (slot r a) x t₀ t kind added (slot_below r a room.0 room.1) m.ranges (h.ranges place);
        rest = λ p i lp li cases. other (slot p i) no_class (slot_below p i lp li)
            (λ e. let same = slot_apart p i r a li room.1 e in ⊎_elim (λ less. omega (arith, same)) (λ less. omega (arith, same, less)) cases) (h.rest p i lp li cases);
      }

  -- ---- one argument more, one line more

  held_argument : (t : List ℕ) → Room r a → Held m t c → Held (with_argument m) t c
  held_argument t room h =
      let cc = covered m.ranges in
      let long : length (m.arguments ++ (cc ∷ [])) ≡ a + 1 = length-append m.arguments (cc ∷ []) in
      record {
        long = h.long;
        many = h.many;
        counted = h.counted;
        lines = h.lines;
        arguments = each_more (λ (i : ℕ) (x : Class). Has t (slot r i) x) m.arguments cc no_class h.arguments (h.ranges room);
        ranges = λ place. rw long (covered_none t (slot r (a + 1)) (h.rest r (a + 1) room.0 (omega (arith, place.1)) (inr (refl, omega arith))));
        rest = λ p i lp li cases. h.rest p i lp li (⊎_elim (λ less. inl less) (λ less. inr (less.0, omega (arith, less.1))) cases);
      }

  held_line : (t : List ℕ) → get_or c r 0 ≡ a → Held m t c → Held (with_line m) t c
  held_line t count h =
      let l : Line = record { arguments = m.arguments; result = production_number r } in
      let long : length (m.lines ++ (l ∷ [])) ≡ r + 1 = length-append m.lines (l ∷ []) in
      record {
        long = h.long;
        many = h.many;
        counted = each_more (λ (p : ℕ) (x : Line). get_or c p 0 ≡ length x.arguments) m.lines l no_line h.counted count;
        lines = λ p i lp. each_more (λ (q : ℕ) (x : Line). (j : ℕ) → j < length x.arguments → Has t (slot q j) (get_or x.arguments j no_class)) m.lines l no_line (λ q lq j. h.lines q j lq) h.arguments p lp i;
        arguments = λ i li. absurd (omega arith);
        ranges = λ place. rw long (covered_none t (slot (r + 1) 0) (h.rest (r + 1) 0 (omega (arith, place.0)) (omega arith) (inl (omega arith))));
        rest = λ p i lp li cases. h.rest p i lp li (inl (⊎_elim (λ less. omega (arith, less)) (λ less. omega (arith, less.0)) cases));
      }

  -- a count that is written for the line that is open
  held_count : (t : List ℕ) (v : ℕ) → Held m t c → Held m t (set c r v)
  held_count t v h =
      record {
        long = h.long;
        many = length-set c r v ∙ h.many;
        counted = λ p lp. get_or-set_other c r p v 0 (λ e. omega arith) ∙ h.counted p lp;
        lines = h.lines;
        arguments = h.arguments;
        ranges = h.ranges;
        rest = h.rest;
      }

-- ---- one byte more

-- a range that was awaited is of one kind
range_sort : (dashed : Bool) (low v : ℕ) (rs : List Range) → Awaits dashed low rs → allowed low v ≡ true → OneSort (range_to dashed low v).low v
range_sort dashed low v rs h may =
    let (rises, below, own) = range_to_kind dashed low v rs h may in
    let l = (range_to dashed low v).low in
    record { rises = rises; kind = by_cases (dec_lt l (production_number 0)) (λ less. inl (omega (arith, last_low l less))) (λ more. inr (omega arith)) }

high_is : (dashed : Bool) (low v : ℕ) → (range_to dashed low v).high ≡ v
unfolding range_to
high_is dashed low v = refl

-- what was told says that the lines are few
told_few : (s : State) (m : Memory) (u : List ℕ) → Told s m u → FewLines m
told_few s m u h = (omega (arith, h.line, h.few_lines), h.good_lines.few_arguments)

module _ (r a : ℕ) (m : Memory) (u t₀ c₀ t c : List ℕ) (b : ℕ) where
  noted_range : (dashed : Bool) (low v : ℕ) → Told (state r a (Number dashed low v)) m u → goes_on (in_number dashed low v b) ≡ true → Held m t₀ c₀
      → RangeNoted (ends_range b) (slot r a) (range_to dashed low v) t₀ t → c ≡ c₀ → Held (remember (Number dashed low v) m b) t c
  unfolding RangeNoted remember Expected
  noted_range dashed low v told on h noted same =
      elim (true_or_false (ends_range b)) [
        | inl e ↦ let (awaits, room) = told.expected in
            let kind = range_sort dashed low v m.ranges awaits (range_ends dashed low v b e on) in
            let added : BitsAdded (slot r a) (number_bit (range_to dashed low v).low) (number_bit (range_to dashed low v).high + 1) t₀ t = rw e at noted in
            rw (e, same)
            (held_range m c₀ (told_few (state r a (Number dashed low v)) m u told) (range_to dashed low v) t₀ t (omega (arith, told.line, room), omega (arith, told.argument, room))
            (rw (high_is dashed low v) kind) (rw (← told.line, ← told.argument) added) h)
        | inr e ↦ let none : t ≡ t₀ = rw e at noted in rw (e, same, none) h
      ]

  noted_closed : Told (state r a Closed) m u → Held m t₀ c₀ → t ≡ t₀ → c ≡ c₀ → Held (with_argument m) t c
  unfolding Expected
  noted_closed told h same same₂ =
      let (rises, room) = told.expected in
      rw (same, same₂) (held_argument m c₀ (told_few (state r a Closed) m u told) t₀ (omega (arith, told.line, room), omega (arith, told.argument, room)) h)

  noted_ending : (k : ℕ) → Told (state r a (Ending k)) m u → Held m t₀ c₀ → t ≡ t₀ → c ≡ set c₀ r a → Held (remember (Ending k) m b) t c
  unfolding remember Expected
  noted_ending k told h same count =
      let (none, less, short) = told.expected in
      let few = told_few (state r a (Ending k)) m u told in
      let line : r ≡ length m.lines = told.line in
      let counts : c ≡ set c₀ (length m.lines) a = rw (← line) count in
      let held : Held m t c = rw (same, counts) (held_count m c₀ few t₀ a h) in
      let own : get_or c (length m.lines) 0 ≡ length m.arguments =
      rw counts (get_or-set_same c₀ (length m.lines) a 0 (omega (arith, h.many, line, less)) ∙ told.argument) in
      elim (true_or_false (eqb (k + 1) ending_length)) [ inl e ↦ rw e (held_line m c few t own held) | inr e ↦ rw e held ]

held_at : (r a : ℕ) (s : Spot) (m : Memory) (u t₀ c₀ t c : List ℕ) (b : ℕ) → Told (state r a s) m u → goes_on (step_at r a s b).spot ≡ true → Held m t₀ c₀ → Noted r a s b t₀ c₀ t c
    → Held (remember s m b) t c
unfolding Noted remember step_at
held_at r a Between m u t₀ c₀ t c b told on h (e, f) = rw (e, f) h
held_at r a Opened m u t₀ c₀ t c b told on h (e, f) = rw (e, f) h
held_at r a (Slash dashed low) m u t₀ c₀ t c b told on h (e, f) = rw (e, f) h
held_at r a (Number dashed low v) m u t₀ c₀ t c b told on h (e, f) = noted_range r a m u t₀ c₀ t c b dashed low v told on h e f
held_at r a (Dash low) m u t₀ c₀ t c b told on h (e, f) = rw (e, f) h
held_at r a Closed m u t₀ c₀ t c b told on h (e, f) = noted_closed r a m u t₀ c₀ t c b told h e f
held_at r a (Ending k) m u t₀ c₀ t c b told on h (e, f) = noted_ending r a m u t₀ c₀ t c b k told h e f
held_at r a Stuck m u t₀ c₀ t c b told on h (e, f) = rw (e, f) h

-- What is written behind a byte keeps the tables at what is complete.
pub held_step : (s : State) (m : Memory) (u t₀ c₀ t c : List ℕ) (b : ℕ) → Told s m u → goes_on (step s b).spot ≡ true → Held m t₀ c₀
    → Noted s.line s.argument s.spot b t₀ c₀ t c → Held (remember s.spot m b) t c
held_step s m u t₀ c₀ t c b told on h noted = held_at s.line s.argument s.spot m u t₀ c₀ t c b told on h noted

-- ---- before the first byte

pub held_nothing : (t c : List ℕ) → AllZero table_words t → length c ≡ production_limit → Held nothing t c
held_nothing t c zero many =
    record {
      long = zero.long;
      many = many;
      counted = λ p l. absurd (omega arith);
      lines = λ p i l. absurd (omega arith);
      arguments = λ i l. absurd (omega arith);
      ranges = λ room. covered_none t (slot 0 0) (table_zero t (slot 0 0) zero.zeros);
      rest = λ p i lp li cases. table_zero t (slot p i) zero.zeros;
    }

-- ---- what code has to know

dash_above : (dashed : Bool) (low : ℕ) (rs : List Range) → Awaits dashed low rs → dashed ≡ true → 1 ≤ low
unfolding Awaits
dash_above false low rs h e = absurd (true≢false (sym e))
dash_above true low rs (l, next, rises, may, e) f = omega arith

notable_at : (r a : ℕ) (s : Spot) (m : Memory) (u : List ℕ) → Told (state r a s) m u → goes_on s ≡ true → SmallSpot r s → Notable r a s
unfolding Notable Expected SmallSpot
notable_at r a Between m u told on small = tt
notable_at r a Opened m u told on small = tt
notable_at r a (Slash dashed low) m u told on small = tt
notable_at r a (Number dashed low v) m u told on small = (told.expected.1, small, dash_above dashed low m.ranges told.expected.0)
notable_at r a (Dash low) m u told on small = tt
notable_at r a Closed m u told on small = tt
notable_at r a (Ending k) m u told on small = (small.0, told.few_arguments)
notable_at r a Stuck m u told on small = tt

pub notable_told : (s : State) (m : Memory) (u : List ℕ) → Told s m u → goes_on s.spot ≡ true → Notable s.line s.argument s.spot
notable_told s m u told on = notable_at s.line s.argument s.spot m u told on (small_told s m u told on).spot
