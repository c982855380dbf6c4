-- The grammar with its groups spelled out (02, [2]): its declarations are the spelled-out ones, it is accepted if the grammar is, and it has the same conflicts.
use Prim.Native.Nat.{ℕ, zero, suc, ◌+◌, ◌-◌, ◌*◌, ◌≤◌, ◌<◌}
use mathlib.Core.Path.{◌≡◌, refl, sym, ◌∙◌, ap, subst}
use mathlib.Core.Bool.{false}
use mathlib.Core.List.{List, [], ◌∷◌, ◌++◌}
use mathlib.Core.Logic.{◌↔◌, by_cases}
use native.Mathlib.Omega.{arith}
use native.Mathlib.Decide.{ℕ_discrete, dec_lt}
use lib.ListN.{length, get_or, take, length-append, get_or-append, get_or-eq_default}
use lib.Seq.{length-take-le, get_or-append-add, get_or_at, get_or-take, get_or-drop, slice, length-slice}
use Rattle.common.proofs.AllLaws.{all_at, all_tabulate, all_joined}
use Rattle.common.proofs.ListLaws.{tabulate_members}
use Rattle.common.specs.Lists.{tabulate, joined, All}
use Rattle.grammar.proofs.SameFrontLaws.{SameFront, Declares, bytes_front, front_bodies, front_back, front_formed, same_productions, same_count, same_declaration_at}
use Rattle.grammar.specs.Check.{is_group}
use Rattle.grammar.specs.Formed.{WellFormed}
use Rattle.refusal.specs.Verdict.{accepted}
use Rattle.layout.proofs.FramedLaws.{declarations_in}
use Rattle.layout.proofs.LayoutLaws.{declaration_from, needed_is_end}
use Rattle.layout.specs.Framed.{Framed}
use Rattle.layout.specs.Layout.{byte_at, productions, declarations, argument_count, declaration_at, kind, first, second, needed_length}
use Rattle.layout.specs.Limits.{kind_limit, header_length}
use Rattle.priority.proofs.CheckLaws.{accepted_formed}
use Rattle.priority.proofs.PriorityLaws.{kind_is, first_is, second_is}
use Rattle.priority.proofs.RefusalLaws.{accepted_free, formed_accepted}
use Rattle.priority.proofs.SameFrontLaws.{front_conflict}
use Rattle.priority.proofs.SpelledLaws.{said_bounds, spelled_all, spelled_none, spelled_declared, higher_alike, conflict_carried}
use Rattle.priority.specs.Check.{checked}
use Rattle.priority.specs.Conflict.{Conflict}
use Rattle.priority.specs.Priorities.{Kind, declared_in, declaration_of, declarations_of, declared}
use Rattle.priority.specs.declared.Declaration.{Declaration}
use Rattle.priority.specs.Refusals.{refusal9}
use Rattle.priority.specs.Spelled.{IsOfTwo, spelled, spelled_out, declaration_numbers, spelled_grammar}

-- ---- the numbers of a list of declarations

-- there are three of each
numbers_length : (ls : List Declaration) → length (joined declaration_numbers ls) ≡ 3 * length ls
unfolding joined
numbers_length [] = refl
numbers_length (l ∷ ls) = omega (arith, numbers_length ls)

-- what stands where there is no declaration
abbrev no_declaration : Declaration
no_declaration = record { kind = 0; first = 0; second = 0 }

-- the numbers of declaration d
numbers_at : (ls : List Declaration) (d : ℕ) → d < length ls
    → (get_or (joined declaration_numbers ls) (3 * d) 0 ≡ (get_or ls d no_declaration).kind)
    × (get_or (joined declaration_numbers ls) (3 * d + 1) 0 ≡ (get_or ls d no_declaration).first)
    × (get_or (joined declaration_numbers ls) (3 * d + 2) 0 ≡ (get_or ls d no_declaration).second)
unfolding joined
numbers_at [] d l = absurd (omega arith)
numbers_at (x ∷ ls) zero l = (refl, refl, refl)
numbers_at (x ∷ ls) (suc d) l =
    let all = joined declaration_numbers (x ∷ ls) in
    let (a, m, z) = numbers_at ls d (omega arith) in
    let e : 3 * suc d ≡ suc (suc (suc (3 * d))) = omega arith in
    let f : 3 * suc d + 1 ≡ suc (suc (suc (3 * d + 1))) = omega arith in
    let g : 3 * suc d + 2 ≡ suc (suc (suc (3 * d + 2))) = omega arith in
    (ap (λ (k : ℕ). get_or all k 0) e ∙ a, ap (λ (k : ℕ). get_or all k 0) f ∙ m, ap (λ (k : ℕ). get_or all k 0) g ∙ z)

-- a declaration is its three numbers
same_declaration : (k f s : ℕ) (l : Declaration) → k ≡ l.kind → f ≡ l.first → s ≡ l.second → record { kind = k; first = f; second = s } ≡ l
same_declaration k f s l d e g = rw (d, e, g) refl

-- ---- each spelled-out declaration is as it should be

-- A declaration as it should be, of so many productions.
abbrev Proper : ℕ → Declaration → Type 0
Proper count l = Declares count l.kind l.first l.second

-- what is spelled out of one
spelled_proper : (count : ℕ) (l : Declaration) → Proper count l → All (Proper count) (spelled l)
spelled_proper count l h =
    spelled_all (Proper count) l
    (λ g x j lx hy. let (low, high) = said_bounds l.kind g in
    record { some_kind = omega arith; few_kinds = omega arith; first_there = omega (arith, h.second_there); second_there = omega (arith, h.second_there); group_rises = λ e. omega arith })
    (λ g. h)

-- the declarations of a grammar are as they should be
formed_proper : (b : List ℕ) → WellFormed b → All (Proper (productions b)) (declarations_of b)
unfolding declarations_of declaration_of
formed_proper b w =
    all_tabulate (Proper (productions b)) (declarations b) (declaration_of b)
    (λ d l. record { some_kind = w.some_kind d l; few_kinds = w.few_kinds d l; first_there = w.first_there d l; second_there = w.second_there d l; group_rises = w.groups_rise d l })

-- and so are those spelled out
spelled_out_proper : (b : List ℕ) → WellFormed b → All (Proper (productions b)) (spelled_out (declarations_of b))
unfolding spelled_out
spelled_out_proper b w =
    all_joined (Proper (productions b)) (Proper (productions b)) spelled (spelled_proper (productions b)) (declarations_of b) (formed_proper b w)

-- ---- where the numbers of the spelled-out grammar stand

module _ (b : List ℕ) (f : Framed b) where
  -- what is spelled out
  abbrev out : List Declaration
  out = spelled_out (declarations_of b)

  -- the numbers up to the count of declarations
  abbrev start : List ℕ
  start = take 3 b ++ (length out ∷ [])

  -- those behind it, up to the declarations
  abbrev middle : List ℕ
  middle = slice 4 (declaration_at b 0) b

  -- the declarations begin behind the header, and within the grammar's numbers
  front_in : (header_length ≤ declaration_at b 0) × (declaration_at b 0 ≤ length b)
  front_in = (omega (arith, front_bodies b), declarations_in b f)

  -- how many numbers come up to the count of declarations
  start_length : length start ≡ 4
  start_length = length-append (take 3 b) (length out ∷ []) ∙ ap (λ (n : ℕ). n + 1) (length-take-le 3 b (omega (arith, f.header)))

  -- the declarations stand where they stood
  front_length : length (start ++ middle) ≡ declaration_at b 0
  front_length = omega (arith, length-append start middle, start_length, length-slice 4 (declaration_at b 0) b front_in.1, front_in.0)

  -- a number before the declarations
  spelled_early : (k : ℕ) → k < declaration_at b 0 → byte_at (spelled_grammar b) k ≡ get_or (start ++ middle) k 0
  unfolding spelled_grammar
  spelled_early k l = get_or-append (start ++ middle) (joined declaration_numbers out) 0 k (omega (arith, front_length))

  -- a number of the declarations
  spelled_late : (k : ℕ) → byte_at (spelled_grammar b) (declaration_at b 0 + k) ≡ get_or (joined declaration_numbers out) k 0
  unfolding spelled_grammar
  spelled_late k =
      ap (λ (n : ℕ). get_or (start ++ middle ++ joined declaration_numbers out) (n + k) 0) (sym front_length) ∙ get_or-append-add (start ++ middle) (joined declaration_numbers out) k 0

  -- Before the declarations only their count differs.
  spelled_before : (k : ℕ) → k < declaration_at b 0 → (k ≡ 3 → ⊥) → byte_at (spelled_grammar b) k ≡ byte_at b k
  spelled_before k l h =
      spelled_early k l
      ∙ by_cases (dec_lt k 3)
      (λ m. get_or-append start middle 0 k (omega (arith, start_length))
      ∙ get_or-append (take 3 b) (length out ∷ []) 0 k (omega (arith, length-take-le 3 b (omega (arith, f.header))))
      ∙ get_or-take 3 b k 0 m)
      (λ m. let e : k ≡ 4 + (k - 4) = omega arith in
      ap (λ (n : ℕ). get_or (start ++ middle) n 0) (e ∙ ap (λ (n : ℕ). n + (k - 4)) (sym start_length))
      ∙ get_or-append-add start middle (k - 4) 0
      ∙ get_or-drop 4 (take (declaration_at b 0) b) (k - 4) 0
      ∙ ap (λ (n : ℕ). get_or (take (declaration_at b 0) b) n 0) (sym e)
      ∙ get_or-take (declaration_at b 0) b k 0 l)

  pub spelled_front : SameFront b (spelled_grammar b)
  spelled_front = bytes_front b (spelled_grammar b) spelled_before

  -- the count is that of the declarations spelled out
  spelled_count : declarations (spelled_grammar b) ≡ length out
  spelled_count =
      spelled_early 3 (omega (arith, front_in.0))
      ∙ get_or-append start middle 0 3 (omega (arith, start_length))
      ∙ get_or_at (take 3 b) (length out) [] 0 3 (length-take-le 3 b (omega (arith, f.header)))

  -- where declaration d stands
  spelled_at : (d : ℕ) → declaration_at b 0 + 3 * d ≡ declaration_at (spelled_grammar b) d
  spelled_at d = sym (same_declaration_at b (spelled_grammar b) spelled_front d ∙ declaration_from b d)

  -- it is the one that is spelled out there
  spelled_is : (d : ℕ) → d < length out → declaration_of (spelled_grammar b) d ≡ get_or out d no_declaration
  unfolding declaration_of
  spelled_is d m =
      let c = spelled_grammar b in
      let at = declaration_at b 0 in
      let l = get_or out d no_declaration in
      let (kind_at, first_at, second_at) = numbers_at out d m in
      let step : (k : ℕ) → byte_at c (at + 3 * d + k) ≡ get_or (joined declaration_numbers out) (3 * d + k) 0 = λ k. ap (byte_at c) (omega arith) ∙ spelled_late (3 * d + k) in
      same_declaration (kind c d) (first c d) (second c d) l
      (sym (kind_is c d (at + 3 * d) l.kind (spelled_at d) (sym (spelled_late (3 * d) ∙ kind_at))))
      (sym (first_is c d (at + 3 * d) l.first (spelled_at d) (sym (step 1 ∙ first_at))))
      (sym (second_is c d (at + 3 * d) l.second (spelled_at d) (sym (step 2 ∙ second_at))))

  -- its length is the one called for
  spelled_length : length (spelled_grammar b) ≡ needed_length (spelled_grammar b)
  unfolding spelled_grammar
  spelled_length =
      let c = spelled_grammar b in
      omega (arith, length-append (start ++ middle) (joined declaration_numbers out), front_length, numbers_length out, needed_is_end c, spelled_at (declarations c), spelled_count)

-- ---- the spelled-out grammar of a well-formed one

module _ (b : List ℕ) (w : WellFormed b) where
  -- Its declarations are those spelled out.
  pub spelled_declarations : declarations_of (spelled_grammar b) ≡ spelled_out (declarations_of b)
  unfolding declarations_of
  spelled_declarations =
      let c = spelled_grammar b in
      let ls = spelled_out (declarations_of b) in
      ap (λ (n : ℕ). tabulate n (declaration_of c)) (spelled_count b w.framed) ∙ tabulate_members no_declaration (declaration_of c) ls (spelled_is b w.framed)

  -- what holds of each of those holds of its declarations
  spelled_each : (P : Declaration → Type 0) → All P (spelled_out (declarations_of b)) → (d : ℕ) → d < declarations (spelled_grammar b) → P (declaration_of (spelled_grammar b) d)
  spelled_each P h d l =
      let ls = spelled_out (declarations_of b) in
      let m : d < length ls = omega (arith, spelled_count b w.framed) in
      subst P (sym (spelled_is b w.framed d m)) (all_at P ls d no_declaration h m)

  -- No declaration is of a group.
  pub spelled_no_groups : (d : ℕ) → d < declarations (spelled_grammar b) → is_group (kind (spelled_grammar b) d) ≡ false
  unfolding declaration_of
  spelled_no_groups = spelled_each IsOfTwo (spelled_none (declarations_of b))

  -- Its numbers are as small as the grammar's, if there are few enough declarations: then it is a grammar of bytes.
  pub spelled_small : (m : ℕ) → kind_limit < m → ((k : ℕ) → byte_at b k < m) → length (spelled_out (declarations_of b)) < m → (k : ℕ) → byte_at (spelled_grammar b) k < m
  spelled_small m few small h k =
      let ls = spelled_out (declarations_of b) in
      let numbers = all_joined (Proper (productions b)) (λ n. n < m) declaration_numbers
      (λ l p. (omega (arith, p.few_kinds), (omega (arith, p.first_there, small 1), (omega (arith, p.second_there, small 1), tt))))
      ls (spelled_out_proper b w) in
      let at = declaration_at b 0 in
      by_cases (dec_lt k at)
      (λ l. elim (ℕ_discrete k 3) [
        | yes e ↦ rw e (omega (arith, spelled_count b w.framed))
        | no e ↦ omega (arith, spelled_before b w.framed k l e, small k)
      ])
      (λ l. let e : at + (k - at) ≡ k = omega arith in
      let late = ap (byte_at (spelled_grammar b)) (sym e) ∙ spelled_late b w.framed (k - at) in
      by_cases (dec_lt (k - at) (length (joined declaration_numbers ls)))
      (λ n. omega (arith, late, all_at (λ n. n < m) (joined declaration_numbers ls) (k - at) 0 numbers n))
      (λ n. omega (arith, late, get_or-eq_default (joined declaration_numbers ls) 0 {n = k - at} (omega arith))))

  -- It is well-formed.
  pub spelled_formed : WellFormed (spelled_grammar b)
  unfolding declaration_of
  spelled_formed =
      front_formed b (spelled_grammar b) (spelled_front b w.framed) w (spelled_length b w.framed) (spelled_each (Proper (productions b)) (spelled_out_proper b w))

  -- It declares the same pairs.
  pub spelled_pairs : (k : Kind) (x y : ℕ) → declared (spelled_grammar b) k x y ≡ declared b k x y
  spelled_pairs k x y = ap (λ (ls : List Declaration). declared_in ls k x y) spelled_declarations ∙ spelled_declared (declarations_of b) k x y

  -- It has the same conflicts.
  pub spelled_conflict : (p i q : ℕ) → p < productions b → i < argument_count b p → q < productions b → Conflict (spelled_grammar b) p i q ↔ Conflict b p i q
  spelled_conflict p i q lp li lq =
      let c = spelled_grammar b in
      let same = spelled_front b w.framed in
      let there = same_productions b c same in (
        (λ h. front_conflict c b (front_back b c same) p i q (omega arith) (omega (arith, same_count b c same p lp)) (omega arith)
            (conflict_carried (declarations_of c) (declarations_of b) spelled_pairs h)),
        (λ h. conflict_carried (declarations_of b) (declarations_of c) (λ k x y. sym (spelled_pairs k x y)) (front_conflict b c same p i q lp li lq h)),
      )

-- It is accepted if the grammar is.
pub spelled_accepted : (b : List ℕ) → checked b ≡ accepted → checked (spelled_grammar b) ≡ accepted
spelled_accepted b e =
    let w = accepted_formed b e in
    let c = spelled_grammar b in
    formed_accepted c (spelled_formed b w)
    (λ p l h. let circle = (higher_alike (declarations_of c) (declarations_of b) (spelled_pairs b w) p p).0 h in
    accepted_free b e 7 9 p (refusal9 (record { there = omega (arith, same_productions b c (spelled_front b w.framed)); circle = circle })))
