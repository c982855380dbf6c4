-- `declared_pairs` meets its contract: the table holds the pairs of the declarations passed.
use Prim.Native.Nat.{ℕ, ◌+◌, ◌≤◌, ◌<◌}
use mathlib.Core.Bool.{Bool, false, true, not, ◌&&◌, ◌||◌, or-false}
use mathlib.Core.List.{List, []}
use mathlib.Core.Path.{◌≡◌, refl, sym, ◌∙◌, ap, ap₂}
use native.Mathlib.Omega.{arith}
use lib.Dec.{eqb}
use lib.ListN.{get_or, set}
use Rattle.common.specs.Below.{between}
use Rattle.common.specs.Lists.{tabulate}
use Rattle.grammar.specs.Check.{is_group}
use Rattle.grammar.specs.Formed.{WellFormed}
use Rattle.layout.proofs.FramedLaws.{bodies_in}
use Rattle.layout.specs.Layout.{declarations}
use Rattle.layout.specs.Limits.{production_limit}
use Rattle.priority.proofs.CoverLaws.{declared_none, pairs_more}
use Rattle.priority.proofs.TableLaws.{square_put}
use Rattle.priority.specs.Chain.{entry, Square}
use Rattle.priority.specs.Priorities.{higher, kind_number, said_kind, declared_in, declaration_of, declarations_of}
use Rattle.priority.specs.declared.Declaration.{Declaration}
use Rattle.priority.proofs.declared_pairs.Invariants.{Taken}
use Rattle.priority.proofs.declared_pairs.Goals as goal
use Rattle.priority.proofs.declared_pairs.Goals.{then-written-is_group, else-written-is_group}

-- a group of the grammar rises
rise : (b : List ℕ) → WellFormed b → (d : ℕ) → d < declarations b → (l : Declaration) → l ≡ declaration_of b d → is_group l.kind ≡ true → l.first ≤ l.second
unfolding declaration_of
rise b w d h l own g = rw own (w.groups_rise d h (rw own at g))

-- the square of a group, taken up or not
module _ (t wider : List (List Bool)) (first second : ℕ) (on : Bool) (x y : ℕ) where
  group_on : on ≡ true → entry wider x y ≡ (entry t x y || between first second x && between first second y)
      → entry wider x y ≡ (entry t x y || on && (between first second x && between first second y))
  group_on e h = rw e h

  group_off : on ≡ false → entry t x y ≡ (entry t x y || on && (between first second x && between first second y))
  group_off e = rw e (sym (or-false (entry t x y)))

pub declaration_count-d-end-requires : goal.declaration_count-d-end-requires
declaration_count-d-end-requires c = c.requires.framed.header

pub declaration_at-start-requires : goal.declaration_at-start-requires
declaration_at-start-requires c = let start = c in
    record { book_in_bounds = bodies_in start.args.book.now start.requires.framed; d_bound = omega arith }

pub loop-d-init : goal.loop-d-init
unfolding tabulate
loop-d-init c =
    let no_pairs = c.no_pairs-table in
    record {
      square = no_pairs.ensures.square;
      pairs = λ k k' e e' x y. no_pairs.ensures.by_index x y ∙ sym (ap₂ ◌||◌ (declared_none k x y) (declared_none k' x y));
    }

pub read_declaration-own-requires : goal.read_declaration-own-requires
read_declaration-own-requires c = record { well_formed = c.requires; d_bound = (omega (arith, c.declaration_count-d-end.ensures), c.declaration_at-start.ensures) }

pub offset_bounds-table-first : goal.offset_bounds-table-first
offset_bounds-table-first c = omega (arith, c.read_declaration-own.ensures.first_lt_production_limit)

pub offset_bounds-table-second : goal.offset_bounds-table-second
offset_bounds-table-second c = omega (arith, c.read_declaration-own.ensures.first_lt_production_limit)

pub with_group-table-requires : goal.with_group-table-requires
with_group-table-requires c =
    let l = c.read_declaration-own.result in
    let (sf, ss) = c.read_declaration-own.ensures.first_lt_production_limit in
    (ss, square_put production_limit _ l.second l.first _ (square_put production_limit c.loop-d.table l.first l.second _ c.loop-d.invariant.square sf ss) ss sf)

pub loop-d-preserved : goal.loop-d-preserved
unfolding entry kind_number
loop-d-preserved c =
    let said = c.said_kind-said in
    let b = c.args.book.now in
    let d = c.loop-d.d in
    let t = c.loop-d.table in
    let h : d < declarations b = omega (arith, c.declaration_count-d-end.ensures) in
    let l = c.read_declaration-own.result in
    let own = c.read_declaration-own.ensures.value in
    let (sf, ss) = c.read_declaration-own.ensures.first_lt_production_limit in
    let written = eqb said.result c.args.kind || eqb said.result c.args.also in
    let turned = written && not (eqb said.result 1) in
    let v = get_or (get_or t l.first []) l.second false || written in
    let t₁ = set t l.first (set (get_or t l.first []) l.second v) in
    let w = get_or (get_or t₁ l.second []) l.first false || turned in
    let t₂ = set t₁ l.second (set (get_or t₁ l.second []) l.first w) in
    let on : (written && c.is_group.result) ≡ (written && is_group l.kind) = rw c.is_group.ensures refl in
    let ew : written ≡ (eqb (said_kind l.kind) c.args.kind || eqb (said_kind l.kind) c.args.also) = rw said.ensures refl in
    let et : turned ≡ (written && not (eqb (said_kind l.kind) (kind_number higher))) = ap (λ (n : ℕ). written && not (eqb n 1)) said.ensures in
    let rises : is_group l.kind ≡ true → l.first ≤ l.second = rise b c.requires d h l own in
    let square = square_put production_limit t₁ l.second l.first w (square_put production_limit t l.first l.second v c.loop-d.invariant.square sf ss) ss sf in
    let next : (wider : List (List Bool)) → Square production_limit wider
    → ((x y : ℕ) → entry wider x y ≡ (entry t₂ x y || (written && is_group l.kind) && (between l.first l.second x && between l.first l.second y)))
    → Taken b c.args.kind c.args.also (d + 1) wider =
    λ wider q e. record {
      square = q;
      pairs = λ k k' i i'. pairs_more production_limit d (declaration_of b) l own t c.loop-d.invariant.square sf ss rises k k' (c.loop-d.invariant.pairs k k' i i') written turned v w
          (ew ∙ ap₂ (λ (m n : ℕ). eqb (said_kind l.kind) m || eqb (said_kind l.kind) n) i i') et refl refl wider e;
    } in
    elim c.if-written-is_group.branch [
      | then-written-is_group u ↦ rw u.table-is (next u.with_group-table.result u.with_group-table.ensures.square (λ x y. group_on t₂ u.with_group-table.result l.first l.second (written && is_group l.kind) x y (sym on ∙ u.if-written-is_group.true) (u.with_group-table.ensures.with_group x y)))
      | else-written-is_group u ↦ rw u.table-is (next t₂ square (λ x y. group_off t₂ t₂ l.first l.second (written && is_group l.kind) x y (sym on ∙ u.if-written-is_group.false)))
    ]

pub returns : goal.returns
unfolding declarations_of
returns c k k' e e' x y =
    let b = c.args.book.now in
    let all : c.loop-d.d ≡ declarations b = omega (arith, c.declaration_count-d-end.ensures) in
    c.loop-d.invariant.pairs k k' e e' x y ∙ ap (λ (n : ℕ). declared_in (tabulate n (declaration_of b)) k x y || declared_in (tabulate n (declaration_of b)) k' x y) all
