-- `count_uses` meets its contract: what was counted, with what is still to come, is all.
use Prim.Native.Nat.{ℕ, ◌+◌, ◌-◌, ◌≤◌, ◌<◌}
use mathlib.Core.Bool.{false, true, ◌&&◌, false≢true}
use mathlib.Core.List.{List}
use mathlib.Core.Path.{◌≡◌, sym, ◌∙◌, ap}
use native.Mathlib.Decide.{ℕ_discrete}
use native.Mathlib.Omega.{arith}
use lib.Dec.{leb, ltb}
use lib.ListN.{length, get_or, set, replicate, length-replicate, length-set}
use lib.Seq.{get_or-set_same, get_or-set_other}
use borrow.Author.Tests.{eq-eqb, ne_eqb, ltb-true, leb-true, le-leb, lt-ltb}
use Rattle.common.proofs.BoolLaws.{and_both, and_first_true, and_second_true}
use Rattle.common.proofs.ListLaws.{get_d_all}
use Rattle.common.specs.Below.{bit_of}
use Rattle.compare.proofs.UsesLaws.{occurrences_few, occurrences_next, occurrences_end}
use Rattle.compare.specs.Uses.{uses}
use Rattle.layout.specs.Limits.{production_limit}
use Rattle.numbers.proofs.NumbersLaws.{numbers_length}
use Rattle.numbers.specs.Numbers.{numbers_of}
use Rattle.order.specs.Order.{counted}
use Rattle.theory.specs.Tree.{production_number}
use Rattle.compare.proofs.count_uses.Invariants.{Counting}
use Rattle.compare.proofs.count_uses.Goals as goal
use Rattle.compare.proofs.count_uses.Goals.{then-counted, else-counted}

counting_none : (numbers : List ℕ) → Counting numbers 0 (replicate {A = ℕ} production_limit 0)
unfolding Counting
counting_none numbers = (length-replicate {A = ℕ} production_limit 0, λ p l. omega (arith, get_d_all {A = ℕ} production_limit 0 p))

module _ (numbers : List ℕ) (k : ℕ) (there : k < length numbers) (counts : List ℕ) (so_far : Counting numbers k counts) where
  number : ℕ
  number = get_or numbers k 0

  -- a number that is no production's
  counting_other : ((p : ℕ) → p < production_limit → number ≡ production_number p → ⊥) → Counting numbers (k + 1) counts
  unfolding Counting number
  counting_other other = (
    so_far.0,
    λ p l.
        let none = ap bit_of (ne_eqb number (production_number p) (other p l)) in
        omega (arith, so_far.1 p l, occurrences_next (production_number p) numbers k there, none),
  )

  -- and the number of production q
  counting_own : (q : ℕ) → q < production_limit → number ≡ production_number q → Counting numbers (k + 1) (set counts q (counted counts q + 1))
  unfolding Counting number
  counting_own q h e = (
    length-set counts q (counted counts q + 1) ∙ so_far.0,
    λ p l.
        elim (ℕ_discrete p q) [
          | yes f ↦
              let one = ap bit_of (eq-eqb number (production_number p) (e ∙ ap production_number (sym f))) in
              let here = ap (λ (r : ℕ). counted (set counts q (counted counts q + 1)) r) f ∙ get_or-set_same counts q (counted counts q + 1) 0 (omega (arith, so_far.0)) in
              omega (arith, so_far.1 p l, occurrences_next (production_number p) numbers k there, one, here, ap (counted counts) f)
          | no f ↦
              let none = ap bit_of (ne_eqb number (production_number p) (λ g. f (omega arith))) in
              omega (arith, so_far.1 p l, occurrences_next (production_number p) numbers k there, none, get_or-set_other counts q p (counted counts q + 1) 0 f)
        ],
  )

-- the test of a turn: the number is a production's
in_range : (n : ℕ) → (leb (production_number 0) n && ltb n (production_number production_limit)) ≡ true → (production_number 0 ≤ n) × (n < production_number production_limit)
in_range n h =
    let low = leb (production_number 0) n in
    let high = ltb n (production_number production_limit) in
    (leb-true (production_number 0) n (and_first_true low high h), ltb-true n (production_number production_limit) (and_second_true low high h))

out_of_range : (n : ℕ) → (leb (production_number 0) n && ltb n (production_number production_limit)) ≡ false
    → (p : ℕ) → p < production_limit → n ≡ production_number p → ⊥
out_of_range n h p l f =
    let low = leb (production_number 0) n in
    let high = ltb n (production_number production_limit) in
    false≢true (sym h ∙ and_both low high (le-leb (production_number 0) n (omega arith)) (lt-ltb n (production_number production_limit) (omega arith)))

pub loop-k-init : goal.loop-k-init
loop-k-init c = counting_none _

pub number_at-n-requires : goal.number_at-n-requires
number_at-n-requires c = omega (arith, numbers_length c.args.listing.now)

pub overflow_sub-counts : goal.overflow_sub-counts
overflow_sub-counts c = omega (arith, in_range c.number_at-n.result c.if-counted.true)

pub offset_bounds-counts-n : goal.offset_bounds-counts-n
offset_bounds-counts-n c = omega (arith, in_range c.number_at-n.result c.if-counted.true)

pub bounds-counts-n : goal.bounds-counts-n
bounds-counts-n c = omega (arith, in_range c.number_at-n.result c.if-counted.true)

pub overflow_add-counts : goal.overflow_add-counts
unfolding Counting
overflow_add-counts c =
    let turn = c in
    let numbers = numbers_of turn.args.listing.now in
    let p = c.number_at-n.result - production_number 0 in
    let there = in_range c.number_at-n.result c.if-counted.true in
    omega (arith, turn.loop-k.invariant.1 p (omega arith), occurrences_few (production_number p) numbers, numbers_length turn.args.listing.now)

pub bounds-counts-n-then-counted : goal.bounds-counts-n-then-counted
bounds-counts-n-then-counted c = omega (arith, in_range c.number_at-n.result c.if-counted.true)

pub loop-k-preserved : goal.loop-k-preserved
unfolding number
loop-k-preserved c =
    let turn = c in
    let l = turn.args.listing.now in
    let n = c.number_at-n.result in
    let there : turn.loop-k.k < length (numbers_of l) = omega (arith, numbers_length l) in
    elim c.if-counted.branch [
      | then-counted w ↦
          let there-in = in_range n w.if-counted.true in
          rw w.counts-is (counting_own (numbers_of l) turn.loop-k.k there turn.loop-k.counts turn.loop-k.invariant (n - production_number 0) (omega arith) (omega (arith, c.number_at-n.ensures)))
      | else-counted w ↦
          rw w.counts-is (counting_other (numbers_of l) turn.loop-k.k there turn.loop-k.counts turn.loop-k.invariant
          (λ p h e. out_of_range n w.if-counted.false p h (c.number_at-n.ensures ∙ e)))
    ]

pub returns : goal.returns
unfolding Counting uses
returns c p h =
    let l = c.args.listing.now in
    omega (arith, c.loop-k.invariant.1 p h, occurrences_end (production_number p) (numbers_of l) c.loop-k.k (omega (arith, numbers_length l)))
