-- `read_declaration` meets its contract.
use Prim.Native.Nat.{ℕ, ◌+◌, ◌*◌, ◌≤◌, ◌<◌}
use mathlib.Core.List.{List}
use mathlib.Core.Path.{◌≡◌, refl, sym, ◌∙◌, ap}
use native.Mathlib.Omega.{arith}
use lib.ListN.{length}
use Rattle.grammar.specs.Formed.{WellFormed}
use Rattle.layout.proofs.FramedLaws.{declaration_in}
use Rattle.layout.proofs.LayoutLaws.{declaration_from}
use Rattle.layout.specs.Layout.{declarations, declaration_at}
use Rattle.layout.specs.Limits.{declaration_length}
use Rattle.priority.proofs.PriorityLaws.{kind_is, first_is, second_is}
use Rattle.priority.specs.Priorities.{declaration_of}
use Rattle.priority.proofs.read_declaration.Goals as goal

-- where it stands, and that all of it is there
place : (b : List ℕ) → WellFormed b → (start d : ℕ) → (d < declarations b) × (start ≡ declaration_at b 0)
    → (start + declaration_length * d ≡ declaration_at b d) × (start + declaration_length * d + declaration_length ≤ length b)
place b w start d (l, e) =
    let here : start + declaration_length * d ≡ declaration_at b d = ap (λ (s : ℕ). s + declaration_length * d) e ∙ sym (declaration_from b d) in
    (here, omega (arith, here, declaration_in b w.framed d l))

pub overflow_mul-at : goal.overflow_mul-at
overflow_mul-at c = let start = c in omega (arith, (place start.args.book.now start.requires.well_formed start.args.start start.args.d start.requires.d_bound).1)

pub overflow_add-at : goal.overflow_add-at
overflow_add-at c = let start = c in omega (arith, (place start.args.book.now start.requires.well_formed start.args.start start.args.d start.requires.d_bound).1)

pub byte_at-requires : goal.byte_at-requires
byte_at-requires c = let start = c in omega (arith, (place start.args.book.now start.requires.well_formed start.args.start start.args.d start.requires.d_bound).1)

pub overflow_add-at-2 : goal.overflow_add-at-2
overflow_add-at-2 c = let start = c in omega (arith, (place start.args.book.now start.requires.well_formed start.args.start start.args.d start.requires.d_bound).1)

pub byte_at-requires-2 : goal.byte_at-requires-2
byte_at-requires-2 c = let start = c in omega (arith, (place start.args.book.now start.requires.well_formed start.args.start start.args.d start.requires.d_bound).1)

pub overflow_add-at-3 : goal.overflow_add-at-3
overflow_add-at-3 c = let start = c in omega (arith, (place start.args.book.now start.requires.well_formed start.args.start start.args.d start.requires.d_bound).1)

pub byte_at-requires-3 : goal.byte_at-requires-3
byte_at-requires-3 c = let start = c in omega (arith, (place start.args.book.now start.requires.well_formed start.args.start start.args.d start.requires.d_bound).1)

pub returns : goal.returns
unfolding declaration_of
returns c = let start = c in
    let b = start.args.book.now in
    let d = start.args.d in
    let w = start.requires.well_formed in
    let h = start.requires.d_bound.0 in
    let here = (place b w start.args.start d start.requires.d_bound).0 in
    let k = kind_is b d (start.args.start + declaration_length * d) c.byte_at.result here c.byte_at.ensures in
    let f = first_is b d (start.args.start + declaration_length * d) c.byte_at-2.result here c.byte_at-2.ensures in
    let s = second_is b d (start.args.start + declaration_length * d) c.byte_at-3.result here c.byte_at-3.ensures in
    record { value = rw (k, f, s) refl; first_lt_production_limit = (omega (arith, w.first_there d h, w.framed.few_productions), omega (arith, w.second_there d h, w.framed.few_productions)) }
