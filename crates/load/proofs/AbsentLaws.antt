-- Numbers of lines that are not there, in tables.
use Prim.Native.Nat.{ℕ, ◌+◌, ◌-◌, ◌*◌, ◌<◌}
use mathlib.Core.Bool.{false, true}
use mathlib.Core.List.{List}
use mathlib.Core.Path.{◌≡◌, refl, ◌∙◌, ap}
use native.Mathlib.Omega.{arith}
use lib.ListN.{length, get_or}
use Rattle.ccg.proofs.TablesLaws.{table_of_production}
use Rattle.ccg.specs.Ccg.{Class, Line, no_line, no_class}
use Rattle.ccg.specs.Tables.{table_class, table_line, table_grammar}
use Rattle.common.proofs.ListLaws.{length_tabulate, get_d_tabulate}
use Rattle.refusal.proofs.VerdictLaws.{refuse_case, first_of}
use Rattle.std.specs.Prelude.{Err}
use Rattle.refusal.specs.Verdict.{accepted, refused}
use Rattle.refusal.specs.declared.Fault.TheVariants.{NoLine}
use Rattle.refusal.specs.declared.Refusal.{Refusal}
use Rattle.layout.specs.Limits.{production_limit, argument_limit}
use Rattle.load.specs.Absent.{absent_at, absent_in, absent_in_argument, absent_in_line, absent_in_line_at, absent_names}
use Rattle.tables.specs.Layout.{slot, counts_of, arity_in, takes_production}
use Rattle.theory.specs.Tree.{production_number}

-- ---- a class

module _ (t : List ℕ) (s count k : ℕ) (there : count + k < production_limit) where
  has_production : table_class t s (production_number (count + k)) ≡ takes_production t s (count + k)
  has_production =
      let e : production_number (count + k) - production_number 0 ≡ count + k = omega arith in
      table_of_production t s (production_number (count + k)) (omega arith) (omega arith) ∙ ap (takes_production t s) e

  pub absent_found : takes_production t s (count + k) ≡ true → absent_at count (table_class t s) k ≡ refused NoLine (production_number (count + k))
  unfolding absent_at
  absent_found e = rw (has_production, e) refl

  pub absent_passed : takes_production t s (count + k) ≡ false → absent_at count (table_class t s) k ≡ accepted
  unfolding absent_at
  absent_passed e = rw (has_production, e) refl

-- ---- lines

-- argument i of line p is the class of its slot
pub argument_slot : (t : List ℕ) (count p i : ℕ) → i < arity_in (counts_of t) p → absent_in_argument count (table_line t p) i ≡ absent_in count (table_class t (p * argument_limit + i))
unfolding absent_in_argument table_line slot
argument_slot t count p i l = ap (absent_in count) (get_d_tabulate (arity_in (counts_of t) p) (λ j. table_class t (slot p j)) i no_class l)

-- a line has as many as the counts say
pub line_arguments : (t : List ℕ) (p : ℕ) → length (table_line t p).arguments ≡ arity_in (counts_of t) p
unfolding table_line
line_arguments t p = length_tabulate (arity_in (counts_of t) p) (λ j. table_class t (slot p j))

-- line p of the grammar
pub line_at : (t : List ℕ) (p : ℕ) → p < length (counts_of t) → absent_in_line_at (table_grammar t) p ≡ absent_in_line (length (counts_of t)) (table_line t p)
unfolding absent_in_line_at table_grammar
line_at t p l =
    let count = length (counts_of t) in
    rw (length_tabulate count (table_line t), get_d_tabulate count (table_line t) p no_line l) refl

-- ---- the number of the refusal

pub class_number : (count : ℕ) (cc : Class) (r : Refusal) → absent_in count cc ≡ Err r → r.fault ≡ NoLine
unfolding absent_in absent_at
class_number count cc r e =
    let first = first_of (absent_at count cc) (production_limit - count) e in
    refuse_case (λ x. x.fault ≡ NoLine) (cc (production_number (count + first.index))) NoLine (production_number (count + first.index)) first.refused (λ t. refl)

line_number : (count : ℕ) (l : Line) (r : Refusal) → absent_in_line count l ≡ Err r → r.fault ≡ NoLine
unfolding absent_in_line absent_in_argument
line_number count l r e =
    let first = first_of (absent_in_argument count l) (length l.arguments) e in
    class_number count (get_or l.arguments first.index no_class) r first.refused

pub names_number : (g : List Line) (r : Refusal) → absent_names g ≡ Err r → r.fault ≡ NoLine
unfolding absent_names absent_in_line_at
names_number g r e =
    let first = first_of (absent_in_line_at g) (length g) e in
    line_number (length g) (get_or g first.index no_line) r first.refused
