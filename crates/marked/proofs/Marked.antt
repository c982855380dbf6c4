-- The marked cases hold: the prover computes their tests.
use Prim.Native.Nat.{ℕ}
use mathlib.Core.Bool.{true}
use mathlib.Core.List.{List, [], ◌∷◌}
use mathlib.Core.Path.{◌≡◌, refl}
use Rattle.charset.specs.Set.{in_range, spans, same_set}
use Rattle.chart.specs.Layout.{span_count}
use Rattle.classes.specs.Classes.{is_class, class_has, same_class, same_argument}
use Rattle.common.specs.Below.{sum_below, all_below, any_below}
use Rattle.common.specs.Lists.{All, tabulate}
use Rattle.engine.specs.Refusals.{too_long, chart_too_short}
use Rattle.flatten.specs.Flat.{may_stand_in}
use Rattle.grammar.specs.Check.{short_header, header_bytes, bad_header, short_contents, bad_argument_count, bad_range_count, bad_length, names_argument, bad_argument, bad_production, is_group, declaration_bytes, bad_declaration, same_production, repeated_production}
use Rattle.refusal.specs.Verdict.{first_refusal}
use Rattle.layout.specs.Layout.{argument_count, range_count, production_at, result_sort, argument, class_at, low, high, declaration_at, kind, first, second, needed_length}
use Rattle.marked.proofs.CaseLaws.{table_true}
use Rattle.marked.proofs.CaseTests.{same, all_bytes, occurrences, grammar_of, derives, parses, Spans, chart_of, empty_test, step_test, parse_sum, accepts, refuses, tests, every, Shown, case_test, table_test}
use Rattle.marked.proofs.PromisedLaws.{all_promised}
use Rattle.marked.specs.Cases.{Statement, Promised, case_a, case_b, case_c, case_d, case_e, case_f, case_g, case_h, case_i, case_j, case_k, table}
use Rattle.parse.specs.Outcome.{needed, refusal}
use Rattle.priority.specs.Chain.{through}
use Rattle.priority.specs.Check.{circle, checked}
use Rattle.priority.specs.Conflict.{is_sort, fits, is_first, is_last, right_or_nonassoc, left_or_nonassoc, barred, conflicts_in}
use Rattle.priority.specs.Priorities.{kind_number, said_kind, either_way, names_pair, covers, declared_in, declaration_of, declarations_of, is_higher_in}
use Rattle.tables.specs.Layout.{row_count}
use Rattle.theory.specs.Steps.{char_entry, argument_sum, split_sum}
use Rattle.theory.specs.Tree.{Tree, leaf, node, none, ◌▷◌, yield, listing}

-- ---- trees of T

abbrev eight : Tree
eight = node 0 (none ▷ leaf 56)

abbrev four : Tree
four = node 0 (none ▷ leaf 52)

abbrev two : Tree
two = node 0 (none ▷ leaf 50)

abbrev product : Tree → Tree → Tree
product t u = node 1 (none ▷ t ▷ leaf 42 ▷ u)

abbrev quotient : Tree → Tree → Tree
quotient t u = node 2 (none ▷ t ▷ leaf 47 ▷ u)

-- ---- charts of T: a line to a production, for none of its arguments, one, and so on; the span from i to j is written ij

-- no arguments, in a text of five characters
abbrev empties : List ℕ
empties = 00 ∷ 11 ∷ 22 ∷ 33 ∷ 44 ∷ 55 ∷ []

-- its three digits
abbrev digits : List ℕ
digits = 01 ∷ 23 ∷ 45 ∷ []

abbrev chart_a : Spans
chart_a =
    (empties ∷ digits ∷ [])
    ∷ (empties ∷ (01 ∷ 03 ∷ 05 ∷ 23 ∷ 25 ∷ 45 ∷ []) ∷ (04 ∷ 24 ∷ []) ∷ (05 ∷ 25 ∷ []) ∷ [])
    ∷ (empties ∷ (01 ∷ 03 ∷ 05 ∷ 23 ∷ 25 ∷ 45 ∷ []) ∷ (02 ∷ []) ∷ (03 ∷ []) ∷ [])
    ∷ []

abbrev chart_b : Spans
chart_b =
    ((00 ∷ []) ∷ [])
    ∷ ((00 ∷ []) ∷ [])
    ∷ ((00 ∷ []) ∷ [])
    ∷ []

abbrev chart_c : Spans
chart_c =
    ((00 ∷ 11 ∷ []) ∷ (01 ∷ []) ∷ [])
    ∷ ((00 ∷ 11 ∷ []) ∷ (01 ∷ []) ∷ [])
    ∷ ((00 ∷ 11 ∷ []) ∷ (01 ∷ []) ∷ [])
    ∷ []

abbrev chart_e : Spans
chart_e =
    (empties ∷ digits ∷ [])
    ∷ (empties ∷ digits ∷ [])
    ∷ (empties ∷ digits ∷ (02 ∷ 24 ∷ []) ∷ (03 ∷ 25 ∷ []) ∷ [])
    ∷ []

abbrev chart_f : Spans
chart_f =
    (empties ∷ digits ∷ [])
    ∷ (empties ∷ digits ∷ [])
    ∷ (empties ∷ digits ∷ (02 ∷ 24 ∷ []) ∷ (03 ∷ 05 ∷ 25 ∷ []) ∷ [])
    ∷ []

abbrev chart_g : Spans
chart_g =
    (empties ∷ digits ∷ [])
    ∷ (empties ∷ (01 ∷ 23 ∷ 25 ∷ 45 ∷ []) ∷ (24 ∷ []) ∷ (25 ∷ []) ∷ [])
    ∷ (empties ∷ (01 ∷ 03 ∷ 05 ∷ 23 ∷ 25 ∷ 45 ∷ []) ∷ (02 ∷ []) ∷ (03 ∷ 05 ∷ []) ∷ [])
    ∷ []

-- ---- the table

abbrev shown : List Shown
shown =
    (case_a, (product (quotient eight four) two, chart_a))
    ∷ (case_b, chart_b)
    ∷ (case_c, (eight, chart_c))
    ∷ (case_d, (product (quotient eight four) two, quotient eight (product four two)))
    ∷ (case_e, chart_e)
    ∷ (case_f, (quotient eight (quotient four two), chart_f))
    ∷ (case_g, (quotient eight (product four two), chart_g))
    ∷ (case_h, tt)
    ∷ (case_i, (node 0 none, ((00 ∷ []) ∷ []) ∷ []))
    ∷ (case_j, (eight, node 1 (none ▷ eight)))
    ∷ (case_k, tt)
    ∷ []

tested : table_test shown ≡ true
unfolding table_test case_test tests every same all_bytes occurrences grammar_of derives parses chart_of empty_test step_test parse_sum accepts refuses split_sum argument_sum char_entry listing yield sum_below all_below any_below tabulate refusal too_long chart_too_short needed row_count span_count checked circle is_higher_in through declared_in declarations_of declaration_of covers kind_number said_kind either_way names_pair is_sort fits is_first is_last right_or_nonassoc left_or_nonassoc barred conflicts_in may_stand_in is_class class_has spans in_range argument_count range_count production_at result_sort argument class_at low high declaration_at kind first second needed_length short_header header_bytes bad_header short_contents bad_argument_count bad_range_count bad_length names_argument bad_argument bad_production is_group declaration_bytes bad_declaration same_argument same_class same_set same_production repeated_production first_refusal
tested = refl

pub marked_cases : All Statement table
marked_cases = table_true shown tested

-- so any outcome of reading each of them is the one marked
pub marked_outcomes : All Promised table
marked_outcomes = all_promised table marked_cases
