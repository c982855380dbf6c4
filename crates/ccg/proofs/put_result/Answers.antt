-- `put_result` meets its contract.
use Prim.Native.Nat.{ℕ, ◌+◌, ◌<◌}
use mathlib.Core.Path.{◌≡◌, sym, ◌∙◌, ap}
use mathlib.Core.List.{List, [], ◌∷◌, ◌++◌, append_assoc}
use native.Mathlib.Omega.{arith}
use lib.ListN.{length, length-append}
use Rattle.ccg.proofs.TextLaws.{one_text}
use Rattle.ccg.specs.Text.{result_text, dash, greater, bracket_open, backslash, bracket_close, number_limit}
use Rattle.theory.specs.Tree.{production_number}
use Rattle.writing.proofs.PutLaws.{put_append, put_same}
use Rattle.writing.specs.Bytes.{line_feed, space}
use Rattle.writing.specs.Numeral.{numeral}
use Rattle.ccg.proofs.put_result.Goals as goal

result_is : (n : ℕ) → n < number_limit → result_text n ≡ dash ∷ greater ∷ space ∷ bracket_open ∷ ((backslash ∷ numeral n) ++ (bracket_close ∷ line_feed ∷ []))
unfolding result_text
result_is n l =
    ap (λ (t : List ℕ). dash ∷ greater ∷ space ∷ t ++ (line_feed ∷ [])) (one_text n l) ∙ ap (λ (t : List ℕ). dash ∷ greater ∷ space ∷ bracket_open ∷ backslash ∷ t) (append_assoc (numeral n) (bracket_close ∷ []) (line_feed ∷ []))

result_long : (n : ℕ) → n < number_limit → length (result_text n) ≡ 4 + (length (backslash ∷ numeral n) + 2)
result_long n l = ap (length {A = ℕ}) (result_is n l) ∙ simp length-append (omega arith)

pub put-dash-requires : goal.put-dash-requires
put-dash-requires c = omega (arith, c.requires.p_bound, result_long (production_number c.args.p) (omega arith))

pub put-arrow-requires : goal.put-arrow-requires
put-arrow-requires c = omega (arith, c.requires.p_bound, c.put-dash.ensures.next, result_long (production_number c.args.p) (omega arith))

pub put-space-requires : goal.put-space-requires
put-space-requires c = omega (arith, c.requires.p_bound, c.put-dash.ensures.next, c.put-arrow.ensures.next, result_long (production_number c.args.p) (omega arith))

pub put-open-requires : goal.put-open-requires
put-open-requires c = omega (arith, c.requires.p_bound, c.put-dash.ensures.next, c.put-arrow.ensures.next, c.put-space.ensures.next, result_long (production_number c.args.p) (omega arith))

pub put_number-number-requires : goal.put_number-number-requires
put_number-number-requires c = omega (arith, result_long (production_number c.args.p) (omega arith))

pub put-close-requires : goal.put-close-requires
put-close-requires c = omega (arith, c.requires.p_bound, c.put-dash.ensures.next, c.put-arrow.ensures.next, c.put-space.ensures.next, c.put-open.ensures.next, c.put_number-number.ensures.next, result_long (production_number c.args.p) (omega arith))

pub put-requires : goal.put-requires
put-requires c = omega (arith, c.requires.p_bound, c.put-dash.ensures.next, c.put-arrow.ensures.next, c.put-space.ensures.next, c.put-open.ensures.next, c.put_number-number.ensures.next, c.put-close.ensures.next, result_long (production_number c.args.p) (omega arith))

pub returns : goal.returns
returns c =
    put_same _ _ _ _ _ _ (sym (result_is (production_number c.args.p) (omega arith)))
    (put_append _ _ _ _ _ _ _ _ c.put-dash.ensures (put_append _ _ _ _ _ _ _ _ c.put-arrow.ensures (put_append _ _ _ _ _ _ _ _ c.put-space.ensures (put_append _ _ _ _ _ _ _ _ c.put-open.ensures
    (put_append _ _ _ _ _ _ _ _ c.put_number-number.ensures (put_append _ _ _ _ _ _ _ _ c.put-close.ensures c.put.ensures))))))
