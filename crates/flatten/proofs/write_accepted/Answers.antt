-- `write_accepted` meets its contract: the length first, and then, if it fits, the text.
use Prim.Native.Nat.{ℕ, ◌≤◌, ◌<◌}
use mathlib.Core.Path.{◌≡◌, ◌∙◌, ap, subst}
use mathlib.Core.List.{List, [], ◌++◌}
use native.Mathlib.Omega.{arith}
use native.Mathlib.Nat.{zero-add}
use lib.ListN.{length, get_or}
use borrow.Author.Tests.{le-leb, lt-leb}
use Rattle.flatten.proofs.TableTextLaws.{table_grammar_lem}
use Rattle.flatten.specs.Flat.{flat_grammar}
use Rattle.ccg.specs.Text.{grammar_text}
use Rattle.writing.specs.Answer.{fitted}
use Rattle.std.specs.Prelude.{Ok}
use Rattle.refusal.specs.Verdict.{refused}
use Rattle.refusal.specs.declared.Fault.TheVariants.{LongFlat}
use Rattle.charset.specs.Set.{characters}
use Rattle.writing.proofs.PutLaws.{put_same, put_nowhere, put_start}
use Rattle.writing.specs.Put.{Put}
use Rattle.flatten.proofs.write_accepted.Goals as goal

abbrev text_of : List ℕ → List ℕ
text_of b = grammar_text (flat_grammar b)

-- the first pass, over an empty part, changes nothing
unchanged : (v l l₀ : List ℕ) (j : ℕ) → Put v [] 0 l j → l ++ l₀ ≡ l₀
unchanged v l l₀ j p = ap (λ (k : List ℕ). k ++ l₀) (put_nowhere v l 0 j p)

pub returns-then-out-needed : goal.returns-then-out-needed
unfolding fitted
returns-then-out-needed c = let start = c in
    let b = start.args.book.now in
    let out = start.args.out.now in
    let bytes : (k : ℕ) → get_or b k 0 < characters = λ k. omega (arith, c.type_inv.book k) in
    let text = ap grammar_text (table_grammar_lem b _ start.requires bytes c.flatten.ensures) in
    let first = c.put_grammar-needed in
    let same = unchanged _ _ out _ first.ensures in
    let needed : first.result ≡ length (text_of b) = first.ensures.next ∙ zero-add _ ∙ ap length text in
    let long : length out < length (text_of b) = omega (arith, c.if-out-needed.true, ap (length {A = ℕ}) same) in
    let longer = lt-leb (length (text_of b)) (length out) long in
    record { value = rw (longer, c.at.ensures) (ap (λ (n : ℕ). refused LongFlat n) needed); out_after = rw longer same }

pub returns : goal.returns
unfolding fitted
returns c = let start = c in
    let b = start.args.book.now in
    let out = start.args.out.now in
    let bytes : (k : ℕ) → get_or b k 0 < characters = λ k. omega (arith, c.type_inv.book k) in
    let text = ap grammar_text (table_grammar_lem b _ start.requires bytes c.flatten.ensures) in
    let first = c.put_grammar-needed in
    let second = c.put_grammar in
    let same = unchanged _ _ out _ first.ensures in
    let needed : first.result ≡ length (text_of b) = first.ensures.next ∙ zero-add _ ∙ ap length text in
    let fits : length (text_of b) ≤ length out = omega (arith, c.if-out-needed.false, ap (length {A = ℕ}) same) in
    let written = le-leb (length (text_of b)) (length out) fits in
    let put = put_same _ _ _ _ _ _ text second.ensures in
    let put₀ = subst (λ (l : List ℕ). Put (text_of b) l 0 second.new.out second.result) same put in
    record { value = rw written (ap (λ (n : ℕ). Ok n) needed); out_after = rw written (put_start (text_of b) out _ _ put₀ fits) }
