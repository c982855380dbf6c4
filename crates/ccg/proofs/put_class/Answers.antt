-- `put_class` meets its contract: the characters, then the production numbers.
use Prim.Native.Nat.{ℕ, ◌+◌, ◌-◌, ◌≤◌, ◌<◌}
use mathlib.Core.Path.{◌≡◌, sym, ◌∙◌, ap, ap₂}
use mathlib.Core.List.{List, [], ◌∷◌, ◌++◌}
use native.Mathlib.Omega.{arith}
use lib.ListN.{length, length-append}
use Rattle.std.proofs.Common.{lit<}
use Rattle.ccg.proofs.TablesLaws.{table_of_character, table_of_production, table_between}
use Rattle.ccg.proofs.TextLaws.{class_text_parts}
use Rattle.ccg.specs.Tables.{table_class}
use Rattle.ccg.specs.Text.{range_text, class_text, bracket_open, bracket_close}
use Rattle.charset.proofs.RunLaws.{runs_same}
use Rattle.charset.specs.Runs.{Range, runs}
use Rattle.charset.specs.Set.{characters, has}
use Rattle.common.specs.Lists.{joined}
use Rattle.layout.specs.Limits.{production_limit}
use Rattle.tables.specs.Layout.{takes_char, takes_production}
use Rattle.theory.specs.Tree.{production_number}
use Rattle.writing.proofs.PutLaws.{put_append, put_same}
use Rattle.ccg.proofs.put_class.Goals as goal

module _ (t : List ℕ) (s : ℕ) (chars : List ℕ) (ws : (c : ℕ) → c < characters → has chars c ≡ takes_char t s c) where
  abbrev char_text : List ℕ
  char_text = joined range_text (runs (λ (n : ℕ). has chars (n - 0)) 0 characters)

  character_runs : runs (table_class t s) 0 characters ≡ runs (λ (n : ℕ). has chars (n - 0)) 0 characters
  character_runs = runs_same (table_class t s) (λ (n : ℕ). has chars (n - 0)) 0 characters
      (λ k l h. table_of_character t s k (omega arith) ∙ sym (ws k (omega arith)) ∙ ap (has chars) (omega arith))

  -- the characters have room, and the bracket before them
  chars_long : 1 + length char_text ≤ length (class_text (table_class t s))
  chars_long =
      let parts = simp length-append at (ap (length {A = ℕ}) (class_text_parts (table_class t s) (table_between t s))) in
      omega (arith, ap (λ (rs : List Range). length (joined range_text rs)) character_runs)

  module _ (productions : List ℕ) (vs : (q : ℕ) → q < production_limit → has productions q ≡ takes_production t s q) where
    abbrev number_text : List ℕ
    number_text = joined range_text (runs (λ (n : ℕ). has productions (n - production_number 0)) (production_number 0) production_limit)

    number_runs : runs (table_class t s) (production_number 0) production_limit ≡ runs (λ (n : ℕ). has productions (n - production_number 0)) (production_number 0) production_limit
    number_runs = runs_same (table_class t s) (λ (n : ℕ). has productions (n - production_number 0)) (production_number 0) production_limit
        (λ k l h. table_of_production t s k l h ∙ sym (vs (k - production_number 0) (omega arith)))

    class_is : class_text (table_class t s) ≡ (bracket_open ∷ []) ++ (char_text ++ (number_text ++ (bracket_close ∷ [])))
    class_is =
        class_text_parts (table_class t s) (table_between t s)
        ∙ ap₂ (λ (a c : List Range). bracket_open ∷ (joined range_text a ++ (joined range_text c ++ (bracket_close ∷ [])))) character_runs number_runs

    class_long : length (class_text (table_class t s)) ≡ 1 + (length char_text + (length number_text + 1))
    class_long = ap (length {A = ℕ}) class_is ∙ simp length-append (omega arith)

pub put-open-requires : goal.put-open-requires
put-open-requires c =
    let t = c.args.tables.now in
    let s = c.args.s in
    omega (arith, c.requires.s_bound, ap (length {A = ℕ}) (class_text_parts (table_class t s) (table_between t s)))

pub put_runs-characters-requires : goal.put_runs-characters-requires
put_runs-characters-requires c = (lit< tt, (omega arith, omega (arith, c.requires.s_bound, c.put-open.ensures.next, chars_long c.args.tables.now c.args.s c.class_chars.result.words c.class_chars.ensures)))

pub put_runs-productions-requires : goal.put_runs-productions-requires
put_runs-productions-requires c =
    (lit< tt, (omega arith, omega (arith, c.requires.s_bound, c.put-open.ensures.next, c.put_runs-characters.ensures.next, class_long c.args.tables.now c.args.s c.class_chars.result.words c.class_chars.ensures c.class_productions.result.words c.class_productions.ensures)))

pub put-requires : goal.put-requires
put-requires c =
    omega (arith, c.requires.s_bound, c.put-open.ensures.next, c.put_runs-characters.ensures.next, c.put_runs-productions.ensures.next, class_long c.args.tables.now c.args.s c.class_chars.result.words c.class_chars.ensures c.class_productions.result.words c.class_productions.ensures)

pub returns : goal.returns
returns c =
    put_same _ _ _ _ _ _ (sym (class_is c.args.tables.now c.args.s c.class_chars.result.words c.class_chars.ensures c.class_productions.result.words c.class_productions.ensures))
    (put_append _ _ _ _ _ _ _ _ c.put-open.ensures (put_append _ _ _ _ _ _ _ _ c.put_runs-characters.ensures (put_append _ _ _ _ _ _ _ _ c.put_runs-productions.ensures c.put.ensures)))
