-- One step of the walk over a listing, by the flat tables.
use Prim.Native.Nat.{ℕ, suc, ◌+◌, ◌-◌, ◌≤◌, ◌<◌}
use mathlib.Core.Bool.{Bool, false, true, ◌&&◌, and-true, and-false}
use mathlib.Core.List.{List, [], ◌∷◌, ◌++◌}
use mathlib.Core.Logic.{by_cases}
use mathlib.Core.Path.{◌≡◌, refl, sym, ◌∙◌, ap, ap₂, fun_ext}
use native.Mathlib.Decide.{dec_lt}
use native.Mathlib.Numerals.{add-one}
use native.Mathlib.Omega.{arith}
use lib.Dec.{leb, ltb, eqb}
use lib.ListN.{length, get_or, drop, drop_of_length-le}
use lib.Seq.{drop-cons, drop-drop}
use borrow.Author.Tests.{ltb-true, leb-true, lt-ltb, le-ltb, le-leb, lt-leb, ne_eqb}
use Rattle.ccg.proofs.TablesLaws.{table_of_character, table_between, table_of_production, table_production, table_terminal}
use Rattle.ccg.specs.Ccg.{Class, Line, no_line, no_class}
use Rattle.ccg.specs.Tables.{table_class, table_line, table_grammar}
use Rattle.charset.specs.Set.{characters}
use Rattle.common.proofs.BoolLaws.{and_first_true, and_second_true, not_both}
use Rattle.common.proofs.ListLaws.{length_tabulate, get_d_tabulate}
use Rattle.common.specs.Lists.{tabulate}
use Rattle.flatten.proofs.TableTextLaws.{table_root, table_grammar_lem}
use Rattle.flatten.specs.Tables.{FlatTables}
use Rattle.grammar.specs.Formed.{WellFormed}
use Rattle.listing.specs.Answer.{judged}
use Rattle.listing.specs.Judge.{is_next, is_right, due_after, text_after, judge}
use Rattle.listing.specs.Parts.{Part, judged_by, after_part, EndsBeyond, Walked, dues_from}
use Rattle.listing.specs.declared.Judgement.TheVariants.{Wrong}
use Rattle.numbers.specs.Numbers.{numbers_of}
use Rattle.tables.proofs.LayoutLaws.{counts_few}
use Rattle.tables.specs.Layout.{slot, counts_of, arity_in, takes_char, takes_production, ParserTables, root_slot}
use Rattle.theory.specs.Tree.{production_number}
use Rattle.std.specs.Prelude.{Ok, Err}

-- a part that is complete, and goes on there
abbrev pub complete : ℕ → ℕ → Part
complete number place = Ok (record { number = number; place = place })

-- ---- the next byte of a text

pub next_none : (w : List ℕ) (place n : ℕ) → length w ≤ place → is_next (drop place w) n ≡ false
unfolding is_next
next_none w place n h = rw (drop_of_length-le w h) refl

pub next_is : (w : List ℕ) (place n : ℕ) → place < length w → is_next (drop place w) n ≡ eqb (get_or w place 0) n
unfolding is_next
next_is w place n h = rw (drop-cons w place 0 h) refl

next_within : (w : List ℕ) (place n : ℕ) → is_next (drop place w) n ≡ true → place < length w
next_within w place n e =
    by_cases (dec_lt place (length w)) (λ l. l) (λ l. absurd (not_both (is_next (drop place w) n) e (next_none w place n (omega arith))))

-- no byte is as large as the number of a production
next_small : (w : List ℕ) → ((k : ℕ) → get_or w k 0 < characters) → (place n : ℕ) → characters ≤ n → is_next (drop place w) n ≡ false
next_small w bytes place n h =
    by_cases (dec_lt place (length w))
    (λ l. next_is w place n l ∙ ne_eqb (get_or w place 0) n (λ e. omega (arith, bytes place)))
    (λ l. next_none w place n (omega arith))

-- ---- steps

-- a part that ends beyond a place ends beyond an earlier one
ends_weaker : (numbers w : List ℕ) (r : Part) (m k : ℕ) → k ≤ m → EndsBeyond m numbers w r → EndsBeyond k numbers w r
unfolding EndsBeyond
ends_weaker numbers w (Ok next) m k h e = (omega (arith, e.0), e.1, e.2)
ends_weaker numbers w (Err index) m k h e = tt

module _ (t : List ℕ) where
  abbrev g : List Line
  g = table_grammar t

  abbrev count : ℕ
  count = length (counts_of t)

  -- n is the number of a production that is there and may stand at slot s
  abbrev is_standing : ℕ → ℕ → Bool
  is_standing s n = (leb (production_number 0) n && ltb n (production_number count)) && takes_production t s (n - production_number 0)

  -- so it is there
  pub production_there : (s n : ℕ) → is_standing s n ≡ true → (production_number 0 ≤ n) × (n < production_number count)
  production_there s n e =
      let first = leb (production_number 0) n in
      let last = ltb n (production_number count) in
      let both = and_first_true (first && last) (takes_production t s (n - production_number 0)) e in
      (leb-true (production_number 0) n (and_first_true first last both), ltb-true n (production_number count) (and_second_true first last both))

  module _ (s n : ℕ) (w : List ℕ) where
    -- a character is right if it may stand at the slot and is the next byte
    right_character : n < characters → is_right g (table_class t s) w n ≡ (takes_char t s n && is_next w n)
    unfolding is_right
    right_character l = rw (table_of_character t s n l, table_terminal t n (λ m h. omega arith)) refl

    -- any other number if it is a production's that may stand at the slot
    right_production : ParserTables t → characters ≤ n → is_next w n ≡ false
        → is_right g (table_class t s) w n ≡ is_standing s n
    unfolding is_right
    right_production tables l e =
        by_cases (dec_lt n (production_number 0))
        (λ h. rw (table_between t s n l h, lt-leb (production_number 0) n h) refl)
        (λ h. by_cases (dec_lt n (production_number count))
        (λ k. rw (table_of_production t s n (omega arith) (omega (arith, counts_few t tables)), table_production t n (omega arith) k, le-leb (production_number 0) n (omega arith), lt-ltb n (production_number count) k) (and-true (takes_production t s (n - production_number 0))))
        (λ k. rw (e, table_terminal t n (λ m f. k f), le-ltb n (production_number count) (omega arith), and-false (leb (production_number 0) n)) (and-false (table_class t s n))))

  -- what a right number brings
  module _ (n : ℕ) (ns : List ℕ) (due : Class) (dues : List Class) (w : List ℕ) (k : ℕ) where
    judge_fault : is_right g due w n ≡ false → judge g (n ∷ ns) (due ∷ dues) w k ≡ Wrong k
    unfolding judge
    judge_fault e = rw e refl

    judge_character : n < characters → is_right g due w n ≡ true → judge g (n ∷ ns) (due ∷ dues) w k ≡ judge g ns dues (drop 1 w) (k + 1)
    unfolding judge due_after text_after
    judge_character l e = rw (e, table_terminal t n (λ m h. omega arith)) refl

    judge_production : production_number 0 ≤ n → n < production_number count → is_right g due w n ≡ true
        → judge g (n ∷ ns) (due ∷ dues) w k ≡ judge g ns (dues_from t (n - production_number 0) 0 ++ dues) w (k + 1)
    unfolding judge due_after text_after dues_from table_grammar
    judge_production l h e = rw (e, table_production t n l h, get_d_tabulate count (table_line t) (n - production_number 0) no_line (omega arith)) refl

  -- ---- what is due at the arguments of a production

  module _ (q d : ℕ) where
    abbrev arity : ℕ
    arity = arity_in (counts_of t) q

    abbrev classes : List Class
    classes = tabulate arity (λ i. table_class t (slot q i))

    dues_none : arity ≤ d → dues_from t q d ≡ []
    unfolding dues_from table_line
    dues_none h = drop_of_length-le classes {i = d} (omega (arith, length_tabulate arity (λ i. table_class t (slot q i))))

    dues_next : d < arity → dues_from t q d ≡ table_class t (slot q d) ∷ dues_from t q (d + 1)
    unfolding dues_from table_line
    dues_next h =
        drop-cons classes d no_class (omega (arith, length_tabulate arity (λ i. table_class t (slot q i))))
        ∙ ap₂ (λ (cc : Class) (m : ℕ). cc ∷ drop m classes) (get_d_tabulate arity (λ i. table_class t (slot q i)) d no_class h) (sym (add-one d))

  -- ---- the walk over a tree that is due at slot s, from number `at` and from `place` in the text on

  module _ (numbers w : List ℕ) (s at place : ℕ) where
    -- the listing ends early
    pub walked_missing : length numbers ≤ at → Walked g numbers w (table_class t s ∷ []) at place (Err at)
    unfolding judge after_part EndsBeyond
    walked_missing h = record { decides = λ others. rw (drop_of_length-le numbers {i = at} h) refl; ends = tt }

    module _ (n : ℕ) (l : at < length numbers) (e : n ≡ get_or numbers at 0) where
      first_number : drop at numbers ≡ n ∷ drop (at + 1) numbers
      first_number = drop-cons numbers at 0 l ∙ ap₂ (λ (x m : ℕ). x ∷ drop m numbers) (sym e) (sym (add-one at))

      walked_fault : is_right g (table_class t s) (drop place w) n ≡ false → Walked g numbers w (table_class t s ∷ []) at place (Err at)
      unfolding after_part EndsBeyond
      walked_fault h =
          record {
            decides = λ others. rw first_number (judge_fault n (drop (at + 1) numbers) (table_class t s) others (drop place w) at h);
            ends = tt;
          }

      pub walked_no_character : n < characters → (takes_char t s n && is_next (drop place w) n) ≡ false → Walked g numbers w (table_class t s ∷ []) at place (Err at)
      walked_no_character h test = walked_fault (right_character s n (drop place w) h ∙ test)

      pub walked_character : n < characters → (takes_char t s n && is_next (drop place w) n) ≡ true
          → Walked g numbers w (table_class t s ∷ []) at place (complete (at + 1) (place + 1))
      unfolding after_part EndsBeyond
      walked_character h test =
          let m = next_within w place n (and_second_true (takes_char t s n) (is_next (drop place w) n) test) in
          record {
            decides = λ others. rw first_number
                (judge_character n (drop (at + 1) numbers) (table_class t s) others (drop place w) at h (right_character s n (drop place w) h ∙ test)
                ∙ ap (λ (v : List ℕ). judge g (drop (at + 1) numbers) others v (at + 1)) (drop-drop 1 place w));
            ends = (omega arith, omega arith, omega arith);
          }

      module _ (tables : ParserTables t) (bytes : (k : ℕ) → get_or w k 0 < characters) (h : characters ≤ n) where
        right_standing : is_right g (table_class t s) (drop place w) n ≡ is_standing s n
        right_standing = right_production s n (drop place w) tables h (next_small w bytes place n h)

        pub walked_no_production : is_standing s n ≡ false → Walked g numbers w (table_class t s ∷ []) at place (Err at)
        walked_no_production v = walked_fault (right_standing ∙ v)

        pub walked_production : (r : Part) → is_standing s n ≡ true → Walked g numbers w (dues_from t (n - production_number 0) 0) (at + 1) place r
            → Walked g numbers w (table_class t s ∷ []) at place r
        walked_production r v walked =
            let there = production_there s n v in
            record {
              decides = λ others. rw first_number
                  (judge_production n (drop (at + 1) numbers) (table_class t s) others (drop place w) at there.0 there.1 (right_standing ∙ v) ∙ walked.decides others);
              ends = ends_weaker numbers w r (at + 1 + length (dues_from t (n - production_number 0) 0)) (at + 1) (omega arith) walked.ends;
            }

  -- ---- the walk over the trees of arguments

  module _ (numbers w : List ℕ) (q d at place : ℕ) where
    -- no argument is left
    pub walked_none : arity_in (counts_of t) q ≤ d → at ≤ length numbers → place ≤ length w → Walked g numbers w (dues_from t q d) at place (complete at place)
    unfolding after_part EndsBeyond
    walked_none h l m = rw (dues_none q d h) (record { decides = λ others. refl; ends = (omega arith, l, m) })

    module _ (h : d < arity_in (counts_of t) q) where
      -- the first tree is wrong
      pub walked_first_fault : (index : ℕ) → Walked g numbers w (table_class t (slot q d) ∷ []) at place (Err index)
          → Walked g numbers w (dues_from t q d) at place (Err index)
      unfolding after_part EndsBeyond
      walked_first_fault index walked = rw (dues_next q d h) (record { decides = λ others. walked.decides (dues_from t q (d + 1) ++ others); ends = tt })

      -- or complete, and the others follow
      pub walked_more : (next after : ℕ) (r : Part) → Walked g numbers w (table_class t (slot q d) ∷ []) at place (complete next after)
          → Walked g numbers w (dues_from t q (d + 1)) next after r → Walked g numbers w (dues_from t q d) at place r
      unfolding after_part EndsBeyond
      walked_more next after r tree others =
          let more = dues_from t q (d + 1) in
          rw (dues_next q d h)
          (record {
            decides = λ rest. tree.decides (more ++ rest) ∙ others.decides rest;
            ends = ends_weaker numbers w r (next + length more) (at + suc (length more)) (let e = tree.ends.0 in omega arith) others.ends;
          })

-- ---- the walk over the whole tree, by the tables of grammar b

module _ (b : List ℕ) (formed : WellFormed b) (bytes : (k : ℕ) → get_or b k 0 < characters) (t : List ℕ) (tables : FlatTables b t) where
  -- it goes by the grammar's own lines, and at the root a production of the start sort is due
  pub tables_judged : (w l : List ℕ) → judged_by t w l ≡ judged b w l
  unfolding judged judged_by
  tables_judged w l =
      ap₂ (λ (lines : List Line) (roots : Class). judge lines (numbers_of l) (roots ∷ []) w 0)
      (table_grammar_lem b t formed bytes tables) (fun_ext (table_root b formed bytes t tables))

  -- so is what the walk over all of it gives
  pub walk_judged : (w l : List ℕ) (r : Part) → Walked (table_grammar t) (numbers_of l) w (table_class t root_slot ∷ []) 0 0 r
      → after_part (table_grammar t) (numbers_of l) [] w r ≡ judged b w l
  unfolding judged_by
  walk_judged w l r walked = sym (walked.decides []) ∙ tables_judged w l
