-- A grammar with ranges turned round (02, [3]) has the same character class grammar, the same readings and the same lists of trees to count.
use Prim.Native.Nat.{ℕ, ◌≤◌, ◌<◌}
use mathlib.Core.Path.{◌≡◌, sym, ◌∙◌, ap, ap₂, subst}
use mathlib.Core.List.{List}
use mathlib.Core.Logic.{◌↔◌}
use native.Mathlib.Omega.{arith}
use lib.ListN.{length}
use Rattle.ccg.specs.Ccg.{Line}
use Rattle.ccg.specs.Text.{grammar_text}
use Rattle.flatten.proofs.SameFrontLaws.{front_plain, front_flat, front_reading, front_entry}
use Rattle.flatten.specs.Answer.{flat_answer}
use Rattle.flatten.specs.Flat.{flat_grammar_in, flat_grammar, plain_class}
use Rattle.flatten.specs.Reading.{ReadingIn, EntryListIn, Reading, EntryList}
use Rattle.grammar.proofs.SameFrontLaws.{SameFront, front_back, same_productions, same_start, same_count}
use Rattle.grammar.proofs.TurnedLaws.{turned_front}
use Rattle.grammar.specs.Turned.{TurnedRound}
use Rattle.refusal.specs.Verdict.{unless_refused, Verdict}
use Rattle.layout.specs.Layout.{productions, start_sort, argument_count}
use Rattle.priority.proofs.TurnedLaws.{turned_list, turned_checked}
use Rattle.priority.specs.Priorities.{declarations_of}
use Rattle.priority.specs.declared.Declaration.{Declaration}
use Rattle.theory.specs.Tree.{Tree, Forest}
use Rattle.writing.specs.Answer.{fitted}
use Rattle.refusal.specs.declared.Fault.TheVariants.{LongFlat}

module _ (b c : List ℕ) (t : TurnedRound b c) where
  abbrev same : SameFront b c
  same = turned_front b c t

  abbrev back : SameFront c b
  back = front_back b c same

  -- The character class grammar is the same, and so is its text.
  pub turned_flat : flat_grammar c ≡ flat_grammar b
  turned_flat = ap (flat_grammar_in c) (turned_list b c t) ∙ front_flat b c same (declarations_of b)

  -- Writing it is answered alike.
  pub turned_flat_answer : (room : ℕ) → flat_answer c room ≡ flat_answer b room
  unfolding flat_answer
  turned_flat_answer room =
      ap₂ (λ (v : Verdict) (g : List Line). unless_refused v (fitted LongFlat (length (grammar_text g)) room)) (turned_checked b c t) turned_flat

  -- The class at the root is the same.
  pub turned_root : plain_class c (start_sort c) ≡ plain_class b (start_sort b)
  turned_root = ap (plain_class c) (same_start b c same) ∙ front_plain b c same (start_sort b)

  -- The readings of a text are the same.
  pub turned_reading : (w : List ℕ) (u : Tree) → Reading c w u ↔ Reading b w u
  turned_reading w u = (
    (λ r. subst (λ (ls : List Declaration). ReadingIn b ls w u) (turned_list b c t) (front_reading c b back (declarations_of c) w u r)),
    (λ r. subst (λ (ls : List Declaration). ReadingIn c ls w u) (sym (turned_list b c t)) (front_reading b c same (declarations_of b) w u r)),
  )

  -- So are the lists of trees that an entry of the chart counts.
  pub turned_entry : (w : List ℕ) (p d i j : ℕ) → p < productions b → d ≤ argument_count b p → (f : Forest) → EntryList c w p d i j f ↔ EntryList b w p d i j f
  turned_entry w p d i j l m f = (
    (λ r. subst (λ (ls : List Declaration). EntryListIn b ls w p d i j f) (turned_list b c t)
        (front_entry c b back (declarations_of c) w p d i j (omega (arith, same_productions b c same)) (omega (arith, same_count b c same p l)) f r)),
    (λ r. subst (λ (ls : List Declaration). EntryListIn c ls w p d i j f) (sym (turned_list b c t)) (front_entry b c same (declarations_of b) w p d i j l m f r)),
  )
