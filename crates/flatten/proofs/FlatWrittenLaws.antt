-- The character class grammar of a grammar is one that a text can say.
use Prim.Native.Nat.{ℕ, ◌-◌, ◌≤◌, ◌<◌}
use mathlib.Core.Bool.{true}
use mathlib.Core.List.{List}
use mathlib.Core.Logic.{◌⊎◌, inl, inr, ⊎_elim}
use mathlib.Core.Path.{◌≡◌, sym, ◌∙◌, ap}
use native.Mathlib.Omega.{arith}
use lib.ListN.{length, get_or}
use Rattle.ccg.specs.Ccg.{no_line, no_class}
use Rattle.ccg.specs.Text.{number_limit}
use Rattle.ccg.specs.Written.{OnlyCharacters, OnlyProductions, WrittenForm}
use Rattle.charset.specs.Set.{characters}
use Rattle.classes.proofs.ClassesLaws.{class_character}
use Rattle.classes.specs.Classes.{is_class}
use Rattle.common.proofs.BoolLaws.{and_first_true, true_or_false}
use Rattle.common.proofs.ListLaws.{length_tabulate}
use Rattle.flatten.proofs.FlatLaws.{flat_length, flat_numbered, flat_arguments, flat_class_at, production_there, production_is, flat_of_class, flat_of_sort}
use Rattle.flatten.specs.Flat.{is_production, may_stand, flat_class, flat_grammar}
use Rattle.grammar.specs.Formed.{WellFormed}
use Rattle.layout.specs.Layout.{productions, argument_count, argument}
use Rattle.layout.specs.Limits.{class_base}
use Rattle.theory.specs.Tree.{production_number}

-- ---- what the classes of a grammar's character class grammar have

module _ (b : List ℕ) (w : WellFormed b) (bytes : (k : ℕ) → get_or b k 0 < characters) where
  -- a class argument has characters only, a sort argument numbers of productions only
  flat_only : (p i : ℕ) → OnlyCharacters (flat_class b p i) ⊎ OnlyProductions (flat_class b p i)
  flat_only p i =
      ⊎_elim
      (λ c. inl (λ n e. class_character b bytes (argument b p i - class_base) n (sym (flat_of_class b p i n c) ∙ e)))
      (λ c. inr (λ n e. sort_only n (and_first_true (is_production b n) (may_stand b p i (n - production_number 0)) (sym (flat_of_sort b p i n c) ∙ e))))
      (true_or_false (is_class b (argument b p i)))
    where
      sort_only : (n : ℕ) → is_production b n ≡ true → (production_number 0 ≤ n) × (n < number_limit)
      sort_only n e = omega (arith, production_there b n e, production_is b n e, w.framed.few_productions)

  -- the same of the classes that its lines hold
  flat_classes : (p i : ℕ) → p < productions b → i < length (get_or (flat_grammar b) p no_line).arguments
      → OnlyCharacters (get_or (get_or (flat_grammar b) p no_line).arguments i no_class) ⊎ OnlyProductions (get_or (get_or (flat_grammar b) p no_line).arguments i no_class)
  flat_classes p i l m =
      let arguments = flat_arguments b p l in
      let k : i < argument_count b p = omega (arith, ap length arguments, length_tabulate (argument_count b p) (flat_class b p)) in
      rw (arguments, flat_class_at b p i k) (flat_only p i)

-- the character class grammar of a grammar is in written form
pub flat_written : (b : List ℕ) → WellFormed b → ((k : ℕ) → get_or b k 0 < characters) → WrittenForm (flat_grammar b)
flat_written b w bytes =
    record { numbered = flat_numbered b; classes = λ p i l m. flat_classes b w bytes p i (omega (arith, flat_length b)) m }
