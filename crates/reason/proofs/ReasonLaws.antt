-- The answers to the question for the reason, each from what is behind it.
use Prim.Native.Nat.{ℕ, ◌<◌}
use mathlib.Core.Path.{◌≡◌, refl, sym}
use mathlib.Core.List.{List}
use native.Mathlib.Omega.{arith}
use Rattle.grammar.specs.Formed.{WellFormed}
use Rattle.refusal.specs.Verdict.{accepted}
use Rattle.layout.specs.Layout.{productions}
use Rattle.layout.specs.Limits.{production_limit}
use Rattle.priority.proofs.CheckLaws.{accepted_formed}
use Rattle.priority.specs.Check.{checked}
use Rattle.priority.specs.Conflict.{Conflict}
use Rattle.priority.specs.Priorities.{left, right, Higher}
use Rattle.question.proofs.AnswerLaws.{conflict_yes}
use Rattle.question.specs.Answer.{conflict_answer}
use Rattle.reason.proofs.LineLaws.{line_higher, line_first, line_last}
use Rattle.reason.proofs.SideLaws.{right_covered, left_covered}
use Rattle.reason.specs.Reason.{LowestDeclaration, Behind, plainly, Reasoned}
use Rattle.reason.specs.Side.{Covered}
use Rattle.reason.specs.declared.Cause.TheVariants.{Higher as ByChain, AtFirst, AtLast}
use Rattle.refusal.specs.declared.Refusal.{Refusal}
use Rattle.std.specs.Prelude.{true, false, None, Some, Ok, Err}
use Rattle.shortest.proofs.ChainLaws.{leads_short}
use Rattle.shortest.specs.Written.{ShortestWritten}

-- ---- what yes tells

module _ (b : List ℕ) (p i q : ℕ) (yes : conflict_answer b p i q ≡ Ok true) where
  pub yes_accepted : checked b ≡ accepted
  yes_accepted = ((conflict_yes b p i q).0 yes).0

  pub yes_formed : WellFormed b
  yes_formed = accepted_formed b yes_accepted

  pub yes_there : (p < production_limit) × (q < production_limit)
  yes_there =
      let (hp, hi, hq) = ((conflict_yes b p i q).0 yes).1 in
      (omega (arith, hp, yes_formed.framed.few_productions), omega (arith, hq, yes_formed.framed.few_productions))

  yes_conflict : Conflict b p i q
  yes_conflict = ((conflict_yes b p i q).0 yes).2

  pub first_covered : (Higher b p q → ⊥) → i ≡ 0 → Covered b right p q
  first_covered level z = right_covered b p q (line_first b p i q level yes_conflict z).1

  pub last_covered : (Higher b p q → ⊥) → (i ≡ 0 → ⊥) → Covered b left p q
  last_covered level z = left_covered b p q (line_last b p i q level z yes_conflict).1

-- ---- the answers

module _ (b : List ℕ) (p i q : ℕ) (c₀ : List ℕ) where
  pub reasoned_free : conflict_answer b p i q ≡ Ok false → Reasoned b p i q c₀ (Ok None) c₀
  unfolding plainly Behind
  reasoned_free e = record { plain = sym e; behind = refl }

  pub reasoned_refused : (r : Refusal) → conflict_answer b p i q ≡ Err r → Reasoned b p i q c₀ (Err r) c₀
  unfolding plainly Behind
  reasoned_refused r e = record { plain = sym e; behind = refl }

  module _ (yes : conflict_answer b p i q ≡ Ok true) where
    pub reasoned_higher : (n : ℕ) (c : List ℕ) → Higher b p q → ShortestWritten b p q c₀ n c → Reasoned b p i q c₀ (Ok (Some (ByChain n))) c
    unfolding plainly Behind
    reasoned_higher n c h s = record { plain = sym yes; behind = (line_higher b p i q (yes_conflict b p i q yes) h, s) }

    pub reasoned_first : (Higher b p q → ⊥) → (d : ℕ) → i ≡ 0 → LowestDeclaration b right p q d → Reasoned b p i q c₀ (Ok (Some (AtFirst d))) c₀
    unfolding plainly Behind
    reasoned_first level d z l = record { plain = sym yes; behind = ((line_first b p i q level (yes_conflict b p i q yes) z).0, l, refl) }

    pub reasoned_last : (Higher b p q → ⊥) → (d : ℕ) → (i ≡ 0 → ⊥) → LowestDeclaration b left p q d → Reasoned b p i q c₀ (Ok (Some (AtLast d))) c₀
    unfolding plainly Behind
    reasoned_last level d z l = record { plain = sym yes; behind = ((line_last b p i q level z (yes_conflict b p i q yes)).0, l, refl) }

-- ---- what a reason counts

-- a chain has fewer declarations than there are productions, and a declaration is one of the grammar's
module _ (b : List ℕ) (p i q : ℕ) (c₀ : List ℕ) (c : List ℕ) where
  pub reasoned_short : (n : ℕ) → Reasoned b p i q c₀ (Ok (Some (ByChain n))) c → n < productions b
  unfolding plainly Behind
  reasoned_short n r =
      let written = r.behind.1 in
      omega (arith, written.is_length, leads_short b (yes_accepted b p i q (sym r.plain)) written.shortest.leads)

  pub reasoned_few : (n : ℕ) → Reasoned b p i q c₀ (Ok (Some (ByChain n))) c → n < production_limit
  unfolding plainly
  reasoned_few n r = omega (arith, reasoned_short n r, (yes_formed b p i q (sym r.plain)).framed.few_productions)
