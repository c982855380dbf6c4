-- Each answer to the question for the reason comes exactly under its condition; so the answer is determined, and the buffer is but for the choice of a shortest chain.
use Prim.Native.Nat.{ℕ, ◌<◌}
use mathlib.Core.Path.{◌≡◌, refl, sym, ◌∙◌, ap, subst}
use mathlib.Core.List.{List}
use mathlib.Core.Logic.{◌↔◌, ◌⊎◌, inl, inr, ⊎_elim, by_cases}
use native.Mathlib.Omega.{arith}
use native.Mathlib.Decide.{dec_lt}
use lib.ListN.{length}
use Rattle.common.proofs.BoolLaws.{not_both}
use Rattle.priority.specs.Conflict.{Conflict}
use Rattle.priority.specs.Priorities.{Kind, left, right}
use Rattle.question.proofs.AnswerLaws.{refused_none, yes_no, conflict_yes}
use Rattle.question.specs.Answer.{conflict_answer}
use Rattle.reason.specs.Reason.{Asked, LowestLine, covers_side, LowestDeclaration, Behind, plainly, Reasoned}
use Rattle.reason.specs.declared.Cause.{Cause}
use Rattle.reason.specs.declared.Cause.TheVariants.{Higher, AtFirst, AtLast}
use Rattle.refusal.specs.declared.Refusal.{Refusal}
use Rattle.std.specs.Prelude.{true, false, Option, None, Some, Result, Ok, Err}
use Rattle.shortest.specs.Chain.{Shortest}
use Rattle.shortest.specs.Written.{chain_after, ShortestWritten}

-- ---- what a reason has is determined

module _ (b : List ℕ) (p i q : ℕ) where
  pub line_unique : (m n : ℕ) → LowestLine b p i q m → LowestLine b p i q n → m ≡ n
  line_unique m n x y = omega (arith, x.lowest y.conflict, y.is_line, y.lowest x.conflict, x.is_line)

declaration_not_lower : (b : List ℕ) (k : Kind) (p q d e : ℕ) → LowestDeclaration b k p q d → LowestDeclaration b k p q e → d < e → ⊥
declaration_not_lower b k p q d e x y l = not_both (covers_side b k p q d) x.covering (y.lower d l)

declaration_unique : (b : List ℕ) (k : Kind) (p q d e : ℕ) → LowestDeclaration b k p q d → LowestDeclaration b k p q e → d ≡ e
declaration_unique b k p q d e x y =
    by_cases (dec_lt d e) (λ l. absurd (declaration_not_lower b k p q d e x y l))
    (λ l. by_cases (dec_lt e d) (λ m. absurd (declaration_not_lower b k p q e d y x m)) (λ m. omega arith))

-- shortest chains are equally long
length_unique : (b : List ℕ) (x y : ℕ) (chain other : List ℕ) → Shortest b x y chain → Shortest b x y other → length chain ≡ length other
length_unique b x y chain other s t = omega (arith, s.least other t.leads, t.least chain s.leads)

-- ---- what the plain answer says of a reason

abbrev Answer : Type 0
Answer = Result (Option Cause) Refusal

no_free : (r : Answer) → plainly r ≡ Ok false → r ≡ Ok None
unfolding plainly
no_free (Ok None) e = refl
no_free (Ok (Some s)) e = yes_no e
no_free (Err x) e = refused_none x false e

refused_same : (s : Refusal) (r : Answer) → plainly r ≡ Err s → r ≡ Err s
unfolding plainly
refused_same s (Ok None) e = refused_none s false (sym e)
refused_same s (Ok (Some t)) e = refused_none s true (sym e)
refused_same s (Err x) e = cc

module _ (b : List ℕ) (p i q : ℕ) (c₀ : List ℕ) where
  -- how long a shortest chain is
  abbrev pub ShortestLength : ℕ → Type 0
  ShortestLength n = (chain : List ℕ) × Shortest b p q chain × (n ≡ length chain)

  -- A yes is by one of the lines, and has what is behind it.
  abbrev ByLine : Answer → Type 0
  ByLine r =
      ((n : ℕ) × (r ≡ Ok (Some (Higher n))) × LowestLine b p i q 1 × ShortestLength n)
      ⊎ (((d : ℕ) × (r ≡ Ok (Some (AtFirst d))) × LowestLine b p i q 2 × LowestDeclaration b right p q d)
      ⊎ ((d : ℕ) × (r ≡ Ok (Some (AtLast d))) × LowestLine b p i q 3 × LowestDeclaration b left p q d))

  by_line : (r : Answer) (c : List ℕ) → Reasoned b p i q c₀ r c → plainly r ≡ Ok true → ByLine r
  unfolding plainly Behind
  by_line (Ok None) c o e = yes_no (sym e)
  by_line (Ok (Some (Higher n))) c o e = let w = o.behind.1 in inl (n, refl, o.behind.0, (w.chain, w.shortest, w.is_length))
  by_line (Ok (Some (AtFirst d))) c o e = inr (inl (d, refl, o.behind.0, o.behind.1))
  by_line (Ok (Some (AtLast d))) c o e = inr (inr (d, refl, o.behind.0, o.behind.1))
  by_line (Err x) c o e = refused_none x true e

  asked_yes : Asked b p i q → Conflict b p i q → conflict_answer b p i q ≡ Ok true
  asked_yes (accepted, there) conflict = (conflict_yes b p i q).1 (accepted, there, conflict)

  yes_asked : conflict_answer b p i q ≡ Ok true → Asked b p i q
  yes_asked e = let (accepted, there, conflict) = (conflict_yes b p i q).0 e in (accepted, there)

  module _ (r : Answer) (c : List ℕ) (o : Reasoned b p i q c₀ r c) where
    pub free_exactly : (r ≡ Ok None) ↔ (conflict_answer b p i q ≡ Ok false)
    unfolding plainly
    free_exactly = ((λ e. sym o.plain ∙ ap plainly e), (λ e. no_free r (o.plain ∙ e)))

    pub refused_exactly : (x : Refusal) → (r ≡ Err x) ↔ (conflict_answer b p i q ≡ Err x)
    unfolding plainly
    refused_exactly x = ((λ e. sym o.plain ∙ ap plainly e), (λ e. refused_same x r (o.plain ∙ e)))

    -- a conflict that is asked about has its line
    line_known : Asked b p i q → Conflict b p i q → ByLine r
    line_known asked conflict = by_line r c o (o.plain ∙ asked_yes asked conflict)

    -- what is behind an answer, once it is known
    known : (s : Answer) → r ≡ s → Reasoned b p i q c₀ s c
    known s e = subst (λ (a : Answer). Reasoned b p i q c₀ a c) e o

    pub higher_exactly : (n : ℕ) → (r ≡ Ok (Some (Higher n))) ↔ (Asked b p i q × LowestLine b p i q 1 × ShortestLength n)
    unfolding plainly Behind
    higher_exactly n = (
      (λ e. let k = known (Ok (Some (Higher n))) e in
          let w = k.behind.1 in
          (yes_asked (sym k.plain), k.behind.0, (w.chain, w.shortest, w.is_length))),
      (λ (asked, low, (chain, s, long)). ⊎_elim
          (λ (m, e, other, (own, t, length)). e ∙ ap (λ (x : ℕ). Ok (Some (Higher x))) (length ∙ length_unique b p q own chain t s ∙ sym long))
          (⊎_elim (λ (d, e, other, t). absurd (omega (arith, line_unique b p i q 1 2 low other))) (λ (d, e, other, t). absurd (omega (arith, line_unique b p i q 1 3 low other))))
          (line_known asked low.conflict)),
    )

    pub first_exactly : (d : ℕ) → (r ≡ Ok (Some (AtFirst d))) ↔ (Asked b p i q × LowestLine b p i q 2 × LowestDeclaration b right p q d)
    unfolding plainly Behind
    first_exactly d = (
      (λ e. let k = known (Ok (Some (AtFirst d))) e in (yes_asked (sym k.plain), k.behind.0, k.behind.1)),
      (λ (asked, low, s). ⊎_elim
          (λ (n, e, other, t). absurd (omega (arith, line_unique b p i q 2 1 low other)))
          (⊎_elim (λ (m, e, other, t). e ∙ ap (λ (x : ℕ). Ok (Some (AtFirst x))) (declaration_unique b right p q m d t s)) (λ (m, e, other, t). absurd (omega (arith, line_unique b p i q 2 3 low other))))
          (line_known asked low.conflict)),
    )

    pub last_exactly : (d : ℕ) → (r ≡ Ok (Some (AtLast d))) ↔ (Asked b p i q × LowestLine b p i q 3 × LowestDeclaration b left p q d)
    unfolding plainly Behind
    last_exactly d = (
      (λ e. let k = known (Ok (Some (AtLast d))) e in (yes_asked (sym k.plain), k.behind.0, k.behind.1)),
      (λ (asked, low, s). ⊎_elim
          (λ (n, e, other, t). absurd (omega (arith, line_unique b p i q 3 1 low other)))
          (⊎_elim (λ (m, e, other, t). absurd (omega (arith, line_unique b p i q 3 2 low other))) (λ (m, e, other, t). e ∙ ap (λ (x : ℕ). Ok (Some (AtLast x))) (declaration_unique b left p q m d t s)))
          (line_known asked low.conflict)),
    )

    -- ---- the buffer

    -- by line 1 it has a shortest chain
    pub chain_written : (n : ℕ) → r ≡ Ok (Some (Higher n)) → ShortestWritten b p q c₀ n c
    unfolding Behind
    chain_written n e = (known (Ok (Some (Higher n))) e).behind.1

  -- by anything else it is as it was
  pub buffer_kept : (r : Answer) (c : List ℕ) → Reasoned b p i q c₀ r c → ((n : ℕ) → r ≡ Ok (Some (Higher n)) → ⊥) → c ≡ c₀
  unfolding Behind
  buffer_kept (Ok None) c o other = o.behind
  buffer_kept (Ok (Some (Higher n))) c o other = absurd (other n refl)
  buffer_kept (Ok (Some (AtFirst d))) c o other = o.behind.2
  buffer_kept (Ok (Some (AtLast d))) c o other = o.behind.2
  buffer_kept (Err x) c o other = o.behind

  -- ---- one answer

  pub one_answer : (r r' : Answer) (c c' : List ℕ) → Reasoned b p i q c₀ r c → Reasoned b p i q c₀ r' c' → r ≡ r'
  unfolding plainly
  one_answer (Ok None) r' c c' o o' = sym ((free_exactly r' c' o').1 ((free_exactly (Ok None) c o).0 refl))
  one_answer (Ok (Some (Higher n))) r' c c' o o' = sym ((higher_exactly r' c' o' n).1 ((higher_exactly (Ok (Some (Higher n))) c o n).0 refl))
  one_answer (Ok (Some (AtFirst d))) r' c c' o o' = sym ((first_exactly r' c' o' d).1 ((first_exactly (Ok (Some (AtFirst d))) c o d).0 refl))
  one_answer (Ok (Some (AtLast d))) r' c c' o o' = sym ((last_exactly r' c' o' d).1 ((last_exactly (Ok (Some (AtLast d))) c o d).0 refl))
  one_answer (Err x) r' c c' o o' = sym ((refused_exactly r' c' o' x).1 ((refused_exactly (Err x) c o x).0 refl))

  -- any other shortest chain would do as well
  pub any_shortest : (n : ℕ) (c : List ℕ) → Reasoned b p i q c₀ (Ok (Some (Higher n))) c → (chain : List ℕ) → Shortest b p q chain → Reasoned b p i q c₀ (Ok (Some (Higher n))) (chain_after chain c₀)
  unfolding plainly Behind
  any_shortest n c o chain s =
      let w = o.behind.1 in
      record {
        plain = o.plain;
        behind = (o.behind.0, record { chain = chain; shortest = s; is_length = w.is_length ∙ length_unique b p q w.chain chain w.shortest s; is_written = refl });
      }
