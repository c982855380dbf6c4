-- A case that holds for the definitions holds of every outcome of the operation.
use Prim.Native.Nat.{ℕ}
use mathlib.Core.List.{List, [], ◌∷◌}
use mathlib.Core.Path.{◌≡◌, refl, sym, ◌∙◌, ap}
use native.Mathlib.Omega.{arith}
use lib.ListN.{length, replicate, length-replicate}
use Rattle.common.specs.Lists.{All, overwritten}
use Rattle.engine.proofs.AnswerLaws.{none_exactly, none_buffer, several_exactly, several_buffer, one_exactly, one_buffer}
use Rattle.engine.specs.Refusals.{chart_too_short}
use Rattle.engine.specs.declared.Answer.{Answer}
use Rattle.refusal.specs.declared.Refusal.{Refusal}
use Rattle.flatten.specs.Reading.{Reading}
use Rattle.marked.specs.Cases.{Expected, no_reading, one_reading, several_readings, bad_grammar, refused, Says, Case, Statement, Answers, Promised}
use Rattle.numbers.specs.Written.{bytes_of}
use Rattle.parse.proofs.AnswerLaws.{refused_outcome, accepted_outcome}
use Rattle.parse.proofs.RefusalLaws.{refusal_grammar}
use Rattle.parse.specs.Outcome.{refusal, Outcome}
use Rattle.priority.proofs.RefusalLaws.{checked_number}

-- of the chart only the length decides on a refusal
refusal_length : (b w c c' : List ℕ) → length c ≡ length c' → refusal b w c ≡ refusal b w c'
unfolding refusal chart_too_short
refusal_length b w c c' e = rw e refl

module _ (b w c₀ l₀ : List ℕ) (r : Answer Refusal) (c l : List ℕ) (o : Outcome b w c₀ l₀ r c l) where
  says_answers : (e : Expected) → Says b w c₀ e → Answers e l₀ r l
  unfolding Says Answers
  says_answers no_reading (free, none) =
      let a = (accepted_outcome b w c₀ l₀ r c l o free).answer in
      ((none_exactly (Reading b w) l₀ r l a).1 none, none_buffer (Reading b w) l₀ r l a none)
  says_answers (one_reading numbers) (free, t, only, list) =
      λ fits. let a = (accepted_outcome b w c₀ l₀ r c l o free).answer in (
        (one_exactly (Reading b w) l₀ r l a (length numbers)).1 (t, only, ap length (sym list), fits),
        one_buffer (Reading b w) l₀ r l a t only (omega (arith, ap length list)) ∙ ap (λ (ns : List ℕ). overwritten (bytes_of ns) l₀) list,
      )
  says_answers several_readings (free, two) =
      let a = (accepted_outcome b w c₀ l₀ r c l o free).answer in
      ((several_exactly (Reading b w) l₀ r l a).1 two, several_buffer (Reading b w) l₀ r l a two)
  says_answers (bad_grammar number place) (x, e, n, p) = let a = refused_outcome b w c₀ l₀ r c l o x ((refusal_grammar b w c₀ x (checked_number b e)).1 e) in ((x, a.0, n, p), a.2)
  says_answers (refused number place) (x, e, n, p) = let a = refused_outcome b w c₀ l₀ r c l o x e in ((x, a.0, n, p), a.2)

-- what is said of one chart is said of every chart as long
says_moved : (b w c c' : List ℕ) → length c ≡ length c' → (e : Expected) → Says b w c e → Says b w c' e
unfolding Says
says_moved b w c c' long no_reading h = (sym (refusal_length b w c c' long) ∙ h.0, h.1)
says_moved b w c c' long (one_reading numbers) h = (sym (refusal_length b w c c' long) ∙ h.0, h.1, h.2, h.3)
says_moved b w c c' long several_readings h = (sym (refusal_length b w c c' long) ∙ h.0, h.1)
says_moved b w c c' long (bad_grammar number place) h = h
says_moved b w c c' long (refused number place) (x, e, n, p) = (x, sym (refusal_length b w c c' long) ∙ e, n, p)

case_promised : (c : Case) → Statement c → Promised c
unfolding Statement Promised
case_promised c h chart₀ l₀ r chart l long o =
    says_answers c.book c.text chart₀ l₀ r chart l o c.expected
    (says_moved c.book c.text (replicate c.lent 0) chart₀ (length-replicate c.lent 0 ∙ sym long) c.expected h)

-- a table of cases
pub all_promised : (l : List Case) → All Statement l → All Promised l
all_promised [] h = tt
all_promised (c ∷ l) h = (case_promised c h.0, all_promised l h.1)
