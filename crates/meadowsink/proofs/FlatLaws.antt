-- Laws of the calls for a flat text: the replies fit, the entries for the root, and that the promise determines the outcome.
use Prim.Native.Nat.{ℕ, ◌+◌, ◌≤◌, ◌<◌}
use mathlib.Core.Bool.{Bool, false, not}
use mathlib.Core.List.{List}
use mathlib.Core.Logic.{⊎_elim}
use mathlib.Core.Path.{◌≡◌, sym, ◌∙◌, subst⁻¹, ap}
use native.Mathlib.Decide.{ℕ_discrete}
use native.Mathlib.Omega.{arith}
use lib.Dec.{eqb}
use lib.ListN.{length, get_or, set, take, length-set}
use lib.Seq.{ext_get_or, get_or-set_same, get_or-set_other}
use Rattle.archive.proofs.UniqueLaws.{flat_unique}
use Rattle.archive.specs.Outcome.{trees_of, flat_refusal, FlatOutcome}
use Rattle.ccg.specs.Ccg.{Line}
use Rattle.common.proofs.ListLaws.{length_tabulate, get_d_tabulate}
use Rattle.common.specs.Lists.{tabulate}
use Rattle.refusal.specs.Verdict.{Verdict, refusal, unless_refused}
use Rattle.layout.specs.Limits.{production_limit}
use Rattle.load.proofs.CheckLaws.{checked_unique}
use Rattle.load.specs.Absent.{absent_names}
use Rattle.load.specs.Check.{lines_answer, Checked}
use Rattle.meadowsink.proofs.ViewerLaws.{after_fits, used_short, call_unique}
use Rattle.meadowsink.specs.Flat.{root_entries, FlatCall, CheckCall}
use Rattle.meadowsink.specs.Viewer.{used_limit, UsedOutcome}
use Rattle.reply.proofs.ReplyLaws.{answered_fits, refusal_fits}
use Rattle.reply.specs.Answers.{read_reply, count_reply}
use Rattle.reply.specs.Reply.{refused, Fits}
use Rattle.reply.specs.declared.Reply.{Reply}
use Rattle.engine.specs.declared.Answer.{Answer}
use Rattle.std.specs.Prelude.{Result, Ok, Err}
use Rattle.refusal.specs.declared.Fault.TheVariants.{Form}
use Rattle.refusal.specs.declared.Refusal.{Refusal}

-- ---- the root

-- The entries below r are those of the bytes.
pub record EntriesTo (bytes : List ℕ) (r : ℕ) (entries : List Bool) : Type 0 where
  pub long : length entries ≡ production_limit
  pub are : (k : ℕ) → k < r → get_or entries k false ≡ not (eqb (get_or bytes k 0) 0)

pub entries_none : (bytes : List ℕ) (entries : List Bool) → length entries ≡ production_limit → EntriesTo bytes 0 entries
entries_none bytes entries long = record { long = long; are = λ k l. absurd (omega arith) }

pub entries_more : (bytes : List ℕ) (entries : List Bool) (r : ℕ) (y : Bool) → r < production_limit → y ≡ not (eqb (get_or bytes r 0) 0) → EntriesTo bytes r entries → EntriesTo bytes (r + 1) (set entries r y)
entries_more bytes entries r y l e h =
    record {
      long = length-set entries r y ∙ h.long;
      are = λ k m. elim (ℕ_discrete k r) [
        | yes same ↦ rw (same, get_or-set_same entries r y false (omega (arith, h.long))) e
        | no other ↦ (get_or-set_other entries r k y false other ∙ h.are k (omega arith))
      ];
    }

-- all entries
pub entries_are : (bytes : List ℕ) (entries : List Bool) → length entries ≡ production_limit → ((r : ℕ) → r < production_limit → get_or entries r false ≡ not (eqb (get_or bytes r 0) 0)) → entries ≡ root_entries bytes
unfolding root_entries
entries_are bytes entries long are =
    let yes_at : ℕ → Bool = λ r. not (eqb (get_or bytes r 0) 0) in
    ext_get_or false entries (tabulate production_limit yes_at) (long ∙ sym (length_tabulate production_limit yes_at))
    (λ r l. are r (omega arith) ∙ sym (get_d_tabulate production_limit yes_at r false (omega arith)))

-- ---- the replies fit

pub flat_read_fits : (flat : List ℕ) (roots : List Bool) (w c₀ l₀ : List ℕ) (r : Answer Refusal) (c l : List ℕ) → UsedOutcome (FlatOutcome flat roots w) c₀ l₀ r c l → Fits (read_reply refused r)
unfolding FlatOutcome read_reply
flat_read_fits flat roots w c₀ l₀ r c l o =
    ⊎_elim
    (λ (place, not_in, is, chart, listing). subst⁻¹ (λ (x : Answer Refusal). Fits (read_reply refused x)) is (refusal_fits (refusal Form place)))
    (λ (g, says, u). after_fits (trees_of g roots w) c₀ (take used_limit l₀) r c o.used (flat_refusal g roots w c₀) (used_short l₀) u)
    o.outcome

lines_fit : (g : List Line) → length g ≤ production_limit → (v : Verdict) → Fits (count_reply refused (unless_refused v (Ok (length g))))
unfolding count_reply
lines_fit g few (Ok _) = answered_fits 1 (length g) (omega arith) (omega arith)
lines_fit g few (Err r) = refusal_fits r

pub check_flat_fits : (flat : List ℕ) (r : Result ℕ Refusal) → Checked flat r → Fits (count_reply refused r)
unfolding Checked lines_answer count_reply
check_flat_fits flat r h =
    ⊎_elim
    (λ (place, not_in, is). subst⁻¹ (λ (x : Result ℕ Refusal). Fits (count_reply refused x)) is (refusal_fits (refusal Form place)))
    (λ (g, says, is). subst⁻¹ (λ (x : Result ℕ Refusal). Fits (count_reply refused x)) is (lines_fit g says.writable.few (absent_names g)))
    h

-- ---- the outcomes

-- For one input, two outcomes of a call that meet its promise have the same number and the same bytes.
pub flat_call_unique : (number : Reply → ℕ) (flat roots w c₀ l₀ : List ℕ) (r r' : ℕ) (c c' l l' : List ℕ) → FlatCall number flat roots w c₀ l₀ r c l → FlatCall number flat roots w c₀ l₀ r' c' l'
    → (r ≡ r') × (c ≡ c') × (l ≡ l')
flat_call_unique number flat roots w c₀ l₀ = call_unique (FlatOutcome flat (root_entries roots) w) (flat_unique flat (root_entries roots) w) c₀ l₀ number

pub check_call_unique : (number : Reply → ℕ) (flat : List ℕ) (r r' : ℕ) → CheckCall number flat r → CheckCall number flat r' → r ≡ r'
check_call_unique number flat r r' h k =
    h.is_number ∙ ap (λ (answer : Result ℕ Refusal). number (count_reply refused answer)) (checked_unique flat h.answer k.answer h.outcome k.outcome) ∙ sym k.is_number
