-- The reply for what an operation answers by itself, once the grammar's refusals are behind it, fits.
use Prim.Native.Nat.{ℕ, ◌+◌, ◌*◌, ◌≤◌, ◌<◌}
use mathlib.Core.Path.{◌≡◌, refl, subst}
use mathlib.Core.Bool.{Bool, false, true, cond}
use mathlib.Core.List.{List, [], ◌∷◌, ◌++◌}
use native.Mathlib.Omega.{arith}
use lib.Dec.{leb}
use lib.ListN.{length}
use Rattle.ccg.specs.Ccg.{Class, Line}
use Rattle.writing.specs.Answer.{fitted}
use Rattle.engine.specs.Outcome.{Parsing, Answered}
use Rattle.engine.specs.declared.Answer.{Answer}
use Rattle.listing.specs.Judge.{is_right, due_after, text_after, judge}
use Rattle.sheet.specs.Refusals.{sheet_limit}
use Rattle.reply.proofs.ReplyLaws.{answered_fits, refusal_fits}
use Rattle.reply.specs.Answers.{summary_values, conflict_reply, count_reply, listing_reply, read_reply, step_reply, Near}
use Rattle.reply.specs.Reply.{refused, value_limit, Fits}
use Rattle.engine.specs.declared.Answer.TheVariants.{None, One, Several, Refused}
use Rattle.listing.specs.declared.Judgement.TheVariants.{Wrong}
use Rattle.refusal.specs.Verdict.{refusal, refused as refusal_by}
use Rattle.refusal.specs.declared.Fault.{Fault}
use Rattle.refusal.specs.declared.Fault.TheVariants.{Absent}
use Rattle.refusal.specs.declared.Refusal.{Refusal}
use Rattle.sheet.specs.Outcome.{Step}
use Rattle.std.specs.Prelude.{None as Nothing, Some, Option, Result, Ok, Err}

-- the conflict question
pub own_conflict_fits : (there conflict : Bool) → Fits (conflict_reply refused (cond there (Ok conflict) (refusal_by Absent 0)))
unfolding conflict_reply
own_conflict_fits true true = answered_fits 1 0 (omega arith) (omega arith)
own_conflict_fits true false = answered_fits 0 0 (omega arith) (omega arith)
own_conflict_fits false conflict = refusal_fits (refusal Absent 0)

-- writing into a buffer
pub write_fits : (fault : Fault) (n size : ℕ) → n < value_limit → Fits (count_reply refused (fitted fault n size))
unfolding fitted count_reply
write_fits fault n size h =
    elim (leb n size) as (λ (t : Bool). Fits (count_reply refused (cond t (Ok n) (refusal_by fault n)))) [
      | true ↦ answered_fits 1 n (omega arith) h
      | false ↦ refusal_fits (refusal fault n)
    ]

-- checking a listing: the index of a wrong number is at most the count of numbers; there is no refusal
pub judge_fits : (g : List Line) (ns : List ℕ) (dues : List Class) (w : List ℕ) (k : ℕ) → k + length ns < value_limit → Fits (listing_reply refused (Ok (judge g ns dues w k)))
unfolding judge listing_reply
judge_fits g [] [] [] k h = answered_fits 0 0 (omega arith) (omega arith)
judge_fits g [] [] (c ∷ w) k h = answered_fits 1 k (omega arith) (omega arith)
judge_fits g [] (due ∷ dues) w k h = answered_fits 1 k (omega arith) (omega arith)
judge_fits g (n ∷ ns) [] w k h = answered_fits 1 k (omega arith) (omega arith)
judge_fits g (n ∷ ns) (due ∷ dues) w k h =
    let next = judge g ns (due_after g n ++ dues) (text_after g w n) (k + 1) in
    let later = judge_fits g ns (due_after g n ++ dues) (text_after g w n) (k + 1) (omega arith) in
    elim (is_right g due w n) as (λ (t : Bool). Fits (listing_reply refused (Ok (cond t next (Wrong k))))) [ true ↦ later | false ↦ answered_fits 1 k (omega arith) (omega arith) ]

-- reading a text
pub own_read_fits : (s : Parsing) (l₀ : List ℕ) (r : Answer Refusal) (l : List ℕ) → length l₀ < value_limit → Answered s.parse l₀ r l → Fits (read_reply refused r)
unfolding Answered read_reply
own_read_fits s l₀ None l h a = answered_fits 0 0 (omega arith) (omega arith)
own_read_fits s l₀ (One n) l h a = answered_fits 1 n (omega arith) (omega (arith, a.3))
own_read_fits s l₀ Several l h a = answered_fits 2 0 (omega arith) (omega arith)
own_read_fits s l₀ (Refused r) l h a = refusal_fits r

-- a step down a sheet
pub near_line : {R : Type 0} (r : Result (Option ℕ) R) (next v : ℕ) → r ≡ Ok (Some v) → Near r next → next ≤ sheet_limit
unfolding Near
near_line {R} r next v e h = subst (λ (x : Result (Option ℕ) R). Near x next) e h

pub step_fits : (r : Step) (next : ℕ) → Near r next → ((v : ℕ) → r ≡ Ok (Some v) → v < summary_values) → Fits (step_reply refused r next)
unfolding step_reply Near
step_fits (Ok Nothing) next h small = answered_fits 0 0 (omega arith) (omega arith)
step_fits (Ok (Some v)) next h small = answered_fits 1 (summary_values * next + v) (omega arith) (omega (arith, small v refl))
step_fits (Err r) next h small = refusal_fits r
