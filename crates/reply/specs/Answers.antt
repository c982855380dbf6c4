-- What each answer of an operation is for programs in C (include/meadowsink.h): its kind, its value and, of a refusal, its place. What refuses is of any type R,
-- and `replied` says what it is as a reply.
use Rattle.std.specs.Prelude.{ℕ, ◌+◌, ◌*◌, ◌≤◌, ◌<◌, nat_abs, true, false, None as Nothing, Some, Option, Bool, Result, Ok, Err, ⊤}
use Rattle.std.proofs.Math.IntN.{suc_ℤ}
use Rattle.common.specs.Bytes.{byte_values}
use Rattle.engine.specs.declared.Answer.{Answer}
use Rattle.engine.specs.declared.Answer.TheVariants.{None, One, Several, Refused}
use Rattle.listing.specs.declared.Judgement.{Judgement}
use Rattle.listing.specs.declared.Judgement.TheVariants.{Right, Wrong}
use Rattle.order.specs.Order.{order_number}
use Rattle.order.specs.declared.Order.{Order}
use Rattle.reason.specs.declared.Cause.{Cause}
use Rattle.reason.specs.declared.Cause.TheVariants.{Higher, AtFirst, AtLast}
use Rattle.reply.specs.Reply.{answered}
use Rattle.reply.specs.declared.Reply.{Reply}
use Rattle.sheet.specs.Refusals.{sheet_limit}

-- how many values a summary byte has
abbrev pub summary_values : ℕ
summary_values = 4

-- checking a grammar: 0 accepted
unfoldable pub check_reply : {R : Type 0} → (R → Reply) → Result ⊤ R → Reply
check_reply replied (Ok _) = answered 0 0
check_reply replied (Err r) = replied r

-- the conflict question: 0 no, 1 yes
unfoldable pub conflict_reply : {R : Type 0} → (R → Reply) → Result Bool R → Reply
conflict_reply replied (Ok false) = answered 0 0
conflict_reply replied (Ok true) = answered 1 0
conflict_reply replied (Err r) = replied r

-- writing into a buffer, and checking a flat text: 1 written or accepted, the value is how many bytes, or how many lines
unfoldable pub count_reply : {R : Type 0} → (R → Reply) → Result ℕ R → Reply
count_reply replied (Ok n) = answered 1 n
count_reply replied (Err r) = replied r

-- checking a listing: 0 right, 1 wrong, the value is the index
unfoldable pub listing_reply : {R : Type 0} → (R → Reply) → Result Judgement R → Reply
listing_reply replied (Ok Right) = answered 0 0
listing_reply replied (Ok (Wrong index)) = answered 1 index
listing_reply replied (Err r) = replied r

-- reading a text: 0 none, 1 one, the value is the length of its listing, 2 several
unfoldable pub read_reply : {R : Type 0} → (R → Reply) → Answer R → Reply
read_reply replied None = answered 0 0
read_reply replied (One n) = answered 1 n
read_reply replied Several = answered 2 0
read_reply replied (Refused r) = replied r

-- a step down a sheet: 0 no line is left, 1 a line, the value is 4 × where the next line starts + its summary byte
unfoldable pub step_reply : {R : Type 0} → (R → Reply) → Result (Option ℕ) R → (next : ℕ) → Reply
step_reply replied (Ok Nothing) next = answered 0 0
step_reply replied (Ok (Some v)) next = answered 1 (summary_values * next + v)
step_reply replied (Err r) next = replied r

-- Where the next line starts, behind a line, is small enough for the value.
unfoldable pub Near : {R : Type 0} → Result (Option ℕ) R → (next : ℕ) → Type 0
Near (Ok Nothing) next = Unit {0}
Near (Ok (Some v)) next = next ≤ sheet_limit
Near (Err r) next = Unit {0}

-- how many values the line of a conflict may have, with room for none
abbrev pub line_values : ℕ
line_values = 4

-- the reason of a conflict: 0 no conflict, 1 a conflict, the value is 4 × n + its line, where n is how long the chain is, or which declaration it is
unfoldable pub cause_value : Cause → ℕ
cause_value (Higher n) = line_values * n + 1
cause_value (AtFirst d) = line_values * d + 2
cause_value (AtLast d) = line_values * d + 3

unfoldable pub reason_reply : {R : Type 0} → (R → Reply) → Result (Option Cause) R → Reply
reason_reply replied (Ok Nothing) = answered 0 0
reason_reply replied (Ok (Some cause)) = answered 1 (cause_value cause)
reason_reply replied (Err r) = replied r

-- What a reason counts is small enough for the value: declarations are counted by a byte.
unfoldable pub FewOf : Cause → Type 0
FewOf (Higher n) = n < byte_values
FewOf (AtFirst d) = d < byte_values
FewOf (AtLast d) = d < byte_values

unfoldable pub Few : {R : Type 0} → Result (Option Cause) R → Type 0
Few (Ok Nothing) = Unit {0}
Few (Ok (Some cause)) = FewOf cause
Few (Err r) = Unit {0}

-- the order of two parses: 02's number, which is -1, 0, 1 or 2, and 1
unfoldable pub order_value : Order → ℕ
order_value o = nat_abs (suc_ℤ (order_number o))

-- comparing two parses: 1 compared, the value is 0 below, 1 equal counts, 2 above, 3 neither
unfoldable pub compare_reply : {R : Type 0} → (R → Reply) → Result Order R → Reply
compare_reply replied (Ok o) = answered 1 (order_value o)
compare_reply replied (Err r) = replied r
