-- Why a production may not stand somewhere (02, [8], "Why it clashes"): which of the three lines of 01, "Ranks and clashes", and which declarations.
use Rattle.std.specs.Prelude.{ℕ, ◌≤◌, ◌<◌, ◌≡◌, Bool, false, true, ◌||◌, List, Option, None, Some, is_some, Result, Ok, Err}
use Rattle.refusal.specs.Verdict.{accepted}
use Rattle.layout.specs.Layout.{declarations}
use Rattle.priority.specs.Check.{checked}
use Rattle.priority.specs.Conflict.{Conflict, anywhere, at_first, at_last}
use Rattle.priority.specs.Priorities.{Kind, left, right, nonassoc, covers, declaration_of}
use Rattle.question.specs.Answer.{There, conflict_answer}
use Rattle.reason.specs.declared.Cause.{Cause}
use Rattle.reason.specs.declared.Cause.TheVariants.{Higher, AtFirst, AtLast}
use Rattle.refusal.specs.declared.Refusal.{Refusal}
use Rattle.shortest.specs.Written.{ShortestWritten}

-- The line of 01 that a conflict is by.
unfoldable pub line_of : {b : List ℕ} {p i q : ℕ} → Conflict b p i q → ℕ
line_of (anywhere fit above) = 1
line_of (at_first fit first declared) = 2
line_of (at_last fit last declared) = 3

-- The lowest line that holds.
pub record LowestLine (b : List ℕ) (p i q line : ℕ) : Type 0 where
  pub conflict : Conflict b p i q
  pub is_line : line_of conflict ≡ line
  pub lowest : (other : Conflict b p i q) → line ≤ line_of other

-- Declaration d, of two productions or of a group, covers the pair with kind k or as not together: the kinds that a line names, right in line 2 and left in line 3.
abbrev pub covers_side : List ℕ → Kind → ℕ → ℕ → ℕ → Bool
covers_side b k p q d = covers (declaration_of b d) k p q || covers (declaration_of b d) nonassoc p q

-- It is the lowest that does.
pub record LowestDeclaration (b : List ℕ) (k : Kind) (p q d : ℕ) : Type 0 where
  pub there : d < declarations b
  pub covering : covers_side b k p q d ≡ true
  pub lower : (e : ℕ) → e < d → covers_side b k p q e ≡ false

-- The question has an answer: the grammar is accepted, and what is asked about is there.
abbrev pub Asked : List ℕ → ℕ → ℕ → ℕ → Type 0
Asked b p i q = (checked b ≡ accepted) × There b p i q

-- What is behind an answer, if the buffer for a chain held c₀ and then holds c: of a conflict its line, and for line 1 a shortest chain of declarations, which
-- stands in the buffer, for the others the lowest declaration. By any other answer than line 1 the buffer is as it was.
unfoldable pub Behind : (b : List ℕ) (p i q : ℕ) (c₀ : List ℕ) → Result (Option Cause) Refusal → (c : List ℕ) → Type 0
Behind b p i q c₀ (Ok None) c = c ≡ c₀
Behind b p i q c₀ (Ok (Some (Higher n))) c = LowestLine b p i q 1 × ShortestWritten b p q c₀ n c
Behind b p i q c₀ (Ok (Some (AtFirst d))) c = LowestLine b p i q 2 × LowestDeclaration b right p q d × (c ≡ c₀)
Behind b p i q c₀ (Ok (Some (AtLast d))) c = LowestLine b p i q 3 × LowestDeclaration b left p q d × (c ≡ c₀)
Behind b p i q c₀ (Err r) c = c ≡ c₀

-- The answer to the plain question that a reason is an answer to.
unfoldable pub plainly : Result (Option Cause) Refusal → Result Bool Refusal
plainly (Ok reason) = Ok (is_some reason)
plainly (Err r) = Err r

-- What the question for the reason gives: yes, no and the refusals as the plain question has them, and what is behind.
pub record Reasoned (b : List ℕ) (p i q : ℕ) (c₀ : List ℕ) (r : Result (Option Cause) Refusal) (c : List ℕ) : Type 0 where
  pub plain : plainly r ≡ conflict_answer b p i q
  pub behind : Behind b p i q c₀ r c
