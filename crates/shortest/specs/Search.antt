-- The search for a shortest chain to y: how far each production is away from it, round by round, and which declaration leads one step nearer.
use Rattle.std.specs.Prelude.{ℕ, zero, suc, ◌+◌, ◌≤◌, ◌<◌, ◌≡◌, List, ◌⊎◌, length, get_or}
use Rattle.common.specs.Lists.{tabulate}
use Rattle.layout.specs.Layout.{second}
use Rattle.layout.specs.Limits.{production_limit}
use Rattle.shortest.specs.Chain.{SaysHigher}

-- the distance of a production from which no chain was found: more than any that was
abbrev pub far : ℕ
far = production_limit

-- How many declarations x is away from y.
abbrev pub away : List ℕ → ℕ → ℕ
away distance x = get_or distance x far

-- The declaration that leads on from x, and where it leads.
abbrev pub onward_from : List ℕ → ℕ → ℕ
onward_from next x = get_or next x 0

abbrev pub ahead : (b next : List ℕ) → ℕ → ℕ
ahead b next x = second b (onward_from next x)

-- ---- the distances

-- The distances that are written are right: only y is 0 away, and what is n + 1 away has a declaration to what is n away.
pub record Sound (b : List ℕ) (y : ℕ) (distance next : List ℕ) : Type 0 where
  pub distances : length distance ≡ production_limit
  pub nexts : length next ≡ production_limit
  pub start : away distance y ≡ 0
  pub home : (x : ℕ) → away distance x ≡ 0 → x ≡ y
  pub step : (x : ℕ) → 0 < away distance x → away distance x < far
      → SaysHigher b (onward_from next x) x (ahead b next x) × (away distance (ahead b next x) + 1 ≡ away distance x)

-- None that is written is more than k.
abbrev pub Within : ℕ → List ℕ → Type 0
Within k distance = (x : ℕ) → (away distance x ≤ k) ⊎ (away distance x ≡ far)

-- Round k has passed a declaration if it leads to what is nearer than k, or is one of the first n and leads to what is k away.
abbrev pub Passed : (k n distance d : ℕ) → Type 0
Passed k n distance d = (distance < k) ⊎ ((distance ≡ k) × (d < n))

-- By no declaration that was passed is a production nearer than its distance says.
abbrev pub Least : (b : List ℕ) (k n : ℕ) → List ℕ → Type 0
Least b k n distance = (d x z : ℕ) → SaysHigher b d x z → Passed k n (away distance z) d → away distance x ≤ away distance z + 1

-- After k rounds: all productions that are at most k away from y have their distance, and no others.
pub record Rounds (b : List ℕ) (y k : ℕ) (distance next : List ℕ) : Type 0 where
  pub sound : Sound b y distance next
  pub within : Within k distance
  pub least : Least b k 0 distance

-- One round more, back from whichever production.
abbrev pub RoundMore : (b : List ℕ) (k : ℕ) (distance next distance' next' : List ℕ) → Type 0
RoundMore b k distance next distance' next' = (y : ℕ) → Rounds b y k distance next → Rounds b y (k + 1) distance' next'

-- ---- the way

-- The production that is reached from p in k steps.
unfoldable pub reached : (b next : List ℕ) → ℕ → ℕ → ℕ
reached b next p zero = p
reached b next p (suc k) = ahead b next (reached b next p k)

-- The declarations of n steps from p.
abbrev pub way : (b next : List ℕ) → ℕ → ℕ → List ℕ
way b next p n = tabulate n (λ k. onward_from next (reached b next p k))

-- Each of these steps is by a declaration.
abbrev pub Steps : (b next : List ℕ) → ℕ → ℕ → Type 0
Steps b next p n = (k : ℕ) → k < n → SaysHigher b (onward_from next (reached b next p k)) (reached b next p k) (reached b next p (suc k))
