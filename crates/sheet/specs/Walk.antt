-- Steps down a sheet, one after the other (02, [4]).
use Rattle.std.specs.Prelude.{ℕ, zero, suc, ◌≡◌, List, [], ◌∷◌, Some, None, Ok}
use Rattle.sheet.specs.Outcome.{StepOutcome, Step}

-- From a start and with a chart that holds c₀ steps are taken that give these in turn; the walker then stands at `next`, and the chart holds c.
unfoldable pub Steps : (b s : List ℕ) (start : ℕ) (c₀ : List ℕ) → List Step → (next : ℕ) (c : List ℕ) → Type 0
Steps b s start c₀ [] next c = (next ≡ start) × (c ≡ c₀)
Steps b s start c₀ (r ∷ rs) next c = (then : ℕ) × (c₁ : List ℕ) × StepOutcome b s start c₀ r then c₁ × Steps b s then c₁ rs next c

-- What k steps give of lines with these bytes: the bytes in turn, and then, however many steps are left, that no line is.
unfoldable pub given : ℕ → List ℕ → List Step
given zero bytes = []
given (suc k) [] = (Ok None) ∷ given k []
given (suc k) (v ∷ bytes) = (Ok (Some v)) ∷ given k bytes
