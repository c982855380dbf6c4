-- Chains of declarations by which a production is higher than another, and the shortest of them (02, [8]).
use Rattle.std.specs.Prelude.{ℕ, ◌≤◌, ◌<◌, ◌≡◌, List, [], ◌∷◌, length}
use Rattle.layout.specs.Layout.{declarations, kind, first, second}
use Rattle.priority.specs.Priorities.{higher, kind_number}

-- Declaration d, counted from 0, says that x is higher than y: it is of kind 1, x is its first production, and y its second.
pub record SaysHigher (b : List ℕ) (d x y : ℕ) : Type 0 where
  pub there : d < declarations b
  pub is_kind : kind b d ≡ kind_number higher
  pub is_first : first b d ≡ x
  pub is_second : second b d ≡ y

-- A chain of declarations, by their indices, leads from x to y: the second production of each is the first of the next.
pub data Leads (b : List ℕ) : (chain : List ℕ) → ℕ → ℕ → Type 0 where
  one : {d x y : ℕ} → SaysHigher b d x y → Leads b (d ∷ []) x y
  onward : {d x y z : ℕ} {chain : List ℕ} → SaysHigher b d x y → Leads b chain y z → Leads b (d ∷ chain) x z

-- It does, and it is as short as any that does.
pub record Shortest (b : List ℕ) (x y : ℕ) (chain : List ℕ) : Type 0 where
  pub leads : Leads b chain x y
  pub least : (other : List ℕ) → Leads b other x y → length chain ≤ length other
