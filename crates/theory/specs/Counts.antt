-- How many things there are of which P holds: none, one, or more than one.
use Rattle.std.specs.Prelude.{ℕ, zero, suc, ◌≤◌, ◌≡◌}

-- x, and nothing else.
pub record Only {A : Type 0} (P : A → Type 0) (x : A) : Type 0 where
  pub holds : P x
  pub alone : (y : A) → P y → y ≡ x

-- Two different things.
abbrev pub Two : {A : Type 0} → (A → Type 0) → Type 0
Two {A} P = (x : A) × (y : A) × P x × P y × (x ≡ y → ⊥)

-- 0: there is none; 1: there is one and no other; 2: there are two different ones. It is never more.
unfoldable pub Counts : {A : Type 0} → (A → Type 0) → ℕ → Type 0
Counts {A} P zero = (x : A) → P x → ⊥
Counts {A} P (suc zero) = (x : A) × Only P x
Counts {A} P (suc (suc zero)) = Two P
Counts {A} P (suc (suc (suc v))) = ⊥

-- There are at least v of them, as far as v is at most 2.
pub record Shown {A : Type 0} (P : A → Type 0) (v : ℕ) : Type 0 where
  pub one : 1 ≤ v → (x : A) × P x
  pub two : 2 ≤ v → Two P
