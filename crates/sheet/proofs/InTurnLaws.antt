-- Laws of lines that are read in turn.
use Prim.Native.Nat.{ℕ, suc}
use mathlib.Core.Path.{◌≡◌, refl, sym, ◌∙◌, ap, ap₂, subst}
use mathlib.Core.List.{List, [], ◌∷◌}
use lib.ListN.{length}
use Rattle.common.proofs.AllLaws.{all_of_at}
use Rattle.common.specs.Lists.{All}
use Rattle.sheet.specs.Outcome.{InTurn}

-- What one relation says of lines another says too, if it does of each of them.
pub turn_carried_of : (P : List ℕ → Type 0) (R S : (w c₀ : List ℕ) (v : ℕ) (c : List ℕ) → Type 0) → ((w : List ℕ) → P w → (c₀ : List ℕ) (v : ℕ) (c : List ℕ) → R w c₀ v c → S w c₀ v c)
    → (ws : List (List ℕ)) → All P ws → (c₀ bytes c : List ℕ) → InTurn R ws c₀ bytes c → InTurn S ws c₀ bytes c
unfolding InTurn
turn_carried_of P R S h [] ps c₀ [] c t = t
turn_carried_of P R S h [] ps c₀ (v ∷ bytes) c t = absurd t
turn_carried_of P R S h (w ∷ ws) ps c₀ [] c t = absurd t
turn_carried_of P R S h (w ∷ ws) ps c₀ (v ∷ bytes) c t = (t.0, h w ps.0 c₀ v t.0 t.1, turn_carried_of P R S h ws ps.1 t.0 bytes c t.2)

pub turn_carried : (R S : (w c₀ : List ℕ) (v : ℕ) (c : List ℕ) → Type 0) → ((w c₀ : List ℕ) (v : ℕ) (c : List ℕ) → R w c₀ v c → S w c₀ v c)
    → (ws : List (List ℕ)) (c₀ bytes c : List ℕ) → InTurn R ws c₀ bytes c → InTurn S ws c₀ bytes c
turn_carried R S h ws c₀ bytes c t = turn_carried_of (λ (w : List ℕ). Unit {0}) R S (λ w u. h w) ws (all_of_at (λ (w : List ℕ). Unit {0}) ws [] (λ k l. tt)) c₀ bytes c t

-- a byte to each line
pub turn_length : (R : (w c₀ : List ℕ) (v : ℕ) (c : List ℕ) → Type 0) (ws : List (List ℕ)) (c₀ bytes c : List ℕ) → InTurn R ws c₀ bytes c → length bytes ≡ length ws
unfolding InTurn
turn_length R [] c₀ [] c t = refl
turn_length R [] c₀ (v ∷ bytes) c t = absurd t
turn_length R (w ∷ ws) c₀ [] c t = absurd t
turn_length R (w ∷ ws) c₀ (v ∷ bytes) c t = ap suc (turn_length R ws t.0 bytes c t.2)

-- if R determines byte and chart of a line, those of all are determined
pub turn_unique : (R : (w c₀ : List ℕ) (v : ℕ) (c : List ℕ) → Type 0) → ((w c₀ : List ℕ) (n m : ℕ) (c d : List ℕ) → R w c₀ n c → R w c₀ m d → (n ≡ m) × (c ≡ d))
    → (ws : List (List ℕ)) (c₀ xs ys c d : List ℕ) → InTurn R ws c₀ xs c → InTurn R ws c₀ ys d → (xs ≡ ys) × (c ≡ d)
unfolding InTurn
turn_unique R h [] c₀ [] [] c d t u = (refl, t ∙ sym u)
turn_unique R h [] c₀ [] (y ∷ ys) c d t u = absurd u
turn_unique R h [] c₀ (x ∷ xs) ys c d t u = absurd t
turn_unique R h (w ∷ ws) c₀ [] ys c d t u = absurd t
turn_unique R h (w ∷ ws) c₀ (x ∷ xs) [] c d t u = absurd u
turn_unique R h (w ∷ ws) c₀ (x ∷ xs) (y ∷ ys) c d t u =
    let one = h w c₀ x y t.0 u.0 t.1 u.1 in
    let rest = turn_unique R h ws u.0 xs ys c d (subst (λ (e : List ℕ). InTurn R ws e xs c) one.1 t.2) u.2 in
    (ap₂ (λ (v : ℕ) (l : List ℕ). v ∷ l) one.0 rest.0, rest.1)
