-- Laws of a summary: line by line it comes about, what one relation says of the lines another says too, and it is determined.
use Prim.Native.Nat.{ℕ, ◌+◌, ◌≤◌, ◌<◌}
use mathlib.Core.Path.{◌≡◌, refl, sym, ◌∙◌, ap, subst, subst⁻¹}
use mathlib.Core.List.{List, [], ◌∷◌, ◌++◌, append_assoc, append-nil}
use native.Mathlib.Omega.{arith}
use native.Mathlib.Nat.{zero-add}
use lib.ListN.{length, set, drop, length-append}
use lib.Seq.{sets}
use Rattle.common.proofs.OverwrittenLaws.{sets_append, sets_front}
use Rattle.common.specs.Lists.{overwritten, All}
use Rattle.sheet.proofs.InTurnLaws.{turn_carried_of, turn_unique}
use Rattle.split.proofs.LinesLaws.{next_within, lines_at, lines_end}
use Rattle.split.specs.Lines.{lines, line_at, next_start}
use Rattle.sheet.specs.Outcome.{InTurn, Summed}

-- one more byte behind those written
overwritten_more : (bytes m₀ : List ℕ) (v : ℕ) → length bytes < length m₀ → set (overwritten bytes m₀) (length bytes) v ≡ overwritten (bytes ++ (v ∷ [])) m₀
overwritten_more bytes m₀ v l =
    let fits : length (bytes ++ (v ∷ [])) ≤ length m₀ = omega (arith, length-append bytes (v ∷ [])) in
    ap (λ (m : List ℕ). set m (length bytes) v) (sym (sets_front bytes m₀ (omega arith)))
    ∙ ap (λ (k : ℕ). set (sets m₀ 0 bytes) k v) (sym (zero-add (length bytes)))
    ∙ sym (sets_append bytes (v ∷ []) m₀ 0)
    ∙ sets_front (bytes ++ (v ∷ [])) m₀ fits

module _ (R : (w c₀ : List ℕ) (v : ℕ) (c : List ℕ) → Type 0) (s c₀ m₀ : List ℕ) where
  -- ---- line by line

  -- What is known at the start of a line: the bytes of those before it are written, and with those of the others they are the bytes of all.
  pub record SoFar (c m : List ℕ) (line start : ℕ) : Type 0 where
    pub bytes : List ℕ
    pub count : line ≡ length bytes
    pub within : start ≤ length s
    pub room : line + length (lines (drop start s)) ≤ length m₀
    pub written : m ≡ overwritten bytes m₀
    pub others : (more c' : List ℕ) → InTurn R (lines (drop start s)) c more c' → InTurn R (lines s) c₀ (bytes ++ more) c'

  pub far_first : length (lines s) ≤ length m₀ → SoFar c₀ m₀ 0 0
  far_first room = record { bytes = []; count = refl; within = omega arith; room = omega arith; written = refl; others = λ more c' t. t }

  module _ (c m : List ℕ) (line start : ℕ) (h : SoFar c m line start) where
    -- there is room for the byte of a line that is left
    pub far_room : start < length s → line < length m₀
    far_room l = omega (arith, h.room, ap length (lines_at s start l))

    pub far_more : start < length s → (next : ℕ) → next ≡ next_start s start → (v : ℕ) (c' : List ℕ) → R (line_at s start) c v c' → SoFar c' (set m line v) (line + 1) next
    unfolding InTurn
    far_more l next e v c' r =
        let at = lines_at s start l in
        let bytes = h.bytes in
        let front : length bytes < length m₀ = omega (arith, h.count, far_room l) in
        subst⁻¹ (SoFar c' (set m line v) (line + 1)) e
        record {
          bytes = bytes ++ (v ∷ []);
          count = omega (arith, h.count, length-append bytes (v ∷ []));
          within = next_within s start;
          room = omega (arith, h.room, ap length at);
          written = ap (λ (x : List ℕ). set x line v) h.written ∙ ap (λ (k : ℕ). set (overwritten bytes m₀) k v) h.count ∙ overwritten_more bytes m₀ v front;
          others = λ more d t. subst (λ (x : List ℕ). InTurn R (lines s) c₀ x d) (sym (append_assoc bytes (v ∷ []) more))
              (h.others (v ∷ more) d (subst⁻¹ (λ (ws : List (List ℕ)). InTurn R ws c (v ∷ more) d) at (c', r, t)));
        }

    pub far_last : length s ≤ start → Summed R s c₀ m₀ c m
    unfolding InTurn
    far_last l =
        let none : InTurn R (lines (drop start s)) c [] c = subst⁻¹ (λ (ws : List (List ℕ)). InTurn R ws c [] c) (lines_end s start l) refl in
        record { bytes = h.bytes; in_turn = subst (λ (x : List ℕ). InTurn R (lines s) c₀ x c) (append-nil h.bytes) (h.others [] c none); written = h.written }

-- ---- by another relation

pub summed_carried : (P : List ℕ → Type 0) (R S : (w c₀ : List ℕ) (v : ℕ) (c : List ℕ) → Type 0) → ((w : List ℕ) → P w → (c₀ : List ℕ) (v : ℕ) (c : List ℕ) → R w c₀ v c → S w c₀ v c)
    → (s c₀ m₀ c m : List ℕ) → All P (lines s) → Summed R s c₀ m₀ c m → Summed S s c₀ m₀ c m
summed_carried P R S h s c₀ m₀ c m ps u = record { bytes = u.bytes; in_turn = turn_carried_of P R S h (lines s) ps c₀ u.bytes c u.in_turn; written = u.written }

-- ---- it is determined

pub summed_unique : (R : (w c₀ : List ℕ) (v : ℕ) (c : List ℕ) → Type 0) → ((w c₀ : List ℕ) (n m : ℕ) (c d : List ℕ) → R w c₀ n c → R w c₀ m d → (n ≡ m) × (c ≡ d))
    → (s c₀ m₀ c d m n : List ℕ) → Summed R s c₀ m₀ c m → Summed R s c₀ m₀ d n → (c ≡ d) × (m ≡ n)
summed_unique R h s c₀ m₀ c d m n u v =
    let same = turn_unique R h (lines s) c₀ u.bytes v.bytes c d u.in_turn v.in_turn in
    (same.1, u.written ∙ ap (λ (x : List ℕ). overwritten x m₀) same.0 ∙ sym v.written)
