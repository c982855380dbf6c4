-- The lines of a sheet are those that joined give it back, with its last line ended: these and no others.
use Prim.Native.Nat.{ℕ, suc}
use mathlib.Core.Path.{◌≡◌, refl, sym, ◌∙◌, ap}
use mathlib.Core.Bool.{Bool, true, false}
use mathlib.Core.List.{List, [], ◌∷◌, ◌++◌}
use lib.Dec.{eqb}
use lib.ListN.{take, drop}
use borrow.Author.Tests.{eqb-true, eqb-false, ne_eqb}
use Rattle.common.specs.Lists.{joined, All}
use Rattle.split.proofs.LinesLaws.{lines_first}
use Rattle.split.specs.Joined.{joined_lines, NoFeed, ended}
use Rattle.split.specs.Lines.{line_feed, in_front, lines, before_feed}

-- ---- joined they are the sheet

-- a byte in front of lines, of which there are some
front_joined : (x : ℕ) (ws : List (List ℕ)) (w : List ℕ) (others : List (List ℕ)) → ws ≡ w ∷ others → joined_lines (in_front x ws) ≡ x ∷ joined_lines ws
unfolding in_front joined
front_joined x ws w others e = rw e refl

pub lines_joined : (s : List ℕ) → joined_lines (lines s) ≡ ended s
unfolding lines in_front joined ended
lines_joined [] = refl
lines_joined (x ∷ []) = by_byte (eqb x line_feed) refl
  where
    by_byte : (t : Bool) → eqb x line_feed ≡ t → joined_lines (lines (x ∷ [])) ≡ ended (x ∷ [])
    by_byte true e = rw e (ap (λ (y : ℕ). y ∷ []) (sym (eqb-true x line_feed e)))
    by_byte false e = rw e refl
lines_joined (x ∷ y ∷ s) = by_byte (lines_joined (y ∷ s)) (eqb x line_feed) refl
  where
    by_byte : joined_lines (lines (y ∷ s)) ≡ ended (y ∷ s) → (t : Bool) → eqb x line_feed ≡ t → joined_lines (lines (x ∷ y ∷ s)) ≡ ended (x ∷ y ∷ s)
    by_byte h true e = rw e (ap (λ (l : List ℕ). line_feed ∷ l) h ∙ ap (λ (z : ℕ). z ∷ ended (y ∷ s)) (sym (eqb-true x line_feed e)))
    by_byte h false e =
        rw e (front_joined x (lines (y ∷ s)) (take (before_feed (y ∷ s)) (y ∷ s)) (lines (drop (suc (before_feed (y ∷ s))) (y ∷ s))) (lines_first y s) ∙ ap (λ (l : List ℕ). x ∷ l) h)

-- ---- no line feed is part of them

front_plain : (x : ℕ) (ws : List (List ℕ)) → (x ≡ line_feed → ⊥) → All NoFeed ws → All NoFeed (in_front x ws)
unfolding in_front
front_plain x [] other h = ((other, tt), tt)
front_plain x (w ∷ ws) other h = ((other, h.0), h.1)

pub lines_plain : (s : List ℕ) → All NoFeed (lines s)
unfolding lines
lines_plain [] = tt
lines_plain (x ∷ s) = by_byte (lines_plain s) (eqb x line_feed) refl
  where
    by_byte : All NoFeed (lines s) → (t : Bool) → eqb x line_feed ≡ t → All NoFeed (lines (x ∷ s))
    by_byte h true e = rw e (tt, h)
    by_byte h false e = rw e (front_plain x (lines s) (eqb-false x line_feed e) h)

-- ---- and there are no others

line_first : (w s : List ℕ) → NoFeed w → lines (w ++ (line_feed ∷ []) ++ s) ≡ w ∷ lines s
unfolding lines in_front
line_first [] s h = refl
line_first (x ∷ w) s h = rw (ne_eqb x line_feed h.0) (ap (in_front x) (line_first w s h.1))

lines_of_joined : (ws : List (List ℕ)) → All NoFeed ws → lines (joined_lines ws) ≡ ws
unfolding lines joined
lines_of_joined [] h = refl
lines_of_joined (w ∷ ws) h = line_first w (joined_lines ws) h.0 ∙ ap (λ (l : List (List ℕ)). w ∷ l) (lines_of_joined ws h.1)

pub lines_only : (s : List ℕ) (ws : List (List ℕ)) → All NoFeed ws → joined_lines ws ≡ ended s → ws ≡ lines s
lines_only s ws h e = sym (lines_of_joined ws h) ∙ ap lines (e ∙ sym (lines_joined s)) ∙ lines_of_joined (lines s) (lines_plain s)
