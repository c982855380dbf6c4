-- Texts whose place of refusal 27 is easily taken for another (02, [7]).
use Rattle.std.specs.Prelude.{ℕ, List, [], ◌∷◌}
use Rattle.form.specs.Form.{NotInForm}

-- A text and its place.
pub record Corner : Type 0 where
  pub text : List ℕ
  pub place : ℕ

abbrev pub corner : List ℕ → ℕ → Corner
corner text place = record { text = text; place = place }

-- It is refused by 27, at this place.
abbrev pub StopsThere : Corner → Type 0
StopsThere c = NotInForm c.text c.place

-- the text, written out, and why it stops there
abbrev pub corners : List Corner
corners =
    -- [\48\49]: no number from 50 to 255 begins with 4
    corner (91 ∷ 92 ∷ 52 ∷ 56 ∷ 92 ∷ 52 ∷ 57 ∷ 93 ∷ []) 5 ∷
    -- [\8\9]: 9 touches 8, only 90 to 99 would go on
    corner (91 ∷ 92 ∷ 56 ∷ 92 ∷ 57 ∷ 93 ∷ []) 5 ∷
    -- [\24\25]: 25 touches 24, only 250 to 255 would go on
    corner (91 ∷ 92 ∷ 50 ∷ 52 ∷ 92 ∷ 50 ∷ 53 ∷ 93 ∷ []) 7 ∷
    -- [\3-\0: a range rises
    corner (91 ∷ 92 ∷ 51 ∷ 45 ∷ 92 ∷ 48 ∷ []) 5 ∷
    -- [\254\: behind 254 no number is left
    corner (91 ∷ 92 ∷ 50 ∷ 53 ∷ 52 ∷ 92 ∷ []) 5 ∷
    -- [\255-: nor behind 255
    corner (91 ∷ 92 ∷ 50 ∷ 53 ∷ 53 ∷ 45 ∷ []) 5 ∷
    -- [\256: 25 goes on, 256 is no character
    corner (91 ∷ 92 ∷ 50 ∷ 53 ∷ 54 ∷ []) 4 ∷
    -- [\01]: 0 is never continued
    corner (91 ∷ 92 ∷ 48 ∷ 49 ∷ 93 ∷ []) 3 ∷
    -- [\9-\10: it rises by value, and is only cut short
    corner (91 ∷ 92 ∷ 57 ∷ 45 ∷ 92 ∷ 49 ∷ 48 ∷ []) 7 ∷
    -- [\10-\9: the 9 begins 90 to 99
    corner (91 ∷ 92 ∷ 49 ∷ 48 ∷ 45 ∷ 92 ∷ 57 ∷ []) 7 ∷
    -- [\10-\9]: but it is none of them
    corner (91 ∷ 92 ∷ 49 ∷ 48 ∷ 45 ∷ 92 ∷ 57 ∷ 93 ∷ []) 7 ∷
    -- [\4-\5\6]: 60 to 69 go on, 6 alone touches
    corner (91 ∷ 92 ∷ 52 ∷ 45 ∷ 92 ∷ 53 ∷ 92 ∷ 54 ∷ 93 ∷ []) 8 ∷
    -- [\331: 33 is a character, 331 is above all numbers
    corner (91 ∷ 92 ∷ 51 ∷ 51 ∷ 49 ∷ []) 4 ∷
    -- [\97]-: a class ends in a space
    corner (91 ∷ 92 ∷ 57 ∷ 55 ∷ 93 ∷ 45 ∷ []) 5 ∷
    -- [\97\258]: characters and numbers of lines do not mix: 25 begins 250 to 255
    corner (91 ∷ 92 ∷ 57 ∷ 55 ∷ 92 ∷ 50 ∷ 53 ∷ 56 ∷ 93 ∷ []) 7 ∷
    -- -> [\259: line 0 ends in 258
    corner (45 ∷ 62 ∷ 32 ∷ 91 ∷ 92 ∷ 50 ∷ 53 ∷ 57 ∷ []) 7 ∷
    -- -> [\258]\n\n: a line begins with an arrow or a class
    corner (45 ∷ 62 ∷ 32 ∷ 91 ∷ 92 ∷ 50 ∷ 53 ∷ 56 ∷ 93 ∷ 10 ∷ 10 ∷ []) 10 ∷
    -- [] [] [] [] [] [] [] [] [] : a ninth argument
    corner (91 ∷ 93 ∷ 32 ∷ 91 ∷ 93 ∷ 32 ∷ 91 ∷ 93 ∷ 32 ∷ 91 ∷ 93 ∷ 32 ∷ 91 ∷ 93 ∷ 32 ∷ 91 ∷ 93 ∷ 32 ∷ 91 ∷ 93 ∷ 32 ∷ 91 ∷ 93 ∷ 32 ∷ 91 ∷ 93 ∷ 32 ∷ []) 24 ∷
    -- nothing: a text of no line
    corner ([]) 0 ∷
    []
