-- The flat tables as a grammar of the theory: what a parser that knows the tables alone parses.
use Rattle.std.specs.Prelude.{ℕ, Bool, List, length}
use Rattle.tables.specs.Layout.{slot, counts_of, arity_in, takes_char, takes_production}
use Rattle.theory.specs.Grammar.{Grammar}

-- a grammar given by its argument counts and its two tests
abbrev pub grammar_of : List ℕ → (chars subs : ℕ → ℕ → ℕ → Bool) → Grammar
grammar_of counts chars subs = record { count = length counts; arity = arity_in counts; chars = chars; subs = subs }

abbrev pub theory_of : List ℕ → Grammar
theory_of t = grammar_of (counts_of t) (λ p d c. takes_char t (slot p d) c) (λ p d q. takes_production t (slot p d) q)
