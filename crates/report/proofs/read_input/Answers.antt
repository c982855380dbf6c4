-- What was read is the start of what the reader had.
use Rattle.std.proofs.Common.{◌≡◌, ◌++◌, [], take, IfSome, ℕ, List, option_map, None, Some, Option, arith, subst, ap}
use Rattle.std.proofs.lemmas.Grind.{common_steps}
use Rattle.report.proofs.read_input.Goals as goal

start_of : (known : Option (List ℕ)) (limit n : ℕ) (before read cut : List ℕ) → limit ≡ n → before ≡ [] → IfSome (option_map (take limit) known) (λ xs. read ≡ before ++ xs)
    → cut ≡ take n read → IfSome known (λ all. cut ≡ take n all)
start_of None limit n before read cut l b h t = tt
start_of (Some all) limit n before read cut l b h t = grind (arith, common_steps)

pub returns-clause-value : goal.returns-clause-value
returns-clause-value g c =
    subst
    (λ known. IfSome known (λ all. c.truncate.new.self.items ≡ take 65536 all))
    (ap g.R.Read.remaining c.take.ensures.inner)
    (start_of (g.R.Read.remaining c.take.result.inner) c.take.result.limit 65536 c.new-bytes.result.items c.read_to_end.new.buf.items c.truncate.new.self.items c.take.ensures.limit c.new-bytes.ensures.items c.in_ok-read_to_end.ensures.bytes c.truncate.ensures.items)
