-- `priorities` meets its contract: chains of table entries are chains of declared pairs.
use Prim.Native.Nat.{ℕ}
use mathlib.Core.Path.{◌≡◌, refl, sym, ◌∙◌}
use mathlib.Core.Bool.{Bool, or_self}
use mathlib.Core.List.{List}
use native.Mathlib.Omega.{arith}
use Rattle.priority.proofs.ChainLaws.{chain_map}
use Rattle.priority.proofs.PriorityLaws.{declared_there_lem}
use Rattle.priority.specs.Chain.{entry}
use Rattle.priority.specs.Priorities.{higher, kind_number, declared, DeclaredPairs}
use Rattle.priority.proofs.priorities.Goals as goal

-- the pairs of "higher", asked for twice
higher_pairs : (b : List ℕ) (t : List (List Bool)) → DeclaredPairs b (kind_number higher) (kind_number higher) t → (x y : ℕ) → entry t x y ≡ declared b higher x y
unfolding kind_number
higher_pairs b t h x y = h higher higher refl refl x y ∙ or_self (declared b higher x y)

pub closed-requires : goal.closed-requires
unfolding kind_number
closed-requires c = (
  omega (arith, c.production_count.ensures, c.requires.framed.few_productions),
  λ x y e. let l = declared_there_lem c.args.book.now c.requires higher x y (sym (higher_pairs c.args.book.now c.declared_pairs.result c.declared_pairs.ensures x y) ∙ e) in omega (arith, c.production_count.ensures, l.0),
)

pub returns : goal.returns
unfolding kind_number
returns c x y =
    let d = higher_pairs c.args.book.now c.declared_pairs.result c.declared_pairs.ensures in
    let e = c.closed.ensures x y in
    ((λ h. chain_map (λ u v g. sym (d u v) ∙ g) (e.0 h)), (λ h. e.1 (chain_map (λ u v g. d u v ∙ g) h)))
