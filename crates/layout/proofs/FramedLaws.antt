-- In a frame that stands, each part lies within the bytes.
use Prim.Native.Nat.{ℕ, ◌+◌, ◌*◌, ◌≤◌, ◌<◌}
use mathlib.Core.Path.{◌≡◌, ◌∙◌}
use mathlib.Core.List.{List}
use native.Mathlib.Omega.{arith}
use lib.ListN.{length}
use Rattle.layout.proofs.LayoutLaws.{production_first, class_first, declaration_first, production_within, production_after, class_within, class_after_productions, declaration_within, declaration_after_classes, needed_is_end}
use Rattle.layout.specs.Framed.{Framed}
use Rattle.layout.specs.Layout.{productions, classes, declarations, argument_count, range_count, bodies_at, production_at, class_at, declaration_at}

module _ (b : List ℕ) (f : Framed b) where
  end : length b ≡ declaration_at b (declarations b)
  end = f.length_is ∙ needed_is_end b

  pub declaration_in : (d : ℕ) → d < declarations b → declaration_at b d + 3 ≤ length b
  declaration_in d h = omega (arith, end, declaration_within b d h)

  pub class_in : (k : ℕ) → k < classes b → class_at b k + 2 * range_count b k ≤ length b
  class_in k h = omega (arith, end, class_within b k h, declaration_after_classes b (declarations b))

  pub production_in : (p : ℕ) → p < productions b → production_at b p + (1 + argument_count b p) ≤ length b
  production_in p h =
      omega (arith, end, production_within b p h, class_after_productions b (classes b), declaration_first b, declaration_after_classes b (declarations b))

  pub declarations_in : declaration_at b 0 ≤ length b
  declarations_in = omega (arith, end, declaration_after_classes b (declarations b))

  pub bodies_in : bodies_at b ≤ length b
  bodies_in =
      omega (arith, declarations_in, production_first b, production_after b (productions b), class_first b, class_after_productions b (classes b), declaration_first b)
