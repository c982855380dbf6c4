-- The steps of writing a tree with a stack of levels: one argument more, a level more, a level less; and the stack is no higher than there are productions and places.
use Prim.Native.Nat.{ℕ, zero, suc, ◌+◌, ◌*◌, ◌≤◌, ◌<◌}
use mathlib.Core.Path.{◌≡◌, refl, sym, ◌∙◌, ap, subst, subst⁻¹, subst₂}
use mathlib.Core.Bool.{true}
use mathlib.Core.List.{List, [], ◌∷◌, ◌++◌, append_assoc, append-nil}
use mathlib.Core.Logic.{by_cases}
use native.Mathlib.Omega.{arith}
use native.Mathlib.Decide.{dec_lt}
use native.Mathlib.Nat.{le_refl}
use native.Mathlib.Numerals.{add-one}
use lib.ListN.{length, get_or}
use Rattle.theory.proofs.PathsLaws.{OnlyTrees, path_bound}
use Rattle.theory.specs.Paths.{Under, last, before, Path, top, down}
use Rattle.extract.specs.Places.{Splits}
use Rattle.theory.specs.Grammar.{Grammar, Spells, Stands}
use Rattle.theory.specs.Tree.{Tree, node, Forest, none, ◌▷◌, production_number, listing, listings}
use Rattle.extract.specs.Walk.{Level, Walk}

-- from d on up, step by step
climb : (P : ℕ → Type 0) (d most : ℕ) → P d → ((k : ℕ) → d ≤ k → k < most → P k → P (suc k)) → (k : ℕ) → d ≤ k → k ≤ most → P k
climb P d most x s zero l h = let e : d ≡ 0 = omega arith in subst P e x
climb P d most x s (suc k) l h =
    by_cases (dec_lt k d)
    (λ y. let e : d ≡ suc k = omega arith in subst P e x)
    (λ y. s k (omega arith) (omega arith) (climb P d most x s k (omega arith) (omega arith)))

-- ---- one level

module _ (g : Grammar) (w : List ℕ) where
  -- a tree for each argument from d on
  abbrev Left : (q d : ℕ) → List ℕ → Type 0
  Left q d ends = (k : ℕ) → d ≤ k → k < g.arity q → (t : Tree) × Stands g w q k t (get_or ends k 0) (get_or ends (k + 1) 0)

  left_at : (q d : ℕ) (ends : List ℕ) → Left q d ends → (k : ℕ) → d ≤ k → k < g.arity q → (t : Tree) × Stands g w q k t (get_or ends k 0) (get_or ends (suc k) 0)
  left_at q d ends t k l h = subst (λ (n : ℕ). (t : Tree) × Stands g w q k t (get_or ends k 0) (get_or ends n 0)) (add-one k) (t k l h)

  -- they complete the trees before
  complete : (q i d : ℕ) (ends : List ℕ) (f : Forest) → Spells g w q f d i (get_or ends d 0) → Left q d ends → d ≤ g.arity q
      → (h : Forest) × Spells g w q h (g.arity q) i (get_or ends (g.arity q) 0) × ((rest : List ℕ) × (listings h ≡ listings f ++ rest))
  unfolding Spells listing
  complete q i d ends f s t l =
      climb (λ (k : ℕ). (h : Forest) × Spells g w q h k i (get_or ends k 0) × ((rest : List ℕ) × (listings h ≡ listings f ++ rest))) d (g.arity q)
      (f, s, ([], sym (append-nil (listings f))))
      (λ k a b x. let u = left_at q d ends t k a b in (
        x.0 ▷ u.0,
        (get_or ends k 0, x.1, u.1),
        (x.2.0 ++ listing u.0, ap (λ (v : List ℕ). v ++ listing u.0) x.2.1 ∙ append_assoc (listings f) x.2.0 (listing u.0)),
      ))
      (g.arity q) l (le_refl (g.arity q))

  -- a production among the first d arguments stands among all
  under_all : (p i d q m e : ℕ) (ends : List ℕ) → Under g w p d i (get_or ends d 0) q m e → Left p d ends → d ≤ g.arity p → Under g w p (g.arity p) i (get_or ends (g.arity p) 0) q m e
  under_all p i d q m e ends u t l =
      climb (λ (k : ℕ). Under g w p k i (get_or ends k 0) q m e) d (g.arity p) u
      (λ k a b x. let v = left_at p d ends t k a b in before v.0 x v.1)
      (g.arity p) l (le_refl (g.arity p))

  module _ (q₀ i₀ j₀ n : ℕ) where
    -- one tree more is written
    level_more : (q d : ℕ) (ends : List ℕ) (Next : List ℕ → Type 0) (done : List ℕ) (t : Tree) → Level g w q₀ i₀ j₀ n q d ends Next done → d < g.arity q
        → Stands g w q d t (get_or ends d 0) (get_or ends (d + 1) 0) → Level g w q₀ i₀ j₀ n q (d + 1) ends Next (done ++ listing t)
    unfolding Spells listing
    level_more q d ends Next done t s l r =
        record {
          path = s.path;
          few = omega arith;
          trees = s.trees ▷ t;
          spelled = subst⁻¹ (λ (k : ℕ). Spells g w q (s.trees ▷ t) k (get_or ends 0 0) (get_or ends (d + 1) 0)) (add-one d) (get_or ends d 0, s.spelled, r);
          start = s.start;
          listed = ap (λ (v : List ℕ). v ++ listing t) s.listed ∙ append_assoc s.start (production_number q ∷ listings s.trees) (listing t);
          left = λ k a b. s.left k (omega arith) b;
          onward = s.onward;
        }

    level_next : (q d : ℕ) (ends : List ℕ) (Next Next' : List ℕ → Type 0) (done : List ℕ) → ((l : List ℕ) → Next l → Next' l) → Level g w q₀ i₀ j₀ n q d ends Next done
        → Level g w q₀ i₀ j₀ n q d ends Next' done
    level_next q d ends Next Next' done e s =
        record { path = s.path; few = s.few; trees = s.trees; spelled = s.spelled; start = s.start; listed = s.listed; left = s.left; onward = λ h r. e (s.start ++ listing (node q h)) (s.onward h r) }

    level_same : (q q' d d' : ℕ) (ends ends' : List ℕ) (Next : List ℕ → Type 0) (done : List ℕ) → q ≡ q' → d ≡ d' → ends ≡ ends' → Level g w q₀ i₀ j₀ n q d ends Next done
        → Level g w q₀ i₀ j₀ n q' d' ends' Next done
    level_same q q' d d' ends ends' Next done a b c s =
        subst (λ (v : List ℕ). Level g w q₀ i₀ j₀ n q' d' v Next done) c (subst₂ (λ (x : ℕ) (y : ℕ). Level g w q₀ i₀ j₀ n x y ends Next done) a b s)

    -- the path to a production that stands as its next argument
    level_under : (q d : ℕ) (ends : List ℕ) (Next : List ℕ → Type 0) (done : List ℕ) (r : ℕ) → Level g w q₀ i₀ j₀ n q d ends Next done → d < g.arity q → r < g.count → g.subs q d r ≡ true
        → Path g w q₀ i₀ j₀ r (get_or ends d 0) (get_or ends (d + 1) 0) (suc (suc n))
    level_under q d ends Next done r s l b c =
        down s.path
        (under_all q (get_or ends 0 0) (d + 1) r (get_or ends d 0) (get_or ends (d + 1) 0) ends
        (subst⁻¹ (λ (k : ℕ). Under g w q k (get_or ends 0 0) (get_or ends (d + 1) 0) r (get_or ends d 0) (get_or ends (d + 1) 0)) (add-one d) (last s.trees s.spelled b c))
        (λ k x y. s.left k (omega arith) y)
        (omega arith))

-- ---- the stack

module _ (g : Grammar) (w : List ℕ) (q₀ i₀ j₀ : ℕ) where
  -- only the levels that stand open matter
  walk_same : (production production' written written' : ℕ → ℕ) (ends ends' : ℕ → List ℕ) (n : ℕ) → ((k : ℕ) → k < n → (production k ≡ production' k) × (written k ≡ written' k) × (ends k ≡ ends' k))
      → (done : List ℕ) → Walk g w q₀ i₀ j₀ production written ends n done → Walk g w q₀ i₀ j₀ production' written' ends' n done
  unfolding Walk
  walk_same production production' written written' ends ends' zero e done s = s
  walk_same production production' written written' ends ends' (suc n) e done s =
      let a = e n (omega arith) in
      level_next g w q₀ i₀ j₀ n (production' n) (written' n) (ends' n) (Walk g w q₀ i₀ j₀ production written ends n) (Walk g w q₀ i₀ j₀ production' written' ends' n) done
      (walk_same production production' written written' ends ends' n (λ k l. e k (omega arith)))
      (level_same g w q₀ i₀ j₀ n (production n) (production' n) (written n) (written' n) (ends n) (ends' n) (Walk g w q₀ i₀ j₀ production written ends n) done a.0 a.1 a.2 s)

  -- the first level
  pub walk_start : (production written : ℕ → ℕ) (ends : ℕ → List ℕ) → q₀ < g.count → i₀ ≤ length w → production 0 ≡ q₀ → written 0 ≡ 0 → Splits g w q₀ 0 i₀ j₀ (ends 0)
      → Walk g w q₀ i₀ j₀ production written ends 1 (production_number q₀ ∷ [])
  unfolding Walk Spells listing
  walk_start production written ends l h a b s =
      level_same g w q₀ i₀ j₀ 0 q₀ (production 0) 0 (written 0) (ends 0) (ends 0) (Walk g w q₀ i₀ j₀ production written ends 0) (production_number q₀ ∷ []) (sym a) (sym b) refl
      record {
        path = subst₂ (λ (x : ℕ) (y : ℕ). Path g w q₀ i₀ j₀ q₀ x y 1) (sym s.starts) (sym s.finishes) (top l);
        few = omega arith;
        trees = none;
        spelled = (refl, omega (arith, s.starts));
        start = [];
        listed = refl;
        left = s.trees;
        onward = λ f r. (f, subst₂ (λ (x : ℕ) (y : ℕ). Spells g w q₀ f (g.arity q₀) x y) s.starts s.finishes r, refl);
      }

  -- a level is done
  pub walk_pop : (production written : ℕ → ℕ) (ends : ℕ → List ℕ) (n : ℕ) (done : List ℕ) → Walk g w q₀ i₀ j₀ production written ends (suc n) done → written n ≡ g.arity (production n)
      → Walk g w q₀ i₀ j₀ production written ends n done
  unfolding Walk listing
  walk_pop production written ends n done s e =
      subst⁻¹ (Walk g w q₀ i₀ j₀ production written ends n) s.listed
      (s.onward s.trees (subst (λ (k : ℕ). Spells g w (production n) s.trees k (get_or (ends n) 0 0) (get_or (ends n) k 0)) e s.spelled))

  -- whatever is written, there is a tree whose listing begins so
  pub walk_complete : (production written : ℕ → ℕ) (ends : ℕ → List ℕ) (n : ℕ) (done : List ℕ) → Walk g w q₀ i₀ j₀ production written ends n done
      → (h : Forest) × Spells g w q₀ h (g.arity q₀) i₀ j₀ × ((rest : List ℕ) × (listing (node q₀ h) ≡ done ++ rest))
  unfolding Walk listing
  walk_complete production written ends zero done s = (s.0, s.1, ([], sym s.2 ∙ sym (append-nil done)))
  walk_complete production written ends (suc n) done s =
      let q = production n in
      let c = complete g w q (get_or (ends n) 0 0) (written n) (ends n) s.trees s.spelled s.left s.few in
      let r = walk_complete production written ends n (s.start ++ listing (node q c.0)) (s.onward c.0 c.1) in
      let e : s.start ++ listing (node q c.0) ≡ done ++ c.2.0
      = ap (λ (v : List ℕ). s.start ++ (production_number q ∷ v)) c.2.1
      ∙ sym (append_assoc s.start (production_number q ∷ listings s.trees) c.2.0)
      ∙ ap (λ (v : List ℕ). v ++ c.2.0) (sym s.listed) in
      (r.0, r.1, (c.2.0 ++ r.2.0, r.2.1 ∙ ap (λ (v : List ℕ). v ++ r.2.0) e ∙ append_assoc done c.2.0 r.2.0))

  -- ---- one step

  -- the state after it agrees below the last level, and there in all but the count of written arguments, which is one more
  abbrev pub Moved : (production production' written written' : ℕ → ℕ) (ends ends' : ℕ → List ℕ) (n : ℕ) → Type 0
  Moved production production' written written' ends ends' n =
      ((k : ℕ) → k < n → (production k ≡ production' k) × (written k ≡ written' k) × (ends k ≡ ends' k)) × (production n ≡ production' n) × (written n + 1 ≡ written' n) × (ends n ≡ ends' n)

  -- a tree is written whole
  pub walk_more : (production production' written written' : ℕ → ℕ) (ends ends' : ℕ → List ℕ) (n : ℕ) (done : List ℕ) (t : Tree) → Walk g w q₀ i₀ j₀ production written ends (suc n) done
      → Moved production production' written written' ends ends' n → written n < g.arity (production n) → Stands g w (production n) (written n) t (get_or (ends n) (written n) 0) (get_or (ends n) (written n + 1) 0)
      → Walk g w q₀ i₀ j₀ production' written' ends' (suc n) (done ++ listing t)
  unfolding Walk
  walk_more production production' written written' ends ends' n done t s a l r =
      level_next g w q₀ i₀ j₀ n (production' n) (written' n) (ends' n) (Walk g w q₀ i₀ j₀ production written ends n) (Walk g w q₀ i₀ j₀ production' written' ends' n) (done ++ listing t)
      (walk_same production production' written written' ends ends' n a.0)
      (level_same g w q₀ i₀ j₀ n (production n) (production' n) (written n + 1) (written' n) (ends n) (ends' n) (Walk g w q₀ i₀ j₀ production written ends n) (done ++ listing t) a.1 a.2 a.3
      (level_more g w q₀ i₀ j₀ n (production n) (written n) (ends n) (Walk g w q₀ i₀ j₀ production written ends n) done t s l r))

  -- a production's number is written, and its level stands open
  pub walk_push : (production production' written written' : ℕ → ℕ) (ends ends' : ℕ → List ℕ) (n : ℕ) (done : List ℕ) (q : ℕ) → Walk g w q₀ i₀ j₀ production written ends (suc n) done
      → Moved production production' written written' ends ends' n → written n < g.arity (production n) → q < g.count → g.subs (production n) (written n) q ≡ true
      → Splits g w q 0 (get_or (ends n) (written n) 0) (get_or (ends n) (written n + 1) 0) (ends' (suc n)) → get_or (ends n) (written n) 0 ≤ length w
      → production' (suc n) ≡ q → written' (suc n) ≡ 0
      → Walk g w q₀ i₀ j₀ production' written' ends' (suc (suc n)) (done ++ (production_number q ∷ []))
  unfolding Walk Spells listing
  walk_push production production' written written' ends ends' n done q s a l b c r h x y =
      level_same g w q₀ i₀ j₀ (suc n) q (production' (suc n)) 0 (written' (suc n)) (ends' (suc n)) (ends' (suc n)) (Walk g w q₀ i₀ j₀ production' written' ends' (suc n)) (done ++ (production_number q ∷ []))
      (sym x) (sym y) refl
      record {
        path =
            subst₂ (λ (i : ℕ) (j : ℕ). Path g w q₀ i₀ j₀ q i j (suc (suc n))) (sym r.starts) (sym r.finishes)
            (level_under g w q₀ i₀ j₀ n (production n) (written n) (ends n) (Walk g w q₀ i₀ j₀ production written ends n) done q s l b c);
        few = omega arith;
        trees = none;
        spelled = (refl, omega (arith, r.starts));
        start = done;
        listed = refl;
        left = r.trees;
        onward = λ f v.
            walk_more production production' written written' ends ends' n done (node q f) s a l
            (b, c, subst₂ (λ (i : ℕ) (j : ℕ). Spells g w q f (g.arity q) i j) r.starts r.finishes v);
      }

  -- there is room for that level: the path to it is short
  pub walk_room : (production written : ℕ → ℕ) (ends : ℕ → List ℕ) (n : ℕ) (done : List ℕ) (q : ℕ) (f only : Forest) → OnlyTrees g w q₀ i₀ j₀ only
      → Walk g w q₀ i₀ j₀ production written ends (suc n) done → written n < g.arity (production n)
      → Stands g w (production n) (written n) (node q f) (get_or (ends n) (written n) 0) (get_or (ends n) (written n + 1) 0)
      → suc (suc n) ≤ g.count * (length w + 1)
  unfolding Walk Spells
  walk_room production written ends n done q f only o s l r =
      path_bound g w q₀ i₀ j₀ only o q (get_or (ends n) (written n) 0) (get_or (ends n) (written n + 1) 0) (suc (suc n))
      (level_under g w q₀ i₀ j₀ n (production n) (written n) (ends n) (Walk g w q₀ i₀ j₀ production written ends n) done q s l r.0 r.1)
      f r.2
