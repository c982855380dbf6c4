-- What rounds of the search have found: the distance of a production is the length of a shortest chain, and the way from it is such a chain.
use Prim.Native.Nat.{ℕ, zero, suc, ◌+◌, ◌≤◌, ◌<◌}
use mathlib.Core.Path.{◌≡◌, sym, ◌∙◌, ap, subst}
use mathlib.Core.List.{List}
use mathlib.Core.Logic.{inl, inr, ⊎_elim, by_cases}
use native.Mathlib.Omega.{arith}
use native.Mathlib.Decide.{ℕ_discrete, dec_lt}
use native.Mathlib.Nat.{le_refl}
use lib.ListN.{length, set, replicate, length-set, length-replicate}
use lib.Seq.{get_or-set_same, get_or-set_other}
use Rattle.common.proofs.ListLaws.{length_tabulate, get_d_all}
use Rattle.common.specs.Lists.{tabulate}
use Rattle.refusal.specs.Verdict.{accepted}
use Rattle.layout.specs.Limits.{production_limit}
use Rattle.priority.proofs.CheckLaws.{accepted_formed}
use Rattle.priority.proofs.DeclarationLaws.{accepted_declares}
use Rattle.priority.specs.Check.{checked}
use Rattle.priority.specs.Priorities.{Higher}
use Rattle.shortest.proofs.ChainLaws.{leads_more, higher_leads, leads_short}
use Rattle.shortest.specs.Chain.{Leads, one, onward, Shortest}
use Rattle.shortest.specs.Search.{far, away, onward_from, Rounds, reached, way, Steps}

-- ---- before the first round

module _ (b : List ℕ) (q : ℕ) (l : q < production_limit) where
  abbrev alone : List ℕ
  alone = set (replicate production_limit far) q 0

  alone_there : away alone q ≡ 0
  alone_there = get_or-set_same (replicate production_limit far) q 0 far (omega (arith, length-replicate production_limit far))

  alone_other : (x : ℕ) → (x ≡ q → ⊥) → away alone x ≡ far
  alone_other x n = get_or-set_other (replicate production_limit far) q x 0 far n ∙ get_d_all production_limit far x

  pub rounds_none : Rounds b q 0 alone (replicate production_limit 0)
  rounds_none =
      record {
        sound = record {
          distances = length-set (replicate production_limit far) q 0 ∙ length-replicate production_limit far;
          nexts = length-replicate {A = ℕ} production_limit 0;
          start = alone_there;
          home = λ x e. elim (ℕ_discrete x q) [ yes h ↦ h | no h ↦ absurd (omega (arith, e, alone_other x h)) ];
          step = λ x h i. elim (ℕ_discrete x q) [ yes e ↦ absurd (omega (arith, alone_there, ap (away alone) e)) | no e ↦ absurd (omega (arith, alone_other x e)) ];
        };
        within = λ x. elim (ℕ_discrete x q) [ yes e ↦ inl (omega (arith, alone_there, ap (away alone) e)) | no e ↦ inr (alone_other x e) ];
        least = λ d x z s. ⊎_elim (λ h. absurd (omega arith)) (λ h. absurd (omega (arith, h.1)));
      }

-- ---- after some rounds

module _ (b : List ℕ) (y k : ℕ) (distance next : List ℕ) (r : Rounds b y k distance next) where
  -- no chain that is short enough to be seen is shorter than the distance
  away_least : {chain : List ℕ} {x : ℕ} → Leads b chain x y → length chain ≤ k → away distance x ≤ length chain
  away_least (one {d} {x} s) h = omega (arith, r.least d x y s (inl (omega (arith, r.sound.start))), r.sound.start)
  away_least (onward {d} {x} {y = w} s c) h =
      let rest = away_least c (omega arith) in
      omega (arith, rest, r.least d x w s (inl (omega (arith, rest))))

  module _ (e : checked b ≡ accepted) (p : ℕ) (h : Higher b p y) where
    -- while p is not found, its chain is longer than the rounds
    pub search_on : away distance p ≡ far → k + 1 < far
    search_on f =
        let (chain, c) = higher_leads b h in
        let few = leads_short b e c in
        let most = (accepted_formed b e).framed.few_productions in
        by_cases (dec_lt k (length chain))
        (λ l. omega (arith, few, most))
        (λ l. absurd (omega (arith, few, most, away_least c (omega arith))))

    -- p is not y
    away_some : 0 < away distance p
    away_some =
        by_cases (dec_lt 0 (away distance p)) (λ l. l)
        (λ l. absurd ((accepted_declares b e).irreflexive p (subst (Higher b p) (sym (r.sound.home p (omega arith))) h)))

    module _ (near : away distance p < far) where
      abbrev reach : ℕ → ℕ
      reach = reached b next p

      reached_away : (j : ℕ) → j ≤ away distance p → away distance (reach j) + j ≡ away distance p
      unfolding reached
      reached_away zero l = omega arith
      reached_away (suc j) l =
          let before = reached_away j (omega arith) in
          omega (arith, before, (r.sound.step (reach j) (omega (arith, before)) (omega (arith, before))).1)

      pub found_steps : Steps b next p (away distance p)
      unfolding reached
      found_steps j l = let here = reached_away j (omega arith) in (r.sound.step (reach j) (omega (arith, here)) (omega (arith, here))).0

      reached_home : reach (away distance p) ≡ y
      reached_home = r.sound.home (reach (away distance p)) (omega (arith, reached_away (away distance p) (le_refl (away distance p))))

      way_leads : (n : ℕ) → 0 < n → Steps b next p n → Leads b (way b next p n) p (reach n)
      unfolding tabulate reached
      way_leads zero some steps = absurd (omega arith)
      way_leads (suc zero) some steps = one (steps 0 (omega arith))
      way_leads (suc (suc n)) some steps = leads_more b (way_leads (suc n) (omega arith) (λ j l. steps j (omega arith))) (steps (suc n) (omega arith))

      pub way_length : away distance p ≡ length (way b next p (away distance p))
      way_length = sym (length_tabulate (away distance p) (λ j. onward_from next (reach j)))

      pub way_shortest : Shortest b p y (way b next p (away distance p))
      way_shortest =
          record {
            leads = subst (Leads b (way b next p (away distance p)) p) reached_home (way_leads (away distance p) away_some found_steps);
            least = λ other c. by_cases (dec_lt k (length other))
                (λ l. ⊎_elim (λ m. omega (arith, way_length)) (λ m. absurd (omega arith)) (r.within p))
                (λ l. omega (arith, way_length, away_least c (omega arith)));
          }
