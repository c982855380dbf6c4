-- Laws of tables written production by production.
use Prim.Native.Nat.{ℕ, zero, suc, ◌+◌, ◌-◌, ◌≤◌, ◌<◌}
use mathlib.Core.Path.{◌≡◌, sym, ◌∙◌, subst, subst⁻¹}
use mathlib.Core.List.{List}
use mathlib.Core.Logic.{by_cases}
use native.Mathlib.Omega.{arith}
use native.Mathlib.Decide.{ℕ_discrete, dec_lt}
use lib.ListN.{get_or}
use Rattle.common.specs.Region.{Region}
use Rattle.common.specs.Below.{sum_below}
use Rattle.common.specs.Zeros.{AllZero}
use Rattle.tables.specs.Layout.{arity_in, row_count}
use Rattle.chart.proofs.LayoutLaws.{row_in, row_of_base, row_base}
use Rattle.chart.specs.Layout.{row_limit, row_of}
use Rattle.chart.specs.Rows.{RowsFilled}

-- a production with a count of its arguments, whose row is k
pub record RowIs (arity : ℕ → ℕ) (n k : ℕ) : Type 0 where
  pub production : ℕ
  pub done : ℕ
  pub inside : production < n
  pub within : done ≤ arity production
  pub same : row_of arity production done ≡ k

-- every row is one
pub row_find : (arity : ℕ → ℕ) (n k : ℕ) → k < row_count arity n → RowIs arity n k
unfolding row_of row_count sum_below
row_find arity zero k l = absurd (omega arith)
row_find arity (suc n) k l =
    by_cases (dec_lt k (row_count arity n))
    (λ h. let r = row_find arity n k h in
    record { production = r.production; done = r.done; inside = omega (arith, r.inside); within = r.within; same = r.same })
    (λ h. record { production = n; done = k - row_count arity n; inside = omega arith; within = omega arith; same = omega arith })

module _ (v : ℕ → ℕ → ℕ) (counts : List ℕ) where
  -- where the rows of production p begin
  pub rows_before : (p : ℕ) → row_of (arity_in counts) p 0 ≡ row_count (arity_in counts) p
  unfolding row_of row_count
  rows_before p = omega arith

  -- zeros, where nothing else is asked for
  pub rows_zero : (n : ℕ) (l : List ℕ) → AllZero row_limit l → ((p d : ℕ) → p < n → v p d ≡ 0) → RowsFilled v counts n l
  rows_zero n l z e =
      record {
        long = z.long;
        here = λ p d o h. z.zeros (row_of (arity_in counts) p d) ∙ sym (e p d o);
        ends = λ p o. z.zeros (row_of (arity_in counts) p (arity_in counts p));
        ahead = λ k o. z.zeros k;
      }

  pub rows_none : (l : List ℕ) → AllZero row_limit l → RowsFilled v counts 0 l
  rows_none l z = rows_zero 0 l z (λ p d o. absurd (omega arith))

  -- the rows of one production more
  module _ (p : ℕ) (l l' : List ℕ) (s : RowsFilled v counts p l)
      (r : Region (λ (d x : ℕ). x ≡ v p d) 0 (row_of (arity_in counts) p 0) (arity_in counts p) l l') where
    sooner : (q : ℕ) → q < p + 1 → (q ≡ p → ⊥) → q < p
    sooner q o e = by_cases (dec_lt q p) (λ k. k) (λ k. absurd (e (omega arith)))

    kept : (q d : ℕ) → q < p → d ≤ arity_in counts q → get_or l' (row_of (arity_in counts) q d) 0 ≡ get_or l (row_of (arity_in counts) q d) 0
    kept q d o h = r.below (row_of (arity_in counts) q d) (omega (arith, row_in (arity_in counts) q d p o h, rows_before p))

    last : get_or l' (row_of (arity_in counts) p (arity_in counts p)) 0 ≡ 0
    last =
        let at = row_of (arity_in counts) p (arity_in counts p) in
        r.above at (omega (arith, row_of_base (arity_in counts) p (arity_in counts p))) ∙ s.ahead at (omega (arith, row_of_base (arity_in counts) p (arity_in counts p), rows_before p))

    pub rows_more : RowsFilled v counts (p + 1) l'
    rows_more =
        record {
          long = r.long ∙ s.long;
          here = λ q d o h. elim (ℕ_discrete q p) [
            | yes e ↦ let h' : d < arity_in counts p = subst (λ (x : ℕ). d < arity_in counts x) e h in
                subst⁻¹ (λ (x : ℕ). get_or l' (row_of (arity_in counts) x d) 0 ≡ v x d) e (subst (λ (x : ℕ). get_or l' x 0 ≡ v p d) (row_of_base (arity_in counts) p d) (r.inside d h'))
            | no e ↦ kept q d (sooner q o e) (omega arith) ∙ s.here q d (sooner q o e) h
          ];
          ends = λ q o. elim (ℕ_discrete q p) [
            | yes e ↦ subst⁻¹ (λ (x : ℕ). get_or l' (row_of (arity_in counts) x (arity_in counts x)) 0 ≡ 0) e last
            | no e ↦ kept q (arity_in counts q) (sooner q o e) (omega arith) ∙ s.ends q (sooner q o e)
          ];
          ahead = λ k o. let far : row_count (arity_in counts) p + (arity_in counts p + 1) ≤ k = omega (arith, row_base (arity_in counts) p, rows_before p, rows_before (p + 1)) in
              r.above k (omega (arith, rows_before p)) ∙ s.ahead k (omega arith);
        }

  -- no entry is above what all values are below
  pub rows_small : (most n : ℕ) (l : List ℕ) → ((p d : ℕ) → v p d ≤ most) → RowsFilled v counts n l → (k : ℕ) → get_or l k 0 ≤ most
  rows_small most n l small s k =
      by_cases (dec_lt k (row_count (arity_in counts) n))
      (λ h. let r = row_find (arity_in counts) n k h in
      let p = r.production in
      let d = r.done in
      subst (λ (x : ℕ). get_or l x 0 ≤ most) r.same
      (by_cases (dec_lt d (arity_in counts p))
      (λ m. omega (arith, s.here p d r.inside m, small p d))
      (λ m. let e : arity_in counts p ≡ d = omega (arith, r.within) in
      omega (arith, subst (λ (x : ℕ). get_or l (row_of (arity_in counts) p x) 0 ≡ 0) e (s.ends p r.inside)))))
      (λ h. omega (arith, s.ahead k (omega arith)))

-- the same entries under another name
pub rows_same : (v v' : ℕ → ℕ → ℕ) (counts : List ℕ) (n : ℕ) (l : List ℕ) → ((p d : ℕ) → v p d ≡ v' p d) → RowsFilled v counts n l → RowsFilled v' counts n l
rows_same v v' counts n l e r = record { long = r.long; here = λ p d o h. r.here p d o h ∙ e p d; ends = r.ends; ahead = r.ahead }
