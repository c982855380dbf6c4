-- Laws of the tables of users and uses, written an octet of productions at a time.
use Prim.Native.Nat.{ℕ, ◌+◌, ◌-◌, ◌*◌, max, ◌≤◌, ◌<◌}
use mathlib.Core.Path.{◌≡◌, ◌∙◌, ap, subst, subst⁻¹}
use mathlib.Core.Bool.{true}
use mathlib.Core.List.{List}
use mathlib.Core.Logic.{by_cases, inl, inr}
use native.Mathlib.Omega.{arith}
use native.Mathlib.Decide.{ℕ_discrete, dec_lt}
use native.Mathlib.Nat.{mul-le-mul_right}
use lib.Bits.{bit_or}
use lib.ListN.{length, get_or}
use Rattle.charset.proofs.BitLaws.{bit_or_lem, bit_zero}
use Rattle.charset.specs.Set.{bit}
use Rattle.common.proofs.BelowLaws.{bit_small}
use Rattle.common.proofs.BoolLaws.{or_first, or_second, true_or_false}
use Rattle.common.specs.Below.{bit_of}
use Rattle.common.specs.Region.{Region}
use Rattle.layout.specs.Limits.{production_limit, argument_limit}
use Rattle.tables.proofs.LayoutLaws.{octet_bit}
use Rattle.tables.specs.Layout.{slot, takes_production, arity_in, row_count, octet_bits, production_octet}
use Rattle.chart.proofs.LayoutLaws.{row_below}
use Rattle.chart.specs.Layout.{row_limit, row_of}
use Rattle.chart.specs.Rows.{RowsFilled}
use Rattle.links.specs.Linked.{Joined, UsedOctets, BitsTurned, UsersTo, UsesTo}
use Rattle.span.specs.Tables.{user_at, use_at, Links, UsersAre}

-- ---- octets

module _ (tables : List ℕ) (p k : ℕ) where
  pub joined_more : (n v : ℕ) → Joined tables p k n v → Joined tables p k (n + 1) (bit_or v (production_octet tables (slot p n) k))
  joined_more n v j =
      record {
        all = λ d b l h. bit_or_lem v (production_octet tables (slot p n) k) b ∙ elim (ℕ_discrete d n) [
          | yes e ↦ or_second (bit v b) (bit (production_octet tables (slot p n) k) b) (subst (λ (x : ℕ). bit (production_octet tables (slot p x) k) b ≡ true) e h)
          | no e ↦ or_first (bit v b) (bit (production_octet tables (slot p n) k) b) (j.all d b (by_cases (dec_lt d n) (λ m. m) (λ m. absurd (e (omega arith)))) h)
        ];
      }

-- ---- turned round

-- the entries of one row stand before the next
row_under : (a b w r : ℕ) → a < b → r < w → a * w + r < b * w
row_under a b w r l h =
    let next : (a + 1) * w ≤ b * w = mul-le-mul_right w (omega arith) in
    omega arith

module _ (octets : List ℕ) (from : ℕ) (out : List ℕ) where
  -- one row more
  module _ (n : ℕ) (out₁ out₂ : List ℕ) (t : BitsTurned octets from n out out₁)
      (r : Region (λ (i v : ℕ). v ≡ bit_of (bit (get_or octets i 0) n)) 0 ((from + n) * length octets) (length octets) out₁ out₂) where
    base : ℕ
    base = (from + n) * length octets

    still_bits : (i : ℕ) → get_or out₂ i 0 ≤ max 1 (get_or out i 0)
    unfolding base
    still_bits i =
        by_cases (dec_lt i base)
        (λ l. omega (arith, r.below i l, t.bits i))
        (λ l. by_cases (dec_lt i (base + length octets))
        (λ h. let e : base + (i - base) ≡ i = omega arith in
        omega (arith, subst (λ (x : ℕ). get_or out₂ x 0 ≡ bit_of (bit (get_or octets (i - base) 0) n)) e (r.inside (i - base) (omega arith)), bit_small (bit (get_or octets (i - base) 0) n)))
        (λ h. omega (arith, r.above i (omega arith), t.bits i)))

    pub turned_more : BitsTurned octets from (n + 1) out out₂
    unfolding base
    turned_more =
        record {
          long = r.long ∙ t.long;
          bits = still_bits;
          turned = λ b i l h. elim (ℕ_discrete b n) [
            | yes e ↦ subst⁻¹ (λ (x : ℕ). get_or out₂ ((from + x) * length octets + i) 0 ≡ bit_of (bit (get_or octets i 0) x)) e (r.inside i h)
            | no e ↦ let m : b < n = by_cases (dec_lt b n) (λ k. k) (λ k. absurd (e (omega arith))) in
                r.below ((from + b) * length octets + i) (row_under (from + b) (from + n) (length octets) i (omega arith) h) ∙ t.turned b i m h
          ];
          before = λ i l. r.below i (omega (arith, mul-le-mul_right {m = from} {n = from + n} (length octets) (omega arith))) ∙ t.before i l;
        }

-- ---- users and uses

module _ (counts tables : List ℕ) where
  module _ (few : length counts ≤ production_limit) (short : (p : ℕ) → arity_in counts p ≤ argument_limit) where
    -- the first m productions of an octet more
    module _ (k m : ℕ) (inside : m ≤ octet_bits) (octets users users' : List ℕ) (u : UsersTo counts tables (k * octet_bits) users)
        (o : RowsFilled (λ (p d : ℕ). production_octet tables (slot p d) k) counts (length counts) octets)
        (t : BitsTurned octets (k * octet_bits) m users users') where
      -- the entry of a row for a production of this octet
      entry : (q r : ℕ) → k * octet_bits ≤ q → q < k * octet_bits + m → r < row_limit → get_or users' (user_at q r) 0 ≡ bit_of (bit (get_or octets r 0) (q - k * octet_bits))
      unfolding user_at
      entry q r b l h =
          let at : (k * octet_bits + (q - k * octet_bits)) * length octets + r ≡ q * row_limit + r = ap (λ (x : ℕ). x * length octets + r) (omega arith) ∙ ap (λ (x : ℕ). q * x + r) o.long in
          subst (λ (x : ℕ). get_or users' x 0 ≡ bit_of (bit (get_or octets r 0) (q - k * octet_bits))) at (t.turned (q - k * octet_bits) r (omega arith) (omega (arith, o.long)))

      -- the entry for an earlier one
      kept : (q r : ℕ) → q < k * octet_bits → r < row_limit → get_or users' (user_at q r) 0 ≡ get_or users (user_at q r) 0
      unfolding user_at
      kept q r l h = t.before (q * row_limit + r) (subst⁻¹ (λ (x : ℕ). q * row_limit + r < k * octet_bits * x) o.long (row_under q (k * octet_bits) row_limit r l h))

      takes_too : (p d q : ℕ) → p < length counts → d < arity_in counts p → q < k * octet_bits + m
          → get_or users' (user_at q (row_of (arity_in counts) p d)) 0 ≡ bit_of (takes_production tables (slot p d) q)
      takes_too p d q l h lq =
          let below = row_below counts p d few short l (omega arith) in
          by_cases (dec_lt q (k * octet_bits))
          (λ s. kept q (row_of (arity_in counts) p d) s below ∙ u.takes p d q l h s)
          (λ s. let b = q - k * octet_bits in
          let e : k * octet_bits + b ≡ q = omega arith in
          entry q (row_of (arity_in counts) p d) (omega arith) lq below ∙ ap (λ (v : ℕ). bit_of (bit v b)) (o.here p d l h) ∙ ap bit_of (octet_bit tables (slot p d) k b (omega arith)) ∙ ap (λ (x : ℕ). bit_of (takes_production tables (slot p d) x)) e)

      outside_too : (q r : ℕ) → q < k * octet_bits + m → row_count (arity_in counts) (length counts) ≤ r → r < row_limit → get_or users' (user_at q r) 0 ≡ 0
      outside_too q r lq b l =
          by_cases (dec_lt q (k * octet_bits))
          (λ s. kept q r s l ∙ u.outside q r s b l)
          (λ s. entry q r (omega arith) lq l ∙ ap (λ (v : ℕ). bit_of (bit v (q - k * octet_bits))) (o.ahead r b) ∙ ap bit_of (bit_zero (q - k * octet_bits)))

      pub users_more : UsersTo counts tables (k * octet_bits + m) users'
      users_more =
          record {
            long = t.long ∙ u.long;
            bits = λ i. omega (arith, t.bits i, u.bits i);
            takes = takes_too;
            outside = outside_too;
          }

    module _ (k m : ℕ) (inside : m ≤ octet_bits) (octets uses uses' : List ℕ) (u : UsesTo counts tables (k * octet_bits) uses)
        (o : UsedOctets counts tables k (length counts) octets)
        (t : BitsTurned octets (k * octet_bits) m uses uses') where
      used_too : (p d q : ℕ) → p < length counts → d < arity_in counts p → q < k * octet_bits + m → takes_production tables (slot p d) q ≡ true → get_or uses' (use_at q p) 0 ≡ 1
      unfolding use_at
      used_too p d q l h lq takes =
          by_cases (dec_lt q (k * octet_bits))
          (λ s. t.before (q * production_limit + p) (subst⁻¹ (λ (x : ℕ). q * production_limit + p < k * octet_bits * x) o.long (row_under q (k * octet_bits) production_limit p s (omega arith))) ∙ u.used p d q l h s takes)
          (λ s. let b = q - k * octet_bits in
          let e : k * octet_bits + b ≡ q = omega arith in
          let at : (k * octet_bits + b) * length octets + p ≡ q * production_limit + p = ap (λ (x : ℕ). x * length octets + p) e ∙ ap (λ (x : ℕ). q * x + p) o.long in
          let has : bit (get_or octets p 0) b ≡ true = (o.here p l).all d b h (octet_bit tables (slot p d) k b (omega arith) ∙ ap (takes_production tables (slot p d)) e ∙ takes) in
          subst (λ (x : ℕ). get_or uses' x 0 ≡ 1) at (t.turned b p (omega arith) (omega (arith, o.long)) ∙ ap bit_of has))

      pub uses_more : UsesTo counts tables (k * octet_bits + m) uses'
      uses_more = record { long = t.long ∙ u.long; used = used_too }

    -- both tables
    module _ (users uses : List ℕ) (u : UsersTo counts tables (length counts) users) (s : UsesTo counts tables (length counts) uses) where
      -- what is not said to be used takes nothing
      unused_none : (q p d : ℕ) → q < length counts → p < length counts → d < arity_in counts p → get_or uses (use_at q p) 0 ≡ 0 → get_or users (user_at q (row_of (arity_in counts) p d)) 0 ≡ 0
      unused_none q p d m l h z =
          elim (true_or_false (takes_production tables (slot p d) q)) [
            | inl e ↦ absurd (omega (arith, s.used p d q l h m e))
            | inr e ↦ u.takes p d q l h m ∙ ap bit_of e
          ]

      pub linked_links : Links counts users uses
      linked_links =
          record {
            few_productions = few;
            few_arguments = short;
            users_long = u.long;
            uses_long = s.long;
            bits = u.bits;
            unused = unused_none;
            outside = u.outside;
          }

      pub linked_users : UsersAre counts users (λ p d q. takes_production tables (slot p d) q)
      linked_users = record { takes = u.takes }
