-- The text of a row is what the subtree spells whose listing begins at that number.
use Prim.Native.Nat.{ℕ, zero, suc, ◌+◌, ◌-◌, ◌<◌}
use mathlib.Core.List.{List, [], ◌++◌, append_assoc, append-nil}
use mathlib.Core.Logic.{by_cases}
use mathlib.Core.Path.{◌≡◌, refl, sym, ◌∙◌, ap}
use native.Mathlib.Decide.{dec_lt}
use native.Mathlib.Omega.{arith}
use lib.ListN.{length, get_or, take, drop, length-append, get_or-append}
use lib.Seq.{take_at, drop_at, drop-append-le, drop-append-add, get_or-append-add}
use Rattle.rows.proofs.RowsLaws.{rows_below_length}
use Rattle.rows.specs.Rows.{no_row, rows, rows_below}
use Rattle.rows.specs.Under.{Stands}
use Rattle.rows.specs.declared.Row.{Row}
use Rattle.theory.specs.Tree.{Tree, leaf, node, Forest, none, ◌▷◌, yield, yields, listing, listings, At, at_end, further, Subtree, itself, below}

-- ---- a part of a text that starts at i

-- These numbers begin with the listing of s, and s spells the part of the text where row r stands.
record Part (numbers text : List ℕ) (i : ℕ) (r : Row) (s : Tree) : Type 0 where
  others : List ℕ
  begins : numbers ≡ listing s ++ others
  before : List ℕ
  after : List ℕ
  splits : text ≡ before ++ yield s ++ after
  starts : r.start ≡ i + length before
  ends : r.end ≡ i + length (before ++ yield s)

-- the whole of a tree's text
part_whole : (t : Tree) (i : ℕ) (r : Row) → r.start ≡ i → r.end ≡ i + length (yield t) → Part (listing t) (yield t) i r t
part_whole t i r a e =
    record { others = []; begins = sym (append-nil (listing t)); before = []; after = []; splits = sym (append-nil (yield t)); starts = omega arith; ends = e }

-- numbers and text may go on
part_front : {numbers text : List ℕ} {i : ℕ} {r : Row} {s : Tree} → (ns w : List ℕ) → Part numbers text i r s → Part (numbers ++ ns) (text ++ w) i r s
part_front {s = s} ns w h =
    record {
      others = h.others ++ ns;
      begins = ap (λ (v : List ℕ). v ++ ns) h.begins ∙ append_assoc (listing s) h.others ns;
      before = h.before;
      after = h.after ++ w;
      splits = ap (λ (v : List ℕ). v ++ w) h.splits ∙ append_assoc (h.before ++ yield s) h.after w;
      starts = h.starts;
      ends = h.ends;
    }

-- other text may stand before
part_behind : {numbers text : List ℕ} {i : ℕ} {r : Row} {s : Tree} → (w : List ℕ) → Part numbers text (i + length w) r s → Part numbers (w ++ text) i r s
part_behind {s = s} w h =
    let same : w ++ (h.before ++ yield s) ≡ w ++ h.before ++ yield s = sym (append_assoc w h.before (yield s)) in
    record {
      others = h.others;
      begins = h.begins;
      before = w ++ h.before;
      after = h.after;
      splits = ap (λ (v : List ℕ). w ++ v) h.splits ∙ sym (append_assoc w (h.before ++ yield s) h.after) ∙ ap (λ (v : List ℕ). v ++ h.after) same;
      starts = omega (arith, h.starts, length-append w h.before);
      ends = omega (arith, h.ends, ap (length {A = ℕ}) same, length-append w (h.before ++ yield s));
    }

-- ---- the subtree at a number

mutual
  unfolding rows listing yield

  tree_part : (t : Tree) (d i k : ℕ) → k < length (listing t) → (s : Tree) × Subtree s t × Part (drop k (listing t)) (yield t) i (get_or (rows d i t) k no_row) s
  tree_part (leaf c) d i zero l = (leaf c, itself, part_whole (leaf c) i (get_or (rows d i (leaf c)) 0 no_row) refl refl)
  tree_part (leaf c) d i (suc k) l = absurd (omega arith)
  tree_part (node p f) d i zero l = (node p f, itself, part_whole (node p f) i (get_or (rows d i (node p f)) 0 no_row) refl refl)
  tree_part (node p f) d i (suc k) l =
      let (j, u, at, s, under, part) = forest_part f (d + 1) i k (omega arith) in
      (s, below at under, part)

  -- the same of a list of trees: of one among them
  forest_part : (f : Forest) (d i k : ℕ) → k < length (listings f)
      → (j : ℕ) × (u : Tree) × At j f u × (s : Tree) × Subtree s u × Part (drop k (listings f)) (yields f) i (get_or (rows_below d i f) k no_row) s
  forest_part none d i k l = absurd (omega arith)
  forest_part (f ▷ t) d i k l =
      let next = i + length (yields f) in
      let long = rows_below_length d i f in
      by_cases (dec_lt k (length (listings f)))
      (λ h.
      let (j, u, at, s, under, part) = forest_part f d i k h in
      let row = get_or-append (rows_below d i f) (rows d next t) no_row k (omega arith) in
      let numbers = drop-append-le k (listings f) (listing t) (omega arith) in
      (j, u, further at, s, under, rw (row, numbers) (part_front (listing t) (yield t) part)))
      (λ h.
      let m = k - length (listings f) in
      let (s, under, part) = tree_part t d next m (omega (arith, length-append (listings f) (listing t))) in
      let place : k ≡ length (listings f) + m = omega arith in
      let row = ap (λ (n : ℕ). get_or (rows_below d i (f ▷ t)) n no_row) (place ∙ rw long refl) ∙ get_or-append-add (rows_below d i f) (rows d next t) m no_row in
      let numbers = ap (λ (n : ℕ). drop n (listings (f ▷ t))) place ∙ drop-append-add (listings f) (listing t) m in
      (_, t, at_end, s, under, rw (row, numbers) (part_behind (yields f) part)))

-- At each number of the listing a subtree stands, and the number's row says where its text does.
pub row_stands : (t : Tree) (k : ℕ) → k < length (listing t) → Stands t k (get_or (rows 0 0 t) k no_row)
row_stands t k l =
    let r = get_or (rows 0 0 t) k no_row in
    let (s, under, part) = tree_part t 0 0 k l in
    let front = part.before ++ yield s in
    let taken : take r.end (yield t) ≡ front = rw part.splits (take_at front part.after r.end (omega (arith, part.ends))) in
    record {
      subtree = s;
      is_subtree = under;
      others = part.others;
      begins = part.begins;
      spells = rw taken (drop_at part.before (yield s) r.start (omega (arith, part.starts)));
    }
