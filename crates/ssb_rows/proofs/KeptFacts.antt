-- Texts that grow, and the values that are kept among them.
use Rattle.std.proofs.Common.{◌≡◌, ◌∙◌, ◌++◌, ◌∷◌, [], ◌≤◌, ◌-◌, ◌+◌, ℕ, zero, suc, List, length, map, take, drop, get_or, slice_get, None, Some, refl, sym, ap, ap₂, subst, arith, add-one, inl, inr, length-append}
use Rattle.std.proofs.lemmas.List.{append-nil, take-append-le, drop-append-le, get_or_append_left, length-drop, take_all, drop_all, map-append, take-map, drop-map}
use Rattle.std.proofs.Math.Seq.{drop-append_seam}
use Rattle.std.proofs.lemmas.Str.{IsCharBoundary-at_seam, IsCharBoundary-end}
use Rattle.std.proofs.lemmas.Bool.{cases_lt}
use Rattle.std.specs.List.{All, slice_range}
use Rattle.std.specs.Str.{IsCharBoundary, IsUtf8}
use Rattle.ssb_cells.specs.Cell.{Cell, text}
use Rattle.ssb_rows.specs.Kept.{IsKeptValue, IsSpan, KeepsValues, value_cell, keyed_row, keyed_rows}
use Rattle.ssb_rows.specs.Order.{Row}
use Rattle.ssb_rows.specs.declared.cells.KeptValue.{KeptValue}
use Rattle.ssb_rows.specs.declared.cells.KeptValue.TheVariants as kept
use Rattle.ssb_rows.specs.declared.order.SortKey.{SortKey}

-- ---- texts

pub keeps-same : (texts : List ℕ) → KeepsValues texts texts
keeps-same texts f h = (h, refl)

-- where a text may be cut it still may, with another behind it
boundary-more : (xs ys : List ℕ) (i : ℕ) → IsUtf8 ys → IsCharBoundary xs i → IsCharBoundary (xs ++ ys) i
boundary-more xs ys i u b =
    let n = length-append xs ys in
    elim (cases_lt i (length xs)) [
      | inl below ↦ (omega (arith, n, below), λ l high. subst (λ x. 192 ≤ x) (sym (get_or_append_left xs ys 0 i below)) (b.1 below (subst (λ x. 128 ≤ x) (get_or_append_left xs ys 0 i below) high)))
      | inr past ↦ let same : i ≡ length xs = omega (arith, past, b.0) in subst (IsCharBoundary (xs ++ ys)) (sym same) (IsCharBoundary-at_seam (xs ++ ys) xs ys refl u)
    ]

-- a part of a text, with another behind it
range-more : (xs ys : List ℕ) (from end : ℕ) → from ≤ end → end ≤ length xs → slice_range (xs ++ ys) from end ≡ slice_range xs from end
range-more xs ys from end order below =
    let n = length-drop from xs in
    ap (take (end - from)) (drop-append-le from xs ys (omega (arith, order, below))) ∙ take-append-le (end - from) (drop from xs) ys (omega (arith, n, order, below))

pub keeps-more : (xs ys new : List ℕ) → new ≡ xs ++ ys → IsUtf8 ys → KeepsValues xs new
keeps-more xs ys new e u = subst (KeepsValues xs) (sym e) (all xs ys u)
  where
    all : (xs ys : List ℕ) → IsUtf8 ys → KeepsValues xs (xs ++ ys)
    all xs ys u kept.Null h = (h, refl)
    all xs ys u (kept.Number n) h = (h, refl)
    all xs ys u (kept.Text from end) h = (record { order = h.order; starts = boundary-more xs ys from u h.starts; ends = boundary-more xs ys end u h.ends }, ap text (range-more xs ys from end h.order h.ends.0))

-- the text behind others
pub new-span : (xs ys new : List ℕ) (from end : ℕ) → new ≡ xs ++ ys → IsUtf8 ys → from ≡ length xs → end ≡ from + length ys → IsSpan new from end
new-span xs ys new from end e u f g =
    let n = ap length e ∙ length-append xs ys in
    record {
      order = omega (arith, f, g);
      starts = subst (IsCharBoundary new) (sym f) (IsCharBoundary-at_seam new xs ys e u);
      ends = subst (IsCharBoundary new) (let h : length new ≡ end = omega (arith, n, f, g) in h) (IsCharBoundary-end new);
    }

pub new-text : (xs ys new : List ℕ) (from end : ℕ) → new ≡ xs ++ ys → from ≡ length xs → end ≡ from + length ys → value_cell new (kept.Text from end) ≡ text ys
new-text xs ys new from end e f g =
    ap text (ap (take (end - from)) (ap₂ drop f e ∙ drop-append_seam xs ys) ∙ take_all (end - from) ys (omega (arith, f, g)))

-- ---- kept values

pub values-same : (old new : List ℕ) (fs : List KeptValue) → KeepsValues old new → All (IsKeptValue old) fs → map (value_cell new) fs ≡ map (value_cell old) fs
values-same old new [] k h = refl
values-same old new (f ∷ fs) k h = ap₂ (λ c cs. c ∷ cs) (k f (h 0 f (omega arith))).1 (values-same old new fs k (λ i d below. h (suc i) d (omega (arith, below))))

pub values-are : (old new : List ℕ) (fs : List KeptValue) → KeepsValues old new → All (IsKeptValue old) fs → All (IsKeptValue new) fs
values-are old new fs k h = λ i d below. (k (get_or fs i d) (h i d below)).0

-- a kept value behind others
pub cells-and : (old new : List ℕ) (fs : List KeptValue) (f : KeptValue) (c : Cell) → KeepsValues old new → All (IsKeptValue old) fs → value_cell new f ≡ c → map (value_cell new) (fs ++ f ∷ []) ≡ map (value_cell old) fs ++ c ∷ []
cells-and old new fs f c k h is = map-append (value_cell new) fs (f ∷ []) ∙ ap₂ (λ xs x. xs ++ x ∷ []) (values-same old new fs k h) is

-- ---- rows

-- a row that lies among cells, with more behind them
row-more : {X : Type 0} (cells more : List X) (width : ℕ) (key : SortKey) → key.from + width ≤ length cells → keyed_row (cells ++ more) width key ≡ keyed_row cells width key
row-more cells more width key within =
    let n = length-drop key.from cells in
    ap (take width) (drop-append-le key.from cells more (omega (arith, within))) ∙ take-append-le width (drop key.from cells) more (omega (arith, n, within))

pub rows-more : {X : Type 0} (cells more : List X) (width : ℕ) (keys : List SortKey) → All (λ (key : SortKey). key.from + width ≤ length cells) keys → keyed_rows (cells ++ more) width keys ≡ keyed_rows cells width keys
rows-more cells more width [] h = refl
rows-more cells more width (key ∷ keys) h = ap₂ (λ r rs. r ∷ rs) (row-more cells more width key (h 0 key (omega arith))) (rows-more cells more width keys (λ i d below. h (suc i) d (omega (arith, below))))

-- a row behind the cells
pub row-new : {X : Type 0} (cells row : List X) (width : ℕ) (key : SortKey) → key.from ≡ length cells → width ≡ length row → keyed_row (cells ++ row) width key ≡ row
row-new cells row width key f w = ap (take width) (ap (λ n. drop n (cells ++ row)) f ∙ drop-append_seam cells row) ∙ take_all width row (omega (arith, w))

pub row-pushed : {X : Type 0} (old row new : List X) (width : ℕ) (keys : List SortKey) (key : SortKey) → new ≡ old ++ row → All (λ (k : SortKey). k.from + width ≤ length old) keys → key.from ≡ length old → width ≡ length row
    → keyed_rows new width (keys ++ key ∷ []) ≡ keyed_rows old width keys ++ row ∷ []
row-pushed old row new width keys key e within f w =
    ap (λ cells. keyed_rows cells width (keys ++ key ∷ [])) e ∙ map-append (keyed_row (old ++ row) width) keys (key ∷ []) ∙ ap₂ (λ rs r. rs ++ r ∷ []) (rows-more old row width keys within) (row-new old row width key f w)

-- rows of what is made of elements
pub rows-made : {X Y : Type 0} (f : X → Y) (xs : List X) (width : ℕ) (keys : List SortKey) → keyed_rows (map f xs) width keys ≡ map (map f) (keyed_rows xs width keys)
rows-made f xs width [] = refl
rows-made f xs width (key ∷ keys) = ap₂ (λ r rs. r ∷ rs) (ap (take width) (drop-map f key.from xs) ∙ take-map f width (drop key.from xs)) (rows-made f xs width keys)

pub rows-same : {X Y : Type 0} (f : X → Y) (xs ys : List X) (width : ℕ) (keys places : List SortKey) → keyed_rows ys width places ≡ keyed_rows xs width keys → keyed_rows (map f ys) width places ≡ keyed_rows (map f xs) width keys
rows-same f xs ys width keys places e = rows-made f ys width places ∙ ap (map (map f)) e ∙ sym (rows-made f xs width keys)

pub all-copied : {X : Type 0} (xs ys : List X) (width : ℕ) (keys places : List SortKey) (i : ℕ) → length keys ≤ i → keyed_rows ys width places ++ keyed_rows xs width (drop i keys) ≡ keyed_rows xs width keys → keyed_rows ys width places ≡ keyed_rows xs width keys
all-copied xs ys width keys places i past e = sym (append-nil (keyed_rows ys width places)) ∙ ap (λ ks. keyed_rows ys width places ++ keyed_rows xs width ks) (sym (drop_all i keys past)) ∙ e

-- ---- the first value of a row

pub none-first : (row : Row) → None ≡ slice_get row 0 → row ≡ []
none-first [] e = refl
none-first (c ∷ cs) e = cc e

drop-next : (cs : List Cell) (i : ℕ) (x : Cell) (xs : List Cell) → drop i cs ≡ x ∷ xs → drop (suc i) cs ≡ xs
drop-next [] zero x xs h = cc h
drop-next [] (suc i) x xs h = cc h
drop-next (d ∷ cs) zero x xs h = cc h
drop-next (d ∷ cs) (suc i) x xs h = drop-next cs i x xs h

pub first-is : (cells : List Cell) (from end : ℕ) (c : Cell) → end ≤ length cells → Some c ≡ slice_get (slice_range cells from end) 0 → slice_range cells from end ≡ c ∷ slice_range cells (from + 1) end
first-is cells from end c below e = go (end - from) (end - (from + 1)) (drop from cells) refl refl refl e
  where
    go : (n m : ℕ) (xs : List Cell) → n ≡ end - from → m ≡ end - (from + 1) → drop from cells ≡ xs → Some c ≡ slice_get (take n xs) 0 → take n xs ≡ c ∷ take m (drop (from + 1) cells)
    go zero m xs is so at h = cc h
    go (suc n) m [] is so at h = cc h
    go (suc n) m (x ∷ xs) is so at h =
        let same : m ≡ n = omega (arith, is, so) in
        let rest : drop (from + 1) cells ≡ xs = ap (λ k. drop k cells) (add-one from) ∙ drop-next cells from x xs at in
        let first : x ≡ c = cc h in
        ap₂ (λ y ys. y ∷ ys) first (ap₂ take (sym same) (sym rest))
