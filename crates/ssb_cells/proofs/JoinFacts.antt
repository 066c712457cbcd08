-- Two lists of texts brought together, and the codes of two columns among them.
use Rattle.std.proofs.Common.{◌≡◌, ◌∙◌, ◌++◌, ◌∷◌, [], ◌+◌, ◌≤◌, ◌<◌, ◌⊎◌, inl, inr, ⊎_elim, ℕ, Bool, true, false, bytes_eq, List, length, map, get_or, fold, cond, refl, sym, ap, arith, length-append}
use Rattle.std.specs.List.{list_any, position_or_len}
use Rattle.std.proofs.lemmas.Bool.{or_cases, cases_lt}
use Rattle.std.proofs.lemmas.List.{get_or_append_left, get_or_push, length-map, map-append}
use Rattle.std.proofs.lemmas.List.Sums.{fold-append}
use Rattle.ssb_cells.specs.Cell.{Cell, null, number, text}
use Rattle.ssb_cells.specs.Codes.{texts_of, with_text}
use Rattle.ssb_cells.specs.Joined.{AreJoined, HasRoomFor, IsJoined, Recodes, with_texts}
use Rattle.ssb_packed.specs.Recoded.{recoded}
use Rattle.ssb_cells.specs.Stored.{AreBelow, IsSpelt, cells_by, cells_in, count_in, kind_of, spelt}
use Rattle.ssb_cells.specs.declared.column.Stored.{Stored}
use Rattle.ssb_cells.specs.declared.column.Stored.TheVariants as stored
use Rattle.ssb_cells.specs.declared.texts.Texts.{Texts}
use Rattle.ssb_cells.proofs.CodeFacts.{any-own, kept-code, length-fold, length-texts, own-code, same, stays, with-known, with-new}
use Rattle.ssb_cells.proofs.ColumnFacts.{cells-len, stay}

-- ---- the texts of two lists

pub with-one : (texts more : List (List ℕ)) (t : List ℕ) → with_texts texts (more ++ t ∷ []) ≡ with_text (with_texts texts more) (text t)
with-one texts more t = ap (fold with_text texts) (map-append text more (t ∷ [])) ∙ fold-append with_text texts (map text more) (text t ∷ [])

pub length-both : (texts more : List (List ℕ)) → length (with_texts texts more) ≤ length texts + length more
length-both texts more = let n = length-fold texts (map text more) in let long = length-map more text in omega (arith, n, long)

-- what is among the second is among both
among-both : (t : List ℕ) (texts more : List (List ℕ)) → list_any (bytes_eq t) more ≡ true → list_any (bytes_eq t) (with_texts texts more) ≡ true
among-both t texts [] e = absurd (cc)
among-both t texts (u ∷ more) e = ⊎_elim
    (λ here. stays t (with_text texts (text u)) (map text more) (ap (λ v. list_any (bytes_eq v) (with_text texts (text u))) (same t u here) ∙ any-own texts u))
    (λ later. among-both t (with_text texts (text u)) more later)
    (or_cases (bytes_eq t u) (list_any (bytes_eq t) more) e)

-- texts of values are put behind others as those values are
module _ (texts : List (List ℕ)) where
  with-value : (more : List (List ℕ)) (v : Cell) → with_text (with_texts texts more) v ≡ with_texts texts (with_text more v)
  with-value more null = refl
  with-value more (number n) = refl
  with-value more (text t) = by (list_any (bytes_eq t) more) refl
    where
      by : (b : Bool) → list_any (bytes_eq t) more ≡ b → with_text (with_texts texts more) (text t) ≡ with_texts texts (with_text more (text t))
      by true e = with-known (with_texts texts more) t (among-both t texts more e) ∙ ap (with_texts texts) (sym (with-known more t e))
      by false e = sym (ap (with_texts texts) (with-new more t e) ∙ with-one texts more t)

  with-values : (more : List (List ℕ)) (values : List Cell) → fold with_text (with_texts texts more) values ≡ with_texts texts (fold with_text more values)
  with-values more [] = refl
  with-values more (v ∷ values) = ap (λ ts. fold with_text ts values) (with-value more v) ∙ with-values (with_text more v) values

texts-both : (values more : List Cell) → texts_of (values ++ more) ≡ with_texts (texts_of values) (texts_of more)
texts-both values more = fold-append with_text [] values more ∙ with-values (texts_of values) [] more

-- ---- a table of codes

pub recodes-none : (new : List (List ℕ)) → Recodes [] [] new
recodes-none new = record { each_old = refl; below = λ code lt. absurd (omega (arith, lt)); same = λ code lt. absurd (omega (arith, lt)) }

-- the code of one text more
pub recodes-more : (table : List ℕ) (old new : List (List ℕ)) (t : List ℕ) → Recodes table old new → Recodes (table ++ position_or_len (bytes_eq t) new ∷ []) (old ++ t ∷ []) (with_text new (text t))
recodes-more table old new t r = record {
  each_old = let a = length-append table (place ∷ []) in let b = length-append old (t ∷ []) in let e = r.each_old in omega (arith, a, b, e);
  below = λ code lt. ⊎_elim (λ less. rw (early code less) (kept code less).0) (λ e. rw (late code e) (own-code new t).0) (side code lt);
  same = λ code lt. ⊎_elim
      (λ less. ap at (early code less) ∙ (kept code less).1 ∙ r.same code less ∙ sym (get_or_append_left old (t ∷ []) [] code less))
      (λ e. ap at (late code e) ∙ (own-code new t).1 ∙ sym (get_or_push old t [] code (sym e)))
      (side code lt);
}
  where
    place : ℕ
    place = position_or_len (bytes_eq t) new

    at : ℕ → List ℕ
    at k = get_or (with_text new (text t)) k []

    side : (code : ℕ) → code < length (old ++ t ∷ []) → (code < length old) ⊎ (code ≡ length old)
    side code lt = let n = length-append old (t ∷ []) in ⊎_elim inl (λ ge. inr (omega (arith, n, lt, ge))) (cases_lt code (length old))

    early : (code : ℕ) → code < length old → recoded (table ++ place ∷ []) code ≡ recoded table code
    early code less = let e = r.each_old in get_or_append_left table (place ∷ []) 0 code (omega (arith, e, less))

    late : (code : ℕ) → code ≡ length old → recoded (table ++ place ∷ []) code ≡ place
    late code e = get_or_push table place 0 code (r.each_old ∙ sym e)

    kept : (code : ℕ) → code < length old → (recoded table code < length (with_text new (text t))) × (get_or (with_text new (text t)) (recoded table code) [] ≡ get_or new (recoded table code) [])
    kept code less = kept-code new (text t) (recoded table code) (r.below code less)

-- ---- the values of two columns

append-cells : {X : Type 0} (f : X → Cell) (bs cs : List Bool) (xs ys : List X) → length bs ≡ length xs → cells_by f (bs ++ cs) (xs ++ ys) ≡ cells_by f bs xs ++ cells_by f cs ys
append-cells f [] cs [] ys e = refl
append-cells f [] cs (x ∷ xs) ys e = absurd (omega (arith, e))
append-cells f (b ∷ bs) cs [] ys e = absurd (omega (arith, e))
append-cells f (b ∷ bs) cs (x ∷ xs) ys e = ap (λ t. cond b null (f x) ∷ t) (append-cells f bs cs xs ys (omega (arith, e)))

append-below : (n : ℕ) (bs cs : List Bool) (codes more : List ℕ) → length bs ≡ length codes → AreBelow n bs codes → AreBelow n cs more → AreBelow n (bs ++ cs) (codes ++ more)
append-below n [] cs [] more e a b = b
append-below n [] cs (c ∷ codes) more e a b = absurd (omega (arith, e))
append-below n (d ∷ bs) cs [] more e a b = absurd (omega (arith, e))
append-below n (d ∷ bs) cs (c ∷ codes) more e a b = (a.0, append-below n bs cs codes more (omega (arith, e)) a.1 b)

-- where texts get others behind them, each code spells what it did
stay-all : (texts : List (List ℕ)) (values : List Cell) (bs : List Bool) (codes : List ℕ) → AreBelow (length texts) bs codes
    → AreBelow (length (fold with_text texts values)) bs codes × (cells_by (spelt (fold with_text texts values)) bs codes ≡ cells_by (spelt texts) bs codes)
stay-all texts [] bs codes below = (below, refl)
stay-all texts (v ∷ values) bs codes below =
    let one = stay texts v bs codes below in
    let rest = stay-all (with_text texts v) values bs codes one.0 in
    (rest.0, rest.1 ∙ one.1)

-- and a code by the table what it did among the old texts
module _ (table : List ℕ) (old new : List (List ℕ)) (r : Recodes table old new) where
  recoded-below : (bs : List Bool) (codes : List ℕ) → AreBelow (length old) bs codes → AreBelow (length new) bs (map (recoded table) codes)
  recoded-below [] codes below = tt
  recoded-below (b ∷ bs) [] below = tt
  recoded-below (b ∷ bs) (c ∷ codes) below = (λ e. r.below c (below.0 e), recoded-below bs codes below.1)

  recoded-cells : (bs : List Bool) (codes : List ℕ) → AreBelow (length old) bs codes → cells_by (spelt new) bs (map (recoded table) codes) ≡ cells_by (spelt old) bs codes
  recoded-cells [] codes below = refl
  recoded-cells (b ∷ bs) [] below = refl
  recoded-cells (true ∷ bs) (c ∷ codes) below = ap (λ t. null ∷ t) (recoded-cells bs codes below.1)
  recoded-cells (false ∷ bs) (c ∷ codes) below = rw (r.same c (below.0 refl)) (ap (λ t. spelt old c ∷ t) (recoded-cells bs codes below.1))

-- what a column stores with the values of another
pub record Joins (s p r : Stored) (bs cs : List Bool) : Type 0 where
  pub kind : kind_of r ≡ kind_of s
  pub count : count_in r ≡ count_in s + count_in p
  pub cells : cells_in r (bs ++ cs) ≡ cells_in s bs ++ cells_in p cs
  pub texts : IsSpelt r (bs ++ cs)

joined-texts : (a b c : Texts) (bs cs : List Bool) → length bs ≡ length a.codes → IsSpelt (stored.Text a) bs → IsSpelt (stored.Text b) cs → AreJoined a b c → Joins (stored.Text a) (stored.Text b) (stored.Text c) bs cs
joined-texts a b c bs cs e first second j = record {
  kind = refl;
  count = ap length j.codes ∙ length-append a.codes more ∙ ap (λ n. length a.codes + n) (length-map b.codes (recoded j.table));
  cells = cells;
  texts = (
    j.dictionary ∙ ap (λ t. with_texts t b.dictionary) first.0 ∙ ap (with_texts (texts_of (cells_in (stored.Text a) bs))) second.0
        ∙ sym (texts-both (cells_in (stored.Text a) bs) (cells_in (stored.Text b) cs)) ∙ ap texts_of (sym cells),
    rw j.codes (append-below (length c.dictionary) bs cs a.codes more e (rw j.dictionary kept.0) (recoded-below j.table b.dictionary c.dictionary j.recodes cs b.codes second.1)),
  );
}
  where
    more : List ℕ
    more = map (recoded j.table) b.codes

    kept : AreBelow (length (with_texts a.dictionary b.dictionary)) bs a.codes × (cells_by (spelt (with_texts a.dictionary b.dictionary)) bs a.codes ≡ cells_by (spelt a.dictionary) bs a.codes)
    kept = stay-all a.dictionary (map text b.dictionary) bs a.codes first.1

    cells : cells_in (stored.Text c) (bs ++ cs) ≡ cells_in (stored.Text a) bs ++ cells_in (stored.Text b) cs
    cells =
        ap (cells_by (spelt c.dictionary) (bs ++ cs)) j.codes ∙ append-cells (spelt c.dictionary) bs cs a.codes more e
        ∙ ap (λ xs. xs ++ cells_by (spelt c.dictionary) cs more) (ap (λ d. cells_by (spelt d) bs a.codes) j.dictionary ∙ kept.1)
        ∙ ap (λ xs. cells_in (stored.Text a) bs ++ xs) (recoded-cells j.table b.dictionary c.dictionary j.recodes cs b.codes second.1)

pub joins : (s p r : Stored) (bs cs : List Bool) → length bs ≡ count_in s → IsSpelt s bs → IsSpelt p cs → IsJoined s p r → Joins s p r bs cs
joins (stored.Int a) (stored.Int b) (stored.Int c) bs cs e first second j = record { kind = refl; count = ap length j ∙ length-append a b; cells = ap (cells_by number (bs ++ cs)) j ∙ append-cells number bs cs a b e; texts = tt }
joins (stored.Text a) (stored.Text b) (stored.Text c) bs cs e first second j = joined-texts a b c bs cs e first second j
joins (stored.Int a) (stored.Int b) (stored.Text c) bs cs e first second j = absurd j
joins (stored.Int a) (stored.Text b) (stored.Int c) bs cs e first second j = absurd j
joins (stored.Int a) (stored.Text b) (stored.Text c) bs cs e first second j = absurd j
joins (stored.Text a) (stored.Int b) (stored.Int c) bs cs e first second j = absurd j
joins (stored.Text a) (stored.Int b) (stored.Text c) bs cs e first second j = absurd j
joins (stored.Text a) (stored.Text b) (stored.Int c) bs cs e first second j = absurd j

-- there are codes for the texts of as many values as rows can be counted
pub room-for : (s p : Stored) (bs cs : List Bool) → length bs ≡ count_in s → length cs ≡ count_in p → IsSpelt s bs → IsSpelt p cs → length bs + length cs ≤ 4294967295 → HasRoomFor s p
room-for (stored.Int a) (stored.Int b) bs cs e f first second room = tt
room-for (stored.Int a) (stored.Text b) bs cs e f first second room = tt
room-for (stored.Text a) (stored.Int b) bs cs e f first second room = tt
room-for (stored.Text a) (stored.Text b) bs cs e f first second room =
    let few_a = ap length first.0 in
    let few_b = ap length second.0 in
    let most_a = length-texts (cells_in (stored.Text a) bs) in
    let most_b = length-texts (cells_in (stored.Text b) cs) in
    let long_a = cells-len (stored.Text a) bs e in
    let long_b = cells-len (stored.Text b) cs f in
    omega (arith, few_a, few_b, most_a, most_b, long_a, long_b, room)
