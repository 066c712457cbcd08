-- What a column's flags and values give as cells.
use Rattle.std.proofs.Common.{◌≡◌, ℕ, zero, suc, Bool, true, false, List, [], ◌∷◌, ◌++◌, length, slice_get, None, Some, cond, refl, sym, ap, arith, ◌+◌, ◌<◌, get_or, true≢false, ◌∙◌, length-append}
use Rattle.std.proofs.lemmas.Option.{get_or_from_slice_get, none-some, same_Some, slice_get_within}
use Rattle.ssb_cells.specs.Cell.{Cell, null, number, text}
use Rattle.ssb_terms.specs.declared.rule.ColType.TheVariants as kinds
use Rattle.ssb_cells.specs.Values.{cell_of, is_null_value}
use Rattle.ssb_cells.specs.declared.value.Value.{Value}
use Rattle.ssb_cells.specs.declared.value.Value.TheVariants as values
use Rattle.ssb_cells.specs.declared.column.Stored.{Stored}
use Rattle.ssb_cells.specs.declared.column.Stored.TheVariants as stored
use Rattle.ssb_cells.specs.Codes.{cell_code, code_at, code_of, with_text, texts_of}
use Rattle.ssb_cells.specs.declared.texts.Texts.{Texts}
use Rattle.ssb_cells.specs.Lawful.{FitsType}
use Rattle.ssb_cells.specs.Stored.{AreBelow, IsSpelt, HasRoom, cells_by, cells_in, code_for, count_in, kind_of, number_in, spelt, with_value}
use Rattle.ssb_cells.proofs.CodeFacts.{code-of, kept-code, length-texts, own-code, texts-more}

module _ {X : Type 0} (f : X → Cell) where
  length-cells_by : (bs : List Bool) (xs : List X) → length bs ≡ length xs → length (cells_by f bs xs) ≡ length bs
  length-cells_by [] xs e = refl
  length-cells_by (b ∷ bs) [] e = absurd (omega arith)
  length-cells_by (b ∷ bs) (x ∷ xs) e = let h = length-cells_by bs xs (omega arith) in omega arith

  -- a place that is flagged has no value
  null-at : (bs : List Bool) (xs : List X) (i : ℕ) → length bs ≡ length xs → slice_get bs i ≡ Some true → slice_get (cells_by f bs xs) i ≡ Some null
  null-at [] xs i e at = cc
  null-at (b ∷ bs) [] i e at = absurd (omega arith)
  null-at (b ∷ bs) (x ∷ xs) zero e at = let flag : b ≡ true = cc in rw flag refl
  null-at (b ∷ bs) (x ∷ xs) (suc i) e at = null-at bs xs i (omega arith) at

  -- a place that is not flagged has the value there
  pub value-at : (bs : List Bool) (xs : List X) (i : ℕ) (x : X) → slice_get bs i ≡ Some false → slice_get xs i ≡ Some x → slice_get (cells_by f bs xs) i ≡ Some (f x)
  value-at [] xs i x at is = cc
  value-at (b ∷ bs) [] i x at is = cc
  value-at (b ∷ bs) (y ∷ xs) zero x at is = let flag : b ≡ false = cc in let same : y ≡ x = cc in rw (flag, same) refl
  value-at (b ∷ bs) (y ∷ xs) (suc i) x at is = value-at bs xs i x at is

  -- one more place
  push-cells_by : (bs : List Bool) (xs : List X) (b : Bool) (x : X) → length bs ≡ length xs → cells_by f (bs ++ b ∷ []) (xs ++ x ∷ []) ≡ cells_by f bs xs ++ (cond b null (f x) ∷ [])
  push-cells_by [] [] b x e = refl
  push-cells_by [] (y ∷ xs) b x e = absurd (omega arith)
  push-cells_by (c ∷ bs) [] b x e = absurd (omega arith)
  push-cells_by (c ∷ bs) (y ∷ xs) b x e = ap (λ t. cond c null (f y) ∷ t) (push-cells_by bs xs b x (omega arith))

pub cells-len : (s : Stored) (nulls : List Bool) → length nulls ≡ count_in s → length (cells_in s nulls) ≡ length nulls
cells-len (stored.Int n) nulls e = length-cells_by number nulls n e
cells-len (stored.Text t) nulls e = length-cells_by (spelt t.dictionary) nulls t.codes e

pub null-in : (s : Stored) (nulls : List Bool) (i : ℕ) → length nulls ≡ count_in s → slice_get nulls i ≡ Some true → slice_get (cells_in s nulls) i ≡ Some null
null-in (stored.Int n) nulls i e at = null-at number nulls n i e at
null-in (stored.Text t) nulls i e at = null-at (spelt t.dictionary) nulls t.codes i e at

-- a code that no flag says to be null
pub below-at : (n : ℕ) (bs : List Bool) (codes : List ℕ) (i : ℕ) → AreBelow n bs codes → slice_get bs i ≡ Some false → i < length codes → get_or codes i 0 < n
below-at n [] codes i below at lt = absurd (none-some false at)
below-at n (b ∷ bs) [] i below at lt = absurd (omega arith)
below-at n (b ∷ bs) (c ∷ cs) zero below at lt = below.0 (same_Some b false at)
below-at n (b ∷ bs) (c ∷ cs) (suc i) below at lt = below-at n bs cs i below.1 at (omega arith)

-- where texts get one more, each code spells what it did
pub stay : (texts : List (List ℕ)) (v : Cell) (bs : List Bool) (codes : List ℕ) → AreBelow (length texts) bs codes
    → AreBelow (length (with_text texts v)) bs codes × (cells_by (spelt (with_text texts v)) bs codes ≡ cells_by (spelt texts) bs codes)
stay texts v [] codes below = (tt, refl)
stay texts v (b ∷ bs) [] below = (tt, refl)
stay texts v (b ∷ bs) (c ∷ cs) below =
    let rest = stay texts v bs cs below.1 in (
      (λ e. (kept-code texts v c (below.0 e)).0, rest.0),
      by b refl ∙ ap (λ t. cond b null (spelt texts c) ∷ t) rest.1,
    )
  where
    by : (flag : Bool) → b ≡ flag → cond b null (spelt (with_text texts v) c) ∷ cells_by (spelt (with_text texts v)) bs cs ≡ cond b null (spelt texts c) ∷ cells_by (spelt (with_text texts v)) bs cs
    by true e = rw e refl
    by false e = rw (e, (kept-code texts v c (below.0 e)).1) refl

push-below : (n : ℕ) (bs : List Bool) (codes : List ℕ) (b : Bool) (code : ℕ) → length bs ≡ length codes → AreBelow n bs codes → (b ≡ false → code < n) → AreBelow n (bs ++ b ∷ []) (codes ++ code ∷ [])
push-below n [] [] b code e below new = (new, tt)
push-below n [] (c ∷ cs) b code e below new = absurd (omega arith)
push-below n (d ∷ bs) [] b code e below new = absurd (omega arith)
push-below n (d ∷ bs) (c ∷ cs) b code e below new = (below.0, push-below n bs cs b code (omega arith) below.1 new)

cell-int : (v : Value) → FitsType kinds.Int (cell_of v) → cell_of v ≡ cond (is_null_value v) null (number (number_in v))
cell-int values.Null h = refl
cell-int (values.Int n) h = refl
cell-int (values.Text t) h = absurd h

cell-text : (texts : List (List ℕ)) (v : Value) → FitsType kinds.Text (cell_of v) → cell_of v ≡ cond (is_null_value v) null (spelt (with_text texts (cell_of v)) (code_for texts v))
cell-text texts values.Null h = refl
cell-text texts (values.Int n) h = absurd h
cell-text texts (values.Text t) h = ap text (sym (own-code texts t.now).1)

code-text : (texts : List (List ℕ)) (v : Value) → FitsType kinds.Text (cell_of v) → is_null_value v ≡ false → code_for texts v < length (with_text texts (cell_of v))
code-text texts values.Null h e = absurd (true≢false e)
code-text texts (values.Int n) h e = absurd h
code-text texts (values.Text t) h e = (own-code texts t.now).0

-- a value more
pub push-in : (s : Stored) (nulls : List Bool) (v : Value) → length nulls ≡ count_in s → IsSpelt s nulls → FitsType (kind_of s) (cell_of v) → cells_in (with_value s v) (nulls ++ is_null_value v ∷ []) ≡ cells_in s nulls ++ cell_of v ∷ []
push-in (stored.Int n) nulls v e spelt typed = push-cells_by number nulls n (is_null_value v) (number_in v) e ∙ ap (λ c. cells_by number nulls n ++ c ∷ []) (sym (cell-int v typed))
push-in (stored.Text t) nulls v e is typed =
    let more = with_text t.dictionary (cell_of v) in
    push-cells_by (spelt more) nulls t.codes (is_null_value v) (code_for t.dictionary v) e
    ∙ ap (λ c. cells_by (spelt more) nulls t.codes ++ c ∷ []) (sym (cell-text t.dictionary v typed))
    ∙ ap (λ cs. cs ++ cell_of v ∷ []) (stay t.dictionary (cell_of v) nulls t.codes is.1).1

pub spelt-more : (s : Stored) (nulls : List Bool) (v : Value) → length nulls ≡ count_in s → IsSpelt s nulls → FitsType (kind_of s) (cell_of v) → IsSpelt (with_value s v) (nulls ++ is_null_value v ∷ [])
spelt-more (stored.Int n) nulls v e is typed = tt
spelt-more (stored.Text t) nulls v e is typed = (
  ap (λ texts. with_text texts (cell_of v)) is.0 ∙ sym (texts-more (cells_by (spelt t.dictionary) nulls t.codes) (cell_of v)) ∙ ap texts_of (sym (push-in (stored.Text t) nulls v e is typed)),
  push-below (length (with_text t.dictionary (cell_of v))) nulls t.codes (is_null_value v) (code_for t.dictionary v) e (stay t.dictionary (cell_of v) nulls t.codes is.1).0 (code-text t.dictionary v typed),
)

-- there is a code for each value
pub room-in : (s : Stored) (nulls : List Bool) → length nulls ≡ count_in s → IsSpelt s nulls → length nulls < 4294967295 → HasRoom s
room-in (stored.Int n) nulls e is room = tt
room-in (stored.Text t) nulls e is room =
    let few = length-texts (cells_by (spelt t.dictionary) nulls t.codes) in
    let long = length-cells_by (spelt t.dictionary) nulls t.codes e in
    let size = ap length is.0 in
    omega (arith, few, long, size, room)

pub kind-stays : (s : Stored) (v : Value) → kind_of (with_value s v) ≡ kind_of s
kind-stays (stored.Int n) v = refl
kind-stays (stored.Text t) v = refl

pub count-more : (s : Stored) (v : Value) → count_in (with_value s v) ≡ count_in s + 1
count-more (stored.Int n) v = length-append n (number_in v ∷ [])
count-more (stored.Text t) v = length-append t.codes (code_for t.dictionary v ∷ [])

-- what a text column says of a row that is flagged, and of one that is not
pub null-code : (s : Stored) (nulls : List Bool) (i : ℕ) → length nulls ≡ count_in s → slice_get nulls i ≡ Some true → code_at (cells_in s nulls) i ≡ None
null-code s nulls i e at = ap (cell_code (cells_in s nulls)) (null-in s nulls i e at)

pub text-in : (t : Texts) (nulls : List Bool) (i code : ℕ) → slice_get nulls i ≡ Some false → slice_get t.codes i ≡ Some code → slice_get (cells_in (stored.Text t) nulls) i ≡ Some (spelt t.dictionary code)
text-in t nulls i code at is = value-at (spelt t.dictionary) nulls t.codes i code at is

pub own-place : (t : Texts) (nulls : List Bool) (i code : ℕ) → IsSpelt (stored.Text t) nulls → slice_get nulls i ≡ Some false → slice_get t.codes i ≡ Some code → code_at (cells_in (stored.Text t) nulls) i ≡ Some code
own-place t nulls i code is at found =
    let values = cells_in (stored.Text t) nulls in
    let within = slice_get_within t.codes i code found in
    let below : code < length t.dictionary = rw (get_or_from_slice_get t.codes i code 0 found) at (below-at (length t.dictionary) nulls t.codes i is.1 at within) in
    let inside : code < length (texts_of values) = rw is.0 at below in
    ap (cell_code values) (text-in t nulls i code at found)
    ∙ ap (λ texts. code_of values (get_or texts code [])) is.0
    ∙ code-of values code inside

pub no-null : (t : List ℕ) → Some (text t) ≡ Some null → ⊥
no-null t e = let bad : text t ≡ null = same_Some (text t) null e in cc
