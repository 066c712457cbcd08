-- What the slices that a column lends tell of its values.
use Rattle.std.proofs.Common.{◌≡◌, ◌⊎◌, ◌↔◌, ◌∙◌, ◌<◌, ℕ, ℤ, suc, zero, Bool, true, false, List, [], ◌∷◌, Option, None, Some, inl, inr, refl, sym, ap, arith, length, slice_get}
use Rattle.std.proofs.lemmas.Option.{none-some, same_Some, slice_get_within}
use Rattle.ssb_cells.specs.Cell.{Cell, null, number}
use Rattle.ssb_cells.specs.Codes.{code_at}
use Rattle.ssb_cells.specs.Lent.{AreCodes, AreNulls, AreNumbers}
use Rattle.ssb_packed.specs.Lent.{flag_at}
use Rattle.ssb_cells.specs.Stored.{IsSpelt, cells_by, cells_in, count_in, spelt}
use Rattle.ssb_cells.specs.declared.column.Stored.{Stored}
use Rattle.ssb_cells.specs.declared.column.Stored.TheVariants as stored
use Rattle.ssb_cells.specs.declared.texts.Texts.{Texts}
use Rattle.ssb_cells.proofs.ColumnFacts.{cells-len, null-in, own-place}

number-or-null : (nulls : List Bool) (ns : List ℤ) → length nulls ≡ length ns → (i : ℕ) (n : ℤ) → slice_get ns i ≡ Some n → (slice_get (cells_by number nulls ns) i ≡ Some null) ⊎ (slice_get (cells_by number nulls ns) i ≡ Some (number n))
number-or-null [] [] e i n at = absurd (none-some n at)
number-or-null [] (x ∷ xs) e i n at = absurd (omega arith)
number-or-null (b ∷ bs) [] e i n at = absurd (omega arith)
number-or-null (true ∷ bs) (x ∷ xs) e zero n at = inl refl
number-or-null (false ∷ bs) (x ∷ xs) e zero n at = inr (ap (λ m. Some (number m)) (same_Some x n at))
number-or-null (b ∷ bs) (x ∷ xs) e (suc i) n at = number-or-null bs xs (omega (arith, e)) i n at

pub lent-numbers : (ns : List ℤ) (nulls : List Bool) → length nulls ≡ length ns → AreNumbers (cells_in (stored.Int ns) nulls) ns
lent-numbers ns nulls e = record { same = sym e ∙ sym (cells-len (stored.Int ns) nulls e); each = number-or-null nulls ns e }

pub lent-codes : (t : Texts) (nulls : List Bool) → length nulls ≡ length t.codes → IsSpelt (stored.Text t) nulls → AreCodes (cells_in (stored.Text t) nulls) t.codes
lent-codes t nulls e is = record { same = sym e ∙ sym (cells-len (stored.Text t) nulls e); each = λ i code at. by i code at (slice_get nulls i) refl }
  where
    by : (i code : ℕ) → slice_get t.codes i ≡ Some code → (o : Option Bool) → slice_get nulls i ≡ o → (slice_get (cells_in (stored.Text t) nulls) i ≡ Some null) ⊎ (code_at (cells_in (stored.Text t) nulls) i ≡ Some code)
    by i code at None flag = let lt = slice_get_within t.codes i code at in absurd (past nulls i (omega (arith, e, lt)) flag)
      where
        past : (bs : List Bool) (i : ℕ) → i < length bs → slice_get bs i ≡ None → ⊥
        past [] i lt none = omega arith
        past (b ∷ bs) zero lt none = none-some b (sym none)
        past (b ∷ bs) (suc i) lt none = past bs i (omega (arith, lt)) none
    by i code at (Some true) flag = inl (null-in (stored.Text t) nulls i e flag)
    by i code at (Some false) flag = inr (own-place t nulls i code is flag at)

-- ---- nulls

null-only : {X : Type 0} (f : X → Cell) → ((x : X) → f x ≡ null → ⊥) → (bs : List Bool) (xs : List X) (i : ℕ) → slice_get (cells_by f bs xs) i ≡ Some null → slice_get bs i ≡ Some true
null-only f other [] xs i at = absurd (none-some null at)
null-only f other (b ∷ bs) [] i at = absurd (none-some null at)
null-only f other (true ∷ bs) (x ∷ xs) zero at = refl
null-only f other (false ∷ bs) (x ∷ xs) zero at = absurd (other x (same_Some (f x) null at))
null-only f other (b ∷ bs) (x ∷ xs) (suc i) at = null-only f other bs xs i at

null-back : (s : Stored) (nulls : List Bool) (i : ℕ) → slice_get (cells_in s nulls) i ≡ Some null → slice_get nulls i ≡ Some true
null-back (stored.Int ns) nulls i at = null-only number (λ n e. cc) nulls ns i at
null-back (stored.Text t) nulls i at = null-only (spelt t.dictionary) (λ n e. cc) nulls t.codes i at

pub lent-nulls : (s : Stored) (nulls : List Bool) (words : List ℕ) → length nulls ≡ count_in s → ((i : ℕ) → (flag_at words i ≡ true) ↔ (slice_get nulls i ≡ Some true)) → AreNulls (cells_in s nulls) words
lent-nulls s nulls words e flags i = (λ set. null-in s nulls i e ((flags i).0 set), λ at. (flags i).1 (null-back s nulls i at))
