-- Texts that are put one after the other.
use Rattle.std.proofs.Common.{◌≡◌, ◌∙◌, ◌++◌, ◌∷◌, ◌<◌, ◌≤◌, ◌+◌, ◌-◌, [], ℕ, suc, Bool, true, List, Global, replicate, map, string_bytes, sym, ap, subst, arith, Result}
use Rattle.std.specs.List.{join_with_byte}
use Rattle.std.specs.declared.string.String.{String}
use Rattle.ssb_rows.specs.Order.{Row}
use Rattle.ssb_rows.specs.Writing.{Breaks, Desk, Puts, Writes, barred}
use Rattle.ssb_rows.proofs.Going.{Going, going-start, going-more, going-breaks, going-end, joined, writes-after}
use Rattle.ssb_show.specs.Columns.{Field, gap_if, in_column, in_columns}
use Rattle.ssb_show.specs.Shown.{row_line, rows_of}

-- the text that is left, by another name
pub going-on : (a b : Desk) (text left now : List ℕ) → left ≡ now → Going a b text left → Going a b text now
going-on a b text left now e g = subst (Going a b text) e g

-- one text and another, of which the first has another name
pub writes-two : {E : Type 0} (r : Result (Unit {0}) E) (a b c : Desk) (x named y : List ℕ) → x ≡ named → Puts a b x → Writes r b c y → Writes r a c (named ++ y)
writes-two r a b c x named y e p w = subst (λ q. Writes r a c (q ++ y)) e (writes-after r a b c x y p w)

-- ---- bytes of one kind

one-of : (n i x : ℕ) → i < n → replicate (n - i) x ≡ (x ∷ []) ++ replicate (n - (i + 1)) x
one-of n i x below = let e : n - i ≡ suc (n - (i + 1)) = omega (arith, below) in ap (λ k. replicate k x) e

none-of : (n i x : ℕ) → n ≤ i → replicate (n - i) x ≡ []
none-of n i x past = let e : n - i ≡ 0 = omega (arith, past) in ap (λ k. replicate k x) e

pub repeat-start : (a : Desk) (n x : ℕ) → Going a a (replicate n x) (replicate (n - 0) x)
repeat-start a n x = let e : n ≡ n - 0 = omega arith in going-on a a _ _ _ (ap (λ k. replicate k x) e) (going-start a (replicate n x))

pub repeat-more : (a b c : Desk) (n i x : ℕ) → i < n → Going a b (replicate n x) (replicate (n - i) x) → Puts b c (x ∷ []) → Going a c (replicate n x) (replicate (n - (i + 1)) x)
repeat-more a b c n i x below g p = going-more a b c _ (x ∷ []) _ (going-on a b _ _ _ (one-of n i x below) g) p

pub repeat-breaks : (a b c : Desk) (n i x : ℕ) → i < n → Going a b (replicate n x) (replicate (n - i) x) → Breaks b c (x ∷ []) → Breaks a c (replicate n x)
repeat-breaks a b c n i x below g p = going-breaks a b c _ (x ∷ []) _ (going-on a b _ _ _ (one-of n i x below) g) p

pub repeat-end : (a b : Desk) (n i x : ℕ) → n ≤ i → Going a b (replicate n x) (replicate (n - i) x) → Puts a b (replicate n x)
repeat-end a b n i x past g = going-end a b _ (going-on a b _ _ _ (none-of n i x past) g)

-- ---- lists of texts

pub title-on : (a b : Desk) (text : List ℕ) (rest ts : List (String Global)) (t : String Global) → Going a b text (barred (map string_bytes rest)) → rest ≡ t ∷ ts → Going a b text ((124 ∷ []) ++ (string_bytes t ++ barred (map string_bytes ts)))
title-on a b text rest ts t g e = subst (λ r. Going a b text (barred (map string_bytes r))) e g

pub titles-are : (titles ts : List (String Global)) (t : String Global) → titles ≡ t ∷ ts → join_with_byte 124 (map string_bytes titles) ≡ string_bytes t ++ barred (map string_bytes ts)
titles-are titles ts t e = ap (λ q. join_with_byte 124 (map string_bytes q)) e ∙ joined (string_bytes t) (map string_bytes ts)

pub line-on : (a b : Desk) (text : List ℕ) (widths : List ℕ) (rest rs : List Row) (r : Row) → Going a b text (rows_of widths rest) → rest ≡ r ∷ rs → Going a b text (in_columns widths (row_line r) ++ rows_of widths rs)
line-on a b text widths rest rs r g e = subst (λ q. Going a b text (rows_of widths q)) e g

-- a field in its column, and what parts it from a text behind it
pub field-gap : {E : Type 0} (r : Result (Unit {0}) E) (a b c : Desk) (more : Bool) (width : ℕ) (f : Field) → more ≡ true → Puts a b (in_column width f) → Writes r b c (gap_if true width f) → Writes r a c (in_column width f ++ gap_if more width f)
field-gap r a b c more width f is p w = subst (λ m. Writes r a c (in_column width f ++ gap_if m width f)) (sym is) (writes-after r a b c _ _ p w)
