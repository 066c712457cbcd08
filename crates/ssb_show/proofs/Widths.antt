-- The widths of columns, line by line.
use Rattle.std.proofs.Common.{◌≡◌, ◌∙◌, ◌++◌, ◌∷◌, ◌+◌, [], ℕ, zero, suc, List, true, false, max, map, replicate, refl, sym, ap, arith}
use Rattle.std.specs.Int.{is_in_range}
use Rattle.std.specs.List.{list_all}
use Rattle.std.specs.Str.{IsAscii}
use Rattle.std.proofs.lemmas.List.{length-replicate}
use Rattle.std.proofs.lemmas.Str.{chars-IsAscii}
use Rattle.unicode_width.specs.Width.{str_width}
use Rattle.unicode_width.proofs.Rules.{str_width-printable}
use Rattle.ssb_rows.specs.Order.{Row}
use Rattle.ssb_show.specs.Columns.{Line, column_width, field_width, rule_field, width_at}
use Rattle.ssb_show.specs.Shown.{row_line}

-- ---- dashes

ascii : (n : ℕ) → IsAscii (replicate n 45)
ascii zero i = omega arith
ascii (suc n) zero = omega arith
ascii (suc n) (suc i) = ascii n i

printable : (n : ℕ) → list_all (is_in_range 0x20 0x7E) (replicate n 45) ≡ true
printable zero = refl
printable (suc n) = printable n

-- dashes are as wide as they are many
pub rule-width : (n : ℕ) → field_width (rule_field n) ≡ n
rule-width n = ap (str_width false) (chars-IsAscii (replicate n 45) (ascii n)) ∙ str_width-printable false (replicate n 45) (printable n) ∙ length-replicate n 45

-- ---- a column

max-apart : (a b c : ℕ) → max (max a b) c ≡ max a (max b c)
max-apart a b c = omega arith

none-max : (a : ℕ) → a ≡ max 0 a
none-max a = omega arith

max-none : (a : ℕ) → a ≡ max a 0
max-none a = omega arith

-- the widest of some lines and of others
pub column-apart : (xs ys : List Line) (place : ℕ) → column_width (xs ++ ys) place ≡ max (column_width xs place) (column_width ys place)
column-apart [] ys place = none-max (column_width ys place)
column-apart (x ∷ xs) ys place = ap (max (width_at place x)) (column-apart xs ys place) ∙ sym (max-apart (width_at place x) (column_width xs place) (column_width ys place))

-- one row more
pub column-more : (rest rows : List Row) (row : Row) (place so_far wide all next : ℕ) → rest ≡ row ∷ rows → wide ≡ width_at place (row_line row) → next ≡ max so_far wide
    → max so_far (column_width (map row_line rest) place) ≡ all → max next (column_width (map row_line rows) place) ≡ all
column-more rest rows row place so_far wide all next front width more inv =
    ap (λ n. max n (column_width (map row_line rows) place)) more ∙ max-apart so_far wide (column_width (map row_line rows) place)
    ∙ ap (λ w. max so_far (max w (column_width (map row_line rows) place))) width ∙ sym (ap (λ rs. max so_far (column_width (map row_line rs) place)) front) ∙ inv

-- no row more
pub column-end : (rest : List Row) (place so_far all : ℕ) → rest ≡ [] → max so_far (column_width (map row_line rest) place) ≡ all → so_far ≡ all
column-end rest place so_far all none inv = max-none so_far ∙ sym (ap (λ rs. max so_far (column_width (map row_line rs) place)) none) ∙ inv
