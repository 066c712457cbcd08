-- A line in columns, field by field.
use Rattle.std.proofs.Common.{◌≡◌, ◌∙◌, ◌++◌, ◌∷◌, ◌+◌, ◌||◌, [], ℕ, zero, suc, Bool, true, false, List, Option, Some, None, map, drop, slice_get, add-one, refl, sym, ap}
use Rattle.std.specs.Prelude.{unwrap_or}
use Rattle.std.specs.List.{list_any}
use Rattle.std.proofs.lemmas.List.{at_drop_more}
use Rattle.std.proofs.lemmas.Option.{get_or_from_slice_get, slice_get_within}
use Rattle.ssb_rows.specs.Writing.{Desk, Puts}
use Rattle.ssb_rows.proofs.Going.{Going, going-end}
use Rattle.ssb_show.specs.Columns.{Field, Line, fields_from, gap_if, has_letters, in_column}
use Rattle.ssb_show.specs.Pieces.{letters_at}
use Rattle.ssb_show.proofs.Putting.{going-on}

-- the field at a place is the first of those from there on
pub field-first : (widths : List ℕ) (line : Line) (place width : ℕ) (f : Field) (more : Bool) → slice_get line place ≡ Some f → width ≡ unwrap_or (slice_get widths place) 0 → more ≡ list_any has_letters (drop (place + 1) line)
    → fields_from widths place (drop place line) ≡ (in_column width f ++ gap_if more width f) ++ fields_from widths (place + 1) (drop (place + 1) line)
field-first widths line place width f more here wide letters =
    at_drop_more (fields_from widths place) line place f (slice_get_within line place f here)
    ∙ ap (λ g. fields_from widths place (g ∷ drop (place + 1) line)) (get_or_from_slice_get line place f f here)
    ∙ ap (λ w. (in_column w f ++ gap_if (list_any has_letters (drop (place + 1) line)) w f) ++ fields_from widths (place + 1) (drop (place + 1) line)) (sym wide)
    ∙ ap (λ m. (in_column width f ++ gap_if m width f) ++ fields_from widths (place + 1) (drop (place + 1) line)) (sym letters)

-- where there is no field, none is left
none-left : (line : Line) (place : ℕ) → slice_get line place ≡ None → drop place line ≡ []
none-left [] zero none = refl
none-left [] (suc place) none = refl
none-left (f ∷ fs) zero none = cc none
none-left (f ∷ fs) (suc place) none = none-left fs place none

pub line-end : (a b : Desk) (text widths : List ℕ) (line : Line) (place : ℕ) → slice_get line place ≡ None → Going a b text (fields_from widths place (drop place line)) → Puts a b text
line-end a b text widths line place none g = going-end a b text (going-on a b text _ _ (ap (fields_from widths place) (none-left line place none)) g)

-- ---- whether a field from a place on shows anything

any-at : (line : Line) (place : ℕ) → list_any has_letters (drop place line) ≡ letters_at (slice_get line place) || list_any has_letters (drop (suc place) line)
any-at [] zero = refl
any-at [] (suc place) = refl
any-at (f ∷ fs) zero = refl
any-at (f ∷ fs) (suc place) = any-at fs place

pub any-found : (line : Line) (place : ℕ) (here all : Bool) → here ≡ letters_at (slice_get line place) → here ≡ true → list_any has_letters (drop place line) ≡ all → true ≡ all
any-found line place here all is found so_far = sym (ap (λ b. b || list_any has_letters (drop (suc place) line)) (sym is ∙ found)) ∙ sym (any-at line place) ∙ so_far

pub any-more : (line : Line) (place : ℕ) (here all : Bool) → here ≡ letters_at (slice_get line place) → here ≡ false → list_any has_letters (drop place line) ≡ all → list_any has_letters (drop (place + 1) line) ≡ all
any-more line place here all is lacks so_far =
    ap (λ n. list_any has_letters (drop n line)) (add-one place) ∙ sym (ap (λ b. b || list_any has_letters (drop (suc place) line)) (sym is ∙ lacks)) ∙ sym (any-at line place) ∙ so_far

-- what stands at a place of what one function makes of a list, and another of that
pub got-twice : {A B C : Type 0} (f : B → C) (g : A → B) (xs : List A) (place : ℕ) (got : Option C) → got ≡ slice_get (map (λ x. f (g x)) xs) place → got ≡ slice_get (map f (map g xs)) place
got-twice f g [] place got is = is
got-twice f g (x ∷ xs) zero got is = is
got-twice f g (x ∷ xs) (suc place) got is = got-twice f g xs place got is
