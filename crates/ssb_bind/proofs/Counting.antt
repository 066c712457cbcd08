-- Counting what a name or a key fits.
use Rattle.std.proofs.Common.{◌≡◌, ℕ, ◌+◌, ◌<◌, List, [], ◌∷◌, ◌++◌, length, drop, get_or, fold, slice_get, refl, sym, ap, ◌∙◌}
use Rattle.ssb_catalog.specs.Shapes.{TableShape}
use Rattle.ssb_sql.specs.declared.named.ColumnName.{ColumnName}
use Rattle.ssb_bind.specs.Columns.{and_one}
use Rattle.ssb_bind.specs.Columns.{fit_of, fitting_in, fitting_from}
use Rattle.ssb_query.specs.declared.column.BoundColumn.{BoundColumn}
use Rattle.ssb_bind.specs.declared.fit.Fit.{Fit}
use Rattle.ssb_bind.specs.declared.fit.Fit.TheVariants as fit
use Rattle.ssb_trees.proofs.Finding.{here}

fold-append : {A B : Type 0} (f : B → A → B) (b : B) (xs ys : List A) → fold f b (xs ++ ys) ≡ fold f (fold f b xs) ys
fold-append f b [] ys = refl
fold-append f b (x ∷ xs) ys = fold-append f (f b x) xs ys

several : {A : Type 0} (xs : List A) → fold and_one fit.Several xs ≡ fit.Several
several [] = refl
several (x ∷ xs) = several xs

pub fit_of-fold : {A : Type 0} (xs : List A) → fold and_one fit.Missing xs ≡ fit_of xs
fit_of-fold [] = refl
fit_of-fold (x ∷ []) = refl
fit_of-fold (x ∷ y ∷ ys) = several ys

-- the columns of one table of FROM more
pub next_table : (c : List TableShape) (name : ColumnName) (from : List ℕ) (place n : ℕ) (found next whole : Fit BoundColumn) → place < length from → n ≡ get_or from place n
    → next ≡ fold and_one found (fitting_in name place (slice_get c n)) → fold and_one found (fitting_from c name place (drop place from)) ≡ whole
    → fold and_one next (fitting_from c name (place + 1) (drop (place + 1) from)) ≡ whole
next_table c name from place n found next whole below e is so_far =
    rw is (sym (fold-append and_one found (fitting_in name place (slice_get c n)) (fitting_from c name (place + 1) (drop (place + 1) from)))
    ∙ sym (ap (λ ns. fold and_one found (fitting_from c name place ns)) (here from place n below e))
    ∙ so_far)
