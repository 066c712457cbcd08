use Rattle.std.proofs.Common.{◌≡◌, ◌∙◌, ℤ, Bool, true, false, List, [], ◌∷◌, refl, sym, ap}
use Rattle.ssb_cells.specs.Cell.{number}
use Rattle.ssb_cells.specs.Tables.{Filled}
use Rattle.ssb_cells.specs.Codes.{texts_of}
use Rattle.ssb_cells.specs.Stored.{cells_by, cells_in, kind_of}
use Rattle.ssb_cells.specs.declared.column.Stored.{Stored}
use Rattle.ssb_cells.specs.declared.column.Stored.TheVariants as stored
use Rattle.ssb_terms.specs.declared.rule.ColType.TheVariants as kinds
use Rattle.ssb_cells.proofs.column.numbers_have_no_text.Goals as goal

no-text : (nulls : List Bool) (numbers : List ℤ) → texts_of (cells_by number nulls numbers) ≡ []
no-text [] numbers = refl
no-text (b ∷ nulls) [] = refl
no-text (true ∷ nulls) (n ∷ numbers) = no-text nulls numbers
no-text (false ∷ nulls) (n ∷ numbers) = no-text nulls numbers

none-in : (s : Stored) (nulls : List Bool) → kind_of s ≡ kinds.Int → texts_of (cells_in s nulls) ≡ []
none-in (stored.Int n) nulls e = no-text nulls n
none-in (stored.Text t) nulls e = cc

pub returns : goal.returns
returns c = ap (λ (f : Filled). texts_of f.values) (sym c.column.view_is) ∙ none-in c.column.inside.stored c.column.inside.nulls (ap (λ (f : Filled). f.kind) c.column.view_is ∙ c.requires)
