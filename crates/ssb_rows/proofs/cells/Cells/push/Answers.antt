use Rattle.std.proofs.Common.{◌∙◌, ◌++◌, ◌∷◌, [], map, string_bytes, ap}
use Rattle.ssb_cells.specs.Values.{cell_of}
use Rattle.ssb_rows.specs.Kept.{value_cell}
use Rattle.ssb_rows.proofs.KeptFacts.{cells-and}
use Rattle.ssb_rows.proofs.cells.Cells.push.Goals as goal

pub returns : goal.returns
returns c =
    ap (map (value_cell (string_bytes c.keep.new.texts))) c.in_ok-push.ensures.items ∙ cells-and _ _ c.self.inside.values.items c.in_ok-kept.kept _ c.keep.ensures.others c.self.invariant c.in_ok-kept.ensures.value
    ∙ ap (λ cells. cells ++ cell_of c.args.value ∷ []) c.self.view_is
