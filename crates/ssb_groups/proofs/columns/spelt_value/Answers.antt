use Rattle.std.proofs.Common.{[], ap, sym}
use Rattle.std.proofs.lemmas.Option.{get_or_from_slice_get}
use Rattle.ssb_cells.specs.Cell.{text}
use Rattle.ssb_cells.specs.Codes.{texts_of}
use Rattle.ssb_plan.specs.Inputs.{values_of}
use Rattle.ssb_groups.proofs.columns.spelt_value.Goals as goal

pub returns-in-Code : goal.returns-in-Code
returns-in-Code c =
    let values = values_of c.args.tables.now c.args.column in
    rw c.in-Code.is (ap text (sym (get_or_from_slice_get (texts_of values) c.in-Code.code c.text_in.result.now [] c.text_in.ensures)))
