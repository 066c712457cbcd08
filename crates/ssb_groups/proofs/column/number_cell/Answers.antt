use Rattle.std.proofs.lemmas.Option.{get_or_from_slice_get}
use Rattle.ssb_groups.proofs.ColumnFacts.{text-cell}
use Rattle.ssb_groups.proofs.column.number_cell.Goals as goal

pub unreachable-requires : goal.unreachable-requires
unreachable-requires c = text-cell c.args.column.now.values _ (c.args.row, c.requires.row, get_or_from_slice_get _ c.args.row _ _ c.in-Text.ensures) c.numbers_have_no_text.ensures
