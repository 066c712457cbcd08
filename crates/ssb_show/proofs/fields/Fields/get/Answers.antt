use Rattle.std.proofs.Common.{string_bytes}
use Rattle.ssb_show.specs.Columns.{left_field}
use Rattle.ssb_show.proofs.Lines.{got-twice}
use Rattle.ssb_show.proofs.fields.Fields.get.Goals as goal

pub returns-in-Titles : goal.returns-in-Titles
returns-in-Titles c = rw c.in-Titles.is (got-twice left_field string_bytes c.in-Titles.titles.now c.args.place _ c.title_at.ensures)
