use Rattle.std.proofs.Common.{◌∙◌, ap, sym}
use Rattle.std.proofs.lemmas.List.{length-map}
use Rattle.ssb_rows.specs.Entries.{entry_cell, seen, width_of}
use Rattle.ssb_rows.specs.Kept.{keyed_rows}
use Rattle.ssb_rows.proofs.KeptFacts.{row-pushed}
use Rattle.ssb_rows.proofs.rows_of.push_row.Goals as goal

pub returns-clause-row : goal.returns-clause-row
returns-clause-row c =
    let q = c.args.parts.now in
    ap (keyed_rows c.push_values.new.cells (width_of q)) c.in_ok-push.ensures.items
    ∙ row-pushed _ _ _ (width_of q) c.args.found.now.keys.items _ c.in_ok-push_values.ensures c.requires.within c.len-from.ensures (sym (length-map q.items (λ item. entry_cell (seen c.args.group.now) item.origin)))
