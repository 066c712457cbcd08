use Rattle.std.proofs.Common.{◌<◌, ◌∙◌, ap, arith, get_or, length, subst, sym, take}
use Rattle.std.proofs.lemmas.List.{take_more}
use Rattle.ssb_files.proofs.files.open_all.Goals as goal

pub loop-table-preserved : goal.loop-table-preserved
loop-table-preserved g c =
    let k = c.loop-table.table-index in
    let is = c.tables-table-items.ensures.tables in
    let below = subst (λ ts. k < length ts) is c.loop-table-test.true in
    let table = c.table-item.is ∙ ap (λ ts. get_or ts k c.table-item.result) is in
    let added = c.in_default.ensures.added in
    let count = c.loop-table.invariant.files in
    let taken = c.remove-file.ensures.len in
    let left = c.loop-table.invariant.handles in
    record {
      handles = omega (arith, taken, left);
      files = omega (arith, added, count);
      unread = c.in_default.ensures.unread c.loop-table.invariant.unread;
      sections = rw (take_more c.args.catalog.now k c.table-item.result below, sym table) (c.in_default.ensures.sections (take k c.args.catalog.now) c.loop-table.invariant.sections);
    }
