use Rattle.std.proofs.Common.{◌∙◌, sym}
use Rattle.ssb_catalog.proofs.PlaceFacts.{some-put, new-put}
use Rattle.ssb_catalog.proofs.draft.put_entry.Goals as goal

pub returns-in_ok-push-in-Some : goal.returns-in_ok-push-in-Some
returns-in_ok-push-in-Some c =
    rw (c.in_ok-push-in-Some.ensures, c.index_mut-table.ensures.value) (some-put c.args.tables.now.items c.args.entry.table c.args.entry.column c.in-Some.k _ (sym c.requires ∙ c.in-Some.is))

pub returns-in_ok-push-in-None-2 : goal.returns-in_ok-push-in-None-2
returns-in_ok-push-in-None-2 c =
    new-put c.args.tables.now.items c.push-in-None-2.new.self.items c.args.entry.table c.args.entry.column c.new.result c.new-columns.result.items c.push-in-None.new.self.items (sym c.requires ∙ c.in-None.is)
    c.in_ok-push-in-None-2.ensures.items c.new.ensures.name c.new.ensures.columns c.in_ok-push-in-None.ensures.items c.new-columns.ensures.items
