use Rattle.std.proofs.Common.{◌∙◌, sym}
use Rattle.ssb_catalog.proofs.PlaceFacts.{some-columns, no-columns}
use Rattle.ssb_catalog.proofs.draft.columns_at.Goals as goal

pub returns-in-Some : goal.returns-in-Some
returns-in-Some c = c.columns.ensures ∙ (rw c.index-tables-k.is (some-columns c.args.tables.now c.args.name.now c.in-Some.k _ (sym c.requires ∙ c.in-Some.is)))

pub returns-in-None : goal.returns-in-None
returns-in-None c = sym (no-columns c.args.tables.now c.args.name.now (sym c.requires ∙ c.in-None.is))
