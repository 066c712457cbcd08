use Rattle.std.proofs.Common.{◌∙◌, [], sym}
use Rattle.ssb_catalog.proofs.PlaceFacts.{some-full, no-full}
use Rattle.ssb_catalog.proofs.draft.is_full_for.Goals as goal

pub returns-in-Some : goal.returns-in-Some
returns-in-Some c = rw c.columns_at.ensures (sym (some-full c.args.tables.now c.args.name.now c.in-Some.field-0 (record { name = []; columns = [] }) (sym c.requires ∙ c.in-Some.is)))

pub returns-in-None : goal.returns-in-None
returns-in-None c = sym (no-full c.args.tables.now c.args.name.now (sym c.requires ∙ c.in-None.is))
