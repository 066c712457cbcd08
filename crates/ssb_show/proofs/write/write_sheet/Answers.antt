use Rattle.ssb_rows.proofs.Going.{ends_began}
use Rattle.ssb_rows.proofs.Written.{grew-both}
use Rattle.ssb_show.proofs.write.write_sheet.Goals as goal

pub returns-in_default-flush-clause-began : goal.returns-in_default-flush-clause-began
returns-in_default-flush-clause-began g c = ends_began _ _ _ _ _ _ c.new-page.ensures c.in-Ok.ensures.put c.in_default-flush.ensures.began

pub returns-in_default-flush-clause-holds : goal.returns-in_default-flush-clause-holds
returns-in_default-flush-clause-holds g c = grew-both _ _ _ _ _ _ c.in-Ok.ensures.grew c.in_default-flush.ensures.holds

pub returns-clause-holds : goal.returns-clause-holds
returns-clause-holds g c = grew-both _ _ _ _ _ _ c.in-Ok.ensures.grew c.in-Ok-flush.ensures.holds
