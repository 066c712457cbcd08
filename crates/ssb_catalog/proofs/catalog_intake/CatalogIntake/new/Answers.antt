use Rattle.std.proofs.Common.{refl}
use Rattle.ssb_catalog.proofs.CatalogFaults.{none-faulty}
use Rattle.ssb_catalog.proofs.DraftFacts.{draft-none}
use Rattle.ssb_catalog.proofs.catalog_intake.CatalogIntake.new.Goals as goal

pub returns : goal.returns
returns c = record {
  count = refl;
  clean = none-faulty;
  tables_are = c.new.ensures.items;
  draft = rw c.new.ensures.items draft-none;
  columns = rw c.new.ensures.items refl;
}
