use Rattle.ssb_catalog.proofs.CatalogFaults.{good-whole}
use Rattle.ssb_catalog.proofs.CatalogTaking.{told-reads}
use Rattle.ssb_catalog.proofs.catalog_intake.CatalogIntake.finish.Goals as goal

pub returns-clause-reads : goal.returns-clause-reads
returns-clause-reads c good h = good-whole good c.args.self.tables.items c.catalog_of.result h.clean h.tables_are c.catalog_of.ensures

pub returns-clause-faults : goal.returns-clause-faults
returns-clause-faults c = rw c.catalog_of.ensures (told-reads _)
