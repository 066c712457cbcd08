use Rattle.ssb_catalog.proofs.BuiltInFacts.{built-in-catalog}
use Rattle.ssb_catalog.proofs.catalog.Catalog.ssb.Goals as goal

pub new-requires : goal.new-requires
new-requires c = rw c.in_ok-tables.ensures built-in-catalog
