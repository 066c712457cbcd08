use Rattle.std.proofs.Common.{arith}
use Rattle.ssb_catalog.proofs.DraftFacts.{count-draft}
use Rattle.ssb_catalog.proofs.catalog_intake.CatalogIntakeIntake.accepted.Goals as goal

pub returns-clause-room : goal.returns-clause-room
returns-clause-room c = let s = c.requires.1 in let few = count-draft c.args.self.now.tables.items s.draft in let n = s.columns in omega (arith, few, n)
