use Rattle.std.proofs.Common.{arith}
use Rattle.std.proofs.lemmas.Result.{err_from_is_err_and}
use Rattle.csv.specs.Records.{fields_of}
use Rattle.ssb_catalog.proofs.CatalogTaking.{drafts-more, refuses-here}
use Rattle.ssb_catalog.proofs.DraftFacts.{count-draft}
use Rattle.ssb_catalog.proofs.catalog_intake.CatalogIntakeIntake.take.Goals as goal

pub overflow_add-self : goal.overflow_add-self
overflow_add-self c = let s = c.requires.1 in let few = count-draft c.args.self.now.tables.items s.draft in let n = s.columns in omega (arith, few, n)

pub overflow_add-self-2 : goal.overflow_add-self-2
overflow_add-self-2 c = let s = c.requires.1 in let few = count-draft c.args.self.now.tables.items s.draft in let n = s.columns in omega (arith, few, n)

pub returns-clause-taken : goal.returns-clause-taken
returns-clause-taken c good h = drafts-more c.args.self.now _ good (fields_of c.args.row.now) h c.in_ok-accept.ensures.good c.in_ok-accept.ensures.put (omega arith)

pub returns-in_err-accept-clause-refused : goal.returns-in_err-accept-clause-refused
returns-in_err-accept-clause-refused c =
    let q = err_from_is_err_and c.from_residual.result c.from_residual.ensures.1 in
    rw (q.1, q.2) (λ good rest h. refuses-here c.args.self.now good rest (fields_of c.args.row.now) c.in_err-accept.field-0.0 h c.in_err-accept.ensures.refused)
