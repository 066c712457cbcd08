use Rattle.ssb_files.proofs.OpenFacts.{zip-more}
use Rattle.ssb_files.proofs.files.add_file.Goals as goal

pub returns-clause-sections : goal.returns-clause-sections
returns-clause-sections g c tables h = rw c.in-Ok.ensures.items (zip-more _ tables c.args.files.now.items c.args.table.now c.in_ok-sections.sections h c.in_ok-sections.ensures.sections)
