use Rattle.ssb_bind.proofs.Relation.{one_query}
use Rattle.ssb_bind.proofs.law.one_meaning.Goals as goal

pub returns : goal.returns
returns c = λ d s p q h g. one_query d s p q h.query g.query
