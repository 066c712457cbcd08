use Rattle.ssb_reply.proofs.Loading.{query_loaded}
use Rattle.ssb_reply.proofs.law.loaded_tables_fit.Goals as goal

pub returns : goal.returns
returns c = query_loaded
