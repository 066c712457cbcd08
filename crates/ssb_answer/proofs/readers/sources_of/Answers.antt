use Rattle.std.proofs.Common.{ap}
use Rattle.ssb_answer.proofs.Fresh.{maps-more}
use Rattle.ssb_answer.proofs.readers.sources_of.Goals as goal

pub loop-reader-preserved : goal.loop-reader-preserved
loop-reader-preserved g c =
    let l = c.loop-reader in
    let n = c.new.ensures in
    rw c.in_ok-push.ensures.items (record {
      whole = maps-more _ g.R.Read.remaining l.sources.items l.yielded c.new.result c.in-Some.reader l.invariant.whole (ap g.R.Read.remaining n.begun);
      given = maps-more _ _ l.sources.items l.yielded c.new.result c.in-Some.reader l.invariant.given n.given;
    })
