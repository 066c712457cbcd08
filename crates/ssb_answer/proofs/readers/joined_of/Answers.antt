use Rattle.ssb_answer.proofs.Fresh.{maps-more}
use Rattle.ssb_answer.proofs.readers.joined_of.Goals as goal

pub loop-reader-preserved : goal.loop-reader-preserved
loop-reader-preserved g c =
    let l = c.loop-reader in
    let one = c.in_ok-joined in
    rw c.in_ok-push.ensures.items (record {
      whole = maps-more _ g.R.Read.remaining l.sources.items l.yielded one.field-0 c.in-Some.reader l.invariant.whole one.ensures.whole;
      given = maps-more _ _ l.sources.items l.yielded one.field-0 c.in-Some.reader l.invariant.given one.ensures.given;
    })
