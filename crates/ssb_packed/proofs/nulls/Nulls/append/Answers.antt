use Rattle.ssb_packed.proofs.Loops.{added-more}
use Rattle.ssb_packed.proofs.nulls.Nulls.append.Goals as goal

pub loop-place-preserved : goal.loop-place-preserved
loop-place-preserved c = added-more c.args.self.now c.loop-place.self c.push.new.self c.args.other.now c.loop-place.place c.get.result c.in_ok-push.ensures.ok c.loop-place.invariant c.get.ensures
