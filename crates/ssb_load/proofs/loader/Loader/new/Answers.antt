use Rattle.ssb_load.proofs.HoldsFacts.{all-none, none-next}
use Rattle.ssb_load.proofs.loader.Loader.new.Goals as goal

pub loop-k-preserved : goal.loop-k-preserved
loop-k-preserved c = rw (c.in_ok-push.ensures.items, c.new.ensures) (none-next c.loop-k.k c.args.rules.now _ c.loop-k.columns.items c.loop-k-test.true c.loop-k.invariant)

pub returns-clause-columns : goal.returns-clause-columns
returns-clause-columns c = all-none c.loop-k.k c.args.rules.now c.loop-k.columns.items c.loop-k-test.false c.loop-k.invariant
