use Rattle.ssb_show.proofs.Putting.{repeat-breaks, repeat-end, repeat-more, repeat-start}
use Rattle.ssb_show.proofs.put.put_repeated.Goals as goal

pub loop-done-init : goal.loop-done-init
loop-done-init g c = repeat-start _ c.args.count c.args.byte

pub returns-in_default : goal.returns-in_default
returns-in_default g c = repeat-breaks _ _ _ c.args.count c.loop-done._done c.args.byte c.loop-done-test.true c.loop-done.invariant c.in_default.ensures

pub loop-done-preserved : goal.loop-done-preserved
loop-done-preserved g c = repeat-more _ _ _ c.args.count c.loop-done._done c.args.byte c.loop-done-test.true c.loop-done.invariant c.in-Ok.ensures

pub returns : goal.returns
returns g c = repeat-end _ _ c.args.count c.loop-done._done c.args.byte c.loop-done-test.false c.loop-done.invariant
