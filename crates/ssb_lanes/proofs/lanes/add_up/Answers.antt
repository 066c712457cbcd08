use Rattle.ssb_lanes.specs.Assembly.{subject_in}
use Rattle.ssb_lanes.proofs.lanes.add_up.Goals as goal

pub returns-in-Err-clause-stops : goal.returns-in-Err-clause-stops
returns-in-Err-clause-stops g c = c.go_on.ensures.stops (subject_in c.args.assembly.now) c.in-Err.ensures.stops
