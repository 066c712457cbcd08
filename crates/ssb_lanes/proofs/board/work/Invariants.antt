use Rattle.ssb_load.specs.Subject.{table}
use Rattle.ssb_lanes.specs.Berth.{IsHand}
use Rattle.ssb_lanes.proofs.board.work.Given as goal

abbrev pub invariant-loop-at : goal.invariant-loop-at
invariant-loop-at g l = IsHand (table l.context.rules.now l.context.max_rows) l.berths l.hand.items
