use Rattle.std.proofs.Common.{List, map}
use Rattle.ssb_lanes.specs.Joining.{AreColumnsOf}
use Rattle.ssb_records.specs.Records.{Fields}
use Rattle.ssb_lanes.proofs.JoiningFacts.{AreStacked}
use Rattle.ssb_lanes.proofs.joining.stack_all.Given as goal

abbrev pub invariant-loop-columns : goal.invariant-loop-columns
invariant-loop-columns l = (lists : List (List Fields)) → AreColumnsOf l.rules (map (λ v. v.items) l.fn.parts.items) lists → AreStacked l.rules lists l.stacks.items (map (λ v. v.items) l.columns-iterator.rest.items)
