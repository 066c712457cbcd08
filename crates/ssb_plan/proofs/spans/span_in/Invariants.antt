use Rattle.std.proofs.Common.{◌≡◌, take}
use Rattle.ssb_plan.specs.Spans.{span_of}
use Rattle.ssb_plan.proofs.spans.span_in.Given as goal

abbrev pub invariant-loop-row : goal.invariant-loop-row
invariant-loop-row l = l.span ≡ span_of (take l.row l.column.values)
