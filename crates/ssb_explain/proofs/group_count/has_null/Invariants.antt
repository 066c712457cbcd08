use Rattle.std.proofs.Common.{◌≡◌, false, take}
use Rattle.std.specs.List.{list_any}
use Rattle.ssb_conditions.specs.Holds.{is_null}
use Rattle.ssb_explain.proofs.group_count.has_null.Given as goal

abbrev pub invariant-loop-row : goal.invariant-loop-row
invariant-loop-row l = list_any is_null (take l.row l.column.values) ≡ false
