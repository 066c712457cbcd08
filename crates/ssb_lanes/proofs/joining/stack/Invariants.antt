use Rattle.std.proofs.Common.{◌≡◌, ◌++◌, length}
use Rattle.ssb_lanes.specs.Joining.{behind_each}
use Rattle.ssb_lanes.proofs.joining.stack.Given as goal

abbrev pub invariant-loop-column : goal.invariant-loop-column
invariant-loop-column l = record {
  stacks : l.stacks.items ≡ behind_each l.fn.stacks.items l.yielded;
  rest : l.yielded ++ l.column-iterator.rest.items ≡ l.fn.columns.items;
  place : l.k ≡ length l.yielded;
}
