use Rattle.std.proofs.Common.{◌≡◌, ◌++◌}
use Rattle.ssb_cells.specs.Parts.{AreOfKind, values_of}
use Rattle.ssb_cells.proofs.parts.ColumnParts.join.Given as goal

abbrev pub invariant-loop-part : goal.invariant-loop-part
invariant-loop-part l = record {
  joined : l.column ≡ record { kind = l.fn.self.kind; values = values_of l.yielded };
  rest : values_of l.yielded ++ values_of l.part-iterator.rest.items ≡ l.fn.self.values;
  kinds : AreOfKind l.fn.self.kind l.part-iterator.rest.items;
}
