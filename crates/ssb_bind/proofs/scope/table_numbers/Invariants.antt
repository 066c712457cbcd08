use Rattle.std.proofs.Common.{◌≡◌, ◌++◌, drop}
use Rattle.ssb_bind.specs.Columns.{table_numbers}
use Rattle.ssb_bind.specs.Faults.{unknown_table}
use Rattle.ssb_bind.proofs.scope.table_numbers.Given as goal

abbrev pub invariant-loop-name : goal.invariant-loop-name
invariant-loop-name l = (l.numbers ++ table_numbers l.catalog (drop l.name-index l.from) ≡ table_numbers l.catalog l.from) × (unknown_table l.catalog (drop l.name-index l.from) ≡ unknown_table l.catalog l.from)
