use Rattle.std.proofs.Common.{◌≡◌, ◌++◌, drop}
use Rattle.ssb_bind.specs.Rules.{rules_in}
use Rattle.ssb_bind.proofs.bind_select.rules_in.Given as goal

abbrev pub invariant-loop-table : goal.invariant-loop-table
invariant-loop-table l = l.tables ++ rules_in (drop l.table-index l.catalog) ≡ rules_in l.catalog
