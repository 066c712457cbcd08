use Rattle.std.proofs.Common.{◌≡◌, ◌++◌, drop, map}
use Rattle.ssb_bind.specs.Resolved.{output_of}
use Rattle.ssb_sql.specs.declared.select.Item.{Item}
use Rattle.ssb_bind.specs.declared.resolved.ResolvedOutput.{ResolvedOutput}
use Rattle.ssb_bind.proofs.resolved.resolved_outputs.Given as goal

abbrev pub invariant-loop-item : goal.invariant-loop-item
invariant-loop-item l =
    let f : Item → ResolvedOutput = λ item. output_of l.scope.scope.catalog.now l.scope.scope.from.now l.scope.groups.now item.output in
    l.all ++ map f (drop l.item-index l.items) ≡ map f l.items
