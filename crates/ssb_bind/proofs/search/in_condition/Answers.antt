use Rattle.std.proofs.Common.{sym, ◌∙◌}
use Rattle.ssb_trees.specs.Conditions.{operands}
use Rattle.ssb_bind.specs.Names.{operand_names}
use Rattle.ssb_bind.proofs.Finding.{none_found, one_found}
use Rattle.ssb_bind.proofs.search.in_condition.Goals as goal

pub returns-in-None : goal.returns-in-None
returns-in-None g c =
    sym (none_found (g.S.Search.wanted c.args.search.now) (operand_names g.S.Search.names) (operands _ c.args.condition.now) (sym c.in-None.ensures))

pub returns-in-Some : goal.returns-in-Some
returns-in-Some g c =
    c.in_operand.ensures ∙ sym (one_found (g.S.Search.wanted c.args.search.now) (operand_names g.S.Search.names) (operands _ c.args.condition.now) c.in-Some.operand.now (sym c.in-Some.ensures))
