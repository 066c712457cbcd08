use Rattle.std.proofs.Common.{◌≡◌, is_some, ap, ◌∙◌, rules}
use Rattle.std.specs.Option.{option_copied}
use Rattle.ssb_bind.specs.Names.{operand_names}
use Rattle.ssb_bind.proofs.Finding.{some_found}
use Rattle.ssb_bind.proofs.search.WithinTestOperand.passes.Goals as goal

pub returns : goal.returns
returns g c =
    let found : c.is_some.result ≡ is_some (option_copied c.in_operand.result) = search rules in
    found ∙ ap is_some c.in_operand.ensures ∙ some_found (g.S.Search.wanted c.args.self.now.search.now) (operand_names g.S.Search.names c.args.operand.now)
