use Rattle.std.proofs.Common.{◌≡◌, is_some, ap, ◌∙◌, rules}
use Rattle.std.specs.Option.{option_copied}
use Rattle.ssb_trees.specs.Conditions.{operands}
use Rattle.ssb_bind.specs.Typing.{is_untyped_operand}
use Rattle.ssb_bind.proofs.Finding.{some_found}
use Rattle.ssb_bind.proofs.typing.has_untyped.Goals as goal

pub returns-in-Some : goal.returns-in-Some
returns-in-Some c =
    let found : c.is_some.result ≡ is_some (option_copied c.find.result) = search rules in
    rw c.in-Some.is (found ∙ ap is_some c.find.ensures ∙ some_found (is_untyped_operand c.args.typing.tables.now c.args.typing.from.now) (operands _ c.in-Some.condition))
