use Rattle.std.proofs.Common.{◌∙◌, arith}
use Rattle.ssb_lanes.proofs.JoiningFacts.{columns-table}
use Rattle.ssb_lanes.proofs.joining.join_parts.Goals as goal

pub new-requires-clause-some : goal.new-requires-clause-some
new-requires-clause-some g c =
    let is = c.in_ok-columns.ensures ∙ c.in_ok-stacks.ensures c.requires.parts.0 c.requires.parts.1 in
    let some = (columns-table c.args.rules.now _ c.in_ok-columns.columns.items is c.requires.some).0 in
    let own = c.in_ok-columns.columns.ok.0 in
    omega (arith, some, own)

pub new-requires-clause-long : goal.new-requires-clause-long
new-requires-clause-long g c =
    let is = c.in_ok-columns.ensures ∙ c.in_ok-stacks.ensures c.requires.parts.0 c.requires.parts.1 in
    (columns-table c.args.rules.now _ c.in_ok-columns.columns.items is c.requires.some).1
