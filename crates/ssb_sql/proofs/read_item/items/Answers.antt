use Rattle.std.proofs.Common.{rules}
use Rattle.ssb_sql.specs.ReadSelects.{item_at}
use Rattle.ssb_sql.proofs.ItemFacts.{item_shrinks}
use Rattle.ssb_sql.proofs.read_item.items.Goals as goal

pub chain-requires-clause-shrinks : goal.chain-requires-clause-shrinks
chain-requires-clause-shrinks c = (item_at c.args.depth, item_shrinks c.args.depth, λ ts r h. search rules)

pub returns : goal.returns
returns c = c.chain.ensures (item_at c.args.depth) (item_shrinks c.args.depth) (λ ts r h. search rules)
