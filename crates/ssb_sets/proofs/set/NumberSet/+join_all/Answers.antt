use Rattle.ssb_sets.specs.NumberSets.{has}
use Rattle.ssb_sets.proofs.JoinFacts.{halves}
use Rattle.ssb_sets.proofs.set.NumberSet.+join_all.Goals as goal

pub returns : goal.returns
returns t c n = halves c.args.by (λ s. has s n) c.args.sets.now c.split_at.result.0.now c.split_at.result.1.now _ _ _ c.split_at.ensures.by_index.0 (c.in_ok-front.ensures n) (c.in_ok-back.ensures n) (c.in_ok-join.ensures n)
