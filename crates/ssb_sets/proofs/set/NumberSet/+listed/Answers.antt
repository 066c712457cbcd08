use Rattle.std.specs.Ordering.{int_eq}
use Rattle.ssb_sets.proofs.JoinFacts.{any-halves}
use Rattle.ssb_sets.proofs.set.NumberSet.+listed.Goals as goal

pub returns : goal.returns
returns t c n lt =
    any-halves (λ m. int_eq n m) c.args.numbers.now c.split_at.result.0.now c.split_at.result.1.now _ _ _ c.split_at.ensures.by_index.0 (c.in_ok-front.ensures n lt) (c.in_ok-back.ensures n lt) (c.in_ok-join.ensures n)
