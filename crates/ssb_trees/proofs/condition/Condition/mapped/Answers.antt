use Rattle.std.proofs.Common.{ap, ◌∙◌}
use Rattle.std.proofs.lemmas.Result.{IfOk-weaker}
use Rattle.ssb_trees.proofs.Turns.{whatever}
use Rattle.ssb_trees.proofs.condition.Condition.mapped.Goals as goal

pub returns : goal.returns
returns g c =
    IfOk-weaker c.mapped_condition.result _ _ (λ x h. h.0 ∙ ap (λ r. r.0) (whatever _ _ _ (λ each o. g.M.Leaves.given each.leaves.now o) _ c.args.self.now)) c.mapped_condition.ensures
