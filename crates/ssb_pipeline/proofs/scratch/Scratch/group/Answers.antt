use Rattle.ssb_pipeline.proofs.PartialFacts.{over-none}
use Rattle.ssb_pipeline.proofs.scratch.Scratch.group.Goals as goal

pub group_morsels-requires-clause-none : goal.group_morsels-requires-clause-none
group_morsels-requires-clause-none c =
    let is = c.in_ok-groups.ensures in
    over-none c.args.job.now c.args.size c.in_ok-groups.groups is.stands is.job is.stands.counted
