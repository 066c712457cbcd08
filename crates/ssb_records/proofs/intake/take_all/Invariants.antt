use Rattle.ssb_records.proofs.TakingAll.{IsTaking}
use Rattle.ssb_records.proofs.intake.take_all.Given as goal

abbrev pub invariant-loop : goal.invariant-loop
invariant-loop g l =
    IsTaking g.S.Source.given g.S.Source.failures g.S.Source.ends g.S.Source.whole g.T.Intake.subject g.T.Intake.stands
    l.pieces l.before l.fn.source l.source l.fn.intake l.intake
