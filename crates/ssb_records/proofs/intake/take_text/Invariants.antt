use Rattle.std.proofs.Common.{◌++◌, Some}
use Rattle.ssb_records.proofs.Taking.{Takes, text_left}
use Rattle.ssb_records.proofs.intake.take_text.Given as goal

abbrev pub invariant-loop : goal.invariant-loop
invariant-loop g l = Takes text_left g.T.Intake.subject g.T.Intake.stands (Some (l.before ++ l.text)) l.reader l.fn.intake l.intake
