use Rattle.std.proofs.Common.{is_ok, subst}
use Rattle.ssb_answer.specs.Steps.{Took, sink_state}
use Rattle.ssb_answer.proofs.SessionFacts.{took-all}
use Rattle.ssb_answer.proofs.session.tell.Goals as goal

pub returns-in-Err-clause-told : goal.returns-in-Err-clause-told
returns-in-Err-clause-told g c =
    let w = c.write_all.ensures in
    let old = sink_state g.L.Sink c.args.lines.now in
    let new = sink_state g.L.Sink c.write_all.new.out in
    subst (λ t. Took (is_ok c.write_all.result) t old new) c.as_bytes-in-Err.ensures.value (took-all c.write_all.result c.as_bytes-in-Err.result.now old new w.wrote w.clean w.failed w.began)
