use Rattle.std.proofs.Common.{arith}
use Rattle.ssb_lanes.specs.Assembly.{subject_in}
use Rattle.ssb_lanes.proofs.AssemblyLines.{last-refuses, whole-last}
use Rattle.ssb_lanes.proofs.PartTaking.{if-err, on-ok}
use Rattle.std.proofs.lemmas.Grind.{common_steps}
use Rattle.ssb_lanes.proofs.assembly.Assembly.take_last.Goals as goal

pub returns-clause-taken : goal.returns-clause-taken
returns-clause-taken c = on-ok c.take_waiting.result (λ taken bytes h. whole-last c.args.self.now c.take_waiting.new.self bytes h (taken h.lists h.latest h.held)) c.take_waiting.ensures.taken

pub returns-clause-refused : goal.returns-clause-refused
returns-clause-refused c = if-err c.take_waiting.result _ _ (λ e refused bytes h. last-refuses c.args.self.now (subject_in c.args.self.now) bytes e h (λ rest. refused h.lists h.latest rest h.held)) c.take_waiting.ensures.refused

pub returns-then-is_empty-clause-taken : goal.returns-then-is_empty-clause-taken
returns-then-is_empty-clause-taken c = grind (arith, common_steps)
