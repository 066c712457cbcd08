use Rattle.std.proofs.Common.{refl, arith}
use Rattle.std.proofs.lemmas.Result.{err_from_is_err_and}
use Rattle.ssb_lanes.specs.Assembly.{subject_in}
use Rattle.ssb_lanes.proofs.AssemblyFacts.{held-after}
use Rattle.ssb_lanes.proofs.AssemblyLines.{closed, closed-refuses}
use Rattle.std.proofs.lemmas.Grind.{common_steps}
use Rattle.ssb_lanes.proofs.assembly.Assembly.close.Goals as goal

pub returns-in_err-take_waiting-clause-refused : goal.returns-in_err-take_waiting-clause-refused
returns-in_err-take_waiting-clause-refused c =
    let out = err_from_is_err_and c.from_residual-in_err-take_waiting.result c.from_residual-in_err-take_waiting.ensures.1 in
    rw (out.1, out.2) (λ bytes h.
    let held = held-after c.args.self.now _ h.lists h.latest h.latest h.held refl refl refl h.held.taken h.held.few in
    closed-refuses c.args.self.now (subject_in c.args.self.now) bytes c.args.text.now _ h c.requires.line (λ rest. rw c.in_ok-keep.ensures.kept at (c.in_err-take_waiting.ensures.refused h.lists h.latest rest held)))

pub returns-clause-taken : goal.returns-clause-taken
returns-clause-taken c bytes h =
    let held = held-after c.args.self.now _ h.lists h.latest h.latest h.held refl refl refl h.held.taken h.held.few in
    let taken = rw c.in_ok-keep.ensures.kept at (c.in_ok-take_waiting.ensures.taken h.lists h.latest held) in
    closed c.args.self.now _ bytes c.args.text.now h c.requires.line (held-after _ _ _ _ _ taken refl refl refl taken.taken taken.few) c.clear.ensures.items refl

pub take_waiting-requires : goal.take_waiting-requires
take_waiting-requires c = grind (arith, common_steps)
