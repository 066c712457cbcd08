use Rattle.std.proofs.Common.{◌++◌, arith}
use Rattle.ssb_lanes.specs.Assembly.{subject_in}
use Rattle.ssb_lanes.proofs.AssemblyLines.{halts-broken, refuses-halts, refuses-on}
use Rattle.ssb_lanes.proofs.assembly.Assembly.break_off.Goals as goal

pub overflow_add-result : goal.overflow_add-result
overflow_add-result c = let h = (c.in-Ok.ensures.taken c.requires.assembled.0 c.requires.part.0 c.requires.assembled.1 c.requires.part.1).held in let few = h.few in let limit = h.limit in omega (arith, few, limit)

pub overflow_add-result-in-Ok : goal.overflow_add-result-in-Ok
overflow_add-result-in-Ok c = let h = (c.in-Ok.ensures.taken c.requires.assembled.0 c.requires.part.0 c.requires.assembled.1 c.requires.part.1).held in let few = h.few in let limit = h.limit in omega (arith, few, limit)

pub returns-in-Ok : goal.returns-in-Ok
returns-in-Ok c bytes more h b = halts-broken c.add.new.self (subject_in c.args.self.now) c.args.part bytes more b c.add.ensures.subject (c.in-Ok.ensures.taken bytes b.done h b.part)

pub returns-in-Err : goal.returns-in-Err
returns-in-Err c bytes more h b =
    refuses-halts c.args.self.now (bytes ++ more) c.in-Err.earlier (refuses-on (subject_in c.args.self.now) bytes b.done b.rest more c.in-Err.earlier b.split (c.in-Err.ensures.refused bytes b.done h b.part))
