use Rattle.std.proofs.Common.{◌++◌, ◌∙◌, [], arith, subst, sym}
use Rattle.ssb_lanes.specs.Assembly.{Halts, subject_in}
use Rattle.ssb_lanes.proofs.AssemblyLines.{halts-refused, refuses-halts, refuses-on}
use Rattle.ssb_lanes.proofs.TogetherFacts.{no-read}
use Rattle.ssb_lanes.proofs.assembly.Assembly.refuse.Goals as goal

pub close-requires-clause-line : goal.close-requires-clause-line
close-requires-clause-line c = rw c.deref.ensures.value c.requires.line

pub overflow_add-self : goal.overflow_add-self
overflow_add-self c = let h = (c.in-Ok.ensures.taken c.requires.assembled.0 c.requires.assembled.1).held in let few = h.few in let limit = h.limit in omega (arith, few, limit)

pub moved-requires : goal.moved-requires
moved-requires c = (c.in-Ok.ensures.taken c.requires.assembled.0 c.requires.assembled.1).held.few

pub returns-in-Ok-clause-halts : goal.returns-in-Ok-clause-halts
returns-in-Ok-clause-halts c bytes more h r =
    let mid = rw c.deref.ensures.value at (c.in-Ok.ensures.taken bytes h) in
    let none = c.in-Ok.ensures.none in
    subst (λ s. Halts s (bytes ++ more) c.moved.result) c.close.ensures.subject
    (rw c.moved.ensures (halts-refused c.close.new.self c.args.part bytes more c.args.fault mid (c.requires.subject ∙ sym c.close.ensures.subject) none.0 none.1 r))

pub returns-clause-halts : goal.returns-clause-halts
returns-clause-halts c bytes more h r =
    refuses-halts c.args.self.now (bytes ++ more) c.in-Err.earlier (refuses-on (subject_in c.args.self.now) bytes c.args.part.head.items (r.lines ++ r.rest) more c.in-Err.earlier r.split (rw c.deref.ensures.value at (c.in-Err.ensures.refused bytes h)))

pub returns-in-Ok-clause-never : goal.returns-in-Ok-clause-never
returns-in-Ok-clause-never c f n is = rw (c.moved.ensures, is) tt

pub returns-clause-never : goal.returns-clause-never
returns-clause-never c f n is = no-read (subject_in c.args.self.now) _ c.in-Err.earlier (λ n. ⊥) (c.in-Err.ensures.refused c.requires.assembled.0 c.requires.assembled.1 [])
