use Rattle.std.proofs.Common.{subst, sym, arith}
use Rattle.ssb_lanes.specs.Lane.{IsRead}
use Rattle.ssb_lanes.specs.Part.{IsRefused}
use Rattle.ssb_lanes.proofs.TogetherFacts.{never-read, whenever-read}
use Rattle.std.proofs.lemmas.Grind.{common_steps}
use Rattle.ssb_lanes.proofs.assembly.Assembly.halt.Goals as goal

pub returns-in-Record-clause-halts : goal.returns-in-Record-clause-halts
returns-in-Record-clause-halts c = λ bytes more a h. c.refuse.ensures.halts bytes more a (subst (IsRefused c.args.part more) (sym c.in-Record.is) (rw c.in-Record.is at h))

pub returns-in-Read-clause-halts : goal.returns-in-Read-clause-halts
returns-in-Read-clause-halts c = λ bytes more a h. c.break_off.ensures bytes more a (rw c.in-Read.is at h)

pub returns-in-BadCatalog-clause-halts : goal.returns-in-BadCatalog-clause-halts
returns-in-BadCatalog-clause-halts c = λ bytes more a h. absurd (rw c.in-BadCatalog.is at h)

pub returns-in-Memory-clause-halts : goal.returns-in-Memory-clause-halts
returns-in-Memory-clause-halts c = λ bytes more a h. rw c.in-Memory.is tt

pub break_off-requires-clause-part : goal.break_off-requires-clause-part
break_off-requires-clause-part c = grind (arith, common_steps)

pub returns-in-Record-clause-broken : goal.returns-in-Record-clause-broken
returns-in-Record-clause-broken c = never-read _ (IsRead c.args.fault) (c.refuse.ensures.never _ _ c.in-Record.is)

pub returns-in-Read-clause-broken : goal.returns-in-Read-clause-broken
returns-in-Read-clause-broken c = whenever-read _ (IsRead c.args.fault) (rw c.in-Read.is tt)

pub returns-in-BadCatalog-clause-broken : goal.returns-in-BadCatalog-clause-broken
returns-in-BadCatalog-clause-broken c = rw c.in-BadCatalog.is tt

pub returns-in-Memory-clause-broken : goal.returns-in-Memory-clause-broken
returns-in-Memory-clause-broken c = rw c.in-Memory.is tt
