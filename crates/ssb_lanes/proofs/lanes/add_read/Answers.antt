use Rattle.std.proofs.Common.{◌++◌, ◌∙◌, [], subst, sym, arith}
use Rattle.ssb_lanes.specs.Assembly.{subject_in}
use Rattle.ssb_lanes.specs.Joined.{HasFailed}
use Rattle.ssb_lanes.specs.Lane.{EndsBy, Reads}
use Rattle.ssb_lanes.proofs.AssemblyLines.{refuses-halts}
use Rattle.ssb_lanes.proofs.PartTaking.{if-err, on-ok}
use Rattle.ssb_lanes.proofs.TogetherFacts.{no-read, read-through}
use Rattle.std.proofs.lemmas.Grind.{common_steps}
use Rattle.ssb_lanes.proofs.lanes.add_read.Goals as goal

pub halt-requires-clause-part : goal.halt-requires-clause-part
halt-requires-clause-part g c =
    let read = subst (Reads g.S.Source (subject_in c.args.assembly.now) c.args.lane.now) (sym c.replace.ensures.value ∙ c.in-Some.is) c.requires.read.reads in
    (g.S.Source.given c.args.lane.now.source, (subst (EndsBy g.S.Source c.args.lane.now c.in-Some.field-0) c.in-Some-stop.is read.1).halts)

pub returns-in-None-stop-clause-halts : goal.returns-in-None-stop-clause-halts
returns-in-None-stop-clause-halts g c =
    let read = subst (Reads g.S.Source (subject_in c.args.assembly.now) c.args.lane.now) (sym c.replace.ensures.value ∙ c.in-Some.is) c.requires.read.reads in
    let ended = subst (EndsBy g.S.Source c.args.lane.now c.in-Some.field-0) c.in-None-stop.is read.1 in
    if-err c.add.result _ _ (λ e refused bytes h. refuses-halts c.args.assembly.now (bytes ++ g.S.Source.given c.args.lane.now.source) e (refused bytes (g.S.Source.given c.args.lane.now.source) h ended.part)) c.add.ensures.refused

pub returns-in-None-stop-clause-taken : goal.returns-in-None-stop-clause-taken
returns-in-None-stop-clause-taken g c =
    let read = subst (Reads g.S.Source (subject_in c.args.assembly.now) c.args.lane.now) (sym c.replace.ensures.value ∙ c.in-Some.is) c.requires.read.reads in
    let ended = subst (EndsBy g.S.Source c.args.lane.now c.in-Some.field-0) c.in-None-stop.is read.1 in
    on-ok c.add.result (λ taken bytes h. taken bytes (g.S.Source.given c.args.lane.now.source) h ended.part) c.add.ensures.taken

pub returns-in-Some-stop-clause-halts : goal.returns-in-Some-stop-clause-halts
returns-in-Some-stop-clause-halts g c =
    let read = subst (Reads g.S.Source (subject_in c.args.assembly.now) c.args.lane.now) (sym c.replace.ensures.value ∙ c.in-Some.is) c.requires.read.reads in
    let stops = subst (EndsBy g.S.Source c.args.lane.now c.in-Some.field-0) c.in-Some-stop.is read.1 in
    λ bytes h. c.halt.ensures.halts bytes (g.S.Source.given c.args.lane.now.source) h stops.halts

pub returns-in-Some-stop-clause-broken : goal.returns-in-Some-stop-clause-broken
returns-in-Some-stop-clause-broken g c =
    let read = subst (Reads g.S.Source (subject_in c.args.assembly.now) c.args.lane.now) (sym c.replace.ensures.value ∙ c.in-Some.is) c.requires.read.reads in
    let stops = subst (EndsBy g.S.Source c.args.lane.now c.in-Some.field-0) c.in-Some-stop.is read.1 in
    read-through c.halt.result _ (HasFailed g.S.Source.failures c.args.lane.now) c.halt.ensures.broken stops.broken

pub returns-in-None-stop-clause-broken : goal.returns-in-None-stop-clause-broken
returns-in-None-stop-clause-broken g c =
    let read = subst (Reads g.S.Source (subject_in c.args.assembly.now) c.args.lane.now) (sym c.replace.ensures.value ∙ c.in-Some.is) c.requires.read.reads in
    let ended = subst (EndsBy g.S.Source c.args.lane.now c.in-Some.field-0) c.in-None-stop.is read.1 in
    let assembled = c.requires.assembled in
    if-err c.add.result _ _ (λ e refused. no-read (subject_in c.args.assembly.now) _ e (λ n. HasFailed g.S.Source.failures c.args.lane.now) (refused assembled.0 (g.S.Source.given c.args.lane.now.source) assembled.1 ended.part [])) c.add.ensures.refused

pub add-requires-clause-part : goal.add-requires-clause-part
add-requires-clause-part g c = grind (arith, common_steps)

pub returns-in-None-stop-clause-subject : goal.returns-in-None-stop-clause-subject
returns-in-None-stop-clause-subject g c = grind (arith, common_steps)

pub returns-in-None-stop-clause-met : goal.returns-in-None-stop-clause-met
returns-in-None-stop-clause-met g c = grind (arith, common_steps)
