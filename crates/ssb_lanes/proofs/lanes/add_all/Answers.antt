use Rattle.std.proofs.Common.{◌++◌, ◌<◌, ◌∙◌, ap, arith, rules, subst, sym, take}
use Rattle.std.specs.List.{flat_map}
use Rattle.ssb_lanes.specs.Assembly.{Halts, IsAssembled, subject_in}
use Rattle.ssb_records.specs.CutShort.{IfRead}
use Rattle.ssb_lanes.specs.Joined.{HasFailed, sources_in}
use Rattle.ssb_lanes.proofs.LaneFacts.{adding-ends, adding-next, adding-stops, forth-set, same-set}
use Rattle.std.proofs.lemmas.Grind.{common_steps}
use Rattle.ssb_lanes.proofs.lanes.add_all.Goals as goal

pub returns-in-Err-clause-sources : goal.returns-in-Err-clause-sources
returns-in-Err-clause-sources g c =
    same-set c.args.lanes.now c.loop-at.lanes c.loop-at.at c.index-lanes-at.result c.add_read.new.lane c.loop-at.invariant.same c.index-lanes-at.is (c.add_read.ensures.source ∙ ap (λ l. l.source) (sym c.index-lanes-at.is))

pub returns-in-Err-clause-stops : goal.returns-in-Err-clause-stops
returns-in-Err-clause-stops g c =
    let inv = c.loop-at.invariant in
    let here = sym c.index-lanes-at.is in
    let so_far = flat_map g.S.Source.given (take c.loop-at.at (sources_in c.args.lanes.now)) in
    adding-stops g.S.Source c.args.assembly.now c.loop-at.assembly c.args.lanes.now c.loop-at.lanes c.loop-at.at c.index-lanes-at.result c.add_read.new.lane c.in-Err.fault inv (search (rules)) c.index-lanes-at.is
    (c.add_read.ensures.source ∙ ap (λ l. l.source) here)
    (c.add_read.ensures.joined ∙ ap (λ l. l.joined) here)
    (subst (λ l. Halts (subject_in c.loop-at.assembly) (so_far ++ g.S.Source.given l.source) c.in-Err.fault) here (c.in-Err.ensures.halts so_far inv.assembled))
    (subst (λ l. IfRead c.in-Err.fault (λ n. HasFailed g.S.Source.failures l)) here c.in-Err.ensures.broken)

pub loop-at-preserved : goal.loop-at-preserved
loop-at-preserved g c =
    let inv = c.loop-at.invariant in
    let here = sym c.index-lanes-at.is in
    let so_far = flat_map g.S.Source.given (take c.loop-at.at (sources_in c.args.lanes.now)) in
    adding-next g.S.Source c.args.assembly.now c.loop-at.assembly c.add_read.new.assembly c.args.lanes.now c.loop-at.lanes c.loop-at.at c.index-lanes-at.result c.add_read.new.lane inv (search (rules)) c.index-lanes-at.is
    (c.add_read.ensures.source ∙ ap (λ l. l.source) here) (c.add_read.ensures.joined ∙ ap (λ l. l.joined) here) c.in-Ok.ensures.subject
    (subst (λ l. IsAssembled c.add_read.new.assembly (so_far ++ g.S.Source.given l.source)) here (c.in-Ok.ensures.taken so_far inv.assembled)) (subst (λ l. 0 < g.S.Source.ends l.source) here c.in-Ok.ensures.met)

pub returns-in-Err-clause-forth : goal.returns-in-Err-clause-forth
returns-in-Err-clause-forth g c =
    let here = sym c.index-lanes-at.is in
    forth-set g.S.Source.failures c.loop-at.lanes c.loop-at.at c.index-lanes-at.result c.add_read.new.lane c.loop-at.invariant.forth (search (rules)) c.index-lanes-at.is (c.add_read.ensures.source ∙ ap (λ l. l.source) here) (c.add_read.ensures.joined ∙ ap (λ l. l.joined) here)

pub returns-clause-taken : goal.returns-clause-taken
returns-clause-taken g c =
    let over = c.loop-at-test.false in
    adding-ends g.S.Source c.args.assembly.now c.loop-at.assembly c.args.lanes.now c.loop-at.lanes c.loop-at.at c.loop-at.invariant (omega (arith, over))

pub loop-at-init : goal.loop-at-init
loop-at-init g c = grind (arith, common_steps)

pub add_read-requires-clause-read : goal.add_read-requires-clause-read
add_read-requires-clause-read g c = grind (arith, common_steps)

pub offset_bounds-lanes-at : goal.offset_bounds-lanes-at
offset_bounds-lanes-at g c = grind (arith, common_steps)
