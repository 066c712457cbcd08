use Rattle.std.proofs.Common.{◌<◌, ◌∙◌, ap, length, map, rules, subst, sym}
use Rattle.std.proofs.lemmas.Result.{err_from_is_err_and}
use Rattle.ssb_lanes.specs.Assembly.{all_in, subject_in}
use Rattle.ssb_load.specs.Subject.{table}
use Rattle.ssb_lanes.specs.JoinedSource.{joined_source}
use Rattle.ssb_lanes.specs.Joining.{AreColumnsOf}
use Rattle.ssb_cells.specs.Lawful.{HasOneKey}
use Rattle.ssb_load.specs.Loading.{rules_at}
use Rattle.ssb_load.specs.Rules.{columns_of}
use Rattle.ssb_lanes.proofs.JoinedFacts.{all-settled}
use Rattle.ssb_lanes.proofs.JoiningFacts.{columns-of-parts, lawful-parts, loads-parts, parts-under}
use Rattle.ssb_load.proofs.TableTaking.{loads-no-memory, loads-nothing, loads-stopped, loads-table, refused-stops}
use Rattle.ssb_lanes.proofs.TogetherFacts.{more-ends, no-read}
use Rattle.ssb_lanes.proofs.read_joined.load_beside.Goals as goal

pub returns-in_err-read_together-clause-loads : goal.returns-in_err-read_together-clause-loads
returns-in_err-read_together-clause-loads g c =
    let is = c.in-Ok-new.ensures.subject ∙ ap (λ rules. table rules c.args.table.max_rows) (c.deref-2.ensures.value ∙ c.in-Ok.ensures.rules) in
    let out = err_from_is_err_and c.from_residual.result c.from_residual.ensures.1 in
    let failed = c.in_err-read_together.ensures in
    let source = joined_source {s = g.S.Source} in
    rw (out.1, out.2)
    (loads-stopped source.given source.failures source.ends source.whole _ _ c.args.table.max_rows c.args.source.now c.read_together.new.self _ is c.read_together.ensures.grows c.read_together.ensures.whole failed.broken failed.stops)

pub returns-in_err-parts-clause-loads : goal.returns-in_err-parts-clause-loads
returns-in_err-parts-clause-loads g c =
    let now = c.read_together.new.self in
    let old = c.args.source.now in
    let source = joined_source {s = g.S.Source} in
    let s = subject_in c.read_together.new.assembly in
    let is = c.in_ok-read_together.ensures.subject ∙ c.in-Ok-new.ensures.subject ∙ ap (λ rules. table rules c.args.table.max_rows) (c.deref-2.ensures.value ∙ c.in-Ok.ensures.rules) in
    let refused = c.in_err-parts.ensures.refused _ c.in_ok-read_together.ensures.taken in
    let e = c.in_err-parts.field-0.0 in
    let laws = g.met.S.Source g.world.𝓛 g.world.𝓜 g.world.𝓡 ((λ s x. x), (λ x. x), (λ x. x), λ x. x) in
    let settled = all-settled g.S.Source laws.begins laws.settled now (more-ends _ _ c.in_ok-read_together.ensures.ended) in
    let stops = refused-stops source.given source.whole s old now e c.read_together.ensures.whole settled refused in
    let out = err_from_is_err_and c.from_residual-in_err-parts.result c.from_residual-in_err-parts.ensures.1 in
    rw (out.1, out.2)
    (loads-stopped source.given source.failures source.ends source.whole s _ c.args.table.max_rows old now e is c.read_together.ensures.grows c.read_together.ensures.whole (no-read s _ e _ refused) stops)

pub join_parts-requires-clause-parts : goal.join_parts-requires-clause-parts
join_parts-requires-clause-parts g c lifetimes bounds =
    let is = c.in_ok-read_together.ensures.subject ∙ c.in-Ok-new.ensures.subject ∙ ap (λ rules. table rules c.args.table.max_rows) c.deref-2.ensures.value in
    let given = c.in_ok-parts.ensures.taken _ c.in_ok-read_together.ensures.taken in
    let parts = parts-under c.read_together.new.assembly.last c.in-Ok.rules.items c.args.table.max_rows _ _ is given in
    (parts.lists, subst (λ rules. AreColumnsOf rules (map (λ v. v.items) c.in_ok-parts.parts.items) parts.lists) (sym c.deref-3.ensures.value) (columns-of-parts c.in-Ok.rules.items c.args.table.max_rows _ _ parts (search (rules, c.well_formed))))

pub returns-in-Ok-join_parts-clause-loads : goal.returns-in-Ok-join_parts-clause-loads
returns-in-Ok-join_parts-clause-loads g c =
    let now = c.read_together.new.self in
    let source = joined_source {s = g.S.Source} in
    let rules = rules_at c.args.table.catalog.now c.args.table.number in
    let columns = c.in-Ok-join_parts.table in
    let is = c.in_ok-read_together.ensures.subject ∙ c.in-Ok-new.ensures.subject ∙ ap (λ rs. table rs c.args.table.max_rows) (c.deref-2.ensures.value ∙ c.in-Ok.ensures.rules) in
    let rules_are = c.deref-3.ensures.value ∙ c.in-Ok.ensures.rules in
    let parts = parts-under c.read_together.new.assembly.last rules c.args.table.max_rows _ _ is (c.in_ok-parts.ensures.taken _ c.in_ok-read_together.ensures.taken) in
    let of_parts = columns-of-parts rules c.args.table.max_rows _ _ parts (search (rules, c.well_formed)) in
    let columns_are =
    c.in-Ok-join_parts.ensures parts.lists (subst (λ rs. AreColumnsOf rs (map (λ v. v.items) c.in_ok-parts.parts.items) parts.lists) (sym rules_are) of_parts) ∙ ap (λ rs. columns_of rs (all_in parts.lists)) rules_are in
    let ended = c.in_ok-read_together.ensures.ended in
    let laws = g.met.S.Source g.world.𝓛 g.world.𝓜 g.world.𝓡 ((λ s x. x), (λ x. x), (λ x. x), λ x. x) in
    loads-table source.given source.failures source.ends source.whole rules c.args.table.max_rows c.args.source.now now columns c.read_together.ensures.grows c.read_together.ensures.whole ended
    (all-settled g.S.Source laws.begins laws.settled now (more-ends _ _ ended)) (loads-parts rules c.args.table.max_rows _ _ columns parts columns_are)
    (lawful-parts rules c.args.table.max_rows _ _ columns parts (subst HasOneKey c.in-Ok.ensures.rules c.in-Ok.ensures.key) columns_are)

pub returns-clause-loads : goal.returns-clause-loads
returns-clause-loads g c =
    let source = joined_source {s = g.S.Source} in
    loads-no-memory source.given source.failures source.ends source.whole (rules_at c.args.table.catalog.now c.args.table.number) c.args.table.max_rows c.args.source.now c.read_together.new.self c.read_together.ensures.grows c.read_together.ensures.whole

pub returns-in_default-new-clause-loads : goal.returns-in_default-new-clause-loads
returns-in_default-new-clause-loads g c =
    let source = joined_source {s = g.S.Source} in
    loads-nothing source.given source.failures source.ends source.whole (rules_at c.args.table.catalog.now c.args.table.number) c.args.table.max_rows c.args.source.now

pub returns-in_default-clause-loads : goal.returns-in_default-clause-loads
returns-in_default-clause-loads g c =
    let source = joined_source {s = g.S.Source} in
    loads-nothing source.given source.failures source.ends source.whole (rules_at c.args.table.catalog.now c.args.table.number) c.args.table.max_rows c.args.source.now

pub join_parts-requires-clause-some : goal.join_parts-requires-clause-some
join_parts-requires-clause-some g c lifetimes bounds = subst (λ rules. 0 < length rules) (sym c.deref-3.ensures.value) c.in-Ok.ensures.some
