use Rattle.std.proofs.Common.{◌<◌, ◌∙◌, ap, subst, arith}
use Rattle.std.proofs.lemmas.Result.{err_from_is_err_and}
use Rattle.ssb_load.specs.Subject.{table}
use Rattle.ssb_cells.specs.Lawful.{HasOneKey}
use Rattle.ssb_load.specs.Loading.{rules_at}
use Rattle.ssb_load.proofs.TableTaking.{all-lawful, gives-table, loads-nothing, loads-stopped, loads-table}
use Rattle.std.proofs.lemmas.Grind.{common_steps}
use Rattle.ssb_load.proofs.read_table.load_in_pieces.Goals as goal

pub returns-in-Ok-into_table : goal.returns-in-Ok-into_table
returns-in-Ok-into_table g c =
    let is = c.take_all.ensures.subject ∙ c.in-Ok-new.ensures.subject ∙ ap (λ rules. table rules c.args.max_rows) c.in-Ok.ensures.rules in
    let taken = c.in_ok-take_all.ensures.taken in
    let columns = c.in-Ok-into_table.ensures _ taken in
    let loads = gives-table c.take_all.new.intake _ c.args.max_rows _ c.in-Ok-into_table.table is taken columns in
    let ended = c.in_ok-take_all.ensures.ended in
    let met : 0 < g.S.Source.ends c.take_all.new.source = omega (arith, ended) in
    loads-table g.S.Source.given g.S.Source.failures g.S.Source.ends g.S.Source.whole _ c.args.max_rows c.args.source.now c.take_all.new.source c.in-Ok-into_table.table c.take_all.ensures.grows c.take_all.ensures.whole ended
    (g.met.S.Source.settled c.take_all.new.source met) loads
    (all-lawful c.take_all.new.intake _ c.args.max_rows _ c.in-Ok-into_table.table (subst HasOneKey c.in-Ok.ensures.rules c.in-Ok.ensures.key) is taken columns)

pub returns-in_err-take_all : goal.returns-in_err-take_all
returns-in_err-take_all g c =
    let is = c.in-Ok-new.ensures.subject ∙ ap (λ rules. table rules c.args.max_rows) c.in-Ok.ensures.rules in
    let out = err_from_is_err_and c.from_residual.result c.from_residual.ensures.1 in
    let failed = c.in_err-take_all.ensures in
    rw (out.1, out.2) (loads-stopped g.S.Source.given g.S.Source.failures g.S.Source.ends g.S.Source.whole _ _ c.args.max_rows c.args.source.now c.take_all.new.source _ is c.take_all.ensures.grows c.take_all.ensures.whole failed.broken failed.stops)

pub returns-in_default-new : goal.returns-in_default-new
returns-in_default-new g c = loads-nothing g.S.Source.given g.S.Source.failures g.S.Source.ends g.S.Source.whole (rules_at c.args.catalog.now c.args.table) c.args.max_rows c.args.source.now

pub returns-in_default : goal.returns-in_default
returns-in_default g c = loads-nothing g.S.Source.given g.S.Source.failures g.S.Source.ends g.S.Source.whole (rules_at c.args.catalog.now c.args.table) c.args.max_rows c.args.source.now

pub into_table-requires-clause-some : goal.into_table-requires-clause-some
into_table-requires-clause-some g c = grind (arith, common_steps)
