use Rattle.std.proofs.Common.{◌++◌, ◌∙◌, ◌∷◌, [], ap}
use Rattle.ssb_lanes.specs.JoinedSource.{joined_source}
use Rattle.ssb_load.proofs.LoadingAll.{ran-one, refused-one, stops-one}
use Rattle.ssb_lanes.proofs.all_joined.load_one.Goals as goal

pub returns-in-Ok-push-clause-ran : goal.returns-in-Ok-push-clause-ran
returns-in-Ok-push-clause-ran g c =
    let only = c.in-Ok-push.ensures.items ∙ ap (λ tables. tables ++ c.in-Ok.table ∷ []) c.new-tables.ensures.items in
    ran-one joined_source c.args.loading.now.catalog.now c.args.number c.args.source.now c.load_table.new.source c.in-Ok.table c.push.new.self c.requires.number c.in-Ok.ensures.loads only

pub returns-in-Err-push-clause-ran : goal.returns-in-Err-push-clause-ran
returns-in-Err-push-clause-ran g c = refused-one joined_source c.args.loading.now.catalog.now c.args.number c.args.source.now c.load_table.new.source c.in-Ok.table c.requires.number c.in-Ok.ensures.loads

pub returns-in-Err-clause-ran : goal.returns-in-Err-clause-ran
returns-in-Err-clause-ran g c = stops-one joined_source c.args.loading.now.catalog.now c.args.number c.args.source.now c.load_table.new.source c.in-Err.fault c.requires.number c.in-Err.ensures.loads
