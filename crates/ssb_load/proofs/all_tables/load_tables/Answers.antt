use Rattle.std.proofs.Common.{◌+◌, Err, Ok, add-one, get_or, length, refl, subst, arith}
use Rattle.ssb_load.proofs.LoadingAll.{begun-all, begun-length, begun-next, begun-refused, begun-stops, length-within, rules-within}
use Rattle.ssb_load.proofs.LoadingAll.Begun.{start}
use Rattle.ssb_load.specs.Runs.{IsLoaded}
use Rattle.ssb_load.specs.Runs.Stops.{refused}
use Rattle.ssb_load.proofs.all_tables.load_tables.Goals as goal

pub loop-place-init : goal.loop-place-init
loop-place-init g c = record { count = refl; begun = rw c.new-tables.ensures.items start }

pub returns-in_default : goal.returns-in_default
returns-in_default g c =
    let lt = c.loop-place-test.true in
    refused (begun-refused g.S.Source c.index-sources-place.result c.load_in_pieces.new.source c.loop-place.invariant.begun lt c.load_in_pieces.ensures.grows)

pub returns-in-Err : goal.returns-in-Err
returns-in-Err g c =
    let lt = c.loop-place-test.true in
    let long = length-within c.args.catalog.now c.args.first (length c.args.sources.now) c.requires in
    begun-stops g.S.Source c.args.first (c.args.first + c.loop-place.place) c.index-sources-place.result c.load_in_pieces.new.source c.in-Err.fault refl c.loop-place.invariant.begun (omega (arith, lt, long)) long
    (subst (λ rules. IsLoaded g.S.Source rules (get_or c.loop-place.sources c.loop-place.place c.index-sources-place.result) c.load_in_pieces.new.source (Err c.in-Err.fault)) (rules-within c.args.catalog.now c.args.first (length c.args.sources.now) c.loop-place.place lt) c.in-Err.ensures)

pub loop-place-preserved : goal.loop-place-preserved
loop-place-preserved g c =
    let lt = c.loop-place-test.true in
    let long = length-within c.args.catalog.now c.args.first (length c.args.sources.now) c.requires in
    let begun = begun-next g.S.Source c.index-sources-place.result c.load_in_pieces.new.source c.in-Ok.table c.loop-place.invariant.begun (omega (arith, lt, long)) long
    (subst (λ rules. IsLoaded g.S.Source rules (get_or c.loop-place.sources c.loop-place.place c.index-sources-place.result) c.load_in_pieces.new.source (Ok c.in-Ok.table)) (rules-within c.args.catalog.now c.args.first (length c.args.sources.now) c.loop-place.place lt) c.in-Ok.ensures) in
    record { count = begun-length g.S.Source begun; begun = rw (c.in-Ok-push.ensures.items, add-one c.loop-place.place) begun }

pub returns : goal.returns
returns g c =
    let le = c.loop-place-test.false in
    let long = length-within c.args.catalog.now c.args.first (length c.args.sources.now) c.requires in
    begun-all g.S.Source c.loop-place.invariant.begun (omega (arith, le, long)) long
