use Rattle.std.proofs.Common.{◌<◌, arith}
use Rattle.std.proofs.lemmas.Result.{err_from_is_err_and}
use Rattle.ssb_catalog.specs.CatalogReading.{AreGoodEntries, ReadsCatalog}
use Rattle.ssb_records.specs.CutShort.{IsCutShort}
use Rattle.ssb_records.specs.Giving.{given_since}
use Rattle.ssb_records.specs.Records.{records_of}
use Rattle.ssb_catalog.proofs.CatalogTaking.{cut-short, fault-kind, judged, refuses-told, tells-given}
use Rattle.ssb_records.proofs.TakingAll.{of-all}
use Rattle.ssb_catalog.proofs.catalog.Catalog.read_in_pieces.Goals as goal

pub returns : goal.returns
returns g c =
    let taken = c.in_ok-take_all.ensures.taken in
    let reads = c.finish.ensures.reads _ taken in
    let ended = c.in_ok-take_all.ensures.ended in
    let met : 0 < g.S.Source.ends c.take_all.new.source = omega (arith, ended) in
    let given = given_since (g.S.Source.given c.args.source.now) (g.S.Source.given c.take_all.new.source) in
    let broken = judged c.finish.result _ _ (λ n. g.S.Source.failures c.args.source.now < g.S.Source.failures c.take_all.new.source) reads c.finish.ensures.faults ended in
    let short = judged c.finish.result _ _ (IsCutShort AreGoodEntries given) reads c.finish.ensures.faults ended in
    record {
      grows = c.take_all.ensures.grows;
      reads = reads;
      ended = broken.0;
      broken = broken.1;
      short = short.1;
      whole = c.take_all.ensures.whole;
      told =
          of-all _ _ (g.S.Source.given c.take_all.new.source) (λ all. ReadsCatalog (records_of (given_since (g.S.Source.given c.args.source.now) all)) c.finish.result) c.take_all.ensures.whole
          (g.met.S.Source.settled c.take_all.new.source met) reads;
      faults = broken.2;
    }

pub returns-in_err-take_all : goal.returns-in_err-take_all
returns-in_err-take_all g c =
    let e = c.in_err-take_all.field-0.0 in
    let stops = c.in_err-take_all.ensures.stops.fails in
    let reads = tells-given _ e stops in
    let out = err_from_is_err_and c.from_residual.result c.from_residual.ensures.1 in
    rw (out.1, out.2) (record {
      grows = c.take_all.ensures.grows;
      reads = reads;
      ended = tt;
      broken = c.in_err-take_all.ensures.broken;
      short = cut-short _ e stops;
      whole = c.take_all.ensures.whole;
      told = refuses-told _ _ e c.in_err-take_all.ensures.stops.told;
      faults = fault-kind _ e reads;
    })
