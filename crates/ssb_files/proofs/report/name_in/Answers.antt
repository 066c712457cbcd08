use Rattle.std.proofs.Common.{refl, string_bytes, sym}
use Rattle.std.proofs.lemmas.Bool.{ltb-true}
use Rattle.std.proofs.lemmas.Option.{slice_get-map, slice_get_read}
use Rattle.ssb_files.proofs.report.name_in.Goals as goal

pub returns-in-Some : goal.returns-in-Some
returns-in-Some c =
    let names = c.args.names.now in
    let found = c.in-Some.ensures.lookup in
    let got = slice_get_read names _ c.in-Load.table c.in-Some.name.now refl (ltb-true _ _ (sym found.0)) found.1 in
    rw (c.in-Load.is, slice_get-map string_bytes names c.in-Load.table, got) c.as_str.ensures.value
