use Rattle.ssb_load.proofs.LoadingAll.{always-ok, ran-ended, ran-failed, ran-grows, ran-lawful, ran-loads, ran-told, ran-whole}
use Rattle.ssb_load.proofs.all_tables.load_all.Goals as goal

pub returns : goal.returns
returns g c =
    let source = g.S.Source in
    let catalog = c.args.catalog.now in
    let before = c.args.sources.now in
    let after = c.load_tables.new.sources in
    let r = c.load_tables.result in
    let ran = ran-whole source catalog before after r c.requires c.load_tables.ensures in
    record {
      grows = ran-grows source 0 catalog before after r ran;
      loads = ran-loads source catalog before after r ran;
      ended = ran-ended source 0 catalog before after r ran;
      failed = ran-failed source catalog before after r ran;
      told = λ files is. ran-told source catalog before after r files ran is;
      lawful = ran-lawful source 0 catalog before after r ran;
      catalog = always-ok r c.tables-lawful.ensures.lawful;
    }
