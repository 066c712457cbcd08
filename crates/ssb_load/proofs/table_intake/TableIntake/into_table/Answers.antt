use Rattle.std.proofs.Common.{◌<◌, arith, subst, sym, vec_len}
use Rattle.ssb_cells.specs.Tables.{AreLong, rows_in}
use Rattle.ssb_load.proofs.HoldsFacts.{holds-long}
use Rattle.ssb_load.proofs.table_intake.TableIntake.into_table.Goals as goal

pub into_table-requires-clause-some : goal.into_table-requires-clause-some
into_table-requires-clause-some c =
    let n = c.args.self.rules.ok.0 in
    let some = c.requires.some in
    let long = holds-long c.args.self.rules.items c.requires.stands.0 _ _ c.requires.stands.1.holds (omega (arith, n, some)) in
    let own = c.args.self.loader.columns.ok.0 in
    subst (λ l. 0 < vec_len l.columns) (sym c.into_loader.ensures) (omega (arith, long.0, own))

pub into_table-requires-clause-long : goal.into_table-requires-clause-long
into_table-requires-clause-long c =
    let n = c.args.self.rules.ok.0 in
    let some = c.requires.some in
    let long = holds-long c.args.self.rules.items c.requires.stands.0 _ _ c.requires.stands.1.holds (omega (arith, n, some)) in
    subst (λ l. AreLong (rows_in l.columns.items) l.columns.items) (sym c.into_loader.ensures) long.1
