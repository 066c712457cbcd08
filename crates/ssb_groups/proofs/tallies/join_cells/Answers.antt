use Rattle.std.proofs.Common.{get_or, subst, sym}
use Rattle.ssb_groups.specs.Joining.{JoinsTotal, values_by}
use Rattle.ssb_groups.specs.Keys.{kept_total, spelt_cell}
use Rattle.ssb_groups.specs.Places.{IsJoined}
use Rattle.ssb_groups.specs.Tallies.{total_at}
use Rattle.ssb_groups.proofs.TallyFacts.{joined-all, joined-next, joined-none}
use Rattle.ssb_groups.proofs.tallies.join_cells.Goals as goal

pub returns-in-Adds : goal.returns-in-Adds
returns-in-Adds c = subst (λ w. IsJoined c.args.tables.now w c.args.places.now c.args.more.now c.args.tally.now c.add_all.new.tally) (sym c.in-Adds.is) (c.add_all.ensures c.args.tables.now)

pub loop-at-init : goal.loop-at-init
loop-at-init c = joined-none c.args.tables.now c.args.joining c.args.places.now c.args.more.now c.args.tally.now c.requires.kept

pub loop-at-preserved : goal.loop-at-preserved
loop-at-preserved c =
    let l = c.loop-at in
    let w = c.args.joining in
    let values = values_by c.args.tables.now w in
    let q = get_or c.args.places.now l.at 0 in
    let x = c.join.new.into in
    joined-next c.args.tables.now w c.args.places.now c.args.more.now c.args.tally.now l.tally l.at x c.requires.places c.loop-at-test.true l.invariant
    (subst (λ m. JoinsTotal w (total_at values l.tally q) (spelt_cell values m) (spelt_cell values (kept_total x))) c.of.ensures c.join.ensures.joined) c.join.ensures.kept

pub returns : goal.returns
returns c = joined-all c.args.tables.now c.args.joining c.args.places.now c.args.more.now c.args.tally.now c.loop-at.tally c.loop-at.at c.loop-at-test.false c.loop-at.invariant
