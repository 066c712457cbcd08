use Rattle.std.proofs.Common.{get_or, sym, subst}
use Rattle.ssb_groups.specs.Joining.{JoinsTotal, values_by}
use Rattle.ssb_groups.specs.Keys.{IsKept, kept_total, spelt_cell}
use Rattle.ssb_groups.specs.Tallies.{kept_totals, total_at}
use Rattle.ssb_groups.proofs.TallyFacts.{joined-all, joined-next, joined-none, kept-at}
use Rattle.ssb_groups.proofs.tallies.join_each_total.Goals as goal

pub loop-at-init : goal.loop-at-init
loop-at-init c = joined-none c.args.tables.now c.args.joining c.args.places.now (kept_totals c.args.more.now) c.args.tally.now c.requires.kept

pub join-requires-clause-right : goal.join-requires-clause-right
join-requires-clause-right c = subst (IsKept (values_by c.args.tables.now c.args.joining)) (kept-at c.args.more.now c.loop-at.at) (c.requires.more.kept c.loop-at.at)

pub loop-at-preserved : goal.loop-at-preserved
loop-at-preserved c =
    let l = c.loop-at in
    let w = c.args.joining in
    let values = values_by c.args.tables.now w in
    let q = get_or c.args.places.now l.at 0 in
    let x = c.join.new.into in
    joined-next c.args.tables.now w c.args.places.now (kept_totals c.args.more.now) c.args.tally.now l.tally l.at x c.requires.places c.loop-at-test.true l.invariant
    (subst (λ m. JoinsTotal w (total_at values l.tally q) (spelt_cell values m) (spelt_cell values (kept_total x))) (sym (kept-at c.args.more.now l.at)) c.join.ensures.joined) c.join.ensures.kept

pub returns : goal.returns
returns c = joined-all c.args.tables.now c.args.joining c.args.places.now (kept_totals c.args.more.now) c.args.tally.now c.loop-at.tally c.loop-at.at c.loop-at-test.false c.loop-at.invariant
