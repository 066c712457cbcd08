use Rattle.std.proofs.Common.{◌≡◌, arith, get_or, length, subst, sym}
use Rattle.std.proofs.lemmas.List.{length-map}
use Rattle.ssb_groups.specs.Joining.{JoinsTotal, values_by}
use Rattle.ssb_groups.specs.Keys.{IsKept, kept_total, spelt_cell}
use Rattle.ssb_groups.specs.Tallies.{kept_codes, total_at}
use Rattle.ssb_keys.specs.declared.kept.Kept.TheVariants as kept
use Rattle.ssb_groups.proofs.NumberFacts.{code-at}
use Rattle.ssb_groups.proofs.TallyFacts.{joined-all, joined-next, joined-none}
use Rattle.ssb_groups.proofs.tallies.join_each_code.Goals as goal

pub loop-at-init : goal.loop-at-init
loop-at-init c = joined-none c.args.tables.now c.args.joining c.args.places.now (kept_codes c.args.more.now) c.args.tally.now c.requires.kept

pub join-requires-clause-right : goal.join-requires-clause-right
join-requires-clause-right c =
    let cs = c.args.more.now in
    let long = c.requires.more.long in
    subst (IsKept (values_by c.args.tables.now c.args.joining)) (code-at cs c.loop-at.at (omega (arith, long, c.loop-at-test.true, length-map cs kept.Code))) (c.requires.more.kept c.loop-at.at)

pub loop-at-preserved : goal.loop-at-preserved
loop-at-preserved c =
    let l = c.loop-at in
    let w = c.args.joining in
    let values = values_by c.args.tables.now w in
    let cs = c.args.more.now in
    let q = get_or c.args.places.now l.at 0 in
    let x = c.join.new.into in
    let long = c.requires.more.long in
    joined-next c.args.tables.now w c.args.places.now (kept_codes cs) c.args.tally.now l.tally l.at x c.requires.places c.loop-at-test.true l.invariant
    (subst (λ m. JoinsTotal w (total_at values l.tally q) (spelt_cell values m) (spelt_cell values (kept_total x))) (sym (code-at cs l.at (omega (arith, long, c.loop-at-test.true, length-map cs kept.Code)))) c.join.ensures.joined) c.join.ensures.kept

pub returns : goal.returns
returns c = joined-all c.args.tables.now c.args.joining c.args.places.now (kept_codes c.args.more.now) c.args.tally.now c.loop-at.tally c.loop-at.at c.loop-at-test.false c.loop-at.invariant
