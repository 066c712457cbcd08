use Rattle.std.proofs.Common.{◌≡◌, ◌∙◌, ap, arith, get_or, of_z, pos, rules, subst, sym, to_z, w64}
use Rattle.ssb_groups.specs.Joining.{JoinsTotal, values_by}
use Rattle.ssb_groups.specs.Keys.{kept_total, spelt_cell}
use Rattle.ssb_groups.specs.Places.{IsJoined}
use Rattle.ssb_groups.specs.Tallies.{kept_numbers, total_at}
use Rattle.ssb_keys.specs.declared.kept.Kept.TheVariants as kept
use Rattle.ssb_groups.proofs.NumberFacts.{number-at}
use Rattle.ssb_groups.proofs.TallyFacts.{joined-all, joined-next}
use Rattle.ssb_groups.proofs.tallies.join_numbers.Goals as goal

pub returns-in-Adds : goal.returns-in-Adds
returns-in-Adds c = subst (λ w. IsJoined c.args.tables.now w c.args.places.now (kept_numbers c.args.more.now) c.args.tally.now c.add_numbers.new.tally) (sym c.in-Adds.is) (c.add_numbers.ensures c.args.tables.now)

pub loop-at-preserved : goal.loop-at-preserved
loop-at-preserved c =
    let l = c.loop-at in
    let w = c.args.joining in
    let values = values_by c.args.tables.now w in
    let more = c.args.more.now in
    let q = get_or c.args.places.now l.at 0 in
    let x = c.join.new.into in
    let beside = c.requires.more in
    let read : to_z w64 (of_z w64 (get_or more l.at (pos 0))) ≡ get_or more l.at (pos 0) = search rules in
    joined-next c.args.tables.now w c.args.places.now (kept_numbers more) c.args.tally.now l.tally l.at x c.requires.places c.loop-at-test.true l.invariant
    (subst (λ m. JoinsTotal w (total_at values l.tally q) (spelt_cell values m) (spelt_cell values (kept_total x))) (c.of-number.ensures ∙ ap kept.Number read ∙ sym (number-at more l.at (omega (arith, beside, c.loop-at-test.true)))) c.join.ensures.joined) c.join.ensures.kept

pub returns : goal.returns
returns c = joined-all c.args.tables.now c.args.joining c.args.places.now (kept_numbers c.args.more.now) c.args.tally.now c.loop-at.tally c.loop-at.at c.loop-at-test.false c.loop-at.invariant
