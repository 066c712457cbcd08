use Rattle.std.proofs.Common.{◌∙◌, [], get_or, sym, ap, subst, arith}
use Rattle.std.proofs.Math.ListN.{set}
use Rattle.std.proofs.lemmas.List.{set-get_or}
use Rattle.ssb_groups.specs.Keys.{IsKept, kept_total}
use Rattle.ssb_groups.specs.declared.joining.Joining.TheVariants as joining
use Rattle.ssb_groups.specs.declared.kept.KeptTotal.TheVariants as total
use Rattle.ssb_groups.proofs.NumberFacts.{next}
use Rattle.ssb_groups.proofs.TallyFacts.{JoinedTo, joined-all}
use Rattle.ssb_groups.proofs.tallies.add_all.Goals as goal
use Rattle.ssb_groups.proofs.tallies.add_all.Goals.{then-places-at, else-places-at}

pub loop-at-preserved : goal.loop-at-preserved
loop-at-preserved c =
    let l = c.loop-at in
    let x = c.add_alone-total.result in
    let places = c.args.places.now in
    let more = c.args.more.now in
    let before = c.args.tally.now in
    let lt = c.loop-at-test.true in
    let same = l.auto.tally in
    let long = c.if-places-at.auto.tally in
    let below = c.requires.places l.at 0 lt in
    let within = l.invariant.within in
    let is-kept = λ (k : IsKept [] (kept_total c.if-places-at.total)). c.add_alone-total.ensures.kept k (c.requires.others l.at) in
    elim c.if-places-at.branch [
      | then-places-at w ↦
          record {
            joined = λ tables.
                next tables places more before c.if-places-at.tally c.if-places-at.place l.at c.if-places-at.total x c.requires.places lt (let at = w.place-is in omega (arith, at, below, same, long)) w.place-is c.add_alone-total.ensures.joined is-kept
                (subst (λ xs. JoinedTo tables joining.Adds places more before xs l.at) (sym (ap (λ t. set c.if-places-at.tally c.if-places-at.place t) (w.total-is ∙ ap (λ xs. get_or xs (get_or places l.at 0) total.Null) (sym w.tally-is) ∙ ap (λ p. get_or c.if-places-at.tally p total.Null) (sym w.place-is)) ∙ set-get_or c.if-places-at.tally c.if-places-at.place total.Null ∙ w.tally-is)) (l.invariant.joined tables));
            within = let at = w.place-is in omega (arith, at, below);
          }
      | else-places-at w ↦
          record {
            joined = λ tables.
                next tables places more before c.if-places-at.tally c.if-places-at.place l.at c.if-places-at.total x c.requires.places lt (let at = w.place-is in omega (arith, at, within, same, long)) (w.place-is ∙ sym w.if-places-at.false) c.add_alone-total.ensures.joined is-kept
                (subst (λ xs. JoinedTo tables joining.Adds places more before xs l.at) (sym (ap (λ xs. set xs c.if-places-at.place c.if-places-at.total) w.tally-is ∙ ap (λ p. set l.tally p c.if-places-at.total) w.place-is ∙ ap (λ t. set l.tally l.place t) w.total-is)) (l.invariant.joined tables));
            within = let at = w.place-is in omega (arith, at, within);
          }
    ]

pub returns : goal.returns
returns c = λ tables. joined-all tables joining.Adds c.args.places.now c.args.more.now c.args.tally.now (set c.loop-at.tally c.loop-at.place c.loop-at.total) c.loop-at.at c.loop-at-test.false (c.loop-at.invariant.joined tables)
