use Rattle.std.proofs.Common.{◌≡◌, ◌∙◌, ◌<◌, ◌∷◌, ◌++◌, ◌+◌, [], length, take, refl, ap, subst, sym, arith}
use Rattle.std.proofs.lemmas.List.{take_all, take_more}
use Rattle.std.proofs.lemmas.Option.{get_or_from_slice_get}
use Rattle.ssb_conditions.specs.Rows.{IsCombination}
use Rattle.ssb_plan.specs.JobShape.{from_tables}
use Rattle.ssb_groups.specs.Gathering.{AreTaken, facts_where, over_at}
use Rattle.ssb_groups.specs.Stands.{least, least_of}
use Rattle.ssb_groups.proofs.TakenFacts.{least-more, taken-more}
use Rattle.ssb_groups.proofs.gather.gather_rows.Goals as goal

pub least_with-found-requires : goal.least_with-found-requires
least_with-found-requires c =
    let block = c.args.block.now in
    let lt : c.loop-at.at < length block = omega (arith, c.loop-at-test.true, c.len-at-end.ensures) in
    subst (IsCombination (from_tables c.args.job.now)) (get_or_from_slice_get block c.loop-at.at c.row-row.result [] c.row-row.ensures) (c.requires.rows c.loop-at.at [] lt)

pub loop-at-preserved : goal.loop-at-preserved
loop-at-preserved c =
    let j = c.args.job.now in
    let a = c.args.aggregate.now in
    let block = c.args.block.now in
    let l = c.loop-at in
    let row = c.row-row.result in
    let lt : l.at < length block = omega (arith, c.loop-at-test.true, c.len-at-end.ensures) in
    let more = take_more block l.at row lt ∙ ap (λ x. take l.at block ++ x ∷ []) (get_or_from_slice_get block l.at row row c.row-row.ensures) in
    let e = c.take-taken.ensures in
    record {
      least =
          subst (λ xs. c.least_with-found.result ≡ least_of c.args.so_far (least (facts_where j (over_at j a) xs))) (sym more)
          (least-more j (over_at j a) (take l.at block) row c.args.so_far l.found c.least_with-found.result c.take-taken.result.over e.over l.invariant.least c.least_with-found.ensures);
      taken =
          subst (AreTaken j a (take (l.at + 1) block)) (sym c.in_ok-push.ensures.items)
          (subst (λ xs. AreTaken j a xs (l.totals.items ++ c.take-taken.result.total ∷ [])) (sym more)
          (taken-more j a (take l.at block) l.totals.items row c.take-taken.result.total l.invariant.taken (record { over = refl; alone = e.alone; kept = e.kept; ranged = e.ranged })));
    }

pub returns-clause-least : goal.returns-clause-least
returns-clause-least c =
    let l = c.loop-at in
    l.invariant.least ∙ ap (λ xs. least_of c.args.so_far (least (facts_where c.args.job.now (over_at c.args.job.now c.args.aggregate.now) xs))) (take_all l.at c.args.block.now (omega (arith, c.loop-at-test.false, c.len-at-end.ensures)))

pub returns-clause-taken : goal.returns-clause-taken
returns-clause-taken c =
    let l = c.loop-at in
    subst (λ xs. AreTaken c.args.job.now c.args.aggregate.now xs l.totals.items) (take_all l.at c.args.block.now (omega (arith, c.loop-at-test.false, c.len-at-end.ensures))) l.invariant.taken
