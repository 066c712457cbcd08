use Rattle.std.proofs.Common.{◌≡◌, ◌∙◌, ◌∷◌, ◌++◌, ◌+◌, [], Some, get_or, map, slice_get, take, refl, ap, subst, sym, arith}
use Rattle.std.proofs.lemmas.List.{length-map, length-set, map-set, take_all, take_more}
use Rattle.std.proofs.lemmas.Option.{get_or_from_slice_get}
use Rattle.std.specs.List.{list_any}
use Rattle.ssb_query.specs.declared.column.BoundColumn.{BoundColumn}
use Rattle.ssb_trees.specs.declared.aggregate.Aggregate.{Aggregate}
use Rattle.ssb_groups.specs.Gathering.{AreTaken, facts_where, over_at}
use Rattle.ssb_groups.specs.Stands.{least}
use Rattle.ssb_groups.specs.Tallies.{block_cells}
use Rattle.ssb_groups.proofs.TakenFacts.{facts-none, facts-seen, least-next}
use Rattle.ssb_groups.proofs.TallyFacts.{done-more, found, within}
use Rattle.ssb_groups.proofs.gather.gather.Goals as goal

pub loop-at-init : goal.loop-at-init
loop-at-init c = record {
  least = ap least (sym (facts-none c.args.job.now (λ rows. list_any (λ a. over_at c.args.job.now a rows) (take 0 c.args.job.now.query.aggregates)) c.args.block.now (λ rows. refl)));
  taken = λ i a lt at. absurd (omega (arith, lt));
  many = refl;
}

pub loop-at-preserved : goal.loop-at-preserved
loop-at-preserved c =
    let j = c.args.job.now in
    let l = c.loop-at in
    let aggs = j.query.aggregates in
    let block = c.args.block.now in
    let x = c.gather_column.new.totals in
    let many = l.invariant.many in
    let all = c.requires.many in
    let one = found aggs l.at (omega (arith, c.loop-at-test.true, many, all)) in
    let a = one.0 in
    let lt = within aggs l.at a one.1 in
    let more : take (l.at + 1) aggs ≡ take l.at aggs ++ a ∷ [] = take_more aggs l.at a lt ∙ ap (λ y. take l.at aggs ++ y ∷ []) (get_or_from_slice_get aggs l.at a a one.1) in
    record {
      least =
          subst (λ xs. c.in_ok-found.found ≡ least (facts_where j (λ rows. list_any (λ y. over_at j y rows) xs) block)) (sym more)
          (least-next j (take l.at aggs) a block l.found c.in_ok-found.found l.invariant.least (c.in_ok-found.ensures.least a one.1));
      taken = λ i b below at.
          subst (λ ts. AreTaken j b block (get_or ts i [])) (sym (map-set block_cells l.totals l.at x))
          (done-more [] (λ n t. (b : Aggregate BoundColumn) → slice_get aggs n ≡ Some b → AreTaken j b block t) (map block_cells l.totals) l.at (block_cells x) (omega (arith, lt, many, all, length-map l.totals block_cells)) (λ n less b e. l.invariant.taken n b less e) (λ b e. c.in_ok-found.ensures.taken b e) i below b at);
      many = length-set l.totals l.at x ∙ many;
    }

pub returns-clause-least : goal.returns-clause-least
returns-clause-least c =
    let j = c.args.job.now in
    let l = c.loop-at in
    let many = l.invariant.many in
    let all = c.requires.many in
    l.invariant.least ∙ ap (λ xs. least (facts_where j (λ rows. list_any (λ a. over_at j a rows) xs) c.args.block.now)) (take_all l.at j.query.aggregates (omega (arith, c.loop-at-test.false, many, all)))
    ∙ ap least (facts-seen j c.args.block.now)

pub returns-clause-taken : goal.returns-clause-taken
returns-clause-taken c = λ i a at.
    let l = c.loop-at in
    let many = l.invariant.many in
    let all = c.requires.many in
    let lt = within c.args.job.now.query.aggregates i a at in
    l.invariant.taken i a (omega (arith, c.loop-at-test.false, lt, many, all)) at
