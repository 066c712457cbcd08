use Rattle.std.proofs.Common.{◌≡◌, ◌∙◌, ◌<◌, ℕ, Some, [], get_or, map, slice_get, refl, sym, ap, subst, length, arith}
use Rattle.std.proofs.Math.ListN.{set}
use Rattle.std.specs.Vec.{with_items}
use Rattle.std.proofs.lemmas.List.{get_or-map, get_or-set_other, length-map, length-set, map-set, with_items_is}
use Rattle.ssb_groups.specs.Joining.{IsJoining, joining_of, values_by}
use Rattle.ssb_groups.specs.Keys.{IsKept, kept_total}
use Rattle.ssb_groups.specs.Places.{IsJoined}
use Rattle.ssb_groups.specs.Tallies.{IsAdded, items, lists}
use Rattle.ssb_groups.specs.declared.joining.Joining.TheVariants as joining
use Rattle.ssb_groups.specs.declared.kept.KeptTotal.TheVariants as total
use Rattle.ssb_trees.specs.declared.aggregate.Aggregate.{Aggregate}
use Rattle.ssb_query.specs.declared.column.BoundColumn.{BoundColumn}
use Rattle.ssb_groups.proofs.JoiningFacts.{joining-at}
use Rattle.ssb_groups.proofs.TallyFacts.{done-more, found, mapped-here, within}
use Rattle.ssb_groups.proofs.tallies.join_all.Goals as goal
use Rattle.ssb_groups.proofs.tallies.join_all.Goals.{After-index-more-at}

-- the aggregate whose tally is joined
aggregate : (g : _) (c : After-index-more-at g) → (a : Aggregate BoundColumn) × (slice_get c.args.columns.now.query.aggregates c.loop-at.at ≡ Some a)
aggregate g c =
    let j = c.args.columns.now in
    let many = ap length c.joinings-joinings.ensures.same ∙ length-map j.query.aggregates (joining_of j) in
    found j.query.aggregates c.loop-at.at (omega (arith, many, c.loop-at-test.true))

way : (g : _) (c : After-index-more-at g) → get_or c.joinings-joinings.result.now c.loop-at.at joining.Adds ≡ joining_of c.args.columns.now (aggregate g c).0
way g c =
    let j = c.args.columns.now in
    ap (λ ws. get_or ws c.loop-at.at joining.Adds) c.joinings-joinings.ensures.same ∙ mapped-here (joining_of j) j.query.aggregates c.loop-at.at (aggregate g c).0 joining.Adds (aggregate g c).1

values : (g : _) (c : After-index-more-at g) → values_by c.tables-tables.result.now (get_or c.joinings-joinings.result.now c.loop-at.at joining.Adds) ≡ values_by c.args.columns.now.tables (joining_of c.args.columns.now (aggregate g c).0)
values g c = ap (λ ts. values_by ts (get_or c.joinings-joinings.result.now c.loop-at.at joining.Adds)) c.tables-tables.ensures ∙ ap (values_by c.args.columns.now.tables) (way g c)

old : (g : _) (c : After-index-more-at g) → c.as_mut_slice-tally.result.now ≡ get_or (lists c.args.tallies.now) c.loop-at.at []
old g c =
    let l = c.loop-at in
    let many = l.invariant.many in
    let all = c.requires.tallies.are.many in
    let here = within c.args.columns.now.query.aggregates l.at (aggregate g c).0 (aggregate g c).1 in
    c.as_mut_slice-tally.ensures.value ∙ sym (get_or-map items l.tallies l.at c.index-tallies-at.result [] (omega (arith, many, all, here, length-map c.args.tallies.now items))) ∙ l.invariant.later l.at (omega arith)

more : (g : _) (c : After-index-more-at g) → g.T.Joins.stand c.index-more-at.result ≡ get_or (map g.T.Joins.stand c.args.more.now) c.loop-at.at []
more g c =
    let stand = g.T.Joins.stand in
    let all = c.requires.more.many in
    let here = within c.args.columns.now.query.aggregates c.loop-at.at (aggregate g c).0 (aggregate g c).1 in
    ap stand c.index-more-at.is ∙ sym (get_or-map stand c.args.more.now c.loop-at.at c.index-more-at.result [] (omega (arith, all, here, length-map c.args.more.now stand)))

pub join_column-requires-clause-joining : goal.join_column-requires-clause-joining
join_column-requires-clause-joining g c =
    let ws = c.joinings-joinings.result.now in
    let many = ap length c.joinings-joinings.ensures.same ∙ length-map c.args.columns.now.query.aggregates (joining_of c.args.columns.now) in
    let here = within c.args.columns.now.query.aggregates c.loop-at.at (aggregate g c).0 (aggregate g c).1 in
    subst (λ ts. IsJoining ts (get_or ws c.loop-at.at joining.Adds)) (sym c.tables-tables.ensures) (joining-at c.args.columns.now.tables ws c.loop-at.at joining.Adds c.joinings-joinings.ensures.known (omega (arith, many, here)))

pub join_column-requires-clause-places : goal.join_column-requires-clause-places
join_column-requires-clause-places g c = λ k d lt.
    let long = (c.requires.tallies.are.each c.loop-at.at (aggregate g c).0 (aggregate g c).1).long in
    let same = ap length (old g c) in
    let below = c.requires.tallies.within k d lt in
    omega (arith, long, same, below)

pub join_column-requires-clause-kept : goal.join_column-requires-clause-kept
join_column-requires-clause-kept g c = λ p.
    subst (λ vs. IsKept vs (kept_total (get_or c.as_mut_slice-tally.result.now p total.Null))) (sym (values g c))
    (subst (λ t. IsKept (values_by c.args.columns.now.tables (joining_of c.args.columns.now (aggregate g c).0)) (kept_total (get_or t p total.Null))) (sym (old g c)) ((c.requires.tallies.are.each c.loop-at.at (aggregate g c).0 (aggregate g c).1).kept p))

pub join_column-requires-clause-more : goal.join_column-requires-clause-more
join_column-requires-clause-more g c =
    subst (λ vs. IsAdded vs (length c.args.places.now) (g.T.Joins.stand c.index-more-at.result)) (sym (values g c))
    (subst (IsAdded (values_by c.args.columns.now.tables (joining_of c.args.columns.now (aggregate g c).0)) (length c.args.places.now)) (sym (more g c)) (c.requires.more.each c.loop-at.at (aggregate g c).0 (aggregate g c).1))

pub loop-at-preserved : goal.loop-at-preserved
loop-at-preserved g c =
    let l = c.loop-at in
    let x = c.join_column.new.tally in
    let s = (goal.at.loop-at-preserved g c).After-index-more-at in
    let joins = λ (n : ℕ). IsJoined c.tables-tables.result.now (get_or c.joinings-joinings.result.now n joining.Adds) c.args.places.now in
    let more-at = λ (n : ℕ). get_or (map g.T.Joins.stand c.args.more.now) n [] in
    let old-at = λ (n : ℕ). get_or (lists c.args.tallies.now) n [] in
    let many = l.invariant.many in
    let all = c.requires.tallies.are.many in
    let here = within c.args.columns.now.query.aggregates l.at (aggregate g s).0 (aggregate g s).1 in
    let there : l.at < length (lists l.tallies) = omega (arith, many, all, here, length-map c.args.tallies.now items, length-map l.tallies items) in
    let v = get_or l.tallies l.at c.index-tallies-at.result in
    let kept = c.join_column.ensures.same in
    let was = ap length c.as_mut_slice-tally.ensures.value in
    let long = v.ok.0 in
    let written : items (with_items v x) ≡ x = with_items_is v x (omega (arith, kept, was, long)) in
    let changed = map-set items l.tallies l.at (with_items v x) ∙ ap (set (lists l.tallies) l.at) written in
    record {
      done = λ i lt.
          subst (λ xs. joins i (more-at i) (old-at i) (get_or xs i [])) (sym changed)
          (done-more [] (λ n t. joins n (more-at n) (old-at n) t) (lists l.tallies) l.at x there l.invariant.done (subst (λ t. joins l.at (more-at l.at) t x) (old g s) (subst (λ t. joins l.at t c.as_mut_slice-tally.result.now x) (more g s) c.join_column.ensures)) i lt);
      later = λ i past. ap (λ xs. get_or xs i []) changed ∙ get_or-set_other (lists l.tallies) l.at i x [] (λ h. absurd (omega (arith, past, h))) ∙ l.invariant.later i (omega (arith, past));
      many = length-set l.tallies l.at (with_items v x) ∙ l.invariant.many;
    }

pub returns : goal.returns
returns g c =
    let l = c.loop-at in
    let j = c.args.columns.now in
    let past = c.loop-at-test.false in
    let many = ap length c.joinings-joinings.ensures.same ∙ length-map j.query.aggregates (joining_of j) in
    let joined : (i : ℕ) (a : Aggregate BoundColumn) → slice_get j.query.aggregates i ≡ Some a → IsJoined j.tables (joining_of j a) c.args.places.now (get_or (map g.T.Joins.stand c.args.more.now) i []) (get_or (lists c.args.tallies.now) i []) (get_or (lists l.tallies) i []) =
    λ i a at.
    let here = within j.query.aggregates i a at in
    let way = ap (λ ws. get_or ws i joining.Adds) c.joinings-joinings.ensures.same ∙ mapped-here (joining_of j) j.query.aggregates i a joining.Adds at in
    subst (λ w. IsJoined j.tables w c.args.places.now (get_or (map g.T.Joins.stand c.args.more.now) i []) (get_or (lists c.args.tallies.now) i []) (get_or (lists l.tallies) i [])) way
    (subst (λ ts. IsJoined ts (get_or c.joinings-joinings.result.now i joining.Adds) c.args.places.now (get_or (map g.T.Joins.stand c.args.more.now) i []) (get_or (lists c.args.tallies.now) i []) (get_or (lists l.tallies) i [])) c.tables-tables.ensures
    (l.invariant.done i (omega (arith, past, many, here)))) in
    record {
      joined = λ rows Rs can before over i a at. (joined i a at).joined j i a rows Rs refl can (before i a at) (over i a at);
      tallies = λ n all are. record {
        many = length-map l.tallies items ∙ l.invariant.many ∙ sym (length-map c.args.tallies.now items) ∙ are.many;
        each = λ i a at.
            let is = joined i a at in
            let was = are.each i a at in
            let same = is.same in
            let long = was.long in
            record { long = omega (arith, same, long); kept = is.kept; rest = λ p past. is.rest n p all past ∙ was.rest p past };
      };
    }
