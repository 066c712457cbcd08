use Rattle.std.proofs.Common.{◌≡◌, ◌∙◌, ◌≤◌, [], get_or, sym, ap, subst, length, arith}
use Rattle.std.specs.Vec.{with_items}
use Rattle.std.proofs.lemmas.List.{length-map, with_items_is}
use Rattle.ssb_groups.specs.GroupKeys.{keys_in}
use Rattle.ssb_groups.specs.Places.{AreGrown}
use Rattle.ssb_groups.specs.Tallies.{AreTallies, items, lists}
use Rattle.ssb_groups.proofs.TallyFacts.{grown-tallies}
use Rattle.ssb_groups.proofs.table.GroupTable.join.Goals as goal
use Rattle.ssb_groups.proofs.table.GroupTable.join.Goals.{After-as_mut_slice-2}

-- the tallies that are joined are those that have grown
grown : (g : _) (c : After-as_mut_slice-2 g) → (c.as_mut_slice-2.result.now ≡ c.grow.new.tallies) × AreTallies c.args.columns.now (length (keys_in c.args.self.now.keys)) (lists c.grow.new.tallies)
grown g c =
    let j = c.args.columns.now in
    let v = c.args.self.now.tallies in
    let was = c.as_mut_slice.ensures.value in
    let many = c.in_ok-grow.ensures.grown.many in
    let same = ap length was in
    let long = v.ok.0 in
    let mid = c.as_mut_slice-2.ensures.value ∙ with_items_is v c.grow.new.tallies (omega (arith, many, same, long, length-map c.grow.new.tallies items, length-map c.as_mut_slice.result.now items)) in
    let grows = subst (λ ts. AreGrown (lists ts) (lists c.grow.new.tallies)) was c.in_ok-grow.ensures.grown in
    let size = c.len.ensures in (
      mid,
      grown-tallies j c.requires.tallies.0 (length (keys_in c.args.self.now.keys)) (lists v.items) (lists c.grow.new.tallies) c.requires.tallies.2 grows
          (λ i lt. subst (λ n. n ≤ length (get_or (lists c.grow.new.tallies) i [])) size (c.in_ok-grow.ensures.long i (omega (arith, lt, same, length-map v.items items)))) c.requires.tallies.1,
    )

pub join_all-requires-clause-tallies : goal.join_all-requires-clause-tallies
join_all-requires-clause-tallies g c =
    record {
      groups = length (keys_in c.args.self.now.keys);
      are = subst (λ ts. AreTallies c.args.columns.now (length (keys_in c.args.self.now.keys)) (lists ts)) (sym (grown g c).0) (grown g c).1;
      within = c.requires.places;
    }

pub returns-clause-tallies : goal.returns-clause-tallies
returns-clause-tallies g c =
    let j = c.args.columns.now in
    let v = c.args.self.now.tallies in
    let x = c.join_all.new.tallies in
    let groups = length (keys_in c.args.self.now.keys) in
    let after = grown g (goal.at.returns-clause-tallies g c).After-as_mut_slice-2 in
    let joined = c.join_all.ensures.tallies groups c.requires.places (subst (λ ts. AreTallies j groups (lists ts)) (sym after.0) after.1) in
    let all = joined.many in
    let before = c.requires.tallies.2.many in
    let long = v.ok.0 in
    subst (λ ts. AreTallies j groups (lists ts)) (sym (with_items_is (with_items v c.grow.new.tallies) x (omega (arith, all, before, long, length-map x items, length-map v.items items)))) joined
