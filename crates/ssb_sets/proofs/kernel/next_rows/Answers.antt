use Rattle.std.proofs.Common.{◌≡◌, ◌∙◌, ◌<◌, ap, arith, get_or, length, map, pos, rules, sym, to_z, of_z, w64}
use Rattle.std.proofs.lemmas.List.Filters.{FiltersInPlace-more_no, FiltersInPlace-more_set}
use Rattle.ssb_sets.proofs.RowFacts.{holds-there, read-same, says-row, unread, wide-read, within-all, within-more, written-no}
use Rattle.ssb_sets.proofs.kernel.next_rows.Goals as goal
use Rattle.ssb_sets.proofs.kernel.next_rows.Goals.{then-passes, else-passes}

pub offset_bounds-numbers-row : goal.offset_bounds-numbers-row
offset_bounds-numbers-row g c =
    let h = holds-there (λ r. r < length c.args.numbers.now) c.requires c.loop-i.invariant.front (let all = c.loop-i.auto.rows in let more = c.loop-i-test.true in omega (arith, all, more)) in
    omega (arith, h)

pub bounds-numbers-row : goal.bounds-numbers-row
bounds-numbers-row g c = holds-there (λ r. r < length c.args.numbers.now) c.requires c.loop-i.invariant.front (let all = c.loop-i.auto.rows in let more = c.loop-i-test.true in omega (arith, all, more))

pub loop-i-preserved : goal.loop-i-preserved
loop-i-preserved g c =
    let ns = map g.T.Number.wide c.args.numbers.now in
    let before = c.loop-i.invariant in
    let lt : c.loop-i.i < length c.loop-i.rows = let all = c.loop-i.auto.rows in let more = c.loop-i-test.true in omega (arith, all, more) in
    let h = holds-there (λ r. r < length c.args.numbers.now) c.requires before.front lt in
    let row = get_or c.loop-i.rows c.loop-i.i 0 in
    let exact : to_z w64 (of_z w64 c.wide.result) ≡ c.wide.result = search rules in
    let read = wide-read g.T.Number.wide c.args.numbers.now row c.index-numbers-row.result h c.index-numbers-row.is ∙ sym c.wide.ensures.number in
    let told = says-row (g.A.Asks.says c.args.asked) ns row _ c.passes.result read (simp exact at c.passes.ensures) in
    let within = within-more g.T.Number.bounds (λ k. get_or ns (get_or c.args.rows.now k 0) (pos 0)) c.loop-i.i _ before.within (ap (λ r. get_or ns r (pos 0)) (unread before.front lt) ∙ read) c.wide.ensures.within in
    elim c.if-passes.branch [
      | then-passes w ↦ rw w.left-is (record { front = FiltersInPlace-more_set before.front lt (told ∙ w.if-passes.true) (read-same c.loop-i.rows c.loop-i.i lt); within = within })
      | else-passes w ↦ rw w.left-is (record { front = written-no row before.front.behind (FiltersInPlace-more_no before.front lt (told ∙ w.if-passes.false) (read-same c.loop-i.rows c.loop-i.i lt)); within = within })
    ]

pub returns-clause-within : goal.returns-clause-within
returns-clause-within g c =
    let past = c.loop-i-test.false in
    let long = c.loop-i.auto.rows in
    within-all g.T.Number.bounds (map g.T.Number.wide c.args.numbers.now) c.args.rows.now (λ k lt. c.loop-i.invariant.within k (omega (arith, past, long, lt)))
