use Rattle.std.proofs.Common.{◌∙◌, ◌<◌, ap, arith, get_or, length, pos, sym, subst}
use Rattle.std.proofs.lemmas.List.Filters.{FiltersInPlace-more_no, FiltersInPlace-more_set}
use Rattle.ssb_sets.specs.Values.{eight_byte_bounds, values_in}
use Rattle.ssb_sets.proofs.RowFacts.{holds-there, unread, within-all, within-more, written-no}
use Rattle.ssb_sets.proofs.NullFacts.{read-zero}
use Rattle.ssb_sets.proofs.check.Check.keep_with_nulls.Goals as goal
use Rattle.ssb_sets.proofs.check.Check.keep_with_nulls.Goals.{then-is_null_or_passes, else-is_null_or_passes}

pub is_null_or_passes-requires : goal.is_null_or_passes-requires
is_null_or_passes-requires c =
    let all = c.len-i-end.ensures in
    let long = c.loop-i.invariant.front.long in
    let test = c.loop-i-test.true in
    let lt : c.loop-i.i < length c.loop-i.rows.items = omega (arith, all, long, test) in
    subst (λ r. r < length (values_in c.args.values)) (read-zero c.loop-i.rows.items c.loop-i.i c.index-row.result.now lt c.index-row.ensures) (holds-there (λ r. r < length (values_in c.args.values)) c.requires c.loop-i.invariant.front lt)

pub loop-i-preserved : goal.loop-i-preserved
loop-i-preserved c =
    let all = c.len-i-end.ensures in
    let before = c.loop-i.invariant in
    let long = before.front.long in
    let test = c.loop-i-test.true in
    let lt : c.loop-i.i < length c.loop-i.rows.items = omega (arith, all, long, test) in
    let within = within-more eight_byte_bounds (λ k. get_or (values_in c.args.values) (get_or c.args.rows.now.items k 0) (pos 0)) c.loop-i.i (get_or (values_in c.args.values) c.index-row.result.now (pos 0)) before.within (ap (λ r. get_or (values_in c.args.values) r (pos 0)) (unread before.front lt ∙ read-zero c.loop-i.rows.items c.loop-i.i c.index-row.result.now lt c.index-row.ensures)) c.is_null_or_passes.ensures.within in
    elim c.if-is_null_or_passes.branch [
      | then-is_null_or_passes w ↦ rw w.left-is (record { front = FiltersInPlace-more_set before.front lt (sym c.is_null_or_passes.ensures.says ∙ w.if-is_null_or_passes.true) c.index-row.ensures; within = within })
      | else-is_null_or_passes w ↦ rw w.left-is (record { front = written-no c.index-row.result.now before.front.behind (FiltersInPlace-more_no before.front lt (sym c.is_null_or_passes.ensures.says ∙ w.if-is_null_or_passes.false) c.index-row.ensures); within = within })
    ]

pub returns-clause-within : goal.returns-clause-within
returns-clause-within c =
    let all = c.len-i-end.ensures in
    let long = c.loop-i.invariant.front.long in
    let past = c.loop-i-test.false in
    within-all eight_byte_bounds (values_in c.args.values) c.args.rows.now.items (λ k lt. c.loop-i.invariant.within k (omega (arith, all, past, long, lt)))
