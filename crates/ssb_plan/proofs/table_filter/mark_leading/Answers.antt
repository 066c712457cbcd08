use Rattle.std.proofs.Common.{◌≡◌, ◌-◌, arith, length, subst, sym, take}
use Rattle.std.specs.List.{list_all}
use Rattle.ssb_sets.specs.Marks.{AreMarked}
use Rattle.ssb_sets.specs.declared.marks.Marks.{Marks}
use Rattle.ssb_plan.specs.Filters.{IsThere}
use Rattle.ssb_plan.proofs.MarkedRows.{marks-more}
use Rattle.ssb_plan.proofs.table_filter.mark_leading.Goals as goal

pub mark-requires-clause-there : goal.mark-requires-clause-there
mark-requires-clause-there c = subst (IsThere c.args.table.now) (sym c.index-columns-i.is) (c.requires.there c.loop-i.i c.index-columns-i.result c.loop-i-test.true)

pub returns-then-not-mark-clause-marks : goal.returns-then-not-mark-clause-marks
returns-then-not-mark-clause-marks c = λ p same start.
    subst (λ (m : Marks). AreMarked (λ r. list_all (λ f. p f r) (take c.loop-i.i c.args.columns.now)) c.args.from (c.args.end - c.args.from) m.words) (sym (c.mark.ensures.same c.if-not-mark.true)) (c.loop-i.invariant p same start)

pub loop-i-preserved : goal.loop-i-preserved
loop-i-preserved c = λ p same start.
    marks-more c.args.table.now p c.args.columns.now same c.args.from (c.args.end - c.args.from) c.index-columns-i.result c.loop-i.i c.mark.new.marks.words c.loop-i-test.true c.index-columns-i.is (c.mark.ensures.stand c.if-not-mark.false)
    (c.mark.ensures.marked c.if-not-mark.false _ (c.loop-i.invariant p same start))

pub returns-clause-marks : goal.returns-clause-marks
returns-clause-marks c = λ p same start.
    let end = c.loop-i.auto.i-end in
    let past = c.loop-i-test.false in
    let is : c.loop-i.i ≡ length c.args.columns.now = omega (arith, end, past) in
    subst (λ k. AreMarked (λ r. list_all (λ f. p f r) (take k c.args.columns.now)) c.args.from (c.args.end - c.args.from) c.loop-i.marks.words) is (c.loop-i.invariant p same start)
