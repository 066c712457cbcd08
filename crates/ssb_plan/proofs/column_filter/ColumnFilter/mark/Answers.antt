use Rattle.std.proofs.Common.{◌≡◌, ◌-◌, arith, length, rules, to_z, of_z, w64}
use Rattle.std.specs.List.{range_with_len}
use Rattle.ssb_packed.specs.Lent.{numbers_in}
use Rattle.ssb_plan.proofs.ColumnRows.{range-below, stand-list}
use Rattle.ssb_plan.proofs.MarkedRows.{marks-say}
use Rattle.ssb_plan.proofs.column_filter.ColumnFilter.mark.Goals as goal

pub returns-clause-marked : goal.returns-clause-marked
returns-clause-marked c = λ done p marked.
    let order = c.requires.order in
    let there = c.requires.rows in
    let long = c.column-column.ensures.long in
    let low : to_z w64 (of_z w64 c.in-Within.low) ≡ c.in-Within.low = search rules in
    let high : to_z w64 (of_z w64 c.in-Within.high) ≡ c.in-Within.high = search rules in
    marks-say c.args.table.now c.args.self.now c.column-column.result.now (numbers_in c.in-Numbers.numbers) c.null_words-nulls.result.now c.column-column.ensures.column c.in-Numbers.ensures.values c.null_words-nulls.ensures (λ n least greatest. c.requires.there.2 n least greatest)
    p c.in-Within.low c.in-Within.high c.args.from (c.args.end - c.args.from) c.clear_nulls.new.self.words c.in-Within.is (omega (arith, order, there, long))
    (λ k d lt. c.in-Numbers.ensures.within _ (c.clear_outside.ensures.within k d lt)) (c.takes_nulls.ensures.no c.if-takes_nulls.false)
    (simp (low, high) at (c.clear_nulls.ensures _ (c.clear_outside.ensures.marks p marked)))

pub returns-clause-stand : goal.returns-clause-stand
returns-clause-stand c = λ done.
    let n = c.args.end - c.args.from in
    let order = c.requires.order in
    let there = c.requires.rows in
    let long = c.column-column.ensures.long in
    stand-list c.args.table.now c.args.self.now c.column-column.result.now (numbers_in c.in-Numbers.numbers) c.null_words-nulls.result.now c.column-column.ensures.column c.in-Numbers.ensures.values c.null_words-nulls.ensures (λ n least greatest. c.requires.there.2 n least greatest) (range_with_len c.args.from n)
    (range-below (length c.column-column.result.now.values) c.args.from n (omega (arith, order, there, long))) (λ k d lt. c.in-Numbers.ensures.within _ (c.clear_outside.ensures.within k d lt))
