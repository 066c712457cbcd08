use Rattle.std.proofs.Common.{◌≡◌, ◌∙◌, ap, sym, take, length, rules, Some}
use Rattle.std.proofs.lemmas.List.{take_all}
use Rattle.ssb_sets.specs.declared.join.Join.TheVariants as joins
use Rattle.ssb_plan.specs.Filters.{asked_column, asked_of, is_this}
use Rattle.ssb_plan.proofs.ColumnFacts.{asked-own, asked-some, filter-with, filter-without, is-asked, is-column-filter, none-there}
use Rattle.ssb_plan.proofs.SetFacts.{tell-more, tell-together}
use Rattle.ssb_plan.proofs.table_filter.column_filter.Goals as goal
use Rattle.ssb_plan.proofs.table_filter.column_filter.Goals.{then-eq+in_ok-set+in_ok-push, else-eq}

pub set_of-requires : goal.set_of-requires
set_of-requires c =
    let is : asked_column c.args.place c.column_count-count.result c.conjunct-item.result ≡ Some c.args.column = sym c.asked_column.ensures ∙ asked-some c.args.column c.asked_column.result (sym c.eq.ensures ∙ c.if-eq.true) in
    asked-own c.args.place c.column_count-count.result c.args.column c.conjunct-item.result is

pub loop-conjunct-preserved : goal.loop-conjunct-preserved
loop-conjunct-preserved c =
    let this : c.eq.result ≡ is_this c.args.column (asked_column c.args.place c.column_count-count.result c.conjunct-item.result) = c.eq.ensures ∙ is-asked c.args.column c.asked_column.result ∙ ap (is_this c.args.column) c.asked_column.ensures in
    let seen = asked_of c.args.place c.column_count-count.result c.args.column (take c.loop-conjunct.conjunct-index c.args.conjuncts.now) in
    elim c.if-eq.branch [
      | then-eq+in_ok-set+in_ok-push w ↦
          let grown = filter-with (λ d. is_this c.args.column (asked_column c.args.place c.column_count-count.result d)) c.args.conjuncts.now c.loop-conjunct.conjunct-index c.conjunct-item.result c.loop-conjunct-test.true c.conjunct-item.is (sym this ∙ w.if-eq.true) in
          rw (grown, w.null-is, w.sets-is, w.in_ok-push.ensures.items) (tell-more (record { table = c.args.place; column = c.args.column }) c.column.result.now joins.And seen c.conjunct-item.result c.loop-conjunct.null w.either-null.result c.loop-conjunct.sets.items w.in_ok-set.set c.loop-conjunct.invariant w.in_ok-set.ensures w.either-null.ensures)
      | else-eq w ↦
          let same = filter-without (λ d. is_this c.args.column (asked_column c.args.place c.column_count-count.result d)) c.args.conjuncts.now c.loop-conjunct.conjunct-index c.conjunct-item.result c.loop-conjunct-test.true c.conjunct-item.is (sym this ∙ w.if-eq.false) in
          rw (same, w.null-is, w.sets-is) c.loop-conjunct.invariant
    ]

pub returns-then-is_empty-clause-filter : goal.returns-then-is_empty-clause-filter
returns-then-is_empty-clause-filter c =
    let many = rw (take_all c.loop-conjunct.conjunct-index c.args.conjuncts.now c.loop-conjunct-test.false, c.column_count-count.ensures) at c.loop-conjunct.invariant in
    let empty : length c.loop-conjunct.sets.items ≡ 0 = search rules in
    none-there _ c.loop-conjunct.sets.items many.count empty

pub returns-clause-filter : goal.returns-clause-filter
returns-clause-filter c =
    let many = rw (take_all c.loop-conjunct.conjunct-index c.args.conjuncts.now c.loop-conjunct-test.false, c.column_count-count.ensures) at c.loop-conjunct.invariant in
    let tells = tell-together (record { table = c.args.place; column = c.args.column }) c.column.result.now joins.And _ c.loop-conjunct.null c.loop-conjunct.sets.items c.in_ok-numbers.numbers many (rw c.deref.ensures.value at c.in_ok-numbers.ensures) in
    is-column-filter c.args.table.now c.args.place c.args.column c.args.conjuncts.now c.column.result.now (record { null = c.loop-conjunct.null; numbers = c.in_ok-numbers.numbers }) c.in_ok-of.field-0 c.in_ok-of.ensures.there c.in_ok-of.ensures.column c.in_ok-of.ensures.set c.column.ensures.column tells
