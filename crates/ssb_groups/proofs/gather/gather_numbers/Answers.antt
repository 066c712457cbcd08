use Rattle.std.proofs.Common.{◌∙◌, subst, sym, ap, arith}
use Rattle.std.proofs.lemmas.List.{length-map}
use Rattle.ssb_groups.specs.Gathering.{AreTakenPlain}
use Rattle.ssb_groups.specs.Tallies.{kept_numbers}
use Rattle.ssb_keys.specs.declared.kept.Kept.TheVariants as kept
use Rattle.ssb_plan.specs.Inputs.{input_of}
use Rattle.ssb_groups.proofs.ColumnFacts.{if-ok}
use Rattle.ssb_groups.proofs.NumberFacts.{number-at}
use Rattle.ssb_groups.proofs.PlainFacts.{counts-plain}
use Rattle.ssb_groups.proofs.gather.gather_numbers.Goals as goal

pub returns-in_ok-gather_count-in-Rows : goal.returns-in_ok-gather_count-in-Rows
returns-in_ok-gather_count-in-Rows c = λ yes.
    let j = c.args.job.now in
    let block = c.args.block.now in
    let ns = c.gather_count.new.numbers.items in
    let many = c.in_ok-gather_count-in-Rows.ensures.many in
    let count = c.len.ensures in
    subst (λ a. AreTakenPlain j a block (kept_numbers ns)) (sym c.in-Rows.is)
    (counts-plain j block (kept_numbers ns) (length-map ns kept.Number ∙ many ∙ count) (λ n lt. number-at ns n (omega (arith, lt, many, count)) ∙ ap kept.Number (c.in_ok-gather_count-in-Rows.ensures.each n (omega (arith, lt, count)))))

pub returns-else-not-is_itself : goal.returns-else-not-is_itself
returns-else-not-is_itself c =
    let j = c.args.job.now in
    let block = c.args.block.now in
    let ns = c.gather_input_numbers.new.numbers.items in
    if-ok c.gather_input_numbers.result _ _ _ (λ plain taken same. λ yes.
    subst (λ a. AreTakenPlain j a block (kept_numbers ns)) (sym c.in-Of.is)
    (taken c.in-Of.function c.in-Of.field-1 yes (c.is_itself.ensures c.if-not-is_itself.false) (ap (input_of j.query) (sym c.in-Of.is) ∙ sym c.requires.input))) c.gather_input_numbers.ensures c.gather_input_numbers.ensures
