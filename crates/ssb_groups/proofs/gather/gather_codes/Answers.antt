use Rattle.std.proofs.Common.{◌∙◌, subst, sym, ap}
use Rattle.ssb_groups.specs.Gathering.{AreTakenPlain}
use Rattle.ssb_groups.specs.Tallies.{kept_codes}
use Rattle.ssb_plan.specs.Inputs.{input_of}
use Rattle.ssb_groups.proofs.ColumnFacts.{if-ok}
use Rattle.ssb_groups.proofs.gather.gather_codes.Goals as goal

pub returns-else-not-is_itself : goal.returns-else-not-is_itself
returns-else-not-is_itself c =
    let j = c.args.job.now in
    let block = c.args.block.now in
    let cs = c.gather_value_codes.new.codes.items in
    let of = c.in-Of-Column in
    if-ok c.gather_value_codes.result _ _ _ (λ plain taken same. λ yes.
    subst (λ a. AreTakenPlain j a block (kept_codes cs)) (sym of.is-0)
    (taken of.function of.field-1-0 yes (c.is_itself.ensures c.if-not-is_itself.false) (ap (input_of j.query) (sym of.is-0) ∙ sym c.requires.input ∙ of.is-1))) c.gather_value_codes.ensures c.gather_value_codes.ensures
