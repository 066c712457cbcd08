use Rattle.std.proofs.Common.{◌∙◌, sym, ap}
use Rattle.ssb_plan.specs.Inputs.{input_of}
use Rattle.ssb_groups.specs.Joining.{joining_by, joining_of}
use Rattle.ssb_groups.proofs.joining.Joining.of.Goals as goal

pub returns-in-Of : goal.returns-in-Of
returns-in-Of c = λ j is. c.by.ensures ∙ ap (joining_by c.in-Of.function) (c.sole_ref.ensures j c.in-Of.function c.in-Of.field-1 (is ∙ ap (input_of j.query) c.in-Of.is)) ∙ sym (ap (joining_of j) c.in-Of.is)
