use Rattle.std.proofs.Common.{inl, inr, refl}
use Rattle.std.proofs.lemmas.Result.{err_from_is_err_and}
use Rattle.ssb_answer.proofs.show.answer_titled.Goals as goal

pub returns-in_default : goal.returns-in_default
returns-in_default g c = inl refl

pub returns-in_err-answer : goal.returns-in_err-answer
returns-in_err-answer g c =
    let out = err_from_is_err_and c.from_residual.result c.from_residual.ensures.1 in
    rw out.1 (inr (c.in_err-answer.field-0.0, c.in_err-answer.ensures, out.2))
