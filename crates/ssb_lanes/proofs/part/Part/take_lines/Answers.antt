use Rattle.std.proofs.Common.{◌∙◌, refl}
use Rattle.std.proofs.lemmas.Result.{err_from_is_err_and}
use Rattle.ssb_lanes.proofs.PartTaking.{ends-none, refuses-memory, if-err, on-ok, refused-lines, took-lines}
use Rattle.ssb_lanes.proofs.part.Part.take_lines.Goals as goal

pub returns-in_err-take_text-clause-refused : goal.returns-in_err-take_text-clause-refused
returns-in_err-take_text-clause-refused c =
    let out = err_from_is_err_and c.from_residual.result c.from_residual.ensures.1 in
    let e = c.in_err-take_text.field-0.0 in
    let at = c.split_lines.ensures in
    rw (out.1, out.2) (λ done h. refused-lines c.args.self.now _ e done c.args.text.now _ _ c.requires.cut c.requires.line.1 at refl refl c.take_text.ensures.subject c.in_err-take_text.ensures.refused h)

pub returns-clause-taken : goal.returns-clause-taken
returns-clause-taken c =
    on-ok c.keep.result (λ kept done h. took-lines c.args.self.now _ done c.args.text.now _ _ c.requires.cut c.requires.line.1 c.split_lines.ensures refl refl kept c.in_ok-take_text.ensures.taken h) c.keep.ensures.kept

pub returns-clause-lines : goal.returns-clause-lines
returns-clause-lines c =
    let at = c.split_lines.ensures in
    on-ok c.keep.result (λ kept lf. kept ∙ (rw c.requires.line.1 (ends-none c.args.text.now _ _ lf at.split at.part))) c.keep.ensures.kept

pub returns-clause-refused : goal.returns-clause-refused
returns-clause-refused c = if-err c.keep.result _ _ (λ e is done h. refuses-memory _ _ e is) c.keep.ensures.memory
