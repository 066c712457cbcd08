use Rattle.std.proofs.Common.{◌++◌, ◌∙◌, ap, append_assoc, refl, sym, subst, arith}
use Rattle.ssb_lanes.specs.Part.{RefusesPart, IsPart}
use Rattle.ssb_lanes.proofs.PartTaking.{back-lines, cut-head, if-err, on-ok}
use Rattle.std.proofs.lemmas.Grind.{common_steps}
use Rattle.ssb_lanes.proofs.part.Part.take_piece.Goals as goal

pub take_lines-requires-2-clause-line : goal.take_lines-requires-2-clause-line
take_lines-requires-2-clause-line c =
    (_, c.requires.1, cut-head c.args.self.now _ c.requires.0 c.in-Some.front.now c.if-self.false c.requires.2 refl c.in_ok-keep.ensures.kept refl refl c.in-Some.ensures.line)

pub returns-clause-taken : goal.returns-clause-taken
returns-clause-taken c =
    on-ok c.take_lines-2.result (λ taken done h.
    let mid = cut-head c.args.self.now _ done c.in-Some.front.now c.if-self.false h refl c.in_ok-keep.ensures.kept refl refl c.in-Some.ensures.line in
    subst (IsPart _) (append_assoc done _ _ ∙ ap (λ t. done ++ t) (sym c.in-Some.ensures.split)) (taken (done ++ c.in-Some.front.now) mid)) c.take_lines-2.ensures.taken

pub returns-clause-lines : goal.returns-clause-lines
returns-clause-lines c = on-ok c.take_lines-2.result (λ none lf. none (back-lines c.args.piece.now _ _ lf c.in-Some.ensures.split)) c.take_lines-2.ensures.lines

pub returns-clause-refused : goal.returns-clause-refused
returns-clause-refused c =
    if-err c.take_lines-2.result _ _ (λ e halts done h.
    let mid = cut-head c.args.self.now _ done c.in-Some.front.now c.if-self.false h refl c.in_ok-keep.ensures.kept refl refl c.in-Some.ensures.line in
    subst (λ bytes. RefusesPart c.take_lines-2.new.self bytes e) (append_assoc done c.in-Some.front.now c.in-Some.rest.now ∙ ap (λ t. done ++ t) (sym c.in-Some.ensures.split)) (halts (done ++ c.in-Some.front.now) mid)) c.take_lines-2.ensures.refused

pub returns-in_default-clause-taken : goal.returns-in_default-clause-taken
returns-in_default-clause-taken c = grind (arith, common_steps)

pub returns-then-self-clause-lines : goal.returns-then-self-clause-lines
returns-then-self-clause-lines c = grind (arith, common_steps)
