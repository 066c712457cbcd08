use Rattle.std.proofs.Common.{◌+◌, ◌∙◌, ◌==◌, arith, ap, sym, drop, length-drop}
use Rattle.std.proofs.lemmas.List.{get_or-drop}
use Rattle.ssb_records.proofs.LineFacts.{no-lf}
use Rattle.ssb_records.proofs.pieces.last_line.Goals as goal

pub returns-in-Some-clause-rest : goal.returns-in-Some-clause-rest
returns-in-Some-clause-rest c =
    let xs = c.args.bytes.now in
    let n = c.in-Some.at + 1 in
    let far = length-drop n xs in
    no-lf (drop n xs) (λ k lt e. c.in-Some.ensures.0.after (n + k) (omega arith) (omega (arith, far, lt)) (sym (ap (λ b. b == 10) (get_or-drop n xs k 0)) ∙ e))

pub returns-in-None-clause-none : goal.returns-in-None-clause-none
returns-in-None-clause-none c = no-lf _ (λ k lt e. c.in-None.ensures k (omega arith) lt e)
