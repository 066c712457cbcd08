use Rattle.std.proofs.Common.{subst, sym}
use Rattle.ssb_query.specs.declared.query.QueryParts.{QueryParts}
use Rattle.ssb_job.specs.Kept.{kept}
use Rattle.ssb_reply.specs.Reply.{seen_rows}
use Rattle.ssb_rows.specs.Result.{Answers, AreKeyed}
use Rattle.ssb_answer.proofs.Keyed.{keyed}
use Rattle.ssb_answer.proofs.whole.answer_of_groups.Goals as goal

pub returns : goal.returns
returns c =
    let j = c.args.job.now in
    subst (λ (q : QueryParts). Answers q (seen_rows j) c.rows.result) c.query.ensures.query
    (c.rows.ensures (seen_rows j) c.requires.stands (subst (λ (q : QueryParts). AreKeyed q (seen_rows j)) (sym c.query.ensures.query) (keyed j (kept j))))
