use Rattle.std.proofs.Common.{◌∙◌, ◌++◌, ap}
use Rattle.ssb_explain.specs.Explained.{answer_text, join_text}
use Rattle.ssb_explain.proofs.plan_text.explain.Goals as goal

pub returns : goal.returns
returns c = record {
  plan = c.plan.result.now;
  right = c.plan.ensures;
  same = c.in_ok-put_answer.ensures ∙ ap (λ s. s ++ answer_text c.args.catalog.now c.args.job.now) (c.in_ok-put_joined.ensures ∙ ap (λ s. s ++ join_text c.args.catalog.now c.args.job.now c.plan.result.now) c.new-text.ensures.bytes);
}
