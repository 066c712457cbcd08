use Rattle.std.proofs.Common.{◌≡◌, ◌∙◌, ◌-◌, ap, arith, length}
use Rattle.std.proofs.lemmas.List.FromFn.{length-range_with_len}
use Rattle.ssb_pipeline.specs.Part.{ours}
use Rattle.ssb_pipeline.proofs.part.Part.left.Goals as goal

pub returns : goal.returns
returns c =
    let first = c.bounds-first.result.0 in
    let end = c.bounds-first.result.1 in
    let long : length (ours c.args.self.now) ≡ end - first = ap length c.bounds-first.ensures.ours ∙ length-range_with_len first (end - first) in
    omega (arith, long, c.handed.ensures, c.saturating_sub.ensures)
