use Rattle.ssb_load.proofs.NumberFacts.{number-parsed}
use Rattle.std.proofs.Common.{◌∙◌}
use Rattle.ssb_load.proofs.number.any_number.Goals as goal

pub returns : goal.returns
returns c = c.ok.ensures.value ∙ number-parsed c.args.text.now c.parse.result (rw c.as_bytes-bytes.ensures.value at c.if-bytes-eq43.false) c.parse.ensures.value.0
