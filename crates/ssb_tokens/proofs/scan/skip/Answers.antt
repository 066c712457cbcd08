use Rattle.std.proofs.Common.{sym}
use Rattle.ssb_tokens.proofs.ScanSteps.{comment_goes, comment_stops, comment_ends}
use Rattle.ssb_tokens.specs.Scanning.{skip}
use Rattle.std.proofs.Common.{false}
use Rattle.ssb_tokens.proofs.scan.skip.Goals as goal

pub loop-byte-preserved : goal.loop-byte-preserved
loop-byte-preserved c = comment_goes c.loop-byte.in_comment c.in-Some-skip_step.goes_on c.loop-byte.rest.now c.in-Some.after.now (skip false c.args.bytes.now) c.in-Some.byte (sym c.in-Some.ensures) (sym c.in-Some-skip_step.ensures) c.loop-byte.invariant

pub returns-in_default-skip_step : goal.returns-in_default-skip_step
returns-in_default-skip_step c = comment_stops c.loop-byte.in_comment c.loop-byte.rest.now c.in-Some.after.now (skip false c.args.bytes.now) c.in-Some.byte (sym c.in-Some.ensures) (sym c.in_default-skip_step.ensures) c.loop-byte.invariant

pub returns : goal.returns
returns c = comment_ends c.loop-byte.in_comment c.loop-byte.rest.now (skip false c.args.bytes.now) (sym c.in_default.ensures) c.loop-byte.invariant
