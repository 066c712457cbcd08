use Rattle.std.proofs.Common.{◌≡◌, length, false}
use Rattle.ssb_tokens.specs.Scanning.{text_at}
use Rattle.ssb_tokens.proofs.ScanSteps.{with_front}
use Rattle.ssb_tokens.proofs.scan.text.Given as goal

abbrev pub invariant-loop-piece : goal.invariant-loop-piece
invariant-loop-piece l = with_front l.text.items (text_at false l.rest) ≡ text_at false l.fn.bytes

abbrev pub decreases-loop-piece : goal.decreases-loop-piece
decreases-loop-piece l = length l.rest
