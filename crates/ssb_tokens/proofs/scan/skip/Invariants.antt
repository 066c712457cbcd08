use Rattle.std.proofs.Common.{◌≡◌, length, false}
use Rattle.ssb_tokens.specs.Scanning.{skip}
use Rattle.ssb_tokens.proofs.scan.skip.Given as goal

abbrev pub invariant-loop-byte : goal.invariant-loop-byte
invariant-loop-byte l = skip l.in_comment l.rest ≡ skip false l.fn.bytes

abbrev pub decreases-loop-byte : goal.decreases-loop-byte
decreases-loop-byte l = length l.rest
