use Rattle.std.proofs.Common.{◌≡◌, length}
use Rattle.ssb_terms.specs.Names.{is_word_byte}
use Rattle.ssb_tokens.specs.Scanning.{past}
use Rattle.ssb_tokens.proofs.scan.past_word.Given as goal

abbrev pub invariant-loop-byte : goal.invariant-loop-byte
invariant-loop-byte l = past is_word_byte l.rest ≡ past is_word_byte l.fn.bytes

abbrev pub decreases-loop-byte : goal.decreases-loop-byte
decreases-loop-byte l = length l.rest
