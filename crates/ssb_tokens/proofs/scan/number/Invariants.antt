use Rattle.std.proofs.Common.{◌≡◌, ◌≤◌, ◌^◌, min, length}
use Rattle.std.specs.Char.{is_ascii_digit}
use Rattle.ssb_tokens.specs.Tokens.{value_from}
use Rattle.ssb_tokens.specs.Scanning.{run, past}
use Rattle.ssb_tokens.proofs.scan.number.Given as goal

abbrev pub invariant-loop-byte : goal.invariant-loop-byte
invariant-loop-byte l = record {
  value : min (value_from l.value (run is_ascii_digit l.rest)) (2 ^ 63) ≡ min (value_from 0 (run is_ascii_digit l.fn.bytes)) (2 ^ 63);
  rest : past is_ascii_digit l.rest ≡ past is_ascii_digit l.fn.bytes;
  small : l.value ≤ 2 ^ 63;
}

abbrev pub decreases-loop-byte : goal.decreases-loop-byte
decreases-loop-byte l = length l.rest
