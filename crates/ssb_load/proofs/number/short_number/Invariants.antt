use Rattle.std.proofs.Common.{◌≡◌, ◌<◌, ◌^◌, take, true}
use Rattle.std.specs.Str.{all_ascii_digits}
use Rattle.std.specs.Str.Parse.{digits_value}
use Rattle.ssb_load.proofs.number.short_number.Given as goal

abbrev pub invariant-loop-k : goal.invariant-loop-k
invariant-loop-k l = (l.value ≡ digits_value 10 (take l.k l.bytes)) × (all_ascii_digits (take l.k l.bytes) ≡ true) × (l.value < 10 ^ l.k)
