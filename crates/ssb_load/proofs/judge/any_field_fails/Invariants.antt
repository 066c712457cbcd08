use Rattle.std.proofs.Common.{◌≡◌, drop}
use Rattle.csv.specs.Records.{fields_of}
use Rattle.ssb_load.specs.Rules.{any_from}
use Rattle.ssb_load.specs.Loader.{fails}
use Rattle.ssb_load.proofs.judge.any_field_fails.Given as goal

abbrev pub invariant-loop-k : goal.invariant-loop-k
invariant-loop-k l = any_from (fails l.test) 0 l.rules (fields_of l.row) ≡ any_from (fails l.test) l.k (drop l.k l.rules) (fields_of l.row)
