use Rattle.std.proofs.Common.{◌≡◌, drop}
use Rattle.csv.specs.Records.{fields_of}
use Rattle.ssb_load.specs.Rules.{any_from}
use Rattle.ssb_load.specs.Loader.{with_front, fails_some}
use Rattle.ssb_load.proofs.loader.push_fields.Given as goal

abbrev pub invariant-loop-k : goal.invariant-loop-k
invariant-loop-k l =
    (l.columns.items ≡ with_front l.k 0 l.rules l.fn.columns.items (fields_of l.row))
    × (any_from fails_some 0 l.rules (fields_of l.row) ≡ any_from fails_some l.k (drop l.k l.rules) (fields_of l.row))
