use Rattle.std.proofs.Common.{◌≡◌, ◌++◌, drop, string_bytes}
use Rattle.ssb_explain.specs.Explained.{accesses_from}
use Rattle.ssb_explain.proofs.lines.Shown.put_dimensions.Given as goal

abbrev pub invariant-loop-place : goal.invariant-loop-place
invariant-loop-place l =
    string_bytes l.out ++ accesses_from l.self.catalog.now l.self.job.now l.filtered l.place (drop l.place l.accesses) ≡ string_bytes l.initial.out ++ accesses_from l.self.catalog.now l.self.job.now l.filtered 0 l.accesses
