use Rattle.std.proofs.Common.{◌≡◌, []}
use Rattle.std.specs.List.{All}
use Rattle.ssb_files.proofs.counted.counted_each.Given as goal

abbrev pub invariant-loop-source : goal.invariant-loop-source
invariant-loop-source g l = record {
  counted : All (λ c. g.S.Source.given c.source ≡ []) l.counted.items;
  unread : All (λ s. g.S.Source.given s ≡ []) l.source-iterator.rest.items;
}
