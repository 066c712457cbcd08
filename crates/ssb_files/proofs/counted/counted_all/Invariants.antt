use Rattle.std.proofs.Common.{◌≡◌, [], length, vec_len}
use Rattle.std.specs.List.{All}
use Rattle.ssb_files.proofs.counted.counted_all.Given as goal

abbrev pub invariant-loop-sources : goal.invariant-loop-sources
invariant-loop-sources g l = record {
  count : vec_len l.counted ≡ length l.yielded;
  counted : All (λ sources. All (λ c. g.S.Source.given c.source ≡ []) sources.items) l.counted.items;
  unread : All (λ sources. All (λ s. g.S.Source.given s ≡ []) sources.items) l.sources-iterator.rest.items;
}
