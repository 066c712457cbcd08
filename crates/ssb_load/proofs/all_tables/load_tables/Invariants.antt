use Rattle.std.proofs.Common.{◌≡◌, drop, length, take}
use Rattle.ssb_load.proofs.LoadingAll.{Begun}
use Rattle.ssb_load.proofs.all_tables.load_tables.Given as goal

abbrev pub invariant-loop-place : goal.invariant-loop-place
invariant-loop-place g l = record {
  count : length l.sources ≡ length l.fn.sources;
  begun : Begun g.S.Source l.place (take (length l.fn.sources) (drop l.first l.catalog)) l.fn.sources l.sources l.tables.items;
}
