use Rattle.std.proofs.Common.{◌≡◌, ◌+◌, length, take, vec_len}
use Rattle.std.specs.List.{All}
use Rattle.ssb_files.specs.Opening.{AreOpened}
use Rattle.ssb_lanes.specs.Sections.{AreUnread}
use Rattle.ssb_files.proofs.files.open_all.Given as goal

abbrev pub invariant-loop-table : goal.invariant-loop-table
invariant-loop-table g l = record {
  handles : vec_len l.handles + l.table-index ≡ length l.catalog;
  files : vec_len l.files ≡ l.table-index;
  unread : All (λ f. AreUnread f.items) l.files.items;
  sections : AreOpened g.R.File.Seek.stream_position (take l.table-index l.catalog) l.files.items;
}
