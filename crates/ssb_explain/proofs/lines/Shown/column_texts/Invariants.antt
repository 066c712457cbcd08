use Rattle.std.proofs.Common.{◌≡◌, map, string_bytes, take}
use Rattle.ssb_explain.specs.Explained.{named}
use Rattle.ssb_explain.proofs.lines.Shown.column_texts.Given as goal

abbrev pub invariant-loop-column : goal.invariant-loop-column
invariant-loop-column l = map string_bytes l.texts.items ≡ map (named l.self.catalog.now l.self.job.now.query) (take l.column-index l.columns)
