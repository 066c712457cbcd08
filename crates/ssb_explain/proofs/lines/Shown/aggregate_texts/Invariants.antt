use Rattle.std.proofs.Common.{◌≡◌, map, string_bytes, take}
use Rattle.ssb_spelling.specs.Titles.{aggregate_title}
use Rattle.ssb_explain.specs.Explained.{named}
use Rattle.ssb_explain.proofs.lines.Shown.aggregate_texts.Given as goal

abbrev pub invariant-loop-aggregate : goal.invariant-loop-aggregate
invariant-loop-aggregate l = map string_bytes l.texts.items ≡ map (aggregate_title (named l.self.catalog.now l.self.job.now.query)) (take l.aggregate-index l.aggregates)
