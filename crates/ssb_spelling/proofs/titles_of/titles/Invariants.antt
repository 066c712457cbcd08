use Rattle.std.proofs.Common.{◌≡◌, map, string_bytes, take}
use Rattle.ssb_spelling.specs.Titles.{item_title}
use Rattle.ssb_spelling.proofs.titles_of.titles.Given as goal

abbrev pub invariant-loop-item : goal.invariant-loop-item
invariant-loop-item l = map string_bytes l.titles.items ≡ map (item_title l.catalog l.parts) (take l.item-index l.items)
