use Rattle.std.proofs.Common.{◌≡◌, map, string_bytes, take}
use Rattle.ssb_explain.specs.Explained.{order_text}
use Rattle.ssb_explain.proofs.lines.Shown.order_texts.Given as goal

abbrev pub invariant-loop-order : goal.invariant-loop-order
invariant-loop-order l = map string_bytes l.texts.items ≡ map (order_text l.self.catalog.now l.self.job.now.query) (take l.order-index l.orders)
