use Rattle.std.proofs.Common.{◌∙◌, string_bytes, ap}
use Rattle.ssb_rows.specs.Kept.{value_cell, keyed_rows}
use Rattle.ssb_rows.proofs.KeptFacts.{all-copied, rows-same}
use Rattle.ssb_rows.proofs.cells.Cells.in_order.Goals as goal

pub returns : goal.returns
returns c =
    let values = c.self.inside.values.items in
    let copied = c.loop-key.copied.items in
    let width = c.args.width in
    let keys = c.args.keys.now in
    let places = c.loop-key.places.items in
    rows-same (value_cell (string_bytes c.self.inside.texts)) values copied width keys places (all-copied values copied width keys places c.loop-key.key-index c.loop-key-test.false c.loop-key.invariant.1)
    ∙ ap (λ cells. keyed_rows cells width keys) c.self.view_is
