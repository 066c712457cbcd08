use Rattle.std.proofs.Common.{◌∙◌, length, length-append, ap, arith}
use Rattle.ssb_cells.specs.Parts.{values_of}
use Rattle.ssb_cells.proofs.PartFacts.{kinds-more, values-more}
use Rattle.ssb_cells.proofs.parts.ColumnParts.push.Goals as goal

pub invariant_of-self-2 : goal.invariant_of-self-2
invariant_of-self-2 c =
    let parts = c.self.inside.parts.items in
    let typed = rw (← c.self.view_is) at c.requires.of_type in
    let room = rw (← c.self.view_is) at c.requires.room in
    let count = c.self.invariant.count in
    let rows = c.len-rows.ensures in
    let long = ap length (ap values_of c.in_ok-push.ensures.items ∙ values-more parts c.args.part) ∙ length-append (values_of parts) c.args.part.values in
    record { kinds = rw c.in_ok-push.ensures.items (kinds-more c.self.inside.kind parts c.args.part c.self.invariant.kinds typed); count = omega (arith, count, rows, long); room = omega (arith, count, rows, room) }
