use Rattle.std.proofs.Common.{◌∙◌, ◌++◌, List, length, sym, ap, arith, length-append}
use Rattle.ssb_cells.specs.Cell.{Cell}
use Rattle.ssb_cells.specs.Tables.{Filled}
use Rattle.ssb_cells.specs.Parts.{values_of}
use Rattle.ssb_cells.proofs.PartFacts.{all-joined, next-fits, next-rest, values-more}
use Rattle.ssb_cells.proofs.parts.ColumnParts.join.Goals as goal

pub overflow_sub-rows : goal.overflow_sub-rows
overflow_sub-rows c =
    let inv = c.loop-part.invariant in
    let so_far = ap (λ (f : Filled). length f.values) inv.joined in
    let whole = ap length inv.rest in
    let two = length-append (values_of c.loop-part.yielded) (values_of c.loop-part.part-iterator.rest.items) in
    let view = ap (λ (f : Filled). length f.values) c.self.view_is in
    let count = c.self.invariant.count in
    let len = c.len.ensures in
    omega (arith, so_far, whole, two, view, count, len)

pub append-requires-clause-of_type : goal.append-requires-clause-of_type
append-requires-clause-of_type c =
    let kinds = rw c.in-Some.ensures.steps.0 at c.loop-part.invariant.kinds in
    kinds.0 ∙ sym (ap (λ (f : Filled). f.kind) c.loop-part.invariant.joined)

pub append-requires-clause-room : goal.append-requires-clause-room
append-requires-clause-room c =
    let inv = c.loop-part.invariant in
    let so_far = ap (λ (f : Filled). length f.values) inv.joined in
    let fits = next-fits (values_of c.loop-part.yielded) c.in-Some.part c.loop-part.part-iterator.rest.items c.next.new.self.rest.items c.args.self.values inv.rest c.in-Some.ensures.steps.0 in
    let view = ap (λ (f : Filled). length f.values) c.self.view_is in
    let count = c.self.invariant.count in
    let room = c.self.invariant.room in
    omega (arith, so_far, fits, view, count, room)

pub loop-part-preserved : goal.loop-part-preserved
loop-part-preserved c =
    let inv = c.loop-part.invariant in
    let more = values-more c.loop-part.yielded c.in-Some.part in
    record {
      joined = c.in_ok-column-2.ensures ∙ ap (λ (f : Filled). record f { values = f.values ++ c.in-Some.part.values }) inv.joined ∙ ap (λ (vs : List Cell). record { kind = c.args.self.kind; values = vs }) (sym more);
      rest = next-rest c.loop-part.yielded c.in-Some.part c.loop-part.part-iterator.rest.items c.next.new.self.rest.items c.args.self.values inv.rest c.in-Some.ensures.steps.0;
      kinds = (rw c.in-Some.ensures.steps.0 at inv.kinds).1;
    }

pub returns : goal.returns
returns c =
    let inv = c.loop-part.invariant in
    let rest = c.loop-part.part-iterator.rest in
    let none = c.in-None.ensures.steps.0 in
    let counted = rest.ok.0 in
    inv.joined ∙ ap (λ (vs : List Cell). record { kind = c.args.self.kind; values = vs }) (all-joined c.loop-part.yielded rest.items c.args.self.values inv.rest (omega (arith, none, counted)))
