use Rattle.std.proofs.Common.{◌∙◌, [], get_or, sym, ap, ap₂}
use Rattle.std.proofs.lemmas.Cmp.{tied_itself}
use Rattle.std.proofs.lemmas.Option.{get_or_from_slice_get}
use Rattle.std.specs.Cmp.Lexicographic.{slice_cmp, nat_list_cmp_total}
use Rattle.std.specs.Ordering.{nat_cmp}
use Rattle.ssb_cells.specs.Codes.{texts_of}
use Rattle.ssb_groups.specs.Refs.{values_at}
use Rattle.ssb_groups.proofs.joining.text_order.Goals as goal

pub returns-then-x-y : goal.returns-then-x-y
returns-then-x-y c =
    let texts = texts_of (values_at c.args.tables.now c.args.column) in
    sym (tied_itself nat_list_cmp_total (get_or texts c.args.x [])) ∙ ap (λ n. slice_cmp nat_cmp (get_or texts c.args.x []) (get_or texts n [])) c.if-x-y.true

pub returns-in-None : goal.returns-in-None
returns-in-None c =
    let texts = texts_of (values_at c.args.tables.now c.args.column) in
    c.cmp-in-None.ensures ∙ sym (ap₂ (slice_cmp nat_cmp) (get_or_from_slice_get texts c.args.x _ [] c.text_in.ensures) (get_or_from_slice_get texts c.args.y _ [] c.text_in-in-None.ensures))
