use Rattle.std.proofs.Common.{sym}
use Rattle.ssb_rows.proofs.Going.{going-breaks, going-more, going-start}
use Rattle.ssb_show.specs.Pieces.{field_of, line_of}
use Rattle.ssb_show.proofs.Lines.{field-first, line-end}
use Rattle.ssb_show.proofs.Putting.{going-on}
use Rattle.ssb_show.proofs.put.put_fields.Goals as goal

pub loop-place-init : goal.loop-place-init
loop-place-init g c = going-start _ _

pub returns-in_default : goal.returns-in_default
returns-in_default g c = line-end _ _ _ c.args.widths.now (line_of c.args.fields.now) c.loop-place.place (sym c.in_default.ensures) c.loop-place.invariant

pub returns-in_default-put_field : goal.returns-in_default-put_field
returns-in_default-put_field g c =
    going-breaks _ _ _ _ _ _
    (going-on _ _ _ _ _ (field-first c.args.widths.now (line_of c.args.fields.now) c.loop-place.place c.width_of.result (field_of c.in-Some.piece) c.has_letters_behind-more.result (sym c.in-Some.ensures) c.width_of.ensures c.has_letters_behind-more.ensures) c.loop-place.invariant)
    c.in_default-put_field.ensures

pub loop-place-preserved : goal.loop-place-preserved
loop-place-preserved g c =
    going-more _ _ _ _ _ _
    (going-on _ _ _ _ _ (field-first c.args.widths.now (line_of c.args.fields.now) c.loop-place.place c.width_of.result (field_of c.in-Some.piece) c.has_letters_behind-more.result (sym c.in-Some.ensures) c.width_of.ensures c.has_letters_behind-more.ensures) c.loop-place.invariant)
    c.in-Ok.ensures
