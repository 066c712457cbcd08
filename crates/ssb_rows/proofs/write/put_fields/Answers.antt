use Rattle.std.proofs.Common.{subst, sym}
use Rattle.ssb_rows.specs.Writing.{Breaks, Writes}
use Rattle.ssb_rows.proofs.Going.{fields-are, breaks-front, writes-after}
use Rattle.ssb_rows.proofs.write.put_fields.Goals as goal

pub returns-in_default-put_field : goal.returns-in_default-put_field
returns-in_default-put_field g c =
    subst (Breaks _ _) (sym (fields-are _ _ _ c.in-Some.ensures.some)) (breaks-front _ _ _ _ c.in_default-put_field.ensures)

pub returns : goal.returns
returns g c = subst (Writes c.put_barred.result _ _) (sym (fields-are _ _ _ c.in-Some.ensures.some)) (writes-after c.put_barred.result _ _ _ _ _ c.in-Ok.ensures c.put_barred.ensures)
