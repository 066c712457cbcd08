use Rattle.std.proofs.Common.{◌∷◌, []}
use Rattle.ssb_rows.proofs.Going.{going-start, field-on, going-more, going-breaks, going-end}
use Rattle.ssb_rows.proofs.write.put_barred.Goals as goal

pub loop-field-init : goal.loop-field-init
loop-field-init g c = going-start _ _

pub returns-in_default-put : goal.returns-in_default-put
returns-in_default-put g c =
    going-breaks _ _ _ _ (124 ∷ []) _ (field-on _ _ _ _ _ _ c.loop-field.invariant c.in-Some.ensures.some) c.in_default-put.ensures

pub returns-in_default-put_field : goal.returns-in_default-put_field
returns-in_default-put_field g c =
    going-breaks _ _ _ _ _ _ (going-more _ _ _ _ (124 ∷ []) _ (field-on _ _ _ _ _ _ c.loop-field.invariant c.in-Some.ensures.some) c.in-Ok.ensures) c.in_default-put_field.ensures

pub loop-field-preserved : goal.loop-field-preserved
loop-field-preserved g c =
    going-more _ _ _ _ _ _ (going-more _ _ _ _ (124 ∷ []) _ (field-on _ _ _ _ _ _ c.loop-field.invariant c.in-Some.ensures.some) c.in-Ok.ensures) c.in-Ok-put_field.ensures

pub returns : goal.returns
returns g c = going-end _ _ _ (rw c.in_default.ensures.none at c.loop-field.invariant)
