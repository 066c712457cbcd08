use Rattle.std.proofs.Common.{◌∷◌, []}
use Rattle.std.proofs.lemmas.List.{nil_from_length}
use Rattle.ssb_rows.proofs.Going.{going-breaks, going-end, going-more, going-start}
use Rattle.ssb_show.proofs.Putting.{title-on}
use Rattle.ssb_show.proofs.sheet.put_barred.Goals as goal

pub loop-title-init : goal.loop-title-init
loop-title-init g c = going-start _ _

pub returns-in_default-put : goal.returns-in_default-put
returns-in_default-put g c = going-breaks _ _ _ _ (124 ∷ []) _ (title-on _ _ _ _ _ _ c.loop-title.invariant c.in-Some.ensures.cases.0) c.in_default-put.ensures

pub returns-in_default-put_title : goal.returns-in_default-put_title
returns-in_default-put_title g c =
    going-breaks _ _ _ _ _ _ (going-more _ _ _ _ (124 ∷ []) _ (title-on _ _ _ _ _ _ c.loop-title.invariant c.in-Some.ensures.cases.0) c.in-Ok.ensures) c.in_default-put_title.ensures

pub loop-title-preserved : goal.loop-title-preserved
loop-title-preserved g c = going-more _ _ _ _ _ _ (going-more _ _ _ _ (124 ∷ []) _ (title-on _ _ _ _ _ _ c.loop-title.invariant c.in-Some.ensures.cases.0) c.in-Ok.ensures) c.in-Ok-put_title.ensures

pub returns : goal.returns
returns g c = going-end _ _ _ (rw (nil_from_length c.loop-title.rest.now c.in_default.ensures.cases) at c.loop-title.invariant)
