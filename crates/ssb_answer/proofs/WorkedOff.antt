-- One part of all of a job's morsels, worked off.
use Rattle.std.proofs.Common.{◌≡◌, ◌∙◌, ◌<◌, ℕ, length, sym, ap, subst, false, true≢false}
use Rattle.ssb_plan.specs.JobShape.{JobShape}
use Rattle.ssb_groups.specs.Stands.{Stands}
use Rattle.ssb_pipeline.specs.Part.{Grows, IsBack, IsLawfulPart, IsOpening, IsWhole, OneSectionIsAll, PartState, has}
use Rattle.ssb_reply.specs.Reply.{seen_rows}

-- a part of the one section that grew to the whole stands for all that is kept
pub worked-off : OneSectionIsAll → (j : JobShape) (size : ℕ) (o p : PartState) → 0 < size → j.query.fact < length j.query.from → IsOpening j size 0 1 o → Grows o p → IsLawfulPart p → (IsBack o → o.gave_up ≡ false → IsWhole p) → Stands p.groups (seen_rows j)
worked-off one j size o p some named begins grows lawful done =
    let none : IsBack o = λ i h. absurd (true≢false (sym h ∙ ap (λ xs. has xs i) begins.handed)) in
    let f = grows.follows in
    let same : p.job ≡ j = f.job ∙ begins.job in
    let wide : p.size ≡ size = f.size ∙ begins.size in
    rw same at (one p lawful (done none begins.gave_up) (f.section ∙ begins.section) (f.sections ∙ begins.sections) (subst (λ n. 0 < n) (sym wide) some) (subst (λ (x : JobShape). x.query.fact < length x.query.from) (sym same) named))
