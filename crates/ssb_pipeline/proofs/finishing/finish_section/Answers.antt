use Rattle.std.proofs.Common.{◌≡◌, ◌<◌, ◌∙◌, refl, sym, ap, subst}
use Rattle.std.specs.Prelude.{IfOk}
use Rattle.ssb_groups.specs.Stands.{GroupMap}
use Rattle.ssb_pipeline.specs.Finish.{HasTaken}
use Rattle.ssb_pipeline.specs.Part.{IsWhole, PartState}
use Rattle.ssb_pipeline.specs.Pass.{known}
use Rattle.ssb_pipeline.specs.Rule.{Knows, taker}
use Rattle.ssb_pipeline.proofs.Holds.{taken}
use Rattle.ssb_pipeline.proofs.Rounds.{only_again, only_self}
use Rattle.ssb_pipeline.proofs.finishing.finish_section.Goals as goal

pub swept-requires : goal.swept-requires
swept-requires g c = c.take_from-part.ensures.lawful

pub returns-clause-only : goal.returns-clause-only
returns-clause-only g c =
    let s = c.args.section in
    let p = c.args.pass.now in
    let in_views = subst (λ n. s < n) (sym c.requires.pass.count) c.requires.section in
    only_again s s p p c.take_from-part.new.pass (known p s) (taker (known p s) c.take_from-part.result.part) refl in_views (only_self s p) c.take_from-part.ensures.view

pub returns-clause-pass : goal.returns-clause-pass
returns-clause-pass g c = c.take_from-part.ensures.pass

pub returns-clause-over : goal.returns-clause-over
returns-clause-over g c =
    let is = c.take_from-part.ensures.part in
    rw (is.job, is.size, is.section, is.sections) at c.swept.ensures.over

pub returns-clause-refused : goal.returns-clause-refused
returns-clause-refused g c = λ gave. c.swept.ensures.refused (c.take_from-part.ensures.follows.gave_up gave)

-- what the pass knows then is that it took the part
pub returns-clause-taken : goal.returns-clause-taken
returns-clause-taken g c =
    let s = c.args.section in
    let p = c.args.pass.now in
    let t = c.take_from-part.ensures in
    let in_views = subst (λ n. s < n) (sym c.requires.pass.count) c.requires.section in
    let knows = taken s s p c.take_from-part.new.pass c.take_from-part.result.part refl in_views t.view in
    subst (HasTaken c.args.parts.now s (known p s)) (sym knows) (record { took = refl; part = t.part; lawful = t.lawful; reached = t.reached; ran = t.ran })

pub returns-clause-recorded : goal.returns-clause-recorded
returns-clause-recorded g c = λ gave.
    let s = c.args.section in
    let p = c.args.pass.now in
    let in_views = subst (λ n. s < n) (sym c.requires.pass.count) c.requires.section in
    let is : (known c.take_from-part.new.pass s).seen ≡ c.take_from-part.result.part = ap (λ (v : Knows). v.seen) (taken s s p c.take_from-part.new.pass c.take_from-part.result.part refl in_views c.take_from-part.ensures.view) in
    c.swept.ensures.refused (sym (ap (λ (x : PartState). x.gave_up) is) ∙ gave)

pub returns-clause-at_once : goal.returns-clause-at_once
returns-clause-at_once g c = λ whole kept.
    let s = c.args.section in
    let p = c.args.pass.now in
    let in_views = subst (λ n. s < n) (sym c.requires.pass.count) c.requires.section in
    let is : (known c.take_from-part.new.pass s).seen ≡ c.take_from-part.result.part = ap (λ (v : Knows). v.seen) (taken s s p c.take_from-part.new.pass c.take_from-part.result.part refl in_views c.take_from-part.ensures.view) in
    c.swept.ensures.at_once (subst IsWhole is whole) (sym (ap (λ (x : PartState). x.gave_up) is) ∙ kept)

pub returns-clause-same : goal.returns-clause-same
returns-clause-same g c = λ whole.
    let s = c.args.section in
    let p = c.args.pass.now in
    let in_views = subst (λ n. s < n) (sym c.requires.pass.count) c.requires.section in
    let is : (known c.take_from-part.new.pass s).seen ≡ c.take_from-part.result.part = ap (λ (v : Knows). v.seen) (taken s s p c.take_from-part.new.pass c.take_from-part.result.part refl in_views c.take_from-part.ensures.view) in
    subst (λ (x : PartState). IfOk c.swept.result (λ (h : GroupMap). h ≡ x.groups)) (sym is) (c.swept.ensures.same (subst IsWhole is whole))
