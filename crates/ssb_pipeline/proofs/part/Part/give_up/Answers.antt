use Rattle.std.proofs.Common.{◌≡◌, ◌∙◌, ◌-◌, ◌<◌, ◌≤◌, true, true≢false, length, sym, ap, subst, arith}
use Rattle.std.specs.Arc.{arc_value}
use Rattle.ssb_pipeline.specs.Part.{PartState, is_awaited}
use Rattle.ssb_pipeline.proofs.PartFacts.{awaited-place, gives-up}
use Rattle.ssb_pipeline.proofs.RunFacts.{up-ran}
use Rattle.ssb_pipeline.proofs.part.Part.give_up.Goals as goal
use Rattle.ssb_pipeline.proofs.part.Part.give_up.Goals.{then-is_awaited, else-is_awaited}

pub overflow_sub-place : goal.overflow_sub-place
overflow_sub-place c =
    let p = c.self.inside in
    let t = c.args.ticket in
    let here = subst (λ (q : PartState). is_awaited q t ≡ true) (sym c.self.view_is) (sym c.is_awaited.ensures ∙ c.if-is_awaited.true) in
    let at = awaited-place (arc_value p.job) p.size p.section p.sections p.first p.next p.back p.marks.items p.given.items p.gave_up p.groups t c.self.invariant.0 c.self.invariant.1 here in
    subst (λ n. p.first ≤ n) (sym c.morsel.ensures) at.0

pub index_mut-requires : goal.index_mut-requires
index_mut-requires c =
    let p = c.self.inside in
    let t = c.args.ticket in
    let here = subst (λ (q : PartState). is_awaited q t ≡ true) (sym c.self.view_is) (sym c.is_awaited.ensures ∙ c.if-is_awaited.true) in
    let at = awaited-place (arc_value p.job) p.size p.section p.sections p.first p.next p.back p.marks.items p.given.items p.gave_up p.groups t c.self.invariant.0 c.self.invariant.1 here in
    let below = subst (λ n. n - p.first < length p.given.items) (sym c.morsel.ensures) at.1 in
    let own = p.given.ok.0 in
    omega (arith, below, own)

pub returns-clause-gives_up : goal.returns-clause-gives_up
returns-clause-gives_up c =
    let p = c.self.inside in
    let t = c.args.ticket in
    elim c.if-is_awaited.branch [
      | then-is_awaited w ↦
          let here = subst (λ (q : PartState). is_awaited q t ≡ true) (sym c.self.view_is) (sym c.is_awaited.ensures ∙ w.if-is_awaited.true) in
          let g = gives-up (arc_value p.job) p.size p.section p.sections p.first p.next p.back p.marks.items p.given.items p.gave_up p.groups t c.self.invariant.0 c.self.invariant.1 here in
          rw w.self-inside-is (rw (← c.self.view_is) (rw w.morsel.ensures g))
      | else-is_awaited w ↦
          let none = sym c.is_awaited.ensures ∙ w.if-is_awaited.false in
          rw w.self-inside-is (record { awaited = λ here. absurd (true≢false (sym here ∙ none)); strange = λ _. ap (λ (q : PartState). record q { gave_up = true }) c.self.view_is })
    ]

pub returns-clause-ran : goal.returns-clause-ran
returns-clause-ran c = up-ran c.args.ticket _ _ (returns-clause-gives_up c)
