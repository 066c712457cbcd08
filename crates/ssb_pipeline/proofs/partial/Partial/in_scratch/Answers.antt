use Rattle.std.proofs.Common.{◌≡◌, ◌∙◌, List, None, sym, subst}
use Rattle.ssb_pipeline.specs.State.{AreOver}
use Rattle.ssb_pipeline.specs.Tickets.{TicketState, batch_fault, morsels_of}
use Rattle.ssb_pipeline.proofs.PartialFacts.{of-tickets}
use Rattle.ssb_pipeline.proofs.partial.Partial.in_scratch.Goals as goal

pub invariant_of-result : goal.invariant_of-result
invariant_of-result c =
    let j = c.args.job.now in
    let ts = c.args.tickets.items in
    let batch = subst (λ us. batch_fault us ≡ None) c.as_slice.ensures.value (sym c.fault_of.ensures ∙ c.in_default.is) in
    let over = subst (λ (us : List TicketState). AreOver j c.size-size.result (morsels_of us) c.in-Ok.groups) c.as_slice-2.ensures.value c.in-Ok.ensures.over in
    of-tickets ts c.index.result.now j c.in-Ok.groups batch c.index.ensures c.requires.one_job (subst (λ n. AreOver j n (morsels_of ts) c.in-Ok.groups) c.size-size.ensures over)

pub returns-in-Ok-clause-stands : goal.returns-in-Ok-clause-stands
returns-in-Ok-clause-stands c = invariant_of-result c
