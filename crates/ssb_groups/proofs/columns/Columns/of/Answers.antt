use Rattle.std.proofs.Common.{◌≡◌, ◌∙◌, ℕ, Option, map, sym, ap, subst}
use Rattle.std.specs.Arc.{arc_value}
use Rattle.std.specs.declared.alloc.Global.{Global}
use Rattle.std.specs.declared.vec.Vec.{Vec}
use Rattle.ssb_cells.specs.Tables.{Columns}
use Rattle.ssb_plan.specs.JobShape.{JobShape}
use Rattle.ssb_plan.specs.Inputs.{input_of}
use Rattle.ssb_plan.specs.Ranks.{AreAllRanks}
use Rattle.ssb_groups.specs.Joining.{AreColumnsOf, AreRanksBy}
use Rattle.ssb_groups.specs.Keys.{AreDomains, domain_of, domains_of}
use Rattle.ssb_groups.specs.Refs.{AreAllColumns}
use Rattle.ssb_groups.proofs.RankFacts.{ranks-by}
use Rattle.ssb_groups.proofs.ValueDomains.{all-there}
use Rattle.ssb_groups.proofs.columns.Columns.of.Goals as goal

pub invariant_of-result : goal.invariant_of-result
invariant_of-result c =
    let tables : (arc_value c.in_ok-try_clone.field-0).items ≡ c.args.job.now.tables = ap (λ (v : Vec Columns Global). v.items) c.in_ok-try_clone.ensures ∙ c.tables-2.ensures in
    let found : c.deref-2.result.now ≡ c.args.job.now.tables = c.deref-2.ensures.value ∙ ap (λ v. v.items) c.deref.ensures ∙ c.tables.ensures in
    let same : map (domain_of c.deref-2.result.now) c.as_slice.result.now ≡ domains_of c.args.job.now =
    ap (λ ts. map (domain_of ts) c.as_slice.result.now) found ∙ ap (map (domain_of c.args.job.now.tables)) (c.as_slice.ensures.value ∙ c.in_ok-keys.ensures.same) in
    let j = c.args.job.now in
    let plan = c.plan-2.ensures in
    let inputs = subst (λ is. AreAllRanks j.tables is (arc_value c.plan-2.result.now.ranks).items) plan.inputs.inputs plan.ranks in
    let all = subst (λ (v : Vec (Option (Vec ℕ Global)) Global). AreAllRanks j.tables (map (input_of j.query) j.query.aggregates) v.items) (sym c.in_ok-try_clone-2.ensures) inputs in
    let ranked = subst (λ ws. AreRanksBy j.tables ws (arc_value c.in_ok-try_clone-2.field-0).items) (sym c.in_ok-joinings.ensures.same) (ranks-by j j.query.aggregates (arc_value c.in_ok-try_clone-2.field-0).items all) in
    subst (λ (j : JobShape). AreColumnsOf j (arc_value c.in_ok-try_clone.field-0).items c.in_ok-keys.keys.items c.in_ok-domains.domains c.in_ok-joinings.field-0.items (arc_value c.in_ok-try_clone-2.field-0).items) (sym c.of.ensures)
    (record { tables = tables; keys = c.in_ok-keys.ensures.same; domains = subst (λ ds. AreDomains ds c.in_ok-domains.domains) same c.in_ok-domains.ensures; joinings = c.in_ok-joinings.ensures.same; there = c.in_ok-keys.ensures.there; known = c.in_ok-joinings.ensures.known; ranked = ranked })

pub domains_of-requires-clause-columns : goal.domains_of-requires-clause-columns
domains_of-requires-clause-columns c =
    let found : c.deref-2.result.now ≡ c.args.job.now.tables = c.deref-2.ensures.value ∙ ap (λ v. v.items) c.deref.ensures ∙ c.tables.ensures in
    subst (λ ts. AreAllColumns ts c.as_slice.result.now) (sym found) (subst (AreAllColumns c.args.job.now.tables) (sym c.as_slice.ensures.value) (all-there c.args.job.now c.in_ok-keys.keys.items c.in_ok-keys.ensures.there))
