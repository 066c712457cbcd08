use Rattle.std.proofs.Common.{◌≡◌, ◌∙◌, ◌++◌, ◌∷◌, ap, arith, rules, subst, sym}
use Rattle.ssb_lanes.specs.Joining.{AreJoined}
use Rattle.ssb_lanes.proofs.JoiningFacts.{AreCollected, collected-all, collected-next, no-more}
use Rattle.ssb_lanes.proofs.joining.joined_columns.Goals as goal

pub loop-joining-init : goal.loop-joining-init
loop-joining-init c stacks joined =
    let rest : c.into_iter-joining-iterator.result.rest.items ≡ c.args.joinings.items = search (rules) in
    record { back = stacks; split = ap (λ t. t ++ stacks) (sym c.new-columns.ensures.items); joined = subst (AreJoined stacks) (sym rest) joined }

pub loop-joining-preserved : goal.loop-joining-preserved
loop-joining-preserved c stacks joined =
    let next = c.in-Some.ensures.steps.0 ∙ ap (λ r. r ∷ c.next.new.self.rest.items) c.in-Column.is in
    subst (λ t. AreCollected stacks t c.next.new.self.rest.items) (sym c.in_ok-push-in-Column.ensures.items)
    (collected-next stacks c.loop-joining.columns.items c.in-Column.column c.next.new.self.rest.items (subst (AreCollected stacks c.loop-joining.columns.items) next (c.loop-joining.invariant stacks joined)))

pub returns : goal.returns
returns c stacks joined =
    let rest = c.loop-joining.joining-iterator.rest in
    let none = c.in-None.ensures.steps.0 in
    let counted = rest.ok.0 in
    collected-all stacks c.loop-joining.columns.items rest.items (c.loop-joining.invariant stacks joined) (no-more rest.items (omega (arith, none, counted)))
