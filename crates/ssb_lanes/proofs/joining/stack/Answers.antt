use Rattle.std.proofs.Common.{◌∙◌, ◌∷◌, [], ap, arith, length, length-append, refl, rules, subst, sym}
use Rattle.ssb_lanes.specs.Joining.{FitBehind, behind_each}
use Rattle.ssb_lanes.proofs.JoiningFacts.{behind-none, length-behind, stack-here, stack-inside, stack-next, yields, yields-all, yields-next}
use Rattle.std.proofs.lemmas.Grind.{common_steps}
use Rattle.ssb_lanes.proofs.joining.stack.Goals as goal

pub loop-column-init : goal.loop-column-init
loop-column-init c = record { stacks = sym (behind-none c.args.stacks.now.items); rest = search (rules); place = refl }

pub index_mut-behind-requires : goal.index_mut-behind-requires
index_mut-behind-requires c =
    let inv = c.loop-column.invariant in
    let lt = stack-inside c.args.stacks.now.items c.loop-column.yielded c.in-Some.column c.next.new.self.rest.items (subst (FitBehind c.args.stacks.now.items) (yields c.loop-column.yielded c.in-Some.column _ _ _ inv.rest c.in-Some.ensures.steps.0) c.requires) in
    let n = ap length inv.stacks ∙ length-behind c.args.stacks.now.items c.loop-column.yielded in
    let own = c.loop-column.stacks.ok.0 in
    let place = inv.place in
    omega (arith, lt, n, own, place)

pub push-requires-clause-of_type : goal.push-requires-clause-of_type
push-requires-clause-of_type c =
    let inv = c.loop-column.invariant in
    (stack-here c.args.stacks.now.items _ c.loop-column.yielded _ _ _ c.in-Some.column c.index_mut-behind.result.now c.loop-column.k c.requires inv.stacks inv.rest inv.place c.in-Some.ensures.steps.0 c.index_mut-behind.ensures.value).kind

pub push-requires-clause-room : goal.push-requires-clause-room
push-requires-clause-room c =
    let inv = c.loop-column.invariant in
    (stack-here c.args.stacks.now.items _ c.loop-column.yielded _ _ _ c.in-Some.column c.index_mut-behind.result.now c.loop-column.k c.requires inv.stacks inv.rest inv.place c.in-Some.ensures.steps.0 c.index_mut-behind.ensures.value).room

pub loop-column-preserved : goal.loop-column-preserved
loop-column-preserved c =
    let inv = c.loop-column.invariant in
    let place = inv.place in
    let n = length-append c.loop-column.yielded (c.in-Some.column ∷ []) in
    record {
      stacks = stack-next c.args.stacks.now.items _ c.loop-column.yielded _ _ _ c.in-Some.column c.index_mut-behind.result.now c.push.new.self c.loop-column.k c.requires inv.stacks inv.rest inv.place c.in-Some.ensures.steps.0 c.index_mut-behind.ensures.value c.in_ok-push.ensures.ok;
      rest = yields-next c.loop-column.yielded c.in-Some.column _ _ _ inv.rest c.in-Some.ensures.steps.0;
      place = omega (arith, place, n);
    }

pub returns : goal.returns
returns c =
    let inv = c.loop-column.invariant in
    let rest = c.loop-column.column-iterator.rest in
    let none = c.in-None.ensures.steps.0 in
    let counted = rest.ok.0 in
    inv.stacks ∙ ap (behind_each c.args.stacks.now.items) (yields-all c.loop-column.yielded rest.items _ inv.rest (omega (arith, none, counted)))

pub overflow_add-k : goal.overflow_add-k
overflow_add-k c = grind (arith, common_steps)
