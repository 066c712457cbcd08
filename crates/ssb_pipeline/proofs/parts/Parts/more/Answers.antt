use Rattle.std.proofs.Common.{◌+◌, ap, sym, subst, length, length-append, arith, [], ◌∷◌}
use Rattle.std.specs.List.{All}
use Rattle.std.proofs.lemmas.List.Elements.{All-nil, All-push}
use Rattle.ssb_pipeline.specs.Pass.{PassState, IsPassOfParts, HoldsNone, KnowsNothing}
use Rattle.ssb_pipeline.proofs.Passes.{new_pass}
use Rattle.ssb_pipeline.proofs.parts.Parts.more.Goals as goal

pub loop-init : goal.loop-init
loop-init c =
    let Good : PassState → Type 0 = λ p. IsPassOfParts c.args.self.now p × HoldsNone p × KnowsNothing p in
    let items = c.new-all.ensures.items in
    record { first = c.requires.first; all = subst (All Good) (sym items) (All-nil Good); count = ap (λ xs. length xs + 1) items }

pub another-requires-clause-pass : goal.another-requires-clause-pass
another-requires-clause-pass c = c.loop.invariant.first.0

pub another-requires-clause-none : goal.another-requires-clause-none
another-requires-clause-none c = c.loop.invariant.first.1

pub loop-preserved : goal.loop-preserved
loop-preserved c =
    let i = c.loop.invariant in
    let Good : PassState → Type 0 = λ p. IsPassOfParts c.args.self.now p × HoldsNone p × KnowsNothing p in
    let same = c.another.ensures.same in
    let new = c.in_ok-pass.ensures.new in
    let items = c.in_ok-push.ensures.items in
    let count = i.count in
    record {
      first = subst Good (sym same) i.first;
      all = rw items (All-push Good _ _ i.all (subst Good (sym new) (new_pass c.args.self.now c.loop.first i.first)));
      count = rw (items, length-append c.loop.all.items (c.in_ok-pass.pass ∷ [])) (omega arith);
    }

pub returns-clause-count : goal.returns-clause-count
returns-clause-count c =
    let some = c.requires.count in
    let count = c.loop.invariant.count in
    let done = c.loop-test.false in
    let within = c.loop.auto.counter-end (omega (arith, some)) in
    rw (c.in_ok-push-2.ensures.items, length-append c.loop.all.items (c.loop.first ∷ [])) (omega (arith, count, done, within))

pub returns-clause-passes : goal.returns-clause-passes
returns-clause-passes c =
    let Good : PassState → Type 0 = λ p. IsPassOfParts c.args.self.now p × HoldsNone p × KnowsNothing p in
    subst (All Good) (sym c.in_ok-push-2.ensures.items) (All-push Good c.loop.all.items c.loop.first c.loop.invariant.all c.loop.invariant.first)
