use Rattle.std.proofs.Common.{◌∙◌, arith, length-set}
use Rattle.ssb_plan.proofs.InOrder.{code-below, many-codes, one-more}
use Rattle.ssb_plan.proofs.ranks.places.Goals as goal

pub bounds-codes-place : goal.bounds-codes-place
bounds-codes-place c = omega (arith, many-codes c.args.codes.now c.args.count c.requires, c.loop-place-test.true)

pub index_mut-requires : goal.index_mut-requires
index_mut-requires c =
    omega (arith, code-below c.args.codes.now c.args.count c.loop-place.place c.requires c.loop-place-test.true, many-codes c.args.codes.now c.args.count c.requires, c.loop-place.invariant.0)

pub loop-place-preserved : goal.loop-place-preserved
loop-place-preserved c = (
  length-set _ _ _ ∙ c.loop-place.invariant.0,
  one-more c.args.codes.now c.loop-place.places.items c.args.count c.loop-place.place c.requires c.loop-place-test.true c.loop-place.invariant.0 c.loop-place.invariant.1,
)

pub returns : goal.returns
returns c = record {
  many = c.loop-place.invariant.0;
  each = λ k lt. c.loop-place.invariant.1 k (omega (arith, lt, many-codes c.args.codes.now c.args.count c.requires, c.loop-place-test.false));
}
