use Rattle.std.proofs.Common.{◌∙◌, get_or, ap₂, arith}
use Rattle.std.proofs.lemmas.List.{length-set}
use Rattle.ssb_groups.specs.Alone.{IsApplied}
use Rattle.ssb_groups.specs.Outcomes.{exact}
use Rattle.ssb_groups.specs.Value.{apply}
use Rattle.ssb_keys.specs.declared.kept.Kept.TheVariants as kept
use Rattle.ssb_groups.proofs.TallyFacts.{done-more}
use Rattle.ssb_groups.proofs.alone.apply_all.Goals as goal

pub loop-at-preserved : goal.loop-at-preserved
loop-at-preserved c =
    let l = c.loop-at in
    let many = l.invariant.many in
    let test = c.loop-at-test.true in
    let o = c.args.operation in
    let f = c.args.function in
    let here : IsApplied o f (get_or c.args.left.now l.at kept.Null) (get_or c.args.right.now l.at kept.Null) c.alone.result =
    record {
      cell = c.in-Some.cell;
      number = λ vs ws us. c.in-Some.ensures.value us ∙ c.apply-number.ensures ∙ ap₂ (apply (exact o)) (c.of.ensures vs) (c.of-in-loop-at.ensures ws);
      kept = λ us. c.in-Some.ensures.kept us;
      alone = c.alone.ensures;
    } in
    record {
      many = length-set l.totals l.at c.alone.result ∙ many;
      each = done-more kept.Null (λ n t. IsApplied o f (get_or c.args.left.now n kept.Null) (get_or c.args.right.now n kept.Null) t) l.totals l.at c.alone.result (omega (arith, many, test)) l.invariant.each here;
    }

pub returns : goal.returns
returns c =
    let l = c.loop-at in
    let many = l.invariant.many in
    let past = c.loop-at-test.false in
    let same = c.requires.left in
    λ yes. record {
      many = many ∙ same;
      each = λ n lt. l.invariant.each n (omega (arith, past, many, same, lt));
    }
