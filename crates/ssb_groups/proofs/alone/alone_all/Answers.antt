use Rattle.std.proofs.Common.{◌∙◌, get_or, refl, subst, arith}
use Rattle.std.proofs.lemmas.List.{get_or-set_other, length-set}
use Rattle.ssb_groups.specs.Alone.{IsAlone}
use Rattle.ssb_keys.specs.declared.kept.Kept.TheVariants as kept
use Rattle.ssb_groups.proofs.TallyFacts.{done-more}
use Rattle.ssb_groups.proofs.alone.alone_all.Goals as goal

pub returns-then-is_itself : goal.returns-then-is_itself
returns-then-is_itself c = record { many = refl; each = λ n lt. c.is_itself.ensures c.if-is_itself.true (get_or c.args.cells.now n kept.Null) (c.requires n lt) }

pub loop-at-preserved : goal.loop-at-preserved
loop-at-preserved c =
    let l = c.loop-at in
    let many = l.invariant.many in
    let test = c.loop-at-test.true in
    let here = subst (λ x. IsAlone c.args.function x c.alone.result) (l.invariant.later l.at (omega arith)) c.alone.ensures in
    record {
      many = length-set l.cells l.at c.alone.result ∙ many;
      each = done-more kept.Null (λ n t. IsAlone c.args.function (get_or c.args.cells.now n kept.Null) t) l.cells l.at c.alone.result (omega (arith, many, test)) l.invariant.each here;
      later = λ n past. get_or-set_other l.cells l.at n c.alone.result kept.Null (λ h. absurd (omega (arith, past, h))) ∙ l.invariant.later n (omega (arith, past));
    }

pub returns : goal.returns
returns c =
    let l = c.loop-at in
    let many = l.invariant.many in
    let past = c.loop-at-test.false in
    record { many = many; each = λ n lt. l.invariant.each n (omega (arith, past, many, lt)) }
