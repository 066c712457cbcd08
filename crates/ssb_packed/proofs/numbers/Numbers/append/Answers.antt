use Rattle.std.proofs.Common.{◌≡◌, ◌∙◌, ◌++◌, ◌∷◌, [], ap, rules, w64, to_z, of_z}
use Rattle.ssb_packed.proofs.Loops.{added-more}
use Rattle.ssb_packed.proofs.numbers.Numbers.append.Goals as goal

pub loop-i-preserved : goal.loop-i-preserved
loop-i-preserved c =
    let n = c.get.result in
    let same : to_z w64 (of_z w64 n) ≡ n = search rules in
    added-more c.args.self.now c.loop-i.self c.push.new.self c.args.other.now c.loop-i.i n (c.in_ok-push.ensures.ok ∙ ap (λ m. c.loop-i.self ++ m ∷ []) same) c.loop-i.invariant c.get.ensures
