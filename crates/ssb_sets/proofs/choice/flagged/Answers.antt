use Rattle.std.proofs.Common.{◌≡◌, ◌∙◌, ◌-ℤ◌, ◌++◌, ◌∷◌, [], ap, arith, cond, get_or, int_le, to_z, of_z, unsigned_abs, w64}
use Rattle.std.proofs.lemmas.Int.{ints}
use Rattle.ssb_sets.proofs.CheckFacts.{flags-say, get_or-padded}
use Rattle.ssb_sets.proofs.choice.flagged.Goals as goal

pub returns : goal.returns
returns c n below beyond =
    let flags = c.in_ok-flags.flags.items in
    let others = c.args.others in
    let from = to_z w64 (of_z w64 c.args.from) in
    let k = unsigned_abs (n -ℤ from) in
    let more : c.push.new.self.items ≡ flags ++ others ∷ [] = c.in_ok-push.ensures.items in
    ap (λ xs. cond (int_le from n) (get_or xs k others) others) more
    ∙ ap (λ b. cond (int_le from n) b others) (get_or-padded flags k others)
    ∙ flags-say c.args.set.now from (to_z w64 (of_z w64 c.args.to)) n flags others
    c.in_ok-flags.ensures.count c.in_ok-flags.ensures.each (λ h. below (omega (arith, ints, h))) (λ h. beyond (omega (arith, ints, h)))
