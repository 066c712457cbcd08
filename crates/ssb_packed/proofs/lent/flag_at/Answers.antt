use Rattle.std.proofs.Common.{◌∙◌, ◌/◌, ◌%◌, ◌≤◌, nat_eq, length, sym, ap}
use Rattle.std.specs.Int.{bit_at}
use Rattle.std.proofs.lemmas.Bool.{ltb-false}
use Rattle.std.proofs.lemmas.List.{get_or_past}
use Rattle.std.proofs.lemmas.Nat.Bits.{shr_and_one, bit_at-zero}
use Rattle.ssb_packed.proofs.lent.flag_at.Goals as goal

pub returns-in-Some : goal.returns-in-Some
returns-in-Some c = ap (λ n. nat_eq n 1) (shr_and_one c.in-Some.word.now (c.args.row % 64)) ∙ ap (λ w. nat_eq (bit_at w (c.args.row % 64)) 1) (c.in-Some.ensures.lookup.3.1 0)

pub returns-in-None : goal.returns-in-None
returns-in-None c =
    let past : length c.args.words.now ≤ c.args.row / 64 = ltb-false _ _ (sym c.in-None.ensures.lookup.0) in
    sym (ap (λ w. nat_eq (bit_at w (c.args.row % 64)) 1) (get_or_past c.args.words.now (c.args.row / 64) 0 past) ∙ ap (λ n. nat_eq n 1) (bit_at-zero (c.args.row % 64)))
