use Rattle.std.proofs.Common.{◌∙◌, ◌/◌, ◌%◌, ◌<◌, ◌≤◌, false, nat_eq, length, ap, arith, w64}
use Rattle.std.specs.Int.{bit_at}
use Rattle.std.proofs.lemmas.List.{get_or_default, get_or_past}
use Rattle.std.proofs.lemmas.Nat.Bits.{bit_at-zero, bit_at_clear_same, bit_at_clear_other}
use Rattle.ssb_packed.proofs.FlagFacts.{one-changed, unset}
use Rattle.ssb_packed.proofs.nulls.clear_flag.Goals as goal

pub returns-then-word-len : goal.returns-then-word-len
returns-then-word-len c =
    let p = c.args.place in
    let words = c.args.words.now.items in
    let within : p / 64 < length words = omega (arith, c.args.words.now.ok.0, c.if-word-len.true, c.len.ensures) in
    let k : p % 64 < 64 = omega arith in
    let v = c.index_mut.result.now in
    one-changed words p _ false within (ap (λ x. nat_eq x 1) (bit_at_clear_same w64 v (p % 64) k)) (λ i low apart. bit_at_clear_other w64 v (p % 64) k i low apart ∙ ap (λ w. bit_at w i) (c.index_mut.ensures.value ∙ get_or_default words (p / 64) v 0 within))

pub returns-else-word-len : goal.returns-else-word-len
returns-else-word-len c =
    let p = c.args.place in
    let words = c.args.words.now.items in
    let past : length words ≤ p / 64 = omega (arith, c.args.words.now.ok.0, c.if-word-len.false, c.len.ensures) in
    unset words p (ap (λ w. nat_eq (bit_at w (p % 64)) 1) (get_or_past words (p / 64) 0 past) ∙ ap (λ n. nat_eq n 1) (bit_at-zero (p % 64)))
