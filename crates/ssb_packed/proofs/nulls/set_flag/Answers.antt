use Rattle.std.proofs.Common.{Vec, Global, ◌++◌, ◌+◌, ◌-◌, ◌≡◌, ◌∙◌, ◌/◌, ◌%◌, ◌<◌, ℕ, true, nat_eq, if◌then◌else◌, length, ap, arith, w64}
use Rattle.std.specs.Prelude.{replicate}
use Rattle.std.specs.Int.{bit_at}
use Rattle.std.proofs.lemmas.List.{get_or_default, take_all}
use Rattle.std.proofs.lemmas.Nat.Bits.{bit_at_set_same, bit_at_set_other}
use Rattle.ssb_packed.specs.Lent.{flag_at}
use Rattle.ssb_packed.proofs.FlagFacts.{more-words, one-changed}
use Rattle.ssb_packed.proofs.nulls.set_flag.Goals as goal
use Rattle.ssb_packed.proofs.nulls.set_flag.Goals.{then-word-len+in_ok-resize, else-word-len}

pub returns-clause-ok : goal.returns-clause-ok
returns-clause-ok c i =
    let p = c.args.place in
    let words = c.if-word-len.words in
    let k : p % 64 < 64 = omega arith in
    let v = c.index_mut.result.now in
    let same : flag_at words.items i ≡ flag_at c.args.words.now.items i = elim c.if-word-len.branch [
      | then-word-len+in_ok-resize w ↦
          let e = c.args.words.now.ok.0 in
          let len = c.len.ensures in
          let past = w.if-word-len.true in
          let all = take_all (p / 64 + 1) c.args.words.now.items (omega (arith, e, len, past)) in
          ap (λ (v : Vec ℕ Global). flag_at v.items i) w.words-is ∙ ap (λ xs. flag_at xs i) (w.in_ok-resize.ensures.items ∙ ap (λ xs. xs ++ replicate (p / 64 + 1 - c.args.words.now.len) 0) all) ∙ more-words c.args.words.now.items (p / 64 + 1 - c.args.words.now.len) i
      | else-word-len w ↦ ap (λ (v : Vec ℕ Global). flag_at v.items i) w.words-is
    ] in
    let within : p / 64 < length words.items = elim c.if-word-len.branch [
      | then-word-len+in_ok-resize w ↦
          let e = words.ok.0 in
          let long = ap (λ (v : Vec ℕ Global). v.len) w.words-is ∙ w.in_ok-resize.ensures.len in
          omega (arith, e, long)
      | else-word-len w ↦
          let e = words.ok.0 in
          let long = ap (λ (v : Vec ℕ Global). v.len) w.words-is in
          let len = c.len.ensures in
          let lt = w.if-word-len.false in
          omega (arith, e, long, len, lt)
    ] in
    one-changed words.items p _ true within (ap (λ x. nat_eq x 1) (bit_at_set_same w64 v (p % 64) k))
    (λ j low apart. bit_at_set_other w64 v (p % 64) k j apart ∙ ap (λ w. bit_at w j) (c.index_mut.ensures.value ∙ get_or_default words.items (p / 64) v 0 within)) i
    ∙ ap (λ b. if nat_eq i p then true else b) same
