use Rattle.std.proofs.Common.{◌∙◌, ◌-◌, ◌*◌, ◌/◌, ◌%◌, ◌^◌, ◌<◌, subst}
use Rattle.std.specs.Int.RustNames.{bit_or}
use Rattle.ssb_sets.specs.Marks.{has_bit}
use Rattle.ssb_sets.proofs.MarkFacts.{flags-joined}
use Rattle.ssb_sets.proofs.marks.flags_from.Goals as goal

pub returns : goal.returns
returns c i lt =
    (λ j. has_bit (bit_or (c.word_at-here.ensures j / 2 ^ (c.args.first % 64)) (c.word_at.ensures j * 2 ^ (64 - c.args.first % 64) % 2 ^ 64)) i)
    ∙ flags-joined c.args.flags.now c.args.first i lt (subst (λ w. w < 2 ^ 64) c.word_at-here.ensures c.word_at-here.type_inv)
