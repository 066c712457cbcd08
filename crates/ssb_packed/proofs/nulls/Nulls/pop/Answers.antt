use Rattle.std.proofs.Common.{◌≡◌, ◌∙◌, ◌<◌, ◌+◌, ◌-◌, false, map, take, ap, arith}
use Rattle.std.specs.List.{range_with_len}
use Rattle.ssb_packed.specs.Lent.{flag_at}
use Rattle.ssb_packed.proofs.FlagFacts.{length-flags, pop-flag}
use Rattle.ssb_packed.proofs.nulls.Nulls.pop.Goals as goal

pub returns : goal.returns
returns c =
    let words = c.self.inside.words.items in
    let len = c.self.inside.len in
    let some : 0 < len = rw (length-flags words len) at (rw (← c.self.view_is) at c.requires) in
    let more : len - 1 + 1 ≡ len = omega (arith, some) in
    rw (← c.self.view_is, length-flags words len) (pop-flag words c.clear_flag.new.words.items (len - 1) false c.clear_flag.ensures ∙ ap (λ k. take (len - 1) (map (flag_at words) (range_with_len 0 k))) more)
