use Rattle.std.proofs.Common.{◌<◌}
use Rattle.ssb_packed.proofs.FlagFacts.{flag-in, length-flags}
use Rattle.ssb_packed.proofs.nulls.Nulls.get.Goals as goal

pub returns : goal.returns
returns c =
    let lt : c.args.place < c.self.inside.len = rw (length-flags c.self.inside.words.items c.self.inside.len) at (rw (← c.self.view_is) at c.requires) in
    rw (← c.self.view_is, c.flag_at.ensures, c.as_slice.ensures.value) (flag-in c.self.inside.words.items c.self.inside.len c.args.place lt)
