use Rattle.std.proofs.Common.{◌≤◌, ◌+◌, arith}
use Rattle.ssb_packed.proofs.FlagFacts.{length-flags, skip-flags}
use Rattle.ssb_packed.proofs.nulls.Nulls.skip.Goals as goal

pub overflow_add-self : goal.overflow_add-self
overflow_add-self c =
    let room : c.self.inside.len + c.args.count ≤ 4294967295 = rw (length-flags c.self.inside.words.items c.self.inside.len) at (rw (← c.self.view_is) at c.requires) in
    omega (arith, room)

pub returns : goal.returns
returns c = rw (← c.self.view_is) (skip-flags c.self.inside.words.items c.self.inside.len c.args.count c.self.invariant)
