use Rattle.std.proofs.Common.{subst}
use Rattle.ssb_keys.specs.Sets.{Opens}
use Rattle.ssb_keys.proofs.SetFacts.{opens-inserted}
use Rattle.ssb_keys.proofs.hashed.HashedKeys.open_anew.Goals as goal

pub returns-clause-opened : goal.returns-clause-opened
returns-clause-opened c =
    let is = c.in_ok-place.ensures in
    subst (λ old. Opens old c.insert_full.new.self.keys c.args.number c.in_ok-place.place) c.self.view_is (opens-inserted c.self.inside.numbers.keys c.insert_full.new.self.keys c.args.number c.in_ok-place.place is.keys is.index is.stored)
