use Rattle.std.proofs.Common.{refl, ap}
use Rattle.ssb_groups.specs.Tallies.{entries_of, lists}
use Rattle.ssb_groups.proofs.StandsFacts.{Stands-nothing}
use Rattle.ssb_groups.proofs.store.Store.clear.Goals as goal

pub returns-clause-stands : goal.returns-clause-stands
returns-clause-stands c = Stands-nothing _ refl refl (ap (λ ks. entries_of c.self.inside.job.value ks (lists c.clear.new.self.tallies.items)) c.clear.ensures.none)
