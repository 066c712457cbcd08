use Rattle.std.proofs.Common.{◌+◌, ap, refl, subst, sym}
use Rattle.ssb_groups.specs.Stands.{GroupMap, Stands}
use Rattle.ssb_groups.specs.contracts.store.Store.{the_view}
use Rattle.ssb_groups.proofs.StandsFacts.{Stands-overs}
use Rattle.ssb_groups.proofs.store.Store.add_over.Goals as goal

pub returns-clause-stands : goal.returns-clause-stands
returns-clause-stands c = λ A B many ranged is before.
    let g : GroupMap = the_view c.self.inside in
    let p : Stands g A = subst (λ x. Stands x A) (sym c.self.view_is) before in
    Stands-overs g _ A B c.args.fact p ranged is refl (ap (λ n. c.self.inside.counted + n) (sym many)) c.lesser-self-inside.ensures refl
