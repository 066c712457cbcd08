use Rattle.std.proofs.Common.{◌≡◌, ◌∙◌, ◌+◌, ◌++◌, ◌<◌, ◌^◌, None, ap, map, refl, subst, sym, arith}
use Rattle.ssb_plan.specs.JobShape.{JobShape}
use Rattle.ssb_groups.specs.GroupKeys.{keys_in}
use Rattle.ssb_groups.specs.Keys.{cells_in}
use Rattle.ssb_groups.specs.Places.{IsTable, JoinsRows}
use Rattle.ssb_groups.specs.Stands.{GroupMap, Stands, least_of, overflows}
use Rattle.ssb_groups.specs.Tallies.{entries_of, lists}
use Rattle.ssb_groups.specs.contracts.store.Store.{the_view}
use Rattle.ssb_groups.specs.declared.store.Store.TheInside.{Inside}
use Rattle.ssb_groups.proofs.GroupKeysFacts.{keys-distinct}
use Rattle.ssb_groups.proofs.PlaceFacts.{where-err}
use Rattle.ssb_groups.proofs.StandsFacts.{Stands-join, least-nothing, none_from, none_left, none_right, not_none_from}
use Rattle.ssb_groups.proofs.StoreFacts.{entries-grown, groups_of, stands-groups}
use Rattle.ssb_groups.proofs.TallyFacts.{stood}
use Rattle.ssb_groups.proofs.store.Store.merge.Goals as goal
use Rattle.ssb_groups.proofs.store.Store.merge.Goals.{then-is_none+in_ok-add_groups, else-is_none}

pub returns-in_err-add_groups-clause-err : goal.returns-in_err-add_groups-clause-err
returns-in_err-add_groups-clause-err c =
    let i : Inside = c.self.inside in
    let e = c.in_err-add_groups.ensures in
    let new = c.add_groups.new.self in
    let same : entries_of i.job.value (keys_in new.keys) (lists new.tallies.items) ≡ entries_of i.job.value (keys_in i.table.keys) (lists i.table.tallies.items) =
    ap (λ ks. entries_of i.job.value ks (lists new.tallies.items)) e.keys ∙ entries-grown i.job.value (lists i.table.tallies.items) (lists new.tallies.items) e.grown 0 (keys_in i.table.keys) in
    where-err c.from_residual.result _ (ap (λ es. record (the_view i) { entries = es }) same ∙ c.self.view_is)

pub returns-clause-stands : goal.returns-clause-stands
returns-clause-stands c = λ A B before others.
    let g : GroupMap = the_view c.self.inside in
    let h : GroupMap = the_view c.other.inside in
    let over = c.lesser-overflow.result in
    let p : Stands g A = subst (λ x. Stands x A) (sym c.self.view_is) before in
    let q : Stands h B = subst (λ x. Stands x B) (sym c.other.view_is) others in
    let few : g.counted + h.counted < 2 ^ 32 = rw (← c.self.view_is, ← c.other.view_is) at c.requires.few in
    let one : g.job ≡ h.job = rw (← c.self.view_is, ← c.other.view_is) at c.requires.one_job in
    let k : JobShape = c.args.columns.now in
    let mine : g.job ≡ k = ap (λ (x : GroupMap). x.job) c.self.view_is ∙ sym c.requires.columns in
    let theirs : h.job ≡ k = sym one ∙ mine in
    let least : over ≡ least_of g.overflow h.overflow = c.lesser-overflow.ensures in
    let ks = keys_in c.self.inside.table.keys in
    let ts = lists c.self.inside.table.tallies.items in
    let os = keys_in c.other.inside.table.keys in
    let us = lists c.other.inside.table.tallies.items in
    let count = c.self.inside.counted + c.other.inside.counted in
    elim c.if-is_none.branch [
      | then-is_none+in_ok-add_groups w ↦
          let none : over ≡ None = none_from over w.if-is_none.ensures in
          let no : g.overflow ≡ None = none_left g.overflow h.overflow (sym least ∙ none) in
          let nor : h.overflow ≡ None = none_right g.overflow h.overflow (sym least ∙ none) in
          let new = w.add_groups.new.self in
          let joined = w.in_ok-add_groups.ensures in
          let mine-stand : Stands (groups_of k ks ts None c.self.inside.counted) A = subst (λ o. Stands (groups_of k ks ts o c.self.inside.counted) A) no (subst (λ (x : JobShape). Stands (groups_of x ks ts g.overflow c.self.inside.counted) A) mine p) in
          let their-stand : Stands (groups_of k os us None c.other.inside.counted) B = subst (λ o. Stands (groups_of k os us o c.other.inside.counted) B) nor (subst (λ (x : JobShape). Stands (groups_of x os us h.overflow c.other.inside.counted) B) theirs q) in
          let table : IsTable k ks ts = subst (λ (x : JobShape). IsTable x ks ts) mine c.self.invariant.1 in
          let their-table : IsTable k os us = subst (λ (x : JobShape). IsTable x os us) theirs c.other.invariant.1 in
          let counted = q.counted in
          let after : Stands (groups_of k (keys_in new.keys) (lists new.tallies.items) None count) (A ++ B) =
          stands-groups k ks (keys_in new.keys) ts (lists new.tallies.items) c.self.inside.counted count A B mine-stand (keys-distinct c.self.inside.table.keys c.self.invariant.0) table (keys-distinct new.keys joined.unique) joined.table (ap (λ m. c.self.inside.counted + m) counted) (omega (arith, few, counted)) os us c.other.inside.counted their-stand (keys-distinct c.other.inside.table.keys c.other.invariant.0) their-table
          (subst (λ more. JoinsRows k (map (cells_in k) os) more ks (keys_in new.keys) ts (lists new.tallies.items)) (sym (stood c.other.inside.table.tallies.items)) joined.joined)
          (least-nothing (overflows B) (sym q.overflow ∙ nor)) in
          subst (λ (x : Inside). Stands (the_view (record { job = x.job; table = x.table; overflow = over; counted = x.counted + c.other.inside.counted })) (A ++ B)) (sym w.self-inside-is)
          (subst (λ o. Stands (groups_of c.self.inside.job.value (keys_in new.keys) (lists new.tallies.items) o count) (A ++ B)) (sym none)
          (subst (λ (x : JobShape). Stands (groups_of x (keys_in new.keys) (lists new.tallies.items) None count) (A ++ B)) (sym mine) after))
      | else-is_none w ↦
          subst (λ (x : Inside). Stands (the_view (record { job = x.job; table = x.table; overflow = over; counted = x.counted + c.other.inside.counted })) (A ++ B)) (sym w.self-inside-is)
          (Stands-join g h (the_view (record { job = c.self.inside.job; table = c.self.inside.table; overflow = over; counted = count })) A B p q refl (sym one) refl least p.distinct (λ none _. absurd (not_none_from over w.if-is_none.ensures none)))
    ]
