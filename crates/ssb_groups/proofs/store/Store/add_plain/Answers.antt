use Rattle.std.proofs.Common.{◌≡◌, ◌∙◌, ◌+◌, ◌++◌, ◌<◌, ◌^◌, None, length, map, ap, subst, sym, arith}
use Rattle.std.proofs.lemmas.List.{length-map}
use Rattle.ssb_plan.specs.JobShape.{JobShape}
use Rattle.ssb_groups.specs.GroupKeys.{keys_in}
use Rattle.ssb_groups.specs.Gathering.{AllTaken}
use Rattle.ssb_groups.specs.Places.{IsTable}
use Rattle.ssb_groups.specs.Seen.{seen}
use Rattle.ssb_groups.specs.Stands.{GroupMap, Stands}
use Rattle.ssb_groups.specs.Tallies.{AreAdded, block_cells, entries_of, lists}
use Rattle.ssb_groups.specs.contracts.store.Store.{the_view}
use Rattle.ssb_groups.specs.declared.store.Store.TheInside.{Inside}
use Rattle.ssb_groups.proofs.GroupKeysFacts.{keys-distinct}
use Rattle.ssb_groups.proofs.PlaceFacts.{where-err}
use Rattle.ssb_groups.proofs.StandsFacts.{Stands-skipped, none_from, not_none_from}
use Rattle.ssb_groups.proofs.StoreFacts.{entries-grown, groups_of, stands-block}
use Rattle.ssb_groups.proofs.TakenFacts.{taken-added}
use Rattle.ssb_groups.proofs.store.Store.add_plain.Goals as goal
use Rattle.ssb_groups.proofs.store.Store.add_plain.Goals.{then-is_none+in_ok-add_block, else-is_none}

pub add_block-requires-clause-more : goal.add_block-requires-clause-more
add_block-requires-clause-more c =
    subst (λ (x : JobShape). AreAdded x (length c.args.block.now) (map block_cells c.args.totals.now)) (sym c.requires.columns)
    (taken-added c.args.self.now.job c.args.block.now (map block_cells c.args.totals.now) (length-map c.args.totals.now block_cells ∙ c.requires.many) c.requires.totals)

pub returns-in_err-add_block-clause-err : goal.returns-in_err-add_block-clause-err
returns-in_err-add_block-clause-err c =
    let i : Inside = c.self.inside in
    let e = c.in_err-add_block.ensures in
    let new = c.add_block.new.self in
    let same : entries_of i.job.value (keys_in new.keys) (lists new.tallies.items) ≡ entries_of i.job.value (keys_in i.table.keys) (lists i.table.tallies.items) =
    ap (λ ks. entries_of i.job.value ks (lists new.tallies.items)) e.keys ∙ entries-grown i.job.value (lists i.table.tallies.items) (lists new.tallies.items) e.grown 0 (keys_in i.table.keys) in
    where-err c.from_residual.result _ (ap (λ es. record (the_view i) { entries = es }) same ∙ c.self.view_is)

pub returns-clause-stands : goal.returns-clause-stands
returns-clause-stands c = λ A before.
    let i : Inside = c.if-is_none.self-inside in
    let g : GroupMap = the_view c.self.inside in
    let n : GroupMap = the_view (record { job = i.job; table = i.table; overflow = i.overflow; counted = i.counted + c.len.result }) in
    let B = map (seen c.args.self.now.job) c.args.block.now in
    let p : Stands g A = subst (λ x. Stands x A) (sym c.self.view_is) before in
    let job : g.job ≡ c.args.self.now.job = ap (λ (x : GroupMap). x.job) c.self.view_is in
    let few : g.counted + length c.args.block.now < 2 ^ 32 = subst (λ (x : GroupMap). x.counted + length c.args.block.now < 2 ^ 32) (sym c.self.view_is) c.requires.few in
    let many = length-map c.args.block.now (seen c.args.self.now.job) in
    let long = c.len.ensures in
    elim c.if-is_none.branch [
      | then-is_none+in_ok-add_block w ↦
          let none : g.overflow ≡ None = none_from g.overflow w.if-is_none.ensures in
          let k : JobShape = c.args.columns.now in
          let mine : c.self.inside.job.value ≡ k = job ∙ sym c.requires.columns in
          let ks = keys_in c.self.inside.table.keys in
          let ts = lists c.self.inside.table.tallies.items in
          let new = w.add_block.new.self in
          let joined = w.in_ok-add_block.ensures in
          let before : Stands (groups_of k ks ts None c.self.inside.counted) A = subst (λ o. Stands (groups_of k ks ts o c.self.inside.counted) A) none (subst (λ (x : JobShape). Stands (groups_of x ks ts g.overflow c.self.inside.counted) A) mine p) in
          let table : IsTable k ks ts = subst (λ (x : JobShape). IsTable x ks ts) mine c.self.invariant.1 in
          let taken : AllTaken k c.args.block.now (map block_cells c.args.totals.now) = subst (λ (x : JobShape). AllTaken x c.args.block.now (map block_cells c.args.totals.now)) (sym c.requires.columns) c.requires.totals in
          let seen-by : B ≡ map (seen k) c.args.block.now = ap (λ (x : JobShape). map (seen x) c.args.block.now) (sym c.requires.columns) in
          let after : Stands (groups_of k (keys_in new.keys) (lists new.tallies.items) None (c.self.inside.counted + c.len.result)) (A ++ B) =
          stands-block k ks (keys_in new.keys) ts (lists new.tallies.items) c.self.inside.counted (c.self.inside.counted + c.len.result) A B before (keys-distinct c.self.inside.table.keys c.self.invariant.0) table (keys-distinct new.keys joined.unique) joined.table (omega (arith, long, many)) (omega (arith, few, many)) c.args.block.now (map block_cells c.args.totals.now) seen-by joined.joined taken c.requires.plain c.requires.ranged in
          subst (λ (x : Inside). Stands (the_view (record { job = x.job; table = x.table; overflow = x.overflow; counted = x.counted + c.len.result })) (A ++ B)) (sym w.self-inside-is)
          (subst (λ o. Stands (groups_of c.self.inside.job.value (keys_in new.keys) (lists new.tallies.items) o (c.self.inside.counted + c.len.result)) (A ++ B)) (sym none)
          (subst (λ (x : JobShape). Stands (groups_of x (keys_in new.keys) (lists new.tallies.items) None (c.self.inside.counted + c.len.result)) (A ++ B)) (sym mine) after))
      | else-is_none w ↦
          Stands-skipped g n A B p c.requires.ranged c.requires.plain (not_none_from g.overflow w.if-is_none.ensures) (ap (λ (x : Inside). x.job.value) w.self-inside-is) (ap (λ (x : Inside). x.counted + c.len.result) w.self-inside-is ∙ ap (λ m. c.self.inside.counted + m) (long ∙ sym many)) (ap (λ (x : Inside). x.overflow) w.self-inside-is)
          (ap (λ (x : Inside). entries_of x.job.value (keys_in x.table.keys) (lists x.table.tallies.items)) w.self-inside-is)
    ]
