use Rattle.std.proofs.Common.{◌≡◌, ◌∙◌, ◌<◌, ◌+◌, ◌++◌, [], ◌∷◌, List, ℕ, Some, drop, get_or, length, map, slice_get, refl, sym, ap, subst, arith, append_assoc, append-nil}
use Rattle.std.specs.Prelude.{option_map}
use Rattle.std.proofs.lemmas.List.{get_or-map, length-map, map-append}
use Rattle.std.proofs.lemmas.Option.{get_or_from_slice_get, slice_get-map}
use Rattle.ssb_cells.specs.Tables.{Columns}
use Rattle.ssb_plan.specs.JobShape.{JobShape}
use Rattle.ssb_groups.specs.Joining.{AreJoinings, IsJoining, joining_of, joinings_of, values_by}
use Rattle.ssb_groups.specs.Keys.{AreKept, IsKept, kept_total, spelt}
use Rattle.ssb_groups.specs.Tallies.{AreTotals, items, lists, total_columns, totals_at}
use Rattle.ssb_groups.specs.Totals.{total_cell}
use Rattle.ssb_groups.specs.declared.joining.Joining.{Joining}
use Rattle.ssb_groups.specs.declared.joining.Joining.TheVariants as joining
use Rattle.ssb_keys.specs.declared.kept.Kept.TheVariants as kept
use Rattle.ssb_groups.specs.declared.kept.KeptTotal.{KeptTotal}
use Rattle.ssb_groups.specs.declared.kept.KeptTotal.TheVariants as total
use Rattle.ssb_groups.proofs.ColumnFacts.{spelt-at}
use Rattle.ssb_groups.proofs.JoiningFacts.{column-here, joining-at, kept-get, none-left}
use Rattle.ssb_groups.proofs.TallyFacts.{found, mapped-here}
use Rattle.ssb_groups.proofs.columns.Columns.spell_totals.Goals as goal

-- at this number stand a joining, its column, and a total
record IsAt (j : JobShape) (tables : List Columns) (ws : List Joining) (ts : List (List KeptTotal)) (place i : ℕ) : Type 0 where
  there : IsJoining tables (get_or ws i joining.Adds)
  kept : IsKept (values_by tables (get_or ws i joining.Adds)) (kept_total (get_or (get_or ts i []) place total.Null))
  column : slice_get (total_columns j) i ≡ Some (values_by tables (get_or ws i joining.Adds))
  cell : slice_get (totals_at ts place) i ≡ Some (kept_total (get_or (get_or ts i []) place total.Null))

is-at : (j : JobShape) (tables : List Columns) (ws : List Joining) (ts : List (List KeptTotal)) (place i : ℕ)
    → tables ≡ j.tables → ws ≡ joinings_of j → AreJoinings j.tables ws → length ts ≡ length j.query.aggregates → AreTotals j (totals_at ts place) → i < length ws → IsAt j tables ws ts place i
is-at j tables ws ts place i t w known many is lt = record {
  there = joining-at tables ws i joining.Adds (subst (λ x. AreJoinings x ws) (sym t) known) lt;
  kept = subst (IsKept (values_by tables (get_or ws i joining.Adds))) (mapped-here (λ x. kept_total (get_or x place total.Null)) ts i one.0 kept.Null one.1 ∙ ap (λ x. kept_total (get_or x place total.Null)) (sym (get_or_from_slice_get ts i one.0 [] one.1))) (kept-get (values_by tables) ws (totals_at ts place) i joining.Adds kept.Null same lt);
  column = ap (λ x. slice_get (map (values_by x) (joinings_of j)) i) (sym t) ∙ ap (λ x. slice_get (map (values_by tables) x) i) (sym w) ∙ column-here (values_by tables) ws i lt;
  cell = slice_get-map (λ x. kept_total (get_or x place total.Null)) ts i ∙ ap (option_map (λ x. kept_total (get_or x place total.Null))) (one.1 ∙ ap Some (sym (get_or_from_slice_get ts i one.0 [] one.1)));
}
  where
    same : AreKept (map (values_by tables) ws) (totals_at ts place)
    same = subst (λ x. AreKept (map (values_by tables) x) (totals_at ts place)) (sym w) (subst (λ x. AreKept (map (values_by x) (joinings_of j)) (totals_at ts place)) (sym t) is)

    one : (x : List KeptTotal) × (slice_get ts i ≡ Some x)
    one = let long = ap length w in found ts i (omega (arith, lt, long, many, length-map j.query.aggregates (joining_of j)))

pub spelt_total-requires-clause-joining : goal.spelt_total-requires-clause-joining
spelt_total-requires-clause-joining c =
    (is-at c.args.self.now c.as_slice-tables.result.now c.as_slice-joinings.result.now (lists c.args.tallies.now) c.args.place c.loop-at.at
    (c.as_slice-tables.ensures.value ∙ ap (λ v. v.items) c.deref.ensures ∙ c.self.invariant.tables ∙ ap (λ (x : JobShape). x.tables) c.self.view_is)
    (c.as_slice-joinings.ensures.value ∙ c.self.invariant.joinings ∙ ap joinings_of c.self.view_is)
    (subst (λ (x : JobShape). AreJoinings x.tables c.as_slice-joinings.result.now) c.self.view_is (subst (AreJoinings c.self.inside.job.value.tables) (sym c.as_slice-joinings.ensures.value) c.self.invariant.known))
    (length-map c.args.tallies.now items ∙ c.requires.many) c.requires.kept c.loop-at-test.true).there

pub spelt_total-requires-clause-kept : goal.spelt_total-requires-clause-kept
spelt_total-requires-clause-kept c =
    let h = is-at c.args.self.now c.as_slice-tables.result.now c.as_slice-joinings.result.now (lists c.args.tallies.now) c.args.place c.loop-at.at
    (c.as_slice-tables.ensures.value ∙ ap (λ v. v.items) c.deref.ensures ∙ c.self.invariant.tables ∙ ap (λ (x : JobShape). x.tables) c.self.view_is)
    (c.as_slice-joinings.ensures.value ∙ c.self.invariant.joinings ∙ ap joinings_of c.self.view_is)
    (subst (λ (x : JobShape). AreJoinings x.tables c.as_slice-joinings.result.now) c.self.view_is (subst (AreJoinings c.self.inside.job.value.tables) (sym c.as_slice-joinings.ensures.value) c.self.invariant.known))
    (length-map c.args.tallies.now items ∙ c.requires.many) c.requires.kept c.loop-at-test.true in
    let ws = ap length (c.as_slice-joinings.ensures.value ∙ c.self.invariant.joinings ∙ ap joinings_of c.self.view_is) ∙ length-map c.args.self.now.query.aggregates (joining_of c.args.self.now) in
    let many = c.requires.many in
    let total : c.total_in-total.result ≡ get_or (get_or (lists c.args.tallies.now) c.loop-at.at []) c.args.place total.Null =
    c.total_in-total.ensures ∙ ap (λ t. get_or t c.args.place total.Null) (c.deref-in-loop-at.ensures.value ∙ ap items c.index-tallies-at.is ∙ sym (get_or-map items c.args.tallies.now c.loop-at.at c.index-tallies-at.result [] (omega (arith, ws, many, c.loop-at-test.true)))) in
    subst (λ t. IsKept (values_by c.as_slice-tables.result.now (get_or c.as_slice-joinings.result.now c.loop-at.at joining.Adds)) (kept_total t)) (sym total) h.kept

pub loop-at-preserved : goal.loop-at-preserved
loop-at-preserved c =
    let h = is-at c.args.self.now c.as_slice-tables.result.now c.as_slice-joinings.result.now (lists c.args.tallies.now) c.args.place c.loop-at.at
    (c.as_slice-tables.ensures.value ∙ ap (λ v. v.items) c.deref.ensures ∙ c.self.invariant.tables ∙ ap (λ (x : JobShape). x.tables) c.self.view_is)
    (c.as_slice-joinings.ensures.value ∙ c.self.invariant.joinings ∙ ap joinings_of c.self.view_is)
    (subst (λ (x : JobShape). AreJoinings x.tables c.as_slice-joinings.result.now) c.self.view_is (subst (AreJoinings c.self.inside.job.value.tables) (sym c.as_slice-joinings.ensures.value) c.self.invariant.known))
    (length-map c.args.tallies.now items ∙ c.requires.many) c.requires.kept c.loop-at-test.true in
    let ws = ap length (c.as_slice-joinings.ensures.value ∙ c.self.invariant.joinings ∙ ap joinings_of c.self.view_is) ∙ length-map c.args.self.now.query.aggregates (joining_of c.args.self.now) in
    let many = c.requires.many in
    let total : c.total_in-total.result ≡ get_or (get_or (lists c.args.tallies.now) c.loop-at.at []) c.args.place total.Null =
    c.total_in-total.ensures ∙ ap (λ t. get_or t c.args.place total.Null) (c.deref-in-loop-at.ensures.value ∙ ap items c.index-tallies-at.is ∙ sym (get_or-map items c.args.tallies.now c.loop-at.at c.index-tallies-at.result [] (omega (arith, ws, many, c.loop-at-test.true)))) in
    let i = c.loop-at.at in
    let columns = total_columns c.args.self.now in
    let cells = totals_at (lists c.args.tallies.now) c.args.place in
    let cell = h.cell ∙ ap (λ t. Some (kept_total t)) (sym total) in
    let made = map total_cell c.loop-at.values.items in
    let rest = spelt (drop (i + 1) columns) (drop (i + 1) cells) in
    ap (λ vs. map total_cell vs ++ rest) c.in_ok-push.ensures.items ∙ ap (λ ms. ms ++ rest) (map-append total_cell c.loop-at.values.items (c.spelt_total.result ∷ []))
    ∙ append_assoc made (total_cell c.spelt_total.result ∷ []) rest ∙ ap (λ v. made ++ v ∷ rest) c.spelt_total.ensures ∙ ap (λ vs. made ++ vs) (sym (spelt-at columns cells i (i + 1) _ _ refl h.column cell)) ∙ c.loop-at.invariant

pub returns : goal.returns
returns c =
    let j : JobShape = c.args.self.now in
    let columns = total_columns j in
    let ws : c.as_slice-joinings.result.now ≡ joinings_of j = c.as_slice-joinings.ensures.value ∙ c.self.invariant.joinings ∙ ap joinings_of c.self.view_is in
    let past = c.loop-at-test.false in
    let n = ap length ws in
    let m = length-map (joinings_of j) (values_by j.tables) in
    let made = map total_cell c.loop-at.values.items in
    sym (append-nil made) ∙ ap (λ cs. made ++ cs) (sym (none-left columns (totals_at (lists c.args.tallies.now) c.args.place) c.loop-at.at (omega (arith, n, m, past)))) ∙ c.loop-at.invariant
