use Rattle.std.proofs.Common.{◌∙◌, ◌+◌, ◌++◌, [], ◌∷◌, drop, map, slice_get, refl, sym, ap, subst, arith, append_assoc}
use Rattle.std.specs.List.{list_all}
use Rattle.std.proofs.lemmas.List.{map-append}
use Rattle.ssb_cells.specs.Values.{cell_of}
use Rattle.ssb_plan.specs.Inputs.{has_column}
use Rattle.ssb_plan.specs.JobShape.{JobShape}
use Rattle.ssb_groups.specs.Keys.{AreKept, key_columns, spelt}
use Rattle.ssb_groups.proofs.ColumnFacts.{is-at, kept-at, spelt-at}
use Rattle.ssb_groups.proofs.columns.Columns.spell_cells.Goals as goal

pub bounds-cells-at : goal.bounds-cells-at
bounds-cells-at c =
    (is-at c.self.inside.job.value c.as_slice-tables.result.now c.as_slice-keys.result.now c.args.cells.now c.args.cells.now c.loop-at.at (c.as_slice-tables.ensures.value ∙ ap (λ v. v.items) c.deref.ensures ∙ c.self.invariant.tables)
    (c.as_slice-keys.ensures.value ∙ c.self.invariant.keys) (ap (list_all (has_column c.self.inside.job.value.query c.self.inside.job.value.tables)) c.as_slice-keys.ensures.value ∙ c.self.invariant.there) refl (subst (λ x. AreKept (key_columns x) c.args.cells.now) (sym c.self.view_is) c.requires) (omega arith)).below

pub spelt_value-requires-clause-column : goal.spelt_value-requires-clause-column
spelt_value-requires-clause-column c =
    (is-at c.self.inside.job.value c.as_slice-tables.result.now c.as_slice-keys.result.now c.args.cells.now c.args.cells.now c.loop-at.at (c.as_slice-tables.ensures.value ∙ ap (λ v. v.items) c.deref.ensures ∙ c.self.invariant.tables)
    (c.as_slice-keys.ensures.value ∙ c.self.invariant.keys) (ap (list_all (has_column c.self.inside.job.value.query c.self.inside.job.value.tables)) c.as_slice-keys.ensures.value ∙ c.self.invariant.there) refl (subst (λ x. AreKept (key_columns x) c.args.cells.now) (sym c.self.view_is) c.requires) (omega arith)).there

pub spelt_value-requires-clause-kept : goal.spelt_value-requires-clause-kept
spelt_value-requires-clause-kept c =
    let j : JobShape = c.self.inside.job.value in
    let key = c.args.cells.now in
    let is : AreKept (key_columns j) key = subst (λ x. AreKept (key_columns x) key) (sym c.self.view_is) c.requires in
    let h = is-at c.self.inside.job.value c.as_slice-tables.result.now c.as_slice-keys.result.now c.args.cells.now c.args.cells.now c.loop-at.at (c.as_slice-tables.ensures.value ∙ ap (λ v. v.items) c.deref.ensures ∙ c.self.invariant.tables)
    (c.as_slice-keys.ensures.value ∙ c.self.invariant.keys) (ap (list_all (has_column c.self.inside.job.value.query c.self.inside.job.value.tables)) c.as_slice-keys.ensures.value ∙ c.self.invariant.there) refl (subst (λ x. AreKept (key_columns x) c.args.cells.now) (sym c.self.view_is) c.requires) (omega arith) in
    kept-at (key_columns j) key c.loop-at.at _ _ is h.column h.cell

pub loop-at-preserved : goal.loop-at-preserved
loop-at-preserved c =
    let h = is-at c.self.inside.job.value c.as_slice-tables.result.now c.as_slice-keys.result.now c.args.cells.now c.args.cells.now c.loop-at.at (c.as_slice-tables.ensures.value ∙ ap (λ v. v.items) c.deref.ensures ∙ c.self.invariant.tables)
    (c.as_slice-keys.ensures.value ∙ c.self.invariant.keys) (ap (list_all (has_column c.self.inside.job.value.query c.self.inside.job.value.tables)) c.as_slice-keys.ensures.value ∙ c.self.invariant.there) refl (subst (λ x. AreKept (key_columns x) c.args.cells.now) (sym c.self.view_is) c.requires) (omega arith) in
    let i = c.loop-at.at in
    let columns = key_columns c.args.self.now in
    let key = c.args.cells.now in
    let here = ap (λ x. slice_get (key_columns x) i) (sym c.self.view_is) ∙ h.column in
    let made = map cell_of c.loop-at.values.items in
    let rest = spelt (drop (i + 1) columns) (drop (i + 1) key) in
    ap (λ vs. map cell_of vs ++ rest) c.in_ok-push.ensures.items ∙ ap (λ ms. ms ++ rest) (map-append cell_of c.loop-at.values.items (c.spelt_value.result ∷ []))
    ∙ append_assoc made (cell_of c.spelt_value.result ∷ []) rest ∙ ap (λ v. made ++ v ∷ rest) c.spelt_value.ensures ∙ ap (λ vs. made ++ vs) (sym (spelt-at columns key i (i + 1) _ _ refl here h.cell)) ∙ c.loop-at.invariant
