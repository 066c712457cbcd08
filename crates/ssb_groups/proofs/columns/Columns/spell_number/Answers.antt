use Rattle.std.proofs.Common.{◌≡◌, ◌∙◌, ◌+◌, ◌++◌, ◌<◌, ◌%◌, ◌/◌, [], ◌∷◌, List, ℕ, Some, drop, get_or, length, map, slice_get, pos, refl, sym, ap, subst, arith, append_assoc}
use Rattle.std.specs.List.{list_all}
use Rattle.std.proofs.lemmas.List.{map-append}
use Rattle.std.proofs.lemmas.Option.{slice_get_within}
use Rattle.ssb_cells.specs.Cell.{Cell}
use Rattle.ssb_cells.specs.Values.{cell_of}
use Rattle.ssb_keys.specs.Domains.{cell, cells, radix}
use Rattle.ssb_keys.specs.declared.domain.Domain.{Domain}
use Rattle.ssb_keys.specs.declared.domain.Domain.TheVariants as domain
use Rattle.ssb_plan.specs.Inputs.{has_column, values_of}
use Rattle.ssb_plan.specs.JobShape.{JobShape}
use Rattle.ssb_groups.specs.Keys.{AreKept, key_columns, spelt, spelt_cell}
use Rattle.ssb_groups.proofs.ColumnFacts.{is-at, nowhere}
use Rattle.ssb_groups.proofs.ValueDomains.{as-many-columns, lawful-at, takes-off}
use Rattle.ssb_groups.proofs.columns.Columns.spell_number.Goals as goal

-- a domain for each column
below : (columns : List (List Cell)) (ds : List Domain) (n i : ℕ) (v : List Cell) → AreKept columns (cells ds n) → slice_get columns i ≡ Some v → i < length ds
below columns ds n i v is here = let many = as-many-columns columns ds n is in omega (arith, many, slice_get_within columns i v here)

pub cell-cell-requires-clause-lawful : goal.cell-cell-requires-clause-lawful
cell-cell-requires-clause-lawful c =
    let j : JobShape = c.self.inside.job.value in
    let kept = cells c.args.domains.now c.args.number in
    let all : AreKept (key_columns j) kept = subst (λ x. AreKept (key_columns x) kept) (sym c.self.view_is) c.requires.kept in
    let h = is-at j c.as_slice-tables.result.now c.as_slice-keys.result.now kept kept c.loop-at.at (c.as_slice-tables.ensures.value ∙ ap (λ v. v.items) c.deref.ensures ∙ c.self.invariant.tables)
    (c.as_slice-keys.ensures.value ∙ c.self.invariant.keys) (ap (list_all (has_column j.query j.tables)) c.as_slice-keys.ensures.value ∙ c.self.invariant.there) refl all (omega arith) in
    lawful-at c.args.domains.now c.loop-at.at (domain.Numbers (pos 0) 0) c.requires.lawful (below (key_columns j) c.args.domains.now c.args.number c.loop-at.at _ all h.column)

pub spelt_value-requires-clause-column : goal.spelt_value-requires-clause-column
spelt_value-requires-clause-column c =
    let j : JobShape = c.self.inside.job.value in
    let kept = cells c.args.domains.now c.args.number in
    let all : AreKept (key_columns j) kept = subst (λ x. AreKept (key_columns x) kept) (sym c.self.view_is) c.requires.kept in
    (is-at j c.as_slice-tables.result.now c.as_slice-keys.result.now kept kept c.loop-at.at (c.as_slice-tables.ensures.value ∙ ap (λ v. v.items) c.deref.ensures ∙ c.self.invariant.tables)
    (c.as_slice-keys.ensures.value ∙ c.self.invariant.keys) (ap (list_all (has_column j.query j.tables)) c.as_slice-keys.ensures.value ∙ c.self.invariant.there) refl all (omega arith)).there

pub loop-at-preserved : goal.loop-at-preserved
loop-at-preserved c =
    let j : JobShape = c.self.inside.job.value in
    let ds = c.args.domains.now in
    let i = c.loop-at.at in
    let left = c.loop-at.left in
    let kept = cells ds c.args.number in
    let all : AreKept (key_columns j) kept = subst (λ x. AreKept (key_columns x) kept) (sym c.self.view_is) c.requires.kept in
    let h = is-at j c.as_slice-tables.result.now c.as_slice-keys.result.now kept kept i (c.as_slice-tables.ensures.value ∙ ap (λ v. v.items) c.deref.ensures ∙ c.self.invariant.tables)
    (c.as_slice-keys.ensures.value ∙ c.self.invariant.keys) (ap (list_all (has_column j.query j.tables)) c.as_slice-keys.ensures.value ∙ c.self.invariant.there) refl all (omega arith) in
    let columns = key_columns c.args.self.now in
    let v = values_of c.as_slice-tables.result.now (get_or c.as_slice-keys.result.now i nowhere) in
    let here : slice_get columns i ≡ Some v = ap (λ x. slice_get (key_columns x) i) (sym c.self.view_is) ∙ h.column in
    let d = get_or ds i (domain.Numbers (pos 0) 0) in
    let off = takes-off columns ds i (i + 1) left v (domain.Numbers (pos 0) 0) refl here (below columns ds c.args.number i v c.requires.kept here) c.loop-at.invariant.1 in
    let made = map cell_of c.loop-at.values.items in
    let digit : c.cell-cell.result ≡ cell d (left % radix d) = c.cell-cell.ensures ∙ ap (λ n. cell d (left % n)) c.radix.ensures in
    let rest : ℕ → List Cell = λ n. spelt (drop (i + 1) columns) (cells (drop (i + 1) ds) (left / n)) in
    let one : cell_of c.spelt_value.result ≡ spelt_cell v (cell d (left % radix d)) = c.spelt_value.ensures ∙ ap (spelt_cell v) digit in
    rw (c.in_ok-push.ensures.items, c.radix-left.ensures) (
      ap (λ ms. ms ++ rest (radix d)) (map-append cell_of c.loop-at.values.items (c.spelt_value.result ∷ [])) ∙ append_assoc made (cell_of c.spelt_value.result ∷ []) (rest (radix d)) ∙ ap (λ x. made ++ x ∷ rest (radix d)) one
          ∙ ap (λ vs. made ++ vs) (sym off.spelt) ∙ c.loop-at.invariant.0,
      off.rest,
    )
