use Rattle.std.proofs.Common.{◌≡◌, ◌∙◌, ◌<◌, ◌||◌, ℕ, List, [], Some, true, false, ap, ap₂, arith, get_or, length, nat_eq, refl, slice_get, subst, sym}
use Rattle.std.specs.List.{list_any}
use Rattle.std.proofs.lemmas.Bool.{eqb-true}
use Rattle.std.proofs.lemmas.List.{nil_from_length}
use Rattle.std.proofs.lemmas.List.Folds.{list_any_at, list_any_more, list_any_none}
use Rattle.std.proofs.lemmas.Nat.Bits.{bit_at-zero}
use Rattle.std.proofs.lemmas.Option.{get_or_from_slice_get, slice_get-get_or}
use Rattle.ssb_cells.specs.Cell.{Cell, null, number, text}
use Rattle.ssb_cells.specs.Lent.{AreNulls}
use Rattle.ssb_cells.specs.Values.{cell_of, is_null_value}
use Rattle.ssb_cells.specs.declared.value.Value.{Value}
use Rattle.ssb_cells.specs.declared.value.Value.TheVariants as values
use Rattle.ssb_conditions.specs.Holds.{is_null}
use Rattle.ssb_packed.specs.Lent.{flag_at}
use Rattle.ssb_explain.proofs.group_count.has_null.Goals as goal

-- where there is no word no flag is set
no-flag : (i : ℕ) → flag_at [] i ≡ false
no-flag i = ap (λ x. nat_eq x 1) (bit_at-zero _)

some-value : (x : Cell) → (x ≡ null → ⊥) → is_null x ≡ false
some-value null other = absurd (other refl)
some-value (number n) other = refl
some-value (text t) other = refl

-- nor is a value null
no-null : (values : List Cell) → AreNulls values [] → list_any is_null values ≡ false
no-null values nulls = list_any_none is_null values (λ k d lt.
    some-value (get_or values k d) (λ e.
    let here : slice_get values k ≡ Some null = slice_get-get_or values k d lt ∙ ap Some e in
    let flag : flag_at [] k ≡ true = (nulls k).1 here in
    let none : flag_at [] k ≡ false = no-flag k in
    cc))

by-cell : (v : Value) → is_null_value v ≡ is_null (cell_of v)
by-cell values.Null = refl
by-cell (values.Int n) = refl
by-cell (values.Text t) = refl

pub returns-then-is_empty : goal.returns-then-is_empty
returns-then-is_empty c =
    let words = c.null_words.result.now in
    let empty : words ≡ [] = nil_from_length words (eqb-true (length words) 0 (sym c.is_empty.ensures ∙ c.if-is_empty.true)) in
    sym (no-null c.args.column.now.values (subst (AreNulls c.args.column.now.values) empty c.null_words.ensures))

pub returns-then-is_null : goal.returns-then-is_null
returns-then-is_null c =
    let vs = c.args.column.now.values in
    let i = c.loop-row.row in
    let lt : i < length vs = omega (arith, c.loop-row-test.true, c.len-row-end.ensures) in
    let here : get_or vs i null ≡ cell_of c.get.result = get_or_from_slice_get vs i (cell_of c.get.result) null c.get.ensures in
    sym (list_any_at is_null vs i null lt (ap is_null here ∙ sym (by-cell c.get.result) ∙ sym c.is_null.ensures ∙ c.if-is_null.true))

pub loop-row-preserved : goal.loop-row-preserved
loop-row-preserved c =
    let vs = c.args.column.now.values in
    let i = c.loop-row.row in
    let lt : i < length vs = omega (arith, c.loop-row-test.true, c.len-row-end.ensures) in
    let here : get_or vs i null ≡ cell_of c.get.result = get_or_from_slice_get vs i (cell_of c.get.result) null c.get.ensures in
    list_any_more is_null vs i null lt ∙ ap₂ (λ a b. a || b) c.loop-row.invariant (ap is_null here ∙ sym (by-cell c.get.result) ∙ sym c.is_null.ensures ∙ c.if-is_null.false)
