use Rattle.std.proofs.Common.{◌≡◌, ◌∙◌, OnOk, ◌∷◌, ◌++◌, ◌+◌, [], map, take, ap, subst, sym}
use Rattle.std.specs.List.{All}
use Rattle.std.proofs.lemmas.Option.{get_or_from_slice_get, slice_get_within}
use Rattle.ssb_conditions.specs.Rows.{IsCombination}
use Rattle.ssb_plan.specs.JobShape.{from_tables}
use Rattle.ssb_groups.specs.GroupKeys.{keys_in}
use Rattle.ssb_groups.specs.GroupKeys as form
use Rattle.ssb_groups.specs.Gathering.{key_at}
use Rattle.ssb_groups.specs.Keys.{AreKept, IsKey, cells_in, key_columns, key_of, spelt}
use Rattle.ssb_groups.specs.Places.{OpenAll, Opens, number_cells}
use Rattle.ssb_groups.proofs.ColumnFacts.{key-kept, key-spelt}
use Rattle.ssb_groups.proofs.NumberedKeys.{numbers-are-keys, numbers-of-keys}
use Rattle.ssb_groups.proofs.PlacedRows.{open-next}
use Rattle.ssb_groups.proofs.table.open_block.Goals as goal
use Rattle.ssb_groups.proofs.table.open_block.Goals.{In_ok-place}

pub open_numbers-requires-clause-numbers : goal.open_numbers-requires-clause-numbers
open_numbers-requires-clause-numbers c =
    let j = c.args.columns.now in
    subst (All (λ n. IsKey j (form.Number n))) (sym c.deref.ensures.value) (numbers-are-keys j c.number_keys.new.numbers.items c.args.block.now c.in-Some.ensures.some.few c.in_ok-number_keys.ensures)

pub returns-in-Some-clause-opened : goal.returns-in-Some-clause-opened
returns-in-Some-clause-opened c =
    let j = c.args.columns.now in
    let same = ap (map (number_cells j)) c.deref.ensures.value ∙ numbers-of-keys j c.number_keys.new.numbers.items c.args.block.now c.in-Some.ensures.some.few c.in_ok-number_keys.ensures in
    subst (λ vs. OnOk c.open_numbers.result (OpenAll j (keys_in c.args.keys.now) (keys_in c.open_numbers.new.keys) vs c.open_numbers.new.places.items)) same c.open_numbers.ensures.opened

pub fill-requires : goal.fill-requires
fill-requires c =
    let block = c.args.block.now in
    subst (IsCombination (from_tables c.args.columns.now)) (get_or_from_slice_get block c.loop-at.at c.row.result [] c.row.ensures) (c.requires.rows c.loop-at.at [] (slice_get_within block c.loop-at.at c.row.result c.row.ensures))

-- the key of the combination is one of the job's, and has its place
opened : (c : In_ok-place) → IsKey c.args.columns.now (form.Cells c.deref-in-loop-at.result.now) × OpenAll c.args.columns.now (keys_in c.args.keys.now) (keys_in c.open_cells.new.self) (map (key_at c.args.columns.now) (take (c.loop-at.at + 1) c.args.block.now)) (c.loop-at.room.places.items ++ c.in_ok-place.place ∷ [])
opened c =
    let j = c.args.columns.now in
    let l = c.loop-at in
    let row = c.row.result in
    let p = c.in_ok-place.place in
    let cells = c.deref-in-loop-at.result.now in
    let same : cells ≡ key_of j row = c.deref-in-loop-at.ensures.value ∙ c.in_ok-fill.ensures in
    let is : IsKey j (form.Cells cells) = record { form = c.in_default.ensures.none; kept = subst (AreKept (key_columns j)) (sym same) (key-kept j row) } in
    let values : cells_in j (form.Cells cells) ≡ key_at j row = ap (spelt (key_columns j)) same ∙ key-spelt j row in
    let opens = subst (λ v. Opens j (keys_in l.keys) (keys_in c.open_cells.new.self) v p) values (c.in_ok-place.ensures.opened j l.invariant.keys is) in
    (is, open-next j (key_at j) (keys_in c.args.keys.now) (keys_in l.keys) (keys_in c.open_cells.new.self) c.args.block.now l.room.places.items l.at p row c.row.ensures l.invariant.opened opens)

pub returns-in_err-push-clause-keys : goal.returns-in_err-push-clause-keys
returns-in_err-push-clause-keys c = c.in_ok-place.ensures.keys c.args.columns.now c.loop-at.invariant.keys (opened (goal.at.returns-in_err-push-clause-keys c).In_ok-place).0

pub returns-in_err-push-clause-front : goal.returns-in_err-push-clause-front
returns-in_err-push-clause-front c = (opened (goal.at.returns-in_err-push-clause-front c).In_ok-place).1.front

pub loop-at-preserved : goal.loop-at-preserved
loop-at-preserved c =
    let j = c.args.columns.now in
    let all = opened (goal.at.loop-at-preserved c).In_ok-place in
    record {
      unique = c.in_ok-place.ensures.unique;
      keys = c.in_ok-place.ensures.keys j c.loop-at.invariant.keys all.0;
      opened = subst (OpenAll j (keys_in c.args.keys.now) (keys_in c.open_cells.new.self) (map (key_at j) (take (c.loop-at.at + 1) c.args.block.now))) (sym c.in_ok-push.ensures.items) all.1;
    }
