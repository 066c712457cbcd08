-- Rows of entries, one after another.
use Rattle.std.proofs.Common.{◌≡◌, ◌∙◌, ◌++◌, ◌∷◌, [], ◌||◌, ◌+◌, ◌<◌, ℕ, zero, suc, nat_lt, Bool, true, false, cond, List, length, map, drop, get_or, Some, slice_get, refl, sym, ap, subst, arith, append_assoc}
use Rattle.std.specs.List.{filter, list_any}
use Rattle.std.specs.Prelude.{option_map, unwrap_or}
use Rattle.std.proofs.lemmas.Bool.{ltb-false, ltb-true, or_parts}
use Rattle.std.proofs.lemmas.List.{drop_more, length-map}
use Rattle.std.proofs.lemmas.Option.{slice_get-get_or, slice_get-map, slice_get_past}
use Rattle.ssb_query.specs.declared.query.QueryParts.{QueryParts}
use Rattle.ssb_cells.specs.Cell.{Cell, null}
use Rattle.ssb_groups.specs.Totals.{total_cell}
use Rattle.ssb_groups.specs.declared.totals.Total.{Total}
use Rattle.ssb_rows.specs.Entries.{AddsRow, Entry, entry_beyond, entry_kept, entry_row, entry_rows, IsBeyondFault, IsFaultAt}
use Rattle.ssb_rows.specs.Order.{Row}
use Rattle.ssb_rows.specs.Result.{at_or_null, is_beyond}
use Rattle.ssb_rows.specs.declared.fault.AnswerFault.{AnswerFault}
use Rattle.ssb_rows.specs.declared.fault.AnswerFault.TheVariants as fault

-- none of some values leaves the range
pub not_beyond_at : (cells : List Cell) (i : ℕ) → list_any is_beyond cells ≡ false → is_beyond (at_or_null cells i) ≡ false
not_beyond_at [] i e = refl
not_beyond_at (c ∷ cs) zero e = (or_parts (is_beyond c) (list_any is_beyond cs) e).0
not_beyond_at (c ∷ cs) (suc i) e = not_beyond_at cs i (or_parts (is_beyond c) (list_any is_beyond cs) e).1

-- the value of an aggregate at a place, and behind them all
pub total-here : (ts : List Total) (i : ℕ) (t : Total) → true ≡ nat_lt i (length ts) → t ≡ get_or ts i t → at_or_null (map total_cell ts) i ≡ total_cell t
total-here ts i t below is =
    ap (λ o. unwrap_or o null) (slice_get-map total_cell ts i ∙ ap (option_map total_cell) (slice_get-get_or ts i t (ltb-true i (length ts) (sym below)))) ∙ ap total_cell (sym is)

pub total-past : (ts : List Total) (i : ℕ) → false ≡ nat_lt i (length ts) → null ≡ at_or_null (map total_cell ts) i
total-past ts i past =
    let m = length-map ts total_cell in
    let h = ltb-false i (length ts) (sym past) in
    sym (ap (λ o. unwrap_or o null) (slice_get_past (map total_cell ts) i (omega (arith, m, h))))

-- one of some values leaves the range, or those behind it decide
pub beyond-here : (ts : List Total) (i : ℕ) (d : Total) → i < length ts → list_any is_beyond (map total_cell (drop i ts)) ≡ (is_beyond (total_cell (get_or ts i d)) || list_any is_beyond (map total_cell (drop (i + 1) ts)))
beyond-here ts i d below = ap (λ xs. list_any is_beyond (map total_cell xs)) (drop_more ts i d below)

-- the entry at a place, and those behind it
entry_at : (es : List Entry) (at next : ℕ) → next ≡ at + 1 → at < length es → (e : Entry) × (slice_get es at ≡ Some e) × (drop at es ≡ e ∷ drop next es)
entry_at [] at next is h = absurd (omega arith)
entry_at (e ∷ es) zero zero is h = absurd (omega arith)
entry_at (e ∷ es) zero (suc next) is h = let z : next ≡ 0 = omega arith in (e, refl, rw z refl)
entry_at (e ∷ es) (suc at) zero is h = absurd (omega arith)
entry_at (e ∷ es) (suc at) (suc next) is h = let r = entry_at es at next (omega arith) (omega arith) in (r.0, r.1, r.2)

beyond_here : (e : Entry) (rest whole : Bool) (f : AnswerFault) → (entry_beyond e || rest) ≡ whole → IsBeyondFault (entry_beyond e) f → IsBeyondFault whole f
beyond_here e rest whole (fault.RowOverflow n) is h = h
beyond_here e rest whole fault.SumOutOfRange is h = sym is ∙ ap (λ b. b || rest) h
beyond_here e rest whole fault.Memory is h = h
beyond_here e rest whole fault.Write is h = h

pub stops : (es : List Entry) (at : ℕ) (f : AnswerFault) → at < length es → list_any entry_beyond (drop at es) ≡ list_any entry_beyond es → IsFaultAt (slice_get es at) f → IsBeyondFault (list_any entry_beyond es) f
stops es at f below so_far h =
    let r = entry_at es at (at + 1) refl below in
    beyond_here r.0 (list_any entry_beyond (drop (at + 1) es)) _ f (sym (ap (list_any entry_beyond) r.2) ∙ so_far) (subst (λ o. IsFaultAt o f) r.1 h)

-- the rows of one entry and of those behind it
rows_more : (q : QueryParts) (e : Entry) (es : List Entry) → entry_rows q (e ∷ []) ++ entry_rows q es ≡ entry_rows q (e ∷ es)
rows_more q e es = by (entry_kept q e)
  where
    by : (b : Bool) → map (entry_row q) (cond b (e ∷ []) []) ++ entry_rows q es ≡ map (entry_row q) (cond b (e ∷ filter (entry_kept q) es) (filter (entry_kept q) es))
    by true = refl
    by false = refl

pub goes : (q : QueryParts) (es : List Entry) (at : ℕ) (rows more : List Row) → at < length es → (list_any entry_beyond (drop at es) ≡ list_any entry_beyond es) × (rows ++ entry_rows q (drop at es) ≡ entry_rows q es)
    → AddsRow q (slice_get es at) rows more
    → (list_any entry_beyond (drop (at + 1) es) ≡ list_any entry_beyond es) × (more ++ entry_rows q (drop (at + 1) es) ≡ entry_rows q es)
goes q es at rows more below so_far h =
    let (e, here, split) = entry_at es at (at + 1) refl below in
    let rest = drop (at + 1) es in
    let (fine, same) = subst (λ o. AddsRow q o rows more) here h in (
      sym (ap (λ b. b || list_any entry_beyond rest) fine) ∙ sym (ap (list_any entry_beyond) split) ∙ so_far.0,
      ap (λ rs. rs ++ entry_rows q rest) same ∙ append_assoc rows (entry_rows q (e ∷ [])) (entry_rows q rest) ∙ ap (λ rs. rows ++ rs) (rows_more q e rest) ∙ sym (ap (λ es. rows ++ entry_rows q es) split) ∙ so_far.1,
    )
