-- The values of columns that stand one behind the other.
use Rattle.std.proofs.Common.{◌≡◌, ◌∙◌, ◌++◌, ◌∷◌, [], ◌+◌, ◌≤◌, List, length, sym, ap, arith, length-append, append-nil, append_assoc}
use Rattle.std.proofs.lemmas.List.Concat.{flat_map-append}
use Rattle.ssb_cells.specs.Cell.{Cell}
use Rattle.ssb_cells.specs.Tables.{Filled}
use Rattle.ssb_cells.specs.Parts.{AreOfKind, values_of}
use Rattle.ssb_terms.specs.declared.rule.ColType.{ColType}

pub values-more : (columns : List Filled) (c : Filled) → values_of (columns ++ c ∷ []) ≡ values_of columns ++ c.values
values-more columns c = flat_map-append (λ (f : Filled). f.values) columns (c ∷ []) ∙ ap (λ vs. values_of columns ++ vs) (append-nil c.values)

pub kinds-more : (kind : ColType) (columns : List Filled) (c : Filled) → AreOfKind kind columns → c.kind ≡ kind → AreOfKind kind (columns ++ c ∷ [])
kinds-more kind [] c kinds e = (e, tt)
kinds-more kind (f ∷ columns) c kinds e = (kinds.0, kinds-more kind columns c kinds.1 e)

-- the column so far and the next part have no more values than all
pub next-fits : (front : List Cell) (part : Filled) (rest next : List Filled) (values : List Cell) → front ++ values_of rest ≡ values → rest ≡ part ∷ next → length front + length part.values ≤ length values
next-fits front part rest next values all e =
    let whole = ap (λ r. length (front ++ values_of r)) (sym e) ∙ ap length all in
    let two = length-append front (part.values ++ values_of next) in
    let three = length-append part.values (values_of next) in
    omega (arith, whole, two, three)

-- one part more, and so much less
pub next-rest : (yielded : List Filled) (part : Filled) (rest next : List Filled) (values : List Cell) → values_of yielded ++ values_of rest ≡ values → rest ≡ part ∷ next → values_of (yielded ++ part ∷ []) ++ values_of next ≡ values
next-rest yielded part rest next values all e =
    ap (λ vs. vs ++ values_of next) (values-more yielded part) ∙ append_assoc (values_of yielded) part.values (values_of next)
    ∙ ap (λ r. values_of yielded ++ values_of r) (sym e) ∙ all

-- no part more
pub all-joined : (yielded rest : List Filled) (values : List Cell) → values_of yielded ++ values_of rest ≡ values → length rest ≡ 0 → values_of yielded ≡ values
all-joined yielded [] values all e = sym (append-nil (values_of yielded)) ∙ all
all-joined yielded (c ∷ rest) values all e = absurd (omega (arith, e))
