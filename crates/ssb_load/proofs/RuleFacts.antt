-- The rules of a table's columns, one after the other.
use Rattle.std.proofs.Common.{◌≡◌, ◌∙◌, ◌+◌, ◌<◌, ◌≤◌, ◌||◌, ℕ, zero, suc, Bool, false, cond, List, [], ◌∷◌, length, drop, get_or, Some, None, refl, ap, arith, add-one}
use Rattle.std.proofs.Math.ListN.{set}
use Rattle.ssb_cells.specs.Tables.{Filled}
use Rattle.ssb_records.specs.Records.{Fields, field}
use Rattle.ssb_terms.specs.Roles.{key_from, is_key}
use Rattle.ssb_load.specs.Rules.{any_from, cell_in}
use Rattle.ssb_load.specs.Loader.{AreSized, with_cell, with_front}
use Rattle.ssb_terms.specs.declared.rule.Rule.{Rule}

-- what is left of the rules at a place
any-suc : (t : Rule → List ℕ → Bool) (at k : ℕ) (ps : List Rule) (d : Rule) (r : Fields) → k < length ps
    → any_from t at (drop k ps) r ≡ (t (get_or ps k d) (field r at) || any_from t (at + 1) (drop (suc k) ps) r)
any-suc t at k [] d r lt = absurd (omega arith)
any-suc t at zero (p ∷ ps) d r lt = refl
any-suc t at (suc k) (p ∷ ps) d r lt = any-suc t at k ps d r (omega arith)

pub any-next : (t : Rule → List ℕ → Bool) (at k : ℕ) (ps : List Rule) (d : Rule) (r : Fields) → k < length ps
    → any_from t at (drop k ps) r ≡ (t (get_or ps k d) (field r at) || any_from t (at + 1) (drop (k + 1) ps) r)
any-next t at k ps d r lt = let h : k + 1 ≡ suc k = add-one k in rw h (any-suc t at k ps d r lt)

pub any-none : (t : Rule → List ℕ → Bool) (at k : ℕ) (ps : List Rule) (r : Fields) → length ps ≤ k → any_from t at (drop k ps) r ≡ false
any-none t at zero [] r le = refl
any-none t at (suc k) [] r le = refl
any-none t at zero (p ∷ ps) r le = absurd (omega arith)
any-none t at (suc k) (p ∷ ps) r le = any-none t at k ps r (omega arith)

key-suc : (at k : ℕ) (ps : List Rule) (d : Rule) → k < length ps
    → key_from at (drop k ps) ≡ cond (is_key (get_or ps k d).role) (Some at) (key_from (at + 1) (drop (suc k) ps))
key-suc at k [] d lt = absurd (omega arith)
key-suc at zero (p ∷ ps) d lt = refl
key-suc at (suc k) (p ∷ ps) d lt = key-suc at k ps d (omega arith)

pub key-next : (at k : ℕ) (ps : List Rule) (d : Rule) → k < length ps
    → key_from at (drop k ps) ≡ cond (is_key (get_or ps k d).role) (Some at) (key_from (at + 1) (drop (k + 1) ps))
key-next at k ps d lt = let h : k + 1 ≡ suc k = add-one k in rw h (key-suc at k ps d lt)

pub key-none : (at k : ℕ) (ps : List Rule) → length ps ≤ k → key_from at (drop k ps) ≡ None
key-none at zero [] le = refl
key-none at (suc k) [] le = refl
key-none at zero (p ∷ ps) le = absurd (omega arith)
key-none at (suc k) (p ∷ ps) le = key-none at k ps (omega arith)

-- columns of which the first k have a value more
pub front-get : (k at : ℕ) (ps : List Rule) (cs : List Filled) (r : Fields) (d : Filled) → length cs ≡ length ps → get_or (with_front k at ps cs r) k d ≡ get_or cs k d
front-get zero at ps cs r d e = refl
front-get (suc k) at [] cs r d e = refl
front-get (suc k) at (p ∷ ps) [] r d e = absurd (omega arith)
front-get (suc k) at (p ∷ ps) (c ∷ cs) r d e = front-get k (at + 1) ps cs r d (omega arith)

pub front-set : (k at : ℕ) (ps : List Rule) (cs : List Filled) (r : Fields) (p : Rule) (d : Filled) → k < length ps → length cs ≡ length ps
    → set (with_front k at ps cs r) k (with_cell (get_or cs k d) (cell_in (get_or ps k p).kind (field r (at + k)))) ≡ with_front (suc k) at ps cs r
front-set k at [] cs r q d lt e = absurd (omega arith)
front-set k at (p ∷ ps) [] r q d lt e = absurd (omega arith)
front-set zero at (p ∷ ps) (c ∷ cs) r q d lt e = let h : at + 0 ≡ at = omega arith in rw h refl
front-set (suc k) at (p ∷ ps) (c ∷ cs) r q d lt e =
    let h : at + suc k ≡ at + 1 + k = omega arith in
    rw h (ap (λ t. with_cell c (cell_in p.kind (field r at)) ∷ t) (front-set k (at + 1) ps cs r q d (omega arith) (omega arith)))

-- sized columns
pub sized-len : (count : ℕ) (ps : List Rule) (cs : List Filled) → AreSized count ps cs → length cs ≡ length ps
sized-len count [] [] s = refl
sized-len count [] (c ∷ cs) s = absurd s
sized-len count (p ∷ ps) [] s = absurd s
sized-len count (p ∷ ps) (c ∷ cs) s = let h = sized-len count ps cs s.2 in omega arith

pub sized-at : (count k : ℕ) (ps : List Rule) (cs : List Filled) (p : Rule) (d : Filled) → AreSized count ps cs → k < length ps
    → ((get_or cs k d).kind ≡ (get_or ps k p).kind) × (length (get_or cs k d).values ≡ count)
sized-at count k [] cs q d s lt = absurd (omega arith)
sized-at count k (p ∷ ps) [] q d s lt = absurd s
sized-at count zero (p ∷ ps) (c ∷ cs) q d s lt = (s.0, s.1)
sized-at count (suc k) (p ∷ ps) (c ∷ cs) q d s lt = sized-at count k ps cs q d s.2 (omega arith)

pub front-len : (k at : ℕ) (ps : List Rule) (cs : List Filled) (r : Fields) → length cs ≡ length ps → length (with_front k at ps cs r) ≡ length cs
front-len zero at ps cs r e = refl
front-len (suc k) at [] cs r e = refl
front-len (suc k) at (p ∷ ps) [] r e = absurd (omega arith)
front-len (suc k) at (p ∷ ps) (c ∷ cs) r e = let h = front-len k (at + 1) ps cs r (omega arith) in omega arith

-- what the columns are once the field at k is in its column
pub front-put : (k : ℕ) (ps : List Rule) (cs : List Filled) (r : Fields) (q : Rule) (d : Filled) → k < length ps → length cs ≡ length ps
    → d ≡ get_or (with_front k 0 ps cs r) k d
    → set (with_front k 0 ps cs r) k (with_cell d (cell_in (get_or ps k q).kind (field r k))) ≡ with_front (k + 1) 0 ps cs r
front-put k ps cs r q d lt e is =
    let same : d ≡ get_or cs k d = is ∙ front-get k 0 ps cs r d e in
    let h : k + 1 ≡ suc k = add-one k in
    let z : 0 + k ≡ k = omega arith in
    let g = rw (← same, z) at (front-set k 0 ps cs r q d lt e) in
    rw h g

-- what the columns are once one of them has the field at k
pub front-more : (k : ℕ) (ps : List Rule) (cs now : List Filled) (r : Fields) (q : Rule) (d new : Filled) → k < length ps → length cs ≡ length ps
    → now ≡ with_front k 0 ps cs r → d ≡ get_or now k d → new ≡ with_cell d (cell_in (get_or ps k q).kind (field r k))
    → set now k new ≡ with_front (k + 1) 0 ps cs r
front-more k ps cs now r q d new lt e now_is is new_is =
    let is_front : d ≡ get_or (with_front k 0 ps cs r) k d = rw now_is at is in
    rw (now_is, new_is) (front-put k ps cs r q d lt e is_front)

pub any-step : (t : Rule → List ℕ → Bool) (k : ℕ) (ps : List Rule) (q : Rule) (r : Fields) (all : Bool) → k < length ps → t (get_or ps k q) (field r k) ≡ false
    → all ≡ any_from t k (drop k ps) r → all ≡ any_from t (k + 1) (drop (k + 1) ps) r
any-step t k ps q r all lt none inv =
    let g = rw none at (any-next t k k ps q r lt) in
    inv ∙ g

-- a column takes the value of its field
pub column-size : (count k : ℕ) (ps : List Rule) (cs now : List Filled) (r : Fields) (q : Rule) (d : Filled) → AreSized count ps cs → k < length ps
    → now ≡ with_front k 0 ps cs r → d ≡ get_or now k d → (d.kind ≡ (get_or ps k q).kind) × (length d.values ≡ count)
column-size count k ps cs now r q d sized lt now_is is =
    let is_front : d ≡ get_or (with_front k 0 ps cs r) k d = rw now_is at is in
    let same : d ≡ get_or cs k d = is_front ∙ front-get k 0 ps cs r d (sized-len count ps cs sized) in
    rw (← same) at (sized-at count k ps cs q d sized lt)
