-- One more record in the columns and among the keys.
use Rattle.std.proofs.Common.{◌≡◌, ◌∙◌, ◌++◌, ◌+◌, ℕ, ℤ, Bool, true, false, cond, ◌||◌, List, [], ◌∷◌, length, take, get_or, zero, suc, ◌<◌, ◌≤◌, add-one, Option, Some, None, refl, sym, ap, arith}
use Rattle.std.proofs.lemmas.Cmp.{int_eq_equiv}
use Rattle.std.proofs.lemmas.List.{length-map, map-append, take_all}
use Rattle.ssb_cells.specs.Tables.{Filled, AreLong, rows_in}
use Rattle.ssb_load.proofs.RuleFacts.{sized-len}
use Rattle.ssb_records.specs.Records.{Fields}
use Rattle.ssb_load.specs.Rules.{is_key_taken, key_of, is_value, columns_from, columns_of}
use Rattle.ssb_load.specs.Tables.{repeats, fault_of}
use Rattle.ssb_load.specs.Loader.{fault_by, Holds, AddsKey, AreSized, seen_in, with_front, with_record}
use Rattle.ssb_terms.specs.declared.rule.Rule.{Rule}

-- the same keys give the same fault
repeats-same : (key : Option ℤ) (a b : ℤ → Bool) → ((z : ℤ) → a z ≡ b z) → repeats key a ≡ repeats key b
repeats-same None a b h = refl
repeats-same (Some z) a b h = h z

pub same-fault : (rules : List Rule) (m : ℕ) (good : List Fields) (seen : List ℤ) (columns : List Filled) (r : Fields) → Holds rules good seen columns
    → fault_by rules m (length good) (seen_in seen) r ≡ fault_of rules m good r
same-fault rules m good seen columns r h = rw (repeats-same (key_of rules r) (seen_in seen) (is_key_taken rules good) h.held) refl

-- a record more, key by key
or-last : (a c : Bool) → a ≡ c → (a || false) ≡ cond c true false
or-last true c e = rw (← e) refl
or-last false c e = rw (← e) refl

or-more : (a c h : Bool) → (a || cond c true h) ≡ cond c true (a || h)
or-more true true h = refl
or-more true false h = refl
or-more false c h = refl

has-last : (rules : List Rule) (good : List Fields) (r : Fields) (z : ℤ) → is_key_taken rules (good ++ r ∷ []) z ≡ cond (is_value (key_of rules r) z) true (is_key_taken rules good z)
has-last rules [] r z = or-last (is_value (key_of rules r) z) (is_value (key_of rules r) z) refl
has-last rules (g ∷ gs) r z = ap (λ t. is_value (key_of rules g) z || t) (has-last rules gs r z) ∙ or-more (is_value (key_of rules g) z) (is_value (key_of rules r) z) (is_key_taken rules gs z)

adds : (key : Option ℤ) (old new : List ℤ) (z : ℤ) → AddsKey key old new → seen_in new z ≡ cond (is_value key z) true (seen_in old z)
adds None old new z h = rw h refl
adds (Some k) old new z h = h z ∙ (rw (int_eq_equiv.symm k z) refl)

-- columns with a record more
pub columns-last : (at : ℕ) (ps : List Rule) (good : List Fields) (r : Fields) → with_front (length ps) at ps (columns_from at ps good) r ≡ columns_from at ps (good ++ r ∷ [])
columns-last at [] good r = refl
columns-last at (p ∷ ps) good r = rw (columns-last (at + 1) ps good r, map-append) refl

pub columns-sized : (at : ℕ) (ps : List Rule) (good : List Fields) → AreSized (length good) ps (columns_from at ps good)
columns-sized at [] good = tt
columns-sized at (p ∷ ps) good = (refl, length-map good _, columns-sized (at + 1) ps good)

pub holds-more : (rules : List Rule) (good : List Fields) (r : Fields) (seen seen' : List ℤ) (columns columns' : List Filled) → Holds rules good seen columns
    → AddsKey (key_of rules r) seen seen' → columns' ≡ with_record rules columns r → Holds rules (good ++ r ∷ []) seen' columns'
holds-more rules good r seen seen' columns columns' h adds_key is =
    record {
      held = λ z. adds (key_of rules r) seen seen' z adds_key ∙ (rw (h.held z) (sym (has-last rules good r z)));
      columns_are = is ∙ (rw h.columns_are (columns-last 0 rules good r));
    }

pub holds-none : (rules : List Rule) (seen : List ℤ) (columns : List Filled) → seen ≡ [] → columns ≡ columns_of rules [] → Holds rules [] seen columns
holds-none rules seen columns e is = record { held = λ z. rw e refl; columns_are = is }

pub holds-sized : (rules : List Rule) (good : List Fields) (seen : List ℤ) (columns : List Filled) (n : ℕ) → Holds rules good seen columns → length good ≡ n → AreSized n rules columns
holds-sized rules good seen columns n h e = rw (← e, h.columns_are) (columns-sized 0 rules good)

none-suc : (at k : ℕ) (ps : List Rule) (q : Rule) → k < length ps → columns_from at (take (suc k) ps) [] ≡ columns_from at (take k ps) [] ++ record { kind = (get_or ps k q).kind; values = [] } ∷ []
none-suc at k [] q lt = absurd (omega arith)
none-suc at zero (p ∷ ps) q lt = refl
none-suc at (suc k) (p ∷ ps) q lt = ap (λ t. record { kind = p.kind; values = [] } ∷ t) (none-suc (at + 1) k ps q (omega arith))

-- columns of no record, one more of them
pub none-next : (k : ℕ) (ps : List Rule) (q : Rule) (now : List Filled) → k < length ps → now ≡ columns_of (take k ps) []
    → now ++ record { kind = (get_or ps k q).kind; values = [] } ∷ [] ≡ columns_of (take (k + 1) ps) []
none-next k ps q now lt is = let h : k + 1 ≡ suc k = add-one k in rw (is, h) (sym (none-suc 0 k ps q lt))

pub all-none : (k : ℕ) (ps : List Rule) (now : List Filled) → length ps ≤ k → now ≡ columns_of (take k ps) [] → now ≡ columns_of ps []
all-none k ps now over is = is ∙ ap (λ qs. columns_of qs []) (take_all k ps over)

-- the columns of a table, all of one length
sized-long : (n : ℕ) (ps : List Rule) (cs : List Filled) → AreSized n ps cs → AreLong n cs
sized-long n [] [] s = tt
sized-long n [] (c ∷ cs) s = absurd s
sized-long n (p ∷ ps) [] s = absurd s
sized-long n (p ∷ ps) (c ∷ cs) s = (s.1, sized-long n ps cs s.2)

rows-sized : (n : ℕ) (ps : List Rule) (cs : List Filled) → AreSized n ps cs → 0 < length ps → rows_in cs ≡ n
rows-sized n [] cs s lt = absurd (omega arith)
rows-sized n (p ∷ ps) [] s lt = absurd s
rows-sized n (p ∷ ps) (c ∷ cs) s lt = s.1

pub sized-table : (n : ℕ) (ps : List Rule) (cs : List Filled) → AreSized n ps cs → 0 < length ps → (0 < length cs) × AreLong (rows_in cs) cs
sized-table n ps cs s lt =
    let k = sized-len n ps cs s in
    (omega arith, rw (rows-sized n ps cs s lt) (sized-long n ps cs s))

pub holds-long : (rules : List Rule) (good : List Fields) (seen : List ℤ) (columns : List Filled) → Holds rules good seen columns → 0 < length rules → (0 < length columns) × AreLong (rows_in columns) columns
holds-long rules good seen columns h lt = sized-table (length good) rules columns (holds-sized rules good seen columns (length good) h refl) lt
