-- Where keys stand among the keys of groups.
use Rattle.std.proofs.Common.{◌≡◌, ◌∙◌, ◌+◌, Bool, arith, cond, not, inl, inr, ℕ, zero, suc, true, false, true≢false, List, [], ◌∷◌, ◌++◌, length, take, slice_get, Result, Ok, Err, is_err, Some, refl, sym, ap, subst, ◌||◌}
use Rattle.std.specs.Prelude.{OnErr, if◌then◌else◌}
use Rattle.std.specs.List.{list_any, position_or_len}
use Rattle.indexmap.specs.IndexSet.{insert_key}
use Rattle.std.proofs.lemmas.Option.{same_Some}
use Rattle.ssb_plan.specs.JobShape.{JobShape}
use Rattle.ssb_groups.specs.Keys.{IsKey, cells_in}
use Rattle.ssb_groups.specs.Places.{AreKeys, IsPlaced, Opens}
use Rattle.ssb_groups.specs.GroupKeys.{GroupKey}
use Rattle.ssb_groups.proofs.KeyFacts.{key_same, keys_equal}

-- ---- lists of keys

pub key-at : (j : JobShape) (ks : List GroupKey) (p : ℕ) (k : GroupKey) → AreKeys j ks → slice_get ks p ≡ Some k → IsKey j k
key-at j [] p k are e = cc
key-at j (x ∷ ks) zero k are e = subst (IsKey j) (same_Some x k e) are.0
key-at j (x ∷ ks) (suc p) k are e = key-at j ks p k are.1 e

pub keys-more : (j : JobShape) (ks : List GroupKey) (k : GroupKey) → AreKeys j ks → IsKey j k → AreKeys j (ks ++ k ∷ [])
keys-more j [] k are is = (is, tt)
keys-more j (x ∷ ks) k are is = (are.0, keys-more j ks k are.1 is)

pub get-front : {X : Type 0} (xs ys : List X) (p : ℕ) (x : X) → slice_get xs p ≡ Some x → slice_get (xs ++ ys) p ≡ Some x
get-front [] ys p x e = cc
get-front (y ∷ xs) ys zero x e = e
get-front (y ∷ xs) ys (suc p) x e = get-front xs ys p x e

pub get-last : {X : Type 0} (xs : List X) (x : X) → slice_get (xs ++ x ∷ []) (length xs) ≡ Some x
get-last [] x = refl
get-last (y ∷ xs) x = get-last xs x

-- ---- one key

-- a key that passes the test of another stands for the same values
pub placed-by : (j : JobShape) (ks : List GroupKey) (k there : GroupKey) (p : ℕ) → AreKeys j ks → IsKey j k → slice_get ks p ≡ Some there → keys_equal k there ≡ true → IsPlaced j ks (cells_in j k) p
placed-by j ks k there p are is at same = record { key = there; there = at; same = sym (key_same j k there is (key-at j ks p there are at)) ∙ same }

-- the front of a list is what it begins with
pub front-taken : {X : Type 0} (xs rest ys : List X) → ys ≡ xs ++ rest → take (length xs) ys ≡ xs
front-taken xs rest ys e = ap (take (length xs)) e ∙ first xs rest
  where
    first : {X : Type 0} (xs rest : List X) → take (length xs) (xs ++ rest) ≡ xs
    first [] rest = refl
    first (x ∷ xs) rest = ap (λ l. x ∷ l) (first xs rest)

-- what is said where a call failed
pub on-err : {X E : Type 0} (r : Result X E) (P : Type 0) → is_err r ≡ true → OnErr r P → P
on-err (Ok x) P e h = absurd (true≢false (sym e))
on-err (Err x) P e h = h

pub where-err : {X E : Type 0} (r : Result X E) (P : Type 0) → P → OnErr r P
where-err (Ok x) P h = tt
where-err (Err x) P h = h

-- where no key passes a test, the place behind all
behind-all : (test : GroupKey → Bool) (ks : List GroupKey) → list_any test ks ≡ false → position_or_len test ks ≡ length ks
behind-all test [] none = refl
behind-all test (k ∷ ks) none = by (test k) none (behind-all test ks)
  where
    by : (b : Bool) → (b || list_any test ks) ≡ false → (list_any test ks ≡ false → position_or_len test ks ≡ length ks) → cond (not b) (1 + position_or_len test ks) 0 ≡ suc (length ks)
    by true e rest = absurd (true≢false e)
    by false e rest = let same = rest e in omega (arith, same)

-- a key that is inserted where it is not there has its place
pub opens-inserted : (j : JobShape) (ks new : List GroupKey) (k : GroupKey) (p : ℕ) → AreKeys j ks → IsKey j k → new ≡ insert_key keys_equal ks k → p ≡ position_or_len (keys_equal k) ks → (there : GroupKey) × (slice_get new p ≡ Some there) × (keys_equal k there ≡ true)
    → Opens j ks new (cells_in j k) p × AreKeys j new
opens-inserted j ks new k p are is made at found = by (list_any (keys_equal k) ks) refl made
  where
    by : (b : Bool) → list_any (keys_equal k) ks ≡ b → new ≡ (if b then ks else ks ++ k ∷ []) → Opens j ks new (cells_in j k) p × AreKeys j new
    by true e same =
        let keys = subst (AreKeys j) (sym same) are in
        (record { placed = placed-by j new k found.0 p keys is found.1 found.2; grown = inl same }, keys)
    by false e same =
        let keys = subst (AreKeys j) (sym same) (keys-more j ks k are is) in
        (record { placed = placed-by j new k found.0 p keys is found.1 found.2; grown = inr (k, same, at ∙ behind-all (keys_equal k) ks e) }, keys)
