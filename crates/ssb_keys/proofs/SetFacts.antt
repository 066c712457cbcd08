-- Numbers of a set stand at places of their own.
use Rattle.std.proofs.Common.{◌≡◌, ◌∙◌, ◌||◌, ◌+◌, ◌<◌, ℕ, suc, Bool, true, false, true≢false, not, cond, if◌then◌else◌, nat_eq, List, [], ◌∷◌, ◌++◌, length, get_or, slice_get, Some, inl, inr, refl, sym, ap, arith}
use Rattle.std.specs.List.{AllByRecursion, IsDistinct, list_any, position_or_len}
use Rattle.std.proofs.lemmas.Bool.{eqb-true}
use Rattle.indexmap.specs.IndexSet.{insert_key}
use Rattle.ssb_keys.specs.Sets.{HasPlaces, Opens}

-- ---- by a table

others : (table : List ℕ) (k n : ℕ) (ns : List ℕ) → get_or table n 0 < k → ((p m : ℕ) → slice_get ns p ≡ Some m → get_or table m 0 ≡ k + p) → AllByRecursion (λ m. nat_eq n m ≡ false) ns
others table k n [] at places = tt
others table k n (m ∷ ns) at places = (differ (nat_eq n m) refl, others table (suc k) n ns (omega (arith, at)) (λ p x e. let is = places (suc p) x e in omega (arith, is)))
  where
    differ : (b : Bool) → nat_eq n m ≡ b → nat_eq n m ≡ false
    differ false e = e
    differ true e =
        let same = ap (λ x. get_or table x 0) (eqb-true n m e) in
        let there = places 0 m refl in
        absurd (omega (arith, at, same, there))

distinct-from : (table : List ℕ) (k : ℕ) (ns : List ℕ) → ((p m : ℕ) → slice_get ns p ≡ Some m → get_or table m 0 ≡ k + p) → IsDistinct nat_eq ns
unfolding IsDistinct
distinct-from table k [] places = tt
distinct-from table k (n ∷ ns) places =
    let first = places 0 n refl in
    (others table (suc k) n ns (omega (arith, first)) (λ p m e. let is = places (suc p) m e in omega (arith, is)), distinct-from table (suc k) ns (λ p m e. let is = places (suc p) m e in omega (arith, is)))

pub distinct-by-places : (table ns : List ℕ) → HasPlaces table ns → IsDistinct nat_eq ns
distinct-by-places table ns places = distinct-from table 0 ns (λ p m e. let is = places p m e in omega (arith, is))

-- ---- by hashes

behind-all : (test : ℕ → Bool) (ns : List ℕ) → list_any test ns ≡ false → position_or_len test ns ≡ length ns
behind-all test [] none = refl
behind-all test (n ∷ ns) none = by (test n) none (behind-all test ns)
  where
    by : (b : Bool) → (b || list_any test ns) ≡ false → (list_any test ns ≡ false → position_or_len test ns ≡ length ns) → cond (not b) (1 + position_or_len test ns) 0 ≡ suc (length ns)
    by true e rest = absurd (true≢false e)
    by false e rest = let same = rest e in omega (arith, same)

pub opens-inserted : (ns new : List ℕ) (n p : ℕ) → new ≡ insert_key nat_eq ns n → p ≡ position_or_len (nat_eq n) ns → (there : ℕ) × (slice_get new p ≡ Some there) × (nat_eq n there ≡ true) → Opens ns new n p
opens-inserted ns new n p made at found = by (list_any (nat_eq n) ns) refl made
  where
    placed : slice_get new p ≡ Some n
    placed = found.1 ∙ ap (λ m. Some m) (sym (eqb-true n found.0 found.2))

    by : (b : Bool) → list_any (nat_eq n) ns ≡ b → new ≡ (if b then ns else ns ++ n ∷ []) → Opens ns new n p
    by true e same = record { placed = placed; grown = inl same }
    by false e same = record { placed = placed; grown = inr (same, at ∙ behind-all (nat_eq n) ns e) }

-- ---- none

pub distinct-none : IsDistinct nat_eq []
distinct-none = distinct-by-places [] [] (λ p n e. cc)
