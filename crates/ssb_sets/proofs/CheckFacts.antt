-- What flags say of a number.
use Rattle.std.proofs.Common.{◌≡◌, ◌∙◌, ⊎_elim, ℕ, ℤ, pos, negsuc, ◌+◌, ◌-◌, min, ◌<◌, ◌≤◌, ◌+ℤ◌, ◌-ℤ◌, ◌<ℤ◌, ◌≤ℤ◌, Bool, true, false, cond, ◌&&◌, List, [], ◌∷◌, ◌++◌, zero, suc, Result, Ok, Err, length, get_or, int_le, unsigned_abs, refl, sym, ap, arith}
use Rattle.std.proofs.lemmas.Bool.{cases_lt}
use Rattle.std.proofs.lemmas.Int.{by_lt_z, ints}
use Rattle.std.proofs.lemmas.List.{get_or_past}
use Rattle.std.specs.Prelude.{OnOk}
use Rattle.ssb_sets.specs.Checks.{last_of}
use Rattle.ssb_sets.specs.NumberSets.{has}
use Rattle.ssb_sets.specs.declared.set.NumberSet.{NumberSet}
use Rattle.ssb_sets.proofs.ParityFacts.{read-any}

above : (a b : ℤ) → b <ℤ a → int_le a b ≡ false
above a b lt = grind (arith, ints)

upto : (a b : ℤ) → a ≤ℤ b → int_le a b ≡ true
upto a b le = grind (arith, ints)

pub abs-of : (a b : ℤ) → a ≤ℤ b → a +ℤ pos (unsigned_abs (b -ℤ a)) ≡ b
abs-of a b le = ap (λ z. a +ℤ z) (natural (b -ℤ a) (omega (arith, ints, le))) ∙ omega (arith, ints)
  where
    natural : (z : ℤ) → pos 0 ≤ℤ z → pos (unsigned_abs z) ≡ z
    natural (pos n) h = refl
    natural (negsuc n) h = absurd (omega (arith, ints, h))

pub flags-say : (s : NumberSet) (from to n : ℤ) (flags : List Bool) (others : Bool) → from +ℤ pos (length flags) ≡ to +ℤ pos 1 → ((k : ℕ) → k < length flags → get_or flags k false ≡ has s (from +ℤ pos k))
    → (n <ℤ from → has s n ≡ others) → (to <ℤ n → has s n ≡ others) → cond (int_le from n) (get_or flags (unsigned_abs (n -ℤ from)) others) others ≡ has s n
flags-say s from to n flags others count each below beyond = by_lt_z n from
    (λ lt. ap (λ b. cond b (get_or flags k others) others) (above from n lt) ∙ sym (below lt))
    (λ le. ap (λ b. cond b (get_or flags k others) others) (upto from n le)
    ∙ ⊎_elim
    (λ lt. read-any flags k others false lt ∙ each k lt ∙ ap (has s) (abs-of from n le))
    (λ past. get_or_past flags k others past ∙ sym (beyond (let at = abs-of from n le in omega (arith, ints, at, count, past))))
    (cases_lt k (length flags)))
  where
    k : ℕ
    k = unsigned_abs (n -ℤ from)

-- flags with one more, of which is said what is said of all others
pub get_or-padded : (flags : List Bool) (k : ℕ) (others : Bool) → get_or (flags ++ others ∷ []) k others ≡ get_or flags k others
get_or-padded [] zero others = refl
get_or-padded [] (suc k) others = refl
get_or-padded (f ∷ fs) zero others = refl
get_or-padded (f ∷ fs) (suc k) others = get_or-padded fs k others

-- the flag of a number, where the last one is that of all others
pub padded-says : (flags : List Bool) (base n : ℤ) (far place : ℕ) → 0 < length flags → (base ≤ℤ n → far ≡ unsigned_abs (n -ℤ base)) → (n <ℤ base → length flags ≤ far) → place ≡ min far (length flags - 1)
    → get_or flags place false ≡ cond (int_le base n) (get_or flags (unsigned_abs (n -ℤ base)) (last_of flags)) (last_of flags)
padded-says flags base n far place some above_base below_base is = by_lt_z n base
    (λ lt. ap (λ k. get_or flags k false) (let past = below_base lt in let e : place ≡ length flags - 1 = omega (arith, is, past, some) in e)
    ∙ sym (ap (λ b. cond b (get_or flags (unsigned_abs (n -ℤ base)) (last_of flags)) (last_of flags)) (above base n lt)))
    (λ le. by_place (above_base le) ∙ sym (ap (λ b. cond b (get_or flags (unsigned_abs (n -ℤ base)) (last_of flags)) (last_of flags)) (upto base n le)))
  where
    by_place : far ≡ unsigned_abs (n -ℤ base) → get_or flags place false ≡ get_or flags (unsigned_abs (n -ℤ base)) (last_of flags)
    by_place at = ⊎_elim
        (λ lt. ap (λ k. get_or flags k false) (let e : place ≡ far = omega (arith, is, lt) in e) ∙ read-any flags far false (last_of flags) lt ∙ ap (λ k. get_or flags k (last_of flags)) at)
        (λ past. ap (λ k. get_or flags k false) (let e : place ≡ length flags - 1 = omega (arith, is, past, some) in e) ∙ sym (get_or_past flags far (last_of flags) past) ∙ ap (λ k. get_or flags k (last_of flags)) at)
        (cases_lt far (length flags))

-- a run of numbers that a set has, between those that it has not
pub run-says : (s : NumberSet) (low high n : ℤ) → (n <ℤ low → has s n ≡ false) → (low ≤ℤ n → n ≤ℤ high → has s n ≡ true) → (high <ℤ n → has s n ≡ false) → (int_le low n && int_le n high) ≡ has s n
run-says s low high n ahead within behind = by_lt_z n low
    (λ lt. ap (λ b. b && int_le n high) (above low n lt) ∙ sym (ahead lt))
    (λ le. by_lt_z high n
    (λ lt. (λ j. upto low n le j && above n high lt j) ∙ sym (behind lt))
    (λ ge. (λ j. upto low n le j && upto n high ge j) ∙ sym (within le ge)))

-- what follows from what holds where it went well
pub each-ok : {X E : Type 0} (r : Result X E) {P Q : Type 0} → (P → Q) → OnOk r P → OnOk r Q
each-ok (Ok x) f h = f h
each-ok (Err e) f h = tt

-- flags that were filled up with what is said of a run
pub run-flags : (s : NumberSet) (from start end : ℤ) (old new : List Bool) (last : ℕ) (said : Bool) → from +ℤ pos (length old) ≡ start → from +ℤ pos (last + 1) ≡ end → start <ℤ end → length new ≡ last + 1
    → ((k : ℕ) → k < length old → get_or old k false ≡ has s (from +ℤ pos k)) → said ≡ has s start → ((n : ℤ) → start ≤ℤ n → n <ℤ end → has s n ≡ has s start)
    → ((k : ℕ) → k < last → k < length old → get_or new k false ≡ get_or old k false) → ((k : ℕ) → length old ≤ k → k ≤ last → get_or new k false ≡ said)
    → (k : ℕ) → k < length new → get_or new k false ≡ has s (from +ℤ pos k)
run-flags s from start end old new last said begins ends order long each is stays same filled k lt = ⊎_elim
    (λ below. same k (let e : k < last = omega (arith, ints, below, begins, ends, order) in e) below ∙ each k below)
    (λ past. filled k past (omega (arith, long, lt)) ∙ is ∙ sym (stays (from +ℤ pos k) (omega (arith, ints, past, begins)) (omega (arith, ints, long, lt, ends))))
    (cases_lt k (length old))
