-- The first fault of records without a key that come behind others.
use Rattle.std.proofs.Common.{◌≡◌, ◌∙◌, ◌+◌, ◌≤◌, ◌<◌, ◌++◌, ◌&&◌, ◌==◌, ℕ, ℤ, suc, Bool, true, false, cond, List, [], ◌∷◌, length, inl, inr, Option, Some, None, refl, sym, ap, arith, length-append}
use Rattle.std.specs.Prelude.{nat_le, not}
use Rattle.std.proofs.lemmas.Bool.Decides.{leb_tells, eqb_tells}
use Rattle.std.specs.List.{list_all}
use Rattle.std.specs.Str.{is_utf8}
use Rattle.ssb_lanes.specs.Moved.{comes_after_limit, moved_first, moved_record}
use Rattle.ssb_records.specs.Records.{Fields}
use Rattle.ssb_terms.specs.Roles.{key_place}
use Rattle.ssb_load.specs.Rules.{any_field, is_bad_number, is_key_taken, is_missing, is_too_long, number_at}
use Rattle.ssb_load.specs.Tables.{fault_of, first_fault, or_later, repeats}
use Rattle.ssb_records.specs.Width.{has_width}
use Rattle.ssb_terms.specs.declared.rule.Rule.{Rule}
use Rattle.ssb_records.specs.declared.fault.RecordFault.{RecordFault}
use Rattle.ssb_records.specs.declared.fault.RecordFault.TheVariants as faults
use Rattle.ssb_load.proofs.FaultFacts.{fault-append}

-- the fault of a record of no key, after so many good ones: of what is tested before the limit, and of what is tested behind it
abbrev early : List Rule → Fields → Option RecordFault
early rules r =
    cond (not (has_width (length rules) r)) (Some faults.FieldCount)
    (cond (not (list_all is_utf8 r)) (Some faults.BadUtf8)
    (cond (any_field is_bad_number rules r) (Some faults.BadNumber)
    (cond (any_field is_missing rules r) (Some faults.NullNotAllowed) None)))

late : Bool → Bool → Option RecordFault
late limit long = cond limit (Some faults.TooManyRows) (cond long (Some faults.TextTooLong) None)

-- the first, or else the other
abbrev first_of : Option RecordFault → Option RecordFault → Option RecordFault
first_of (Some f) o = Some f
first_of None o = o

split-four : (a b c d : Bool) (x y z w : RecordFault) (o : Option RecordFault)
    → cond a (Some x) (cond b (Some y) (cond c (Some z) (cond d (Some w) o))) ≡ first_of (cond a (Some x) (cond b (Some y) (cond c (Some z) (cond d (Some w) None)))) o
split-four true b c d x y z w o = refl
split-four false true c d x y z w o = refl
split-four false false true d x y z w o = refl
split-four false false false true x y z w o = refl
split-four false false false false x y z w o = refl

no-repeat : (place : Option ℕ) (r : Fields) (has : ℤ → Bool) → place ≡ None → repeats (number_at place r) has ≡ false
no-repeat None r has e = refl
no-repeat (Some k) r has e = cc e

fault-split : (rules : List Rule) (m : ℕ) (good : List Fields) (r : Fields) → key_place rules ≡ None
    → fault_of rules m good r ≡ first_of (early rules r) (late (nat_le m (length good)) (any_field is_too_long rules r))
unfolding late
fault-split rules m good r none =
    rw (no-repeat (key_place rules) r (is_key_taken rules good) none)
    (split-four (not (has_width (length rules) r)) (not (list_all is_utf8 r)) (any_field is_bad_number rules r) (any_field is_missing rules r) _ _ _ _ _)

-- ---- one record

-- what is tested before the limit is told of before it
data IsEarly : Option RecordFault → Type 0 where
  nothing : IsEarly None
  some : (f : RecordFault) → comes_after_limit f ≡ false → IsEarly (Some f)

early-is : (a b c d : Bool) → IsEarly (cond a (Some faults.FieldCount) (cond b (Some faults.BadUtf8) (cond c (Some faults.BadNumber) (cond d (Some faults.NullNotAllowed) None))))
early-is true b c d = some faults.FieldCount refl
early-is false true c d = some faults.BadUtf8 refl
early-is false false true d = some faults.BadNumber refl
early-is false false false true = some faults.NullNotAllowed refl
early-is false false false false = nothing

-- ---- the first fault, moved

moved-inside : (k m : ℕ) (f : RecordFault) (n : ℕ) → k + n ≤ m → moved_record k m f n ≡ (f, k + n)
moved-inside k m f n le = elim (leb_tells (k + n) m) [
  | inl h ↦ rw (h.0) refl
  | inr h ↦ let lt = h.1 in absurd (omega arith)
]

moved-last : (k m : ℕ) (f : RecordFault) (n : ℕ) → k + n ≡ m + 1 → comes_after_limit f ≡ false → moved_record k m f n ≡ (f, m + 1)
moved-last k m f n e early_one = elim (leb_tells (k + n) m) [
  | inl h ↦ let le = h.1 in absurd (omega arith)
  | inr h ↦ elim (eqb_tells (k + n) (m + 1)) [
    | inl is ↦ rw (h.0, is.0, early_one) refl
    | inr other ↦ absurd (other.1 e)
  ]
]

choose-last : {A : Type 0} (b : Bool) (x y : A) → b ≡ false → cond b x y ≡ y
choose-last true x y e = cc e
choose-last false x y e = refl

and-late : (b c : Bool) → c ≡ true → (b && not c) ≡ false
and-late true true e = refl
and-late false c e = refl
and-late true false e = cc e

moved-late : (k m : ℕ) (f : RecordFault) (n : ℕ) → k + n ≡ m + 1 → comes_after_limit f ≡ true → moved_record k m f n ≡ (faults.TooManyRows, m + 1)
moved-late k m f n e late_one = elim (leb_tells (k + n) m) [
  | inl h ↦ let le = h.1 in absurd (omega arith)
  | inr h ↦ let last : RecordFault × ℕ = (faults.TooManyRows, m + 1) in rw (h.0) (choose-last ((k + n == m + 1) && not (comes_after_limit f)) (f, m + 1) last (and-late (k + n == m + 1) (comes_after_limit f) late_one))
]

moved-past : (k m : ℕ) (f : RecordFault) (n : ℕ) → m + 1 < k + n → moved_record k m f n ≡ (faults.TooManyRows, m + 1)
moved-past k m f n lt = elim (leb_tells (k + n) m) [
  | inl h ↦ let le = h.1 in absurd (omega arith)
  | inr h ↦ elim (eqb_tells (k + n) (m + 1)) [
    | inl is ↦ let e = is.1 in absurd (omega arith)
    | inr other ↦ rw (h.0, other.0) refl
  ]
]

-- where a record is the first too many, whatever comes of the records from it on
pub past-all : (k m count : ℕ) (o : Option (RecordFault × ℕ)) → m < k + count → ((f : RecordFault) (n : ℕ) → o ≡ Some (f, n) → m + 1 < k + n) → moved_first k m count o ≡ Some (faults.TooManyRows, m + 1)
past-all k m count None lt later = elim (leb_tells (k + count) m) [
  | inl h ↦ let le = h.1 in absurd (omega arith)
  | inr h ↦ rw (h.0) refl
]
past-all k m count (Some q) lt later = ap Some (moved-past k m q.0 q.1 (later q.0 q.1 refl))

-- a first fault is told of one of the records
abbrev told_at : Option (RecordFault × ℕ) → ℕ
told_at None = 0
told_at (Some q) = q.1

number-next : (o : Option RecordFault) (later : Option (RecordFault × ℕ)) (a : ℕ) (f : RecordFault) (n : ℕ) → ((g : RecordFault) (k : ℕ) → later ≡ Some (g, k) → a + 1 < k) → or_later o (a + 1) later ≡ Some (f, n) → a < n
number-next (Some g) later a f n h e = let is : a + 1 ≡ n = ap told_at e in omega (arith, is)
number-next None later a f n h e = let lt = h f n e in omega (arith, lt)

pub number-of : (rules : List Rule) (m : ℕ) (good rs : List Fields) (f : RecordFault) (n : ℕ) → first_fault rules m good rs ≡ Some (f, n) → length good < n
unfolding first_fault
number-of rules m good [] f n e = cc e
number-of rules m good (r ∷ rs) f n e =
    number-next (fault_of rules m good r) (first_fault rules m (good ++ r ∷ []) rs) (length good) f n
    (λ g k is. let lt = number-of rules m (good ++ r ∷ []) rs g k is in let l = length-append good (r ∷ []) in omega (arith, lt, l)) e

-- ---- records behind others, record by record

-- of a record behind more records: `here` is its fault where it stands behind few, `there` behind many
step-inside : (k m c : ℕ) (o : Option RecordFault) (more here there : Option (RecordFault × ℕ)) (count : ℕ) → k + (c + 1) ≤ m → there ≡ moved_first k m count here
    → or_later o (k + c + 1) there ≡ moved_first k m count (or_later o (c + 1) here)
step-inside k m c None more here there count le h = h
step-inside k m c (Some f) more here there count le h = let e : k + (c + 1) ≡ k + c + 1 = omega arith in ap Some (sym (moved-inside k m f (c + 1) le ∙ ap (λ n. (f, n)) e))

-- of the first record too many
step-last : (k m c : ℕ) (e : Option RecordFault) (limit long : Bool) (here there : Option (RecordFault × ℕ)) (count : ℕ) → IsEarly e → k + c ≡ m → c < count
    → ((f : RecordFault) (n : ℕ) → here ≡ Some (f, n) → c + 1 < n)
    → or_later (first_of e (late true long)) (k + c + 1) there ≡ moved_first k m count (or_later (first_of e (late limit long)) (c + 1) here)
unfolding late
step-last k m c (Some f) limit long here there count (some g is) at lt later = let n : k + (c + 1) ≡ m + 1 = omega arith in ap Some (ap (λ n. (f, n)) (omega arith) ∙ sym (moved-last k m f (c + 1) n is))
step-last k m c None true long here there count nothing at lt later = let n : k + (c + 1) ≡ m + 1 = omega arith in ap Some (ap (λ n. (faults.TooManyRows, n)) (omega arith) ∙ sym (moved-late k m faults.TooManyRows (c + 1) n refl))
step-last k m c None false true here there count nothing at lt later = let n : k + (c + 1) ≡ m + 1 = omega arith in ap Some (ap (λ n. (faults.TooManyRows, n)) (omega arith) ∙ sym (moved-late k m faults.TextTooLong (c + 1) n refl))
step-last k m c None false false here there count nothing at lt later =
    ap Some (ap (λ n. (faults.TooManyRows, n)) (omega arith)) ∙ sym (past-all k m count here (omega arith) (λ f n is. let l = later f n is in omega (arith, l)))

early-of : (rules : List Rule) (r : Fields) → IsEarly (early rules r)
early-of rules r = early-is (not (has_width (length rules) r)) (not (list_all is_utf8 r)) (any_field is_bad_number rules r) (any_field is_missing rules r)

-- the first fault of records behind some, and behind those and more before them
first-behind : (rules : List Rule) (m k : ℕ) (many few rs : List Fields) → key_place rules ≡ None → length many ≡ k + length few → k + length few ≤ m
    → first_fault rules m many rs ≡ moved_first k m (length few + length rs) (first_fault rules m few rs)
unfolding first_fault late
first-behind rules m k many few [] none is le = elim (leb_tells (k + (length few + 0)) m) [
  | inl h ↦ rw (h.0) refl
  | inr h ↦ let lt = h.1 in absurd (omega arith)
]
first-behind rules m k many few (r ∷ rs) none is le = elim (leb_tells (k + length few + 1) m) [
  | inl inside ↦
      let in_room = inside.1 in
      let lm = length-append many (r ∷ []) in
      let lf = length-append few (r ∷ []) in
      let h = first-behind rules m k (many ++ r ∷ []) (few ++ r ∷ []) rs none (omega arith) (omega arith) in
      let count : length (few ++ r ∷ []) + length rs ≡ length few + suc (length rs) = omega arith in
      let a : nat_le m (length many) ≡ false = elim (leb_tells m (length many)) [ inl x ↦ let y = x.1 in absurd (omega arith) | inr x ↦ x.0 ] in
      let b : nat_le m (length few) ≡ false = elim (leb_tells m (length few)) [ inl x ↦ let y = x.1 in absurd (omega arith) | inr x ↦ x.0 ] in
      rw (fault-split rules m many r none, fault-split rules m few r none, a, b, is)
      (step-inside k m (length few) _ None _ _ (length few + suc (length rs)) (omega arith) (rw count at h))
  | inr past ↦
      let out = past.1 in
      let lf = length-append few (r ∷ []) in
      let a : nat_le m (length many) ≡ true = elim (leb_tells m (length many)) [ inl x ↦ x.0 | inr x ↦ let y = x.1 in absurd (omega arith) ] in
      rw (fault-split rules m many r none, fault-split rules m few r none, a, is)
      (step-last k m (length few) (early rules r) _ _ _ _ (length few + suc (length rs)) (early-of rules r) (omega arith) (omega arith)
      (λ f n e. let l = number-of rules m (few ++ r ∷ []) rs f n e in omega (arith, l, lf)))
]

-- the first fault of records that come behind good ones
pub first-moved : (rules : List Rule) (m : ℕ) (good rs : List Fields) → key_place rules ≡ None → first_fault rules m [] good ≡ None → length good ≤ m
    → first_fault rules m [] (good ++ rs) ≡ moved_first (length good) m (length rs) (first_fault rules m [] rs)
first-moved rules m good rs none clean le =
    let count : 0 + length rs ≡ length rs = omega arith in
    fault-append rules m [] good rs clean ∙ (rw count at (first-behind rules m (length good) good [] rs none (omega arith) (omega arith)))
