-- The fault of a record, test by test.
use Rattle.std.proofs.Common.{◌≡◌, ◌∙◌, ◌++◌, ◌||◌, ℕ, ℤ, Bool, true, false, List, [], ◌∷◌, length, Option, Some, None, refl, sym, ap, not, append_assoc}
use Rattle.std.specs.Prelude.{nat_le, ◌+◌}
use Rattle.std.specs.List.{list_all}
use Rattle.std.specs.Str.{is_utf8}
use Rattle.std.proofs.lemmas.List.{append-nil}
use Rattle.std.proofs.lemmas.Bool.{or_parts}
use Rattle.ssb_catalog.proofs.Choices.{cond-none}
use Rattle.ssb_records.specs.Records.{Fields, field}
use Rattle.ssb_load.specs.Rules.{any_from, any_field, key_of}
use Rattle.ssb_load.specs.Loader.{fails, fault_by, fails_some}
use Rattle.ssb_load.specs.Tables.{repeats, fault_of, first_fault, or_later}
use Rattle.ssb_records.specs.Width.{has_width}
use Rattle.ssb_terms.specs.declared.rule.Rule.{Rule}
use Rattle.ssb_load.specs.declared.value.Test.TheVariants as tests
use Rattle.ssb_records.specs.declared.fault.RecordFault.{RecordFault}

-- a record that passes each test
pub record Passes (rules : List Rule) (max_rows count : ℕ) (has : ℤ → Bool) (r : Fields) : Type 0 where
  pub width : has_width (length rules) r ≡ true
  pub text : list_all is_utf8 r ≡ true
  pub numbers : any_field (fails tests.Number) rules r ≡ false
  pub values : any_field (fails tests.Value) rules r ≡ false
  pub fresh : repeats (key_of rules r) has ≡ false
  pub room : nat_le max_rows count ≡ false
  pub lengths : any_field (fails tests.Length) rules r ≡ false

not-false : (b : Bool) → not b ≡ false → b ≡ true
not-false true e = refl
not-false false e = cc e

pub passes : (rules : List Rule) (max_rows count : ℕ) (has : ℤ → Bool) (r : Fields) → fault_by rules max_rows count has r ≡ None → Passes rules max_rows count has r
passes rules m n has r e =
    let a = cond-none _ _ _ e in
    let b = cond-none _ _ _ a.1 in
    let c = cond-none _ _ _ b.1 in
    let d = cond-none _ _ _ c.1 in
    let f = cond-none _ _ _ d.1 in
    let g = cond-none _ _ _ f.1 in
    let h = cond-none _ _ _ g.1 in
    record { width = not-false _ a.0; text = not-false _ b.0; numbers = c.0; values = d.0; fresh = f.0; room = g.0; lengths = h.0 }

pub no-fault : (rules : List Rule) (max_rows count : ℕ) (has : ℤ → Bool) (r : Fields) → Passes rules max_rows count has r → fault_by rules max_rows count has r ≡ None
no-fault rules m n has r p = rw (p.width, p.text, p.numbers, p.values, p.fresh, p.room, p.lengths) refl

or-swap : (a b x y : Bool) → ((a || b) || (x || y)) ≡ ((a || x) || (b || y))
or-swap true b x y = refl
or-swap false true true y = refl
or-swap false true false y = refl
or-swap false false x y = refl

-- some field fails one of two tests
any-or : (s t : Rule → List ℕ → Bool) (at : ℕ) (ps : List Rule) (r : Fields) → any_from (λ p f. s p f || t p f) at ps r ≡ (any_from s at ps r || any_from t at ps r)
any-or s t at [] r = refl
any-or s t at (p ∷ ps) r = rw (any-or s t (at + 1) ps r) (or-swap (s p (field r at)) (t p (field r at)) (any_from s (at + 1) ps r) (any_from t (at + 1) ps r))

pub some-is : (ps : List Rule) (r : Fields) → any_from fails_some 0 ps r ≡ (any_field (fails tests.Number) ps r || (any_field (fails tests.Value) ps r || any_field (fails tests.Length) ps r))
some-is ps r = any-or (fails tests.Number) (λ p f. fails tests.Value p f || fails tests.Length p f) 0 ps r ∙ ap (λ t. any_field (fails tests.Number) ps r || t) (any-or (fails tests.Value) (fails tests.Length) 0 ps r)

pub all-pass : (ps : List Rule) (r : Fields) → any_from fails_some 0 ps r ≡ false → (any_field (fails tests.Number) ps r ≡ false) × (any_field (fails tests.Value) ps r ≡ false) × (any_field (fails tests.Length) ps r ≡ false)
all-pass ps r e =
    let a = or_parts _ _ (sym (some-is ps r) ∙ e) in
    let b = or_parts _ _ a.1 in
    (a.0, b.0, b.1)

pub some-passes : (ps : List Rule) (m n : ℕ) (has : ℤ → Bool) (r : Fields) → Passes ps m n has r → any_from fails_some 0 ps r ≡ false
some-passes ps m n has r p = some-is ps r ∙ (rw (p.numbers, p.values, p.lengths) refl)

pub later-none : (o : Option RecordFault) (n : ℕ) (later : Option (RecordFault × ℕ)) → or_later o n later ≡ None → (o ≡ None) × (later ≡ None)
later-none None n later e = (refl, e)
later-none (Some f) n later e = cc e

-- good records, and then others
pub fault-append : (rules : List Rule) (m : ℕ) (before good rest : List Fields) → first_fault rules m before good ≡ None → first_fault rules m before (good ++ rest) ≡ first_fault rules m (before ++ good) rest
unfolding first_fault
fault-append rules m before [] rest e = simp append-nil
fault-append rules m before (r ∷ rs) rest e =
    let g = later-none (fault_of rules m before r) _ _ e in
    let h = fault-append rules m (before ++ r ∷ []) rs rest g.1 in
    rw (g.0, h, append_assoc) refl

pub fault-none : (rules : List Rule) (m : ℕ) → first_fault rules m [] [] ≡ None
unfolding first_fault
fault-none rules m = refl

pub fault-more : (rules : List Rule) (m : ℕ) (good : List Fields) (r : Fields) → first_fault rules m [] good ≡ None → fault_of rules m good r ≡ None → first_fault rules m [] (good ++ r ∷ []) ≡ None
unfolding first_fault
fault-more rules m good r e n = rw (fault-append rules m [] good (r ∷ []) e, n) refl

pub fault-here : (rules : List Rule) (m : ℕ) (good rest : List Fields) (r : Fields) (f : RecordFault) → first_fault rules m [] good ≡ None → fault_of rules m good r ≡ Some f
    → first_fault rules m [] (good ++ r ∷ rest) ≡ Some (f, length good + 1)
unfolding first_fault
fault-here rules m good rest r f e n = rw (fault-append rules m [] good (r ∷ rest) e, n) refl
