-- Each field of a record is a text, or some field is none.
use Rattle.std.proofs.Common.{◌≡◌, ◌<◌, ◌&&◌, ℕ, zero, suc, Bool, true, false, List, [], ◌∷◌, length, inl, inr, refl, arith}
use Rattle.std.specs.List.{list_all}
use Rattle.std.specs.Str.{is_utf8, IsUtf8}
use Rattle.std.proofs.lemmas.Str.{is_utf8-from_IsUtf8, IsUtf8-from_is_utf8, IsUtf8-nil}
use Rattle.std.proofs.lemmas.Bool.{and_parts, cases_Bool}
use Rattle.std.specs.Str.{IsAscii}
use Rattle.std.specs.Prelude.{◌-◌}
use Rattle.std.proofs.lemmas.Str.{IsUtf8-from_ascii, IsAscii-take, IsAscii-drop}
use Rattle.csv.specs.Records.{field_at, cut_from}
use Rattle.ssb_records.specs.Records.{Fields, field}

and-false : (a b : Bool) → b ≡ false → (a && b) ≡ false
and-false true b e = e
and-false false b e = refl

pub texts-from : (fs : Fields) → ((k : ℕ) → k < length fs → is_utf8 (field fs k) ≡ true) → list_all is_utf8 fs ≡ true
unfolding field_at
texts-from [] h = refl
texts-from (f ∷ fs) h = rw (h 0 (omega arith)) (texts-from fs (λ k lt. h (suc k) (omega arith)))

pub texts-not : (fs : Fields) (k : ℕ) → k < length fs → is_utf8 (field fs k) ≡ false → list_all is_utf8 fs ≡ false
unfolding field_at
texts-not [] k lt e = absurd (omega arith)
texts-not (f ∷ fs) zero lt e = rw e refl
texts-not (f ∷ fs) (suc k) lt e = and-false (is_utf8 f) (list_all is_utf8 fs) (texts-not fs k (omega arith) e)

pub texts-at : (fs : Fields) (k : ℕ) → list_all is_utf8 fs ≡ true → is_utf8 (field fs k) ≡ true
unfolding field_at
texts-at [] k e = is_utf8-from_IsUtf8 [] IsUtf8-nil
texts-at (f ∷ fs) zero e = (and_parts (is_utf8 f) (list_all is_utf8 fs) e).0
texts-at (f ∷ fs) (suc k) e = texts-at fs k (and_parts (is_utf8 f) (list_all is_utf8 fs) e).1

pub not-text : (bs : List ℕ) → ¬ (IsUtf8 bs) → is_utf8 bs ≡ false
not-text bs never = elim (cases_Bool (is_utf8 bs)) [ inl h ↦ absurd (never (IsUtf8-from_is_utf8 bs h)) | inr e ↦ e ]

-- each field of a text of ASCII is a text
pub ascii-fields : (start : ℕ) (ends bytes : List ℕ) → IsAscii bytes → list_all is_utf8 (cut_from start ends bytes) ≡ true
unfolding cut_from
ascii-fields start [] bytes h = refl
ascii-fields start (e ∷ ends) bytes h =
    rw (is_utf8-from_IsUtf8 _ (IsUtf8-from_ascii _ (IsAscii-take _ (e - start) (IsAscii-drop bytes start h)))) (ascii-fields e ends bytes h)

pub field-text : (fs : Fields) (k : ℕ) → list_all is_utf8 fs ≡ true → IsUtf8 (field fs k)
field-text fs k e = IsUtf8-from_is_utf8 _ (texts-at fs k e)
