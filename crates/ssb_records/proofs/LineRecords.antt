-- The records of a text that is cut behind a line feed.
use Rattle.std.proofs.Common.{◌≡◌, ◌++◌, ◌∙◌, ℕ, List, [], ◌∷◌, ◌⊎◌, inl, inr, refl, sym, ap, subst, append_assoc}
use Rattle.ssb_records.specs.CutShort.{IsCutShort, IsGoodBefore}
use Rattle.ssb_records.specs.Lines.{AreLines, EndsInLf}
use Rattle.ssb_records.specs.Records.{Fields, records_of}
use Rattle.ssb_records.proofs.Blocks.{EndsLf, no-records, records-of-append}

ends-at : (front : List ℕ) → EndsLf (front ++ 10 ∷ [])
ends-at [] = refl
ends-at (c ∷ []) = refl
ends-at (c ∷ d ∷ rest) = ends-at (d ∷ rest)

pub ends-lf : (xs : List ℕ) → EndsInLf xs → EndsLf xs
ends-lf xs e = subst EndsLf (sym e.split) (ends-at e.front)

pub lf-behind : (xs ys : List ℕ) → EndsInLf ys → EndsInLf (xs ++ ys)
lf-behind xs ys e = record { front = xs ++ e.front; split = ap (λ t. xs ++ t) e.split ∙ sym (append_assoc xs e.front (10 ∷ [])) }

-- what stands before a piece: nothing before the first, and the line feed that ended the one before; no piece comes after the last
abbrev pub Lead : List ℕ → List ℕ → Type 0 → Type 0
Lead before handed over = ((before ≡ []) × (handed ≡ [])) ⊎ ((before ≡ 10 ∷ []) × (EndsInLf handed ⊎ over))

pub records-lead : (before handed piece : List ℕ) (over : Type 0) → Lead before handed over → (over → ⊥) → records_of (handed ++ piece) ≡ records_of handed ++ records_of (before ++ piece)
records-lead before handed piece over (inl e) never = rw (e.0, e.1, no-records) refl
records-lead before handed piece over (inr (e, inl l)) never = rw e (records-of-append handed piece (ends-lf handed l))
records-lead before handed piece over (inr (e, inr o)) never = absurd (never o)

-- the records of whole lines are the first of the text's
pub first-records : (lines rest : List ℕ) → AreLines lines → (more : List Fields) × (records_of (lines ++ rest) ≡ records_of lines ++ more)
first-records lines rest (inl e) = (records_of rest, rw (e, no-records) refl)
first-records lines rest (inr l) = (records_of (10 ∷ rest), records-of-append lines rest (ends-lf lines l))

-- where a read failed, the records before it are good
pub good-lines : (AreGood : List Fields → Type 0) (bytes : List ℕ) (n : ℕ) → IsCutShort AreGood bytes n → IsGoodBefore AreGood (records_of bytes) n
good-lines AreGood bytes n h =
    let f = first-records h.lines h.rest h.cut.whole in
    (records_of h.lines, f.0, ap records_of h.cut.split ∙ f.1, h.good, h.number)
