-- Where a file is cut, and the ranges that come of it.
use Rattle.std.proofs.Common.{◌≡◌, ◌∙◌, ◌≤◌, ◌<◌, ◌+◌, ◌-◌, ◌*◌, ◌/◌, ◌++◌, [], ◌∷◌, ℕ, suc, List, Option, Some, slice_get, length, length-append, map, take, drop, get_or, refl, sym, ap, subst, arith}
use Rattle.std.proofs.Math.Seq.{take-length}
use Rattle.std.proofs.Math.Nat.{suc-mul, mul-le-mul_right, mul-div-le}
use Rattle.std.proofs.lemmas.List.{take_more, map-append}
use Rattle.std.proofs.lemmas.Nat.{le-div}
use Rattle.ssb_lanes.specs.Sections.{AreSpans, IsDivided, Reach, StandAt, TellPlaces, endless}
use Rattle.ssb_lanes.specs.declared.spans.Span.{Span}

-- a range has a byte at least, where there is one for each
pub some-size : (len count : ℕ) → 0 < count → count ≤ len → 0 < len / count
some-size len count pos enough = let h = le-div 1 len count pos (omega (arith, enough)) in omega (arith, h)

pub cut-inside : (len count k : ℕ) → k ≤ count → k * (len / count) ≤ len
cut-inside len count k le =
    let h = mul-le-mul_right (len / count) le in
    let all = mul-div-le len count in
    omega (arith, h, all)

pub next-cut : (k size : ℕ) → (k + 1) * size ≡ k * size + size
next-cut k size = let e : k + 1 ≡ suc k = omega arith in subst (λ n. n * size ≡ k * size + size) (sym e) (suc-mul k size)

pub reach-more : (from : ℕ) (ss : List Span) (to : ℕ) (s : Span) → Reach from ss to → s.start ≡ to → 0 < s.size → Reach from (ss ++ s ∷ []) (to + s.size)
reach-more from [] to s h at some = (at ∙ sym h, some, ap (λ n. n + s.size) h)
reach-more from (t ∷ ss) to s h at some = (h.0, h.1, reach-more (from + t.size) ss to s h.2 at some)

-- one range more of those before a place
pub sizes-more : (spans : List Span) (k : ℕ) (d : Span) (sizes : List ℕ) (n : ℕ) → k < length spans → n ≡ (get_or spans k d).size → sizes ≡ map (λ s. s.size) (take k spans)
    → sizes ++ n ∷ [] ≡ map (λ s. s.size) (take (k + 1) spans)
sizes-more spans k d sizes n below is same = rw (take_more spans k d below, map-append (λ s. s.size) (take k spans) (get_or spans k d ∷ []), is, same) refl

-- the size of the first range, and those of the others
pub first-and-others : (spans : List Span) (d first : Span) (sizes : List ℕ) → 0 < length spans → first ≡ get_or spans 0 d → sizes ≡ map (λ s. s.size) (take (length spans - 1) (drop 1 spans))
    → first.size ∷ sizes ≡ map (λ s. s.size) spans
first-and-others [] d first sizes some is same = absurd (omega (arith, some))
first-and-others (s ∷ ss) d first sizes some is same =
    let others : take (suc (length ss) - 1) ss ≡ ss = ap (λ n. take n ss) (omega arith) ∙ take-length ss in
    ap (λ t. t.size ∷ sizes) is ∙ ap (λ ns. s.size ∷ ns) (same ∙ ap (map (λ t. t.size)) others)

pub some-range : (len : ℕ) (spans : List Span) → AreSpans len spans → 0 < length spans
some-range len spans are = let count = ap length are.all ∙ length-append are.before (are.last ∷ []) in omega (arith, count)

pub one-size : {F : Type 0} (place : F → Option ℕ) → IsDivided place (endless ∷ []) []
one-size place =
    let span : Span = record { start = 0; size = endless } in
    record {
      len = 0;
      spans = span ∷ [];
      ranges = record { before = []; last = span; all = refl; reach = refl; in_file = λ some. some; no_end = refl };
      same = refl;
      stand = λ tells. refl;
    }

-- one handle more stands at its range
pub stand-more : {F : Type 0} (place : F → Option ℕ) (spans : List Span) (k : ℕ) (d : Span) (files : List F) (file : F) → k < length spans → (TellPlaces place → place file ≡ Some (get_or spans k d).start)
    → StandAt place (take k spans) files → StandAt place (take (k + 1) spans) (files ++ file ∷ [])
stand-more place spans k d files file below at stand = λ tells.
    rw (take_more spans k d below, map-append (λ s. Some s.start) (take k spans) (get_or spans k d ∷ []), map-append place files (file ∷ []), at tells, stand tells) refl

pub later-ranges : (spans : List Span) → 0 < length spans → take (length spans - 1) (drop 1 spans) ≡ drop 1 spans
later-ranges [] some = refl
later-ranges (s ∷ ss) some = ap (λ n. take n ss) (omega arith) ∙ take-length ss

-- the first range begins at a file's first byte
first-range : (len : ℕ) (spans : List Span) → AreSpans len spans → (s : Span) × (ss : List Span) × (spans ≡ s ∷ ss) × (s.start ≡ 0)
first-range len spans are = here are.before are.last are.all are.reach
  where
    here : (before : List Span) (last : Span) → spans ≡ before ++ last ∷ [] → Reach 0 before last.start → (s : Span) × (ss : List Span) × (spans ≡ s ∷ ss) × (s.start ≡ 0)
    here [] last e r = (last, [], e, sym r)
    here (b ∷ bs) last e r = (b, bs ++ last ∷ [], e, r.0)

-- a handle that stands there, before those that stand at the other ranges' first bytes
pub all-stand : {F : Type 0} (place : F → Option ℕ) (len : ℕ) (spans : List Span) (file : F) (later : List F) → AreSpans len spans → StandAt place (drop 1 spans) later → place file ≡ Some 0 → StandAt place spans (file ∷ later)
all-stand place len spans file later are stand at tells =
    let r = first-range len spans are in
    let others : map place later ≡ map (λ (s : Span). Some s.start) r.1 = stand tells ∙ ap (λ ss. map (λ (s : Span). Some s.start) (drop 1 ss)) r.2 in
    (λ k. (at ∙ ap Some (sym r.3)) k ∷ others k) ∙ sym (ap (map (λ (s : Span). Some s.start)) r.2)

-- the file of some handles of which this is the first
pub same-file : {F : Type 0} (first file : F) (later : List F) → slice_get (first ∷ later) 0 ≡ Some file → first ≡ file
same-file first file later e = cc e
