-- A part of a source, piece by piece.
use Rattle.std.specs.List.{list_any}
use Rattle.std.specs.Prelude.{IfErr, OnOk, Result, Ok, Err}
use Rattle.std.proofs.Common.{◌==◌, ◌||◌, ◌≡◌, ◌++◌, ◌∙◌, ℕ, Bool, true, false, List, [], ◌∷◌, ◌⊎◌, inl, inr, refl, sym, ap, subst, append_assoc}
use Rattle.std.proofs.lemmas.Bool.{false≢true, or_parts}
use Rattle.std.proofs.lemmas.List.{append-nil}
use Rattle.ssb_load.specs.Subject.{judge}
use Rattle.ssb_records.specs.Intake.{Refuses}
use Rattle.ssb_records.specs.Lines.{AreLines, EndsInLf, IsCutAtLf, IsPartOfLine}
use Rattle.ssb_lanes.specs.Part.{RefusesPart, IsPart}
use Rattle.ssb_records.specs.Records.{Fields, records_of}
use Rattle.ssb_load.specs.TableIntake.{IsLoading, subject_of}
use Rattle.ssb_records.specs.declared.fault.LoadFault.{LoadFault}
use Rattle.ssb_records.specs.declared.fault.LoadFault.TheVariants as load
use Rattle.ssb_lanes.specs.declared.part.Part.{Part}
use Rattle.ssb_records.proofs.Blocks.{EndsLf, no-lines, records-of-append}
use Rattle.ssb_records.proofs.LineRecords.{ends-lf, lf-behind}

-- a line feed before some lines, or before none, ends in a line feed
pub led-lines : (lines : List ℕ) → AreLines lines → EndsInLf (10 ∷ lines)
led-lines lines (inl e) = record { front = []; split = ap (λ t. 10 ∷ t) e }
led-lines lines (inr l) = lf-behind (10 ∷ []) lines l

pub more-lines : (lines more : List ℕ) → AreLines lines → AreLines more → AreLines (lines ++ more)
more-lines lines more h (inr m) = inr (lf-behind lines more m)
more-lines lines more (inl e) (inl f) = inl (rw (e, f) refl)
more-lines lines more (inr l) (inl f) = inr (subst EndsInLf (sym (ap (λ t. lines ++ t) f ∙ append-nil lines)) l)

-- the records of lines behind lines
pub lines-behind : (lines more : List ℕ) → AreLines lines → records_of (10 ∷ (lines ++ more)) ≡ records_of (10 ∷ lines) ++ records_of (10 ∷ more)
lines-behind lines more h = records-of-append (10 ∷ lines) more (ends-lf (10 ∷ lines) (led-lines lines h))

pub part-none : (p : Part) → IsLoading p.rows [] → p.head.items ≡ [] → p.is_cut ≡ false → p.tail.items ≡ [] → IsPart p []
part-none p h head cut tail = record {
  lines = [];
  split = rw (head, tail) refl;
  whole = inl refl;
  taken = rw no-lines h;
  tail = let P : List ℕ → Type 0 = IsPartOfLine in subst P (sym tail) refl;
  head = inl (record { cut = cut; head = (let P : List ℕ → Type 0 = IsPartOfLine in subst P (sym head) refl); none = refl; tail = tail });
}

clash : {b : Bool} → b ≡ true → b ≡ false → ⊥
clash t f = false≢true (sym f ∙ t)

-- a part whose head is whole
pub head-of : (p : Part) (done : List ℕ) → p.is_cut ≡ true → IsPart p done → EndsInLf p.head.items
head-of p done cut h = elim (h.head) [ inl u ↦ absurd (clash cut u.cut) | inr e ↦ e.1 ]

-- the head, lines, and a text that is cut behind more lines
split-more : (done head lines tail text front rest : List ℕ) → done ≡ head ++ (lines ++ tail) → tail ≡ [] → text ≡ front ++ rest → done ++ text ≡ head ++ ((lines ++ front) ++ rest)
split-more done head lines tail text front rest e none cut =
    rw (e, none, append-nil lines, cut) (append_assoc head lines (front ++ rest) ∙ ap (λ t. head ++ t) (sym (append_assoc lines front rest)))

-- the lines of a text were taken, and the rest kept
pub took-lines : (old now : Part) (done text front rest : List ℕ) → old.is_cut ≡ true → old.tail.items ≡ [] → IsCutAtLf text front rest → now.is_cut ≡ old.is_cut → now.head ≡ old.head → now.tail.items ≡ old.tail.items ++ rest
    → ((good : List Fields) → IsLoading old.rows good → IsLoading now.rows (good ++ records_of (10 ∷ front))) → IsPart old done → IsPart now (done ++ text)
took-lines old now done text front rest cut none at same_cut same tail taken h = record {
  lines = h.lines ++ front;
  split = rw (same, tail, none) (split-more done old.head.items h.lines old.tail.items text front rest h.split none at.split);
  whole = more-lines h.lines front h.whole at.whole;
  taken = rw (lines-behind h.lines front h.whole) (taken (records_of (10 ∷ h.lines)) h.taken);
  tail = let P : List ℕ → Type 0 = IsPartOfLine in subst P (sym (tail ∙ ap (λ t. t ++ rest) none)) at.part;
  head = inr (same_cut ∙ cut, rw same (head-of old done cut h));
}

-- a record of the lines was refused
pub refused-lines : (old now : Part) (e : LoadFault) (done text front rest : List ℕ) → old.is_cut ≡ true → old.tail.items ≡ [] → IsCutAtLf text front rest → now.is_cut ≡ old.is_cut → now.head ≡ old.head
    → subject_of now.rows ≡ subject_of old.rows → ((good more : List Fields) → IsLoading old.rows good → Refuses (judge (subject_of old.rows)) (good ++ (records_of (10 ∷ front) ++ more)) e) → IsPart old done → RefusesPart now (done ++ text) e
refused-lines old now (load.Record f n) done text front rest cut none at same_cut same subject refuses h = record {
  lines = h.lines ++ front;
  rest = rest;
  split = rw same (split-more done old.head.items h.lines old.tail.items text front rest h.split none at.split);
  whole = more-lines h.lines front h.whole at.whole;
  cut = same_cut ∙ cut;
  head = rw same (head-of old done cut h);
  refuses = λ more. subst (λ s. Refuses (judge s) (records_of (10 ∷ (h.lines ++ front)) ++ more) (load.Record f n)) (sym subject)
      (rw (lines-behind h.lines front h.whole, append_assoc (records_of (10 ∷ h.lines)) (records_of (10 ∷ front)) more) (refuses (records_of (10 ∷ h.lines)) more h.taken));
}
refused-lines old now (load.BadCatalog f n) done text front rest cut none at same_cut same subject refuses h = absurd (refuses (records_of (10 ∷ h.lines)) [] h.taken)
refused-lines old now (load.Read n) done text front rest cut none at same_cut same subject refuses h = absurd (refuses (records_of (10 ∷ h.lines)) [] h.taken)
refused-lines old now load.Memory done text front rest cut none at same_cut same subject refuses h = tt

-- a refusal for memory
pub refuses-memory : (p : Part) (bytes : List ℕ) (e : LoadFault) → e ≡ load.Memory → RefusesPart p bytes e
refuses-memory p bytes e is = subst (RefusesPart p bytes) (sym is) tt

-- what is behind the last line feed of a text that ends in one
back-of : (front rest : List ℕ) → EndsLf (front ++ rest) → (rest ≡ []) ⊎ EndsLf rest
back-of [] rest lf = inr lf
back-of (x ∷ []) [] lf = inl refl
back-of (x ∷ []) (y ∷ ys) lf = inr lf
back-of (x ∷ y ∷ front) rest lf = back-of (y ∷ front) rest lf

or-last : (a b : Bool) → b ≡ true → (a || b) ≡ true
or-last true b e = refl
or-last false b e = e

has-lf : (xs : List ℕ) → EndsLf xs → list_any (λ x. x == 10) xs ≡ true
has-lf [] lf = absurd lf
has-lf (c ∷ []) lf = let is : c ≡ 10 = lf in rw is refl
has-lf (c ∷ d ∷ rest) lf = or-last (c == 10) (list_any (λ x. x == 10) (d ∷ rest)) (has-lf (d ∷ rest) lf)

no-back : (front rest : List ℕ) → [] ≡ front ++ rest → rest ≡ []
no-back [] rest e = sym e
no-back (x ∷ front) rest e = cc e

pub ends-none : (xs front rest : List ℕ) → AreLines xs → xs ≡ front ++ rest → IsPartOfLine rest → rest ≡ []
ends-none xs front rest (inl none) e part = no-back front rest (sym none ∙ e)
ends-none xs front rest (inr lf) e part = elim (back-of front rest (subst EndsLf e (ends-lf xs lf))) [ inl none ↦ none | inr l ↦ absurd (clash (has-lf rest l) part) ]

ends-in-lf : (xs : List ℕ) → EndsLf xs → EndsInLf xs
ends-in-lf [] lf = absurd lf
ends-in-lf (c ∷ []) lf = record { front = []; split = ap (λ x. x ∷ []) lf }
ends-in-lf (c ∷ d ∷ rest) lf = let h = ends-in-lf (d ∷ rest) lf in record { front = c ∷ h.front; split = ap (λ t. c ∷ t) h.split }

-- what is behind the front of a text that ends in a line feed
pub back-lines : (xs front rest : List ℕ) → EndsInLf xs → xs ≡ front ++ rest → AreLines rest
back-lines xs front rest lf e = elim (back-of front rest (subst EndsLf e (ends-lf xs lf))) [ inl none ↦ inl none | inr l ↦ inr (ends-in-lf rest l) ]

-- ---- the first line feed

pub part-append : (xs ys : List ℕ) → IsPartOfLine xs → IsPartOfLine ys → IsPartOfLine (xs ++ ys)
part-append [] ys h k = k
part-append (x ∷ xs) ys h k = let parts = or_parts (x == 10) (list_any (λ x. x == 10) xs) h in rw (parts.0) (part-append xs ys parts.1 k)

-- the head is whole now
pub cut-head : (old now : Part) (done front : List ℕ) → old.is_cut ≡ false → IsPart old done → now.is_cut ≡ true → now.head.items ≡ old.head.items ++ front → now.rows ≡ old.rows → now.tail ≡ old.tail → EndsInLf front
    → IsPart now (done ++ front)
cut-head old now done front cut h now_cut head rows tail lf = elim (h.head) [
  | inl u ↦ record {
    lines = [];
    split = rw (h.split, u.none, u.tail, append-nil old.head.items, head, tail) (rw (u.tail, append-nil (old.head.items ++ front)) refl);
    whole = inl refl;
    taken = rw (rows, ← u.none) h.taken;
    tail = rw tail h.tail;
    head = inr (now_cut, subst EndsInLf (sym head) (lf-behind old.head.items front lf));
  }
  | inr e ↦ absurd (clash (e.0) cut)
]

-- ---- results

pub on-ok : {T E P Q : Type 0} (r : Result T E) → (P → Q) → OnOk r P → OnOk r Q
on-ok (Ok x) f h = f h
on-ok (Err e) f h = tt

pub if-err : {T E : Type 0} (r : Result T E) (P Q : E → Type 0) → ((e : E) → P e → Q e) → IfErr r P → IfErr r Q
if-err (Ok x) P Q f h = tt
if-err (Err e) P Q f h = f e h
