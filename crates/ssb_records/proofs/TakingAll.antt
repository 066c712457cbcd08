-- A source on its way, piece by piece.
use Rattle.std.proofs.Common.{◌≡◌, ◌++◌, ◌∙◌, ◌+◌, ◌<◌, ℕ, Bool, true, false, List, [], ◌⊎◌, inl, inr, length, take, drop, refl, sym, ap, subst, arith, append_assoc, Option, None, Some, IfSome}
use Rattle.std.proofs.lemmas.Bool.{false≢true}
use Rattle.std.proofs.Math.Seq.{drop-length}
use Rattle.std.proofs.lemmas.List.{append-nil, drop_at, take-append-drop}
use Rattle.ssb_records.specs.Giving.{given_since}
use Rattle.ssb_records.specs.CutShort.{IfRead, IsCutShort, IsGoodBefore}
use Rattle.ssb_records.specs.Intake.{AreGood, Judge, Refuses, Stops, StopsBy, StopsIn}
use Rattle.ssb_records.specs.Lines.{AreLines, EndsInLf, IsPartOfLine}
use Rattle.ssb_records.specs.Pieces.{IsPassedOn, IsPiece, IsOver, IsBroken, begun_with, handed, piece_of, rest_of}
use Rattle.ssb_records.specs.Records.{Fields, records_of}
use Rattle.ssb_records.specs.declared.fault.LoadFault.{LoadFault}
use Rattle.ssb_records.specs.declared.fault.LoadFault.TheVariants as load
use Rattle.ssb_records.specs.declared.pieces.Pieces.{Pieces}
use Rattle.ssb_records.proofs.LineRecords.{Lead, first-records, lf-behind, records-lead}

pub since-is : (base x all : List ℕ) → all ≡ base ++ x → given_since base all ≡ x
since-is base x all e = ap (drop (length base)) e ∙ drop_at base x (length base) refl

pub grows : (base x all : List ℕ) → all ≡ base ++ x → all ≡ base ++ given_since base all
grows base x all e = e ∙ ap (λ t. base ++ t) (sym (since-is base x all e))

pub always : (o : Option (List ℕ)) (P : List ℕ → Type 0) → ((x : List ℕ) → o ≡ Some x → P x) → IfSome o P
always None P f = tt
always (Some x) P f = f x refl

pub holds-of : (o : Option (List ℕ)) (P : List ℕ → Type 0) (x : List ℕ) → o ≡ Some x → IfSome o P → P x
holds-of None P x e h = cc e
holds-of (Some y) P x e h = let is : y ≡ x = cc in subst P is h

-- The pieces handed out so far were taken.
pub record IsTaking {S T B : Type 0} (given : S → List ℕ) (failures ends : S → ℕ) (all : S → Option (List ℕ)) (subject : T → B) (stands : T → List Fields → Type 0)
    (pieces : Pieces S) (before : List ℕ) (source_then source_now : S) (old now : T) : Type 0 where
  pub follows : IsPassedOn given failures ends pieces source_now
  pub whole : all source_now ≡ all source_then
  pub begun : pieces.begun.value ≡ source_then
  pub same : subject now ≡ subject old
  pub held : stands now (records_of (handed pieces))
  pub lead : Lead before (handed pieces) (IsOver pieces)

-- what a source gave since the pieces began
pub told-of : {S : Type 0} (given : S → List ℕ) (failures ends : S → ℕ) (q : Pieces S) (now base : S) → IsPassedOn given failures ends q now → begun_with q ≡ base → given now ≡ given base ++ (handed q ++ rest_of q)
told-of given failures ends q now base f begun = f.told ∙ ap (λ s. given s ++ (handed q ++ rest_of q)) begun

-- ---- a record that is refused

-- a fault of the pieces handed out is one of the text, where they end in a line feed or the text ends with them
pub stays-refused : (s : Judge) (e : LoadFault) (before old piece more : List ℕ) (over : Type 0) → Lead before old over → (over → ⊥)
    → ((rest : List Fields) → Refuses s (records_of old ++ (records_of (before ++ piece) ++ rest)) e) → (EndsInLf (old ++ piece) ⊎ (more ≡ [])) → Refuses s (records_of ((old ++ piece) ++ more)) e
stays-refused s e before old piece more over lead never h (inl l) =
    let f = first-records (old ++ piece) more (inr l) in
    let is : records_of ((old ++ piece) ++ more) ≡ records_of old ++ (records_of (before ++ piece) ++ f.0) =
    f.1 ∙ ap (λ t. t ++ f.0) (records-lead before old piece over lead never) ∙ append_assoc (records_of old) (records_of (before ++ piece)) f.0 in
    subst (λ rs. Refuses s rs e) (sym is) (h f.0)
stays-refused s e before old piece more over lead never h (inr none) =
    let is : records_of ((old ++ piece) ++ more) ≡ records_of old ++ (records_of (before ++ piece) ++ []) =
    ap (λ t. records_of ((old ++ piece) ++ t)) none ∙ ap records_of (append-nil (old ++ piece)) ∙ records-lead before old piece over lead never
    ∙ ap (λ t. records_of old ++ t) (sym (append-nil (records_of (before ++ piece)))) in
    subst (λ rs. Refuses s rs e) (sym is) (h [])

pub refused-fails : (s : Judge) (e : LoadFault) (bytes : List ℕ) → Refuses s (records_of bytes) e → StopsBy s bytes e
refused-fails s (load.Record f n) bytes h = h
refused-fails s (load.BadCatalog f n) bytes h = h
refused-fails s (load.Read n) bytes h = absurd h
refused-fails s load.Memory bytes h = tt

pub refused-in : (s : Judge) (e : LoadFault) (bytes : List ℕ) → Refuses s (records_of bytes) e → StopsIn s bytes e
refused-in s (load.Record f n) bytes h = h
refused-in s (load.BadCatalog f n) bytes h = h
refused-in s (load.Read n) bytes h = absurd h
refused-in s load.Memory bytes h = tt

-- ---- all bytes, where they are told

-- all bytes are those given so far and those behind them
pub later-is : (all now : List ℕ) → take (length now) all ≡ now → all ≡ now ++ drop (length now) all
later-is all now e = sym (take-append-drop (length now) all) ∙ ap (λ t. t ++ drop (length now) all) e

-- what is behind the pieces handed out
pub all-is : (base done waits now all : List ℕ) → now ≡ base ++ (done ++ waits) → take (length now) all ≡ now → given_since base all ≡ done ++ (waits ++ drop (length now) all)
all-is base done waits now all e front =
    since-is base (done ++ (waits ++ drop (length now) all)) all
    (later-is all now front ∙ ap (λ t. t ++ drop (length now) all) e ∙ append_assoc base (done ++ waits) (drop (length now) all) ∙ ap (λ t. base ++ t) (append_assoc done waits (drop (length now) all)))

settled-later : (now all : List ℕ) → now ≡ all → drop (length now) all ≡ []
settled-later now all e = ap (λ n. drop (length n) all) e ∙ drop-length all

-- the bytes behind the pieces handed out: those that wait, and those that were not given
behind : {S : Type 0} (q : Pieces S) (now all : List ℕ) → (EndsInLf (piece_of q) ⊎ IsOver q) → (IsOver q → now ≡ all) → EndsInLf (piece_of q) ⊎ (rest_of q ++ drop (length now) all ≡ [])
behind q now all (inl l) h = inl l
behind q now all (inr o) h = inr (ap (λ t. t ++ drop (length now) all) o.rest ∙ settled-later now all (h o))

pub never-over : (over : Type 0) (piece : List ℕ) → 0 < length piece → (over → piece ≡ []) → over → ⊥
never-over over piece some none o = let e = ap length (none o) in omega (arith, some, e)

lines-end : (old piece more : List ℕ) → (EndsInLf piece ⊎ (more ≡ [])) → EndsInLf (old ++ piece) ⊎ (more ≡ [])
lines-end old piece more (inl l) = inl (lf-behind old piece l)
lines-end old piece more (inr e) = inr e

-- a refusal in a piece: of these bytes, which begin with the pieces
refused-bytes : (s : Judge) (e : LoadFault) (before old piece done more bytes : List ℕ) (over : Type 0) → Lead before old over → 0 < length piece → (over → piece ≡ []) → done ≡ old ++ piece → bytes ≡ done ++ more
    → ((rest : List Fields) → Refuses s (records_of old ++ (records_of (before ++ piece) ++ rest)) e) → (EndsInLf piece ⊎ (more ≡ [])) → Refuses s (records_of bytes) e
refused-bytes s e before old piece done more bytes over lead some none split is h ends =
    let P : List ℕ → Type 0 = λ t. Refuses s (records_of t) e in
    subst P (sym (is ∙ ap (λ t. t ++ more) split)) (stays-refused s e before old piece more over lead (never-over over piece some none) h (lines-end old piece more ends))

-- a refusal in a piece is one of all that the source gave
pub refused-given : {S : Type 0} (s : Judge) (e : LoadFault) (p q : Pieces S) (before base now : List ℕ) → Lead before (handed p) (IsOver p) → IsPiece true q → (IsOver p → piece_of q ≡ []) → handed q ≡ handed p ++ piece_of q
    → now ≡ base ++ (handed q ++ rest_of q) → ((rest : List Fields) → Refuses s (records_of (handed p) ++ (records_of (before ++ piece_of q) ++ rest)) e) → Refuses s (records_of (given_since base now)) e
refused-given s e p q before base now lead hands none split told h =
    refused-bytes s e before (handed p) (piece_of q) (handed q) (rest_of q) (given_since base now) (IsOver p) lead hands.0 none split (since-is base (handed q ++ rest_of q) now told) h
    (elim (hands.1) [ inl l ↦ inl l | inr o ↦ inr (o.rest) ])

-- a refusal in a piece is one of all bytes of the source, given and to come
pub refused-all : {S : Type 0} (s : Judge) (e : LoadFault) (p q : Pieces S) (before base now all : List ℕ) → Lead before (handed p) (IsOver p) → IsPiece true q → (IsOver p → piece_of q ≡ []) → handed q ≡ handed p ++ piece_of q
    → now ≡ base ++ (handed q ++ rest_of q) → ((rest : List Fields) → Refuses s (records_of (handed p) ++ (records_of (before ++ piece_of q) ++ rest)) e)
    → take (length now) all ≡ now → (IsOver q → now ≡ all) → Refuses s (records_of (given_since base all)) e
refused-all s e p q before base now all lead hands none split told h front over =
    refused-bytes s e before (handed p) (piece_of q) (handed q) (rest_of q ++ drop (length now) all) (given_since base all) (IsOver p) lead hands.0 none split
    (all-is base (handed q) (rest_of q) now all told front) h (behind q now all hands.1 over)

-- ---- a read that failed

clash : {b : Bool} → b ≡ true → b ≡ false → ⊥
clash t f = false≢true (sym f ∙ t)

lines-of : {S : Type 0} (p q : Pieces S) (before : List ℕ) → Lead before (handed p) (IsOver p) → q.failed ≡ true → (p.stopped ≡ true → q.failed ≡ p.failed) → AreLines (handed p)
lines-of p q before (inl e) failed same = inl e.1
lines-of p q before (inr (e, inl l)) failed same = inr l
lines-of p q before (inr (e, inr o)) failed same = absurd (clash failed (same o.stopped ∙ o.failed))

broken-of : {S : Type 0} (q : Pieces S) → q.failed ≡ true → (IsOver q ⊎ IsBroken q) → IsPartOfLine (rest_of q)
broken-of q failed (inl o) = absurd (clash failed o.failed)
broken-of q failed (inr b) = b.rest

same-front : (old piece done : List ℕ) → done ≡ old ++ piece → piece ≡ [] → done ≡ old
same-front old piece done e none = e ∙ ap (λ t. old ++ t) none ∙ append-nil old

pub stops-at : {S : Type 0} (s : Judge) (p q : Pieces S) (before base now : List ℕ) (n : ℕ) → Lead before (handed p) (IsOver p) → q.failed ≡ true → (p.stopped ≡ true → q.failed ≡ p.failed) → IsPiece false q
    → handed q ≡ handed p ++ piece_of q → now ≡ base ++ (handed q ++ rest_of q) → AreGood s (records_of (handed p)) → n ≡ length (records_of (handed p)) + 1 → IsCutShort (AreGood s) (given_since base now) n
stops-at s p q before base now n lead failed same hands split told good number = record {
  lines = handed p;
  rest = rest_of q;
  cut = record {
    split = since-is base (handed q ++ rest_of q) now told ∙ ap (λ t. t ++ rest_of q) (same-front (handed p) (piece_of q) (handed q) split hands.0);
    whole = lines-of p q before lead failed same;
    part = broken-of q failed hands.1;
  };
  good = good;
  number = number;
}

pub good-before : {S : Type 0} (s : Judge) (p q : Pieces S) (before base now all : List ℕ) (n : ℕ) → Lead before (handed p) (IsOver p) → q.failed ≡ true → (p.stopped ≡ true → q.failed ≡ p.failed) → IsPiece false q
    → handed q ≡ handed p ++ piece_of q → now ≡ base ++ (handed q ++ rest_of q) → AreGood s (records_of (handed p)) → n ≡ length (records_of (handed p)) + 1
    → take (length now) all ≡ now → IsGoodBefore (AreGood s) (records_of (given_since base all)) n
good-before s p q before base now all n lead failed same hands split told good number front =
    let f = first-records (handed p) (rest_of q ++ drop (length now) all) (lines-of p q before lead failed same) in
    let is = all-is base (handed q) (rest_of q) now all told front ∙ ap (λ t. t ++ (rest_of q ++ drop (length now) all)) (same-front (handed p) (piece_of q) (handed q) split hands.0) in
    (records_of (handed p), f.0, ap records_of is ∙ f.1, good, number)

-- ---- one piece more

pub over-settled : {S : Type 0} (given : S → List ℕ) (failures ends : S → ℕ) (q : Pieces S) (source : S) → IsPassedOn given failures ends q source → IsOver q → 0 < ends source
over-settled given failures ends q source f o = let h = f.over o.stopped o.failed in omega (arith, h)

pub piece-behind : {S : Type 0} (p q : Pieces S) → handed q ≡ handed p ++ piece_of q → IsPiece true q → EndsInLf (handed q) ⊎ IsOver q
piece-behind p q split hands = elim (hands.1) [ inl l ↦ inl (let P : List ℕ → Type 0 = EndsInLf in subst P (sym split) (lf-behind (handed p) (piece_of q) l)) | inr o ↦ inr o ]

pub follows-start : {S : Type 0} (given : S → List ℕ) (failures ends : S → ℕ) (p : Pieces S) (source : S) → handed p ≡ [] → rest_of p ≡ [] → p.stopped ≡ false → p.failed ≡ false → p.begun.value ≡ source
    → IsPassedOn given failures ends p source
follows-start given failures ends p source none waits going whole begun = record {
  told = sym (append-nil (given source)) ∙ ap (λ t. given source ++ t) (sym none ∙ sym (append-nil (handed p)) ∙ ap (λ t. handed p ++ t) (sym waits)) ∙ ap (λ s. given s ++ (handed p ++ rest_of p)) (sym begun);
  over = λ stopped broke. absurd (clash stopped going);
  broken = λ broke. absurd (clash broke whole);
  forth = (let e = ap failures begun in omega (arith, e), let e = ap ends begun in omega (arith, e));
  stops = λ broke. absurd (clash broke whole);
}

-- ---- the end

-- what holds of the bytes given holds of all, where these are known and were given
pub of-all : (old new : Option (List ℕ)) (given : List ℕ) (P : List ℕ → Type 0) → new ≡ old → IfSome new (λ all. given ≡ all) → P given → IfSome old P
of-all old None given P same all h = subst (λ w. IfSome w P) same tt
of-all old (Some xs) given P same all h = subst (λ w. IfSome w P) same (subst P all h)

-- ---- what the clauses say of the source

pub grows-of : {S : Type 0} (given : S → List ℕ) (failures ends : S → ℕ) (q : Pieces S) (now base : S) → IsPassedOn given failures ends q now → begun_with q ≡ base → given now ≡ given base ++ given_since (given base) (given now)
grows-of given failures ends q now base f begun = grows (given base) (handed q ++ rest_of q) (given now) (told-of given failures ends q now base f begun)

over-of : {S : Type 0} (q : Pieces S) → q.failed ≡ false → IsPiece false q → IsOver q
over-of q sound (none, inl o) = o
over-of q sound (none, inr b) = absurd (clash b.failed sound)

pub ended-since : {S : Type 0} (given : S → List ℕ) (failures ends : S → ℕ) (q : Pieces S) (now base : S) → IsPassedOn given failures ends q now → begun_with q ≡ base → q.failed ≡ false → IsPiece false q → ends base < ends now
ended-since {S = S} given failures ends q now base f begun sound hands = let P : S → Type 0 = λ s. ends s < ends now in subst P begun (f.over (over-of q sound hands).stopped sound)

pub broken-since : {S : Type 0} (given : S → List ℕ) (failures ends : S → ℕ) (q : Pieces S) (now base : S) → IsPassedOn given failures ends q now → begun_with q ≡ base → q.failed ≡ true → failures base < failures now
broken-since {S = S} given failures ends q now base f begun broke = let P : S → Type 0 = λ s. failures s < failures now in subst P begun (f.broken broke)

-- all that was given is in the pieces handed out
pub all-handed : {S : Type 0} (given : S → List ℕ) (failures ends : S → ℕ) (p q : Pieces S) (now base : S) → IsPassedOn given failures ends q now → begun_with q ≡ base → handed q ≡ handed p ++ piece_of q → q.failed ≡ false → IsPiece false q
    → handed p ≡ given_since (given base) (given now)
all-handed given failures ends p q now base f begun split sound hands =
    let is = since-is (given base) (handed q ++ rest_of q) (given now) (told-of given failures ends q now base f begun) in
    sym (is ∙ ap (λ t. handed q ++ t) (over-of q sound hands).rest ∙ append-nil (handed q) ∙ same-front (handed p) (piece_of q) (handed q) split hands.0)

pub memory-stops : {S : Type 0} (given : S → List ℕ) (known : S → Option (List ℕ)) (s : Judge) (before after : S) → Stops given known s before after load.Memory
memory-stops given known s before after = record {
  fails = tt;
  told = always (known before) (λ all. StopsIn s (given_since (given before) all) load.Memory) (λ x e. tt);
}

pub refused-unread : (s : Judge) (records : List Fields) (e : LoadFault) (P : ℕ → Type 0) → Refuses s records e → IfRead e P
refused-unread s records (load.Record f n) P h = tt
refused-unread s records (load.BadCatalog f n) P h = tt
refused-unread s records (load.Read n) P h = absurd h
refused-unread s records load.Memory P h = tt
