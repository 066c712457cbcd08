-- A part of a source, read piece by piece.
use Rattle.std.proofs.Common.{◌≡◌, ◌++◌, ◌∙◌, ◌<◌, ℕ, Bool, true, false, List, [], ◌⊎◌, inl, inr, length, sym, ap, subst, append_assoc, Option}
use Rattle.std.proofs.lemmas.Bool.{false≢true}
use Rattle.std.proofs.lemmas.List.{append-nil}
use Rattle.ssb_records.specs.CutShort.{IfRead}
use Rattle.ssb_records.specs.Giving.{given_since}
use Rattle.ssb_records.specs.Lines.{EndsInLf}
use Rattle.ssb_lanes.specs.Part.{HaltsAt, IsBrokenOff, IsPart, RefusesPart}
use Rattle.ssb_records.specs.Pieces.{IsPassedOn, IsPiece, IsBroken, IsOver, handed, piece_of, rest_of}
use Rattle.ssb_load.specs.TableIntake.{subject_of}
use Rattle.ssb_records.specs.declared.fault.LoadFault.{LoadFault}
use Rattle.ssb_records.specs.declared.fault.LoadFault.TheVariants as load
use Rattle.ssb_lanes.specs.declared.part.Part.{Part}
use Rattle.ssb_records.specs.declared.pieces.Pieces.{Pieces}
use Rattle.ssb_records.proofs.TakingAll.{grows, never-over, since-is, told-of}

-- The pieces handed out so far were taken; only behind the last a part of a line waits.
pub record IsReadingPart {S : Type 0} (given : S → List ℕ) (failures ends : S → ℕ) (all : S → Option (List ℕ)) (pieces : Pieces S) (source_then source_now : S) (old now : Part) : Type 0 where
  pub follows : IsPassedOn given failures ends pieces source_now
  pub whole : all source_now ≡ all source_then
  pub begun : pieces.begun.value ≡ source_then
  pub same : subject_of now.rows ≡ subject_of old.rows
  pub part : IsPart now (handed pieces)
  pub tail : (now.tail.items ≡ []) ⊎ IsOver pieces

-- where a piece came, none waits from before
pub no-tail : (p : Part) (over : Type 0) (piece : List ℕ) → 0 < length piece → (over → piece ≡ []) → (p.tail.items ≡ []) ⊎ over → p.tail.items ≡ []
no-tail p over piece some none (inl e) = e
no-tail p over piece some none (inr o) = absurd (never-over over piece some none o)

pub tail-next : {S : Type 0} (p : Part) (q : Pieces S) → IsPiece true q → (EndsInLf (piece_of q) → p.tail.items ≡ []) → (p.tail.items ≡ []) ⊎ IsOver q
tail-next p q hands none = elim (hands.1) [ inl lf ↦ inl (none lf) | inr over ↦ inr over ]

clash : {b : Bool} → b ≡ true → b ≡ false → ⊥
clash t f = false≢true (sym f ∙ t)

over-of : {S : Type 0} (q : Pieces S) → q.failed ≡ false → (IsOver q ⊎ IsBroken q) → IsOver q
over-of q going (inl o) = o
over-of q going (inr b) = absurd (clash b.failed going)

broken-of : {S : Type 0} (q : Pieces S) → q.failed ≡ true → (IsOver q ⊎ IsBroken q) → IsBroken q
broken-of q failed (inl o) = absurd (clash failed o.failed)
broken-of q failed (inr b) = b

nothing-more : (old piece done : List ℕ) → done ≡ old ++ piece → piece ≡ [] → done ≡ old
nothing-more old piece done e none = e ∙ ap (λ t. old ++ t) none ∙ append-nil old

-- the source has ended, and all that it gave was taken
pub all-taken : {S : Type 0} (now : Part) (p q : Pieces S) (base given : List ℕ) → q.failed ≡ false → IsPiece false q → handed q ≡ handed p ++ piece_of q → given ≡ base ++ (handed q ++ rest_of q)
    → IsPart now (handed p) → IsPart now (given_since base given)
all-taken now p q base given going hands split told part =
    let o = over-of q going hands.1 in
    let is : given_since base given ≡ handed p =
    since-is base (handed q ++ rest_of q) given told ∙ ap (λ t. handed q ++ t) o.rest ∙ append-nil (handed q) ∙ nothing-more (handed p) (piece_of q) (handed q) split hands.0 in
    subst (IsPart now) (sym is) part

-- a read failed behind what was taken
pub broken-off : {S : Type 0} (now : Part) (p q : Pieces S) (base given : List ℕ) → q.failed ≡ true → IsPiece false q → handed q ≡ handed p ++ piece_of q → given ≡ base ++ (handed q ++ rest_of q)
    → (p.stopped ≡ true → q.failed ≡ p.failed) → (now.tail.items ≡ []) ⊎ IsOver p → IsPart now (handed p) → IsBrokenOff now (given_since base given)
broken-off now p q base given failed hands split told same tail part = record {
  done = handed p;
  rest = rest_of q;
  split = since-is base (handed q ++ rest_of q) given told ∙ ap (λ t. t ++ rest_of q) (nothing-more (handed p) (piece_of q) (handed q) split hands.0);
  part = part;
  tail = elim tail [ inl e ↦ e | inr o ↦ absurd (clash failed (same o.stopped ∙ o.failed)) ];
  rest_part = (broken-of q failed hands.1).rest;
}

-- a record of a piece was refused, whatever was read behind the piece
pub halts-more : (p : Part) (bytes more : List ℕ) (e : LoadFault) → RefusesPart p bytes e → HaltsAt p (bytes ++ more) e
halts-more p bytes more (load.Record f n) h = record {
  lines = h.lines;
  rest = h.rest ++ more;
  split = ap (λ t. t ++ more) h.split ∙ append_assoc p.head.items (h.lines ++ h.rest) more ∙ ap (λ t. p.head.items ++ t) (append_assoc h.lines h.rest more);
  whole = h.whole;
  cut = h.cut;
  head = h.head;
  refuses = h.refuses;
}
halts-more p bytes more (load.BadCatalog f n) h = absurd h
halts-more p bytes more (load.Read n) h = absurd h
halts-more p bytes more load.Memory h = tt

pub halts-given : {S : Type 0} (now : Part) (p q : Pieces S) (base given : List ℕ) (e : LoadFault) → handed q ≡ handed p ++ piece_of q → given ≡ base ++ (handed q ++ rest_of q)
    → RefusesPart now (handed p ++ piece_of q) e → HaltsAt now (given_since base given) e
halts-given now p q base given e split told h =
    subst (λ bytes. HaltsAt now bytes e) (ap (λ t. t ++ rest_of q) (sym split) ∙ sym (since-is base (handed q ++ rest_of q) given told)) (halts-more now (handed p ++ piece_of q) (rest_of q) e h)

-- a refused piece is no failed read
pub read-never : (p : Part) (bytes : List ℕ) (e : LoadFault) (P : ℕ → Type 0) → RefusesPart p bytes e → IfRead e P
read-never p bytes (load.Record f n) P h = tt
read-never p bytes (load.BadCatalog f n) P h = tt
read-never p bytes (load.Read n) P h = absurd h
read-never p bytes load.Memory P h = tt

-- what a source gave since the pieces began stands behind what it gave before
pub grows-since : {S : Type 0} (given : S → List ℕ) (failures ends : S → ℕ) (q : Pieces S) (now base : S) → IsPassedOn given failures ends q now → q.begun.value ≡ base → given now ≡ given base ++ given_since (given base) (given now)
grows-since given failures ends q now base f begun = grows (given base) (handed q ++ rest_of q) (given now) (told-of given failures ends q now base f begun)

-- the source met its end
pub ends-since : {S : Type 0} (given : S → List ℕ) (failures ends : S → ℕ) (q : Pieces S) (now base : S) → IsPassedOn given failures ends q now → q.begun.value ≡ base → q.failed ≡ false → IsPiece false q → ends base < ends now
ends-since given failures ends q now base f begun going hands =
    let o = over-of q going hands.1 in
    subst (λ s. ends s < ends now) begun (f.over o.stopped going)

-- a read of the source failed
pub fails-since : {S : Type 0} (given : S → List ℕ) (failures ends : S → ℕ) (q : Pieces S) (now base : S) → IsPassedOn given failures ends q now → q.begun.value ≡ base → q.failed ≡ true → failures base < failures now
fails-since given failures ends q now base f begun failed = subst (λ s. failures s < failures now) begun (f.broken failed)
