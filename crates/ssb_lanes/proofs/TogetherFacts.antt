-- Sources that are read side by side: why they stop, said of the bytes given and of all bytes.
use Rattle.std.proofs.Common.{◌≡◌, ◌∙◌, ◌<◌, ◌++◌, ◌∷◌, ℕ, List, [], IfSome, Option, length, length-append, take, drop, sym, ap, subst, arith, append_assoc}
use Rattle.std.proofs.lemmas.List.{append-nil}
use Rattle.ssb_lanes.specs.Assembly.{Halts}
use Rattle.ssb_records.specs.CutShort.{IfRead}
use Rattle.ssb_records.specs.Giving.{given_since}
use Rattle.ssb_records.specs.Intake.{Refuses, Stops, StopsBy, StopsIn}
use Rattle.ssb_load.specs.Subject.{RefusesRow, Subject, judge}
use Rattle.ssb_lanes.specs.Lane.{IsRead}
use Rattle.ssb_records.specs.Records.{Fields, records_of}
use Rattle.ssb_records.specs.declared.fault.LoadFault.{LoadFault}
use Rattle.ssb_records.specs.declared.fault.LoadFault.TheVariants as load
use Rattle.ssb_records.proofs.LineRecords.{first-records}
use Rattle.ssb_records.proofs.TakingAll.{always, grows, holds-of, later-is, since-is}

-- where nothing was given before, all bytes count
pub since-none : (base all : List ℕ) → base ≡ [] → given_since base all ≡ all
since-none base all none = since-is base all all (ap (λ t. t ++ all) (sym none))

pub grows-none : (base all : List ℕ) → base ≡ [] → all ≡ base ++ given_since base all
grows-none base all none = grows base all all (ap (λ t. t ++ all) (sym none))

-- why sources stop, of the bytes given
pub halts-fails : (s : Subject) (bytes : List ℕ) (e : LoadFault) → Halts s bytes e → StopsBy (judge s) bytes e
halts-fails s bytes (load.Record f n) h = subst (λ t. RefusesRow s (records_of t) f n) (append-nil bytes) (h [])
halts-fails s bytes (load.BadCatalog f n) h = absurd h
halts-fails s bytes (load.Read n) h = h
halts-fails s bytes load.Memory h = tt

-- and of all bytes, of which these are a beginning
pub halts-in : (s : Subject) (bytes more all : List ℕ) (e : LoadFault) → all ≡ bytes ++ more → Halts s bytes e → StopsIn (judge s) all e
halts-in s bytes more all (load.Record f n) is h = subst (λ t. RefusesRow s (records_of t) f n) (sym is) (h more)
halts-in s bytes more all (load.BadCatalog f n) is h = absurd h
halts-in s bytes more all (load.Read n) is h =
    let front = first-records h.lines (h.rest ++ more) h.cut.whole in
    (records_of h.lines, front.0, ap records_of (is ∙ ap (λ t. t ++ more) h.cut.split ∙ append_assoc h.lines h.rest more) ∙ front.1, h.good, h.number)
halts-in s bytes more all load.Memory is h = tt

-- why they stop, of both, where nothing was given before
pub stops-of : {J : Type 0} (given : J → List ℕ) (whole : J → Option (List ℕ)) (s : Subject) (before after : J) (e : LoadFault) → given before ≡ [] → Halts s (given after) e
    → (now : Option (List ℕ)) → now ≡ whole before → IfSome now (λ all. take (length (given after)) all ≡ given after) → Stops given whole (judge s) before after e
stops-of given whole s before after e none halts now same begins = record {
  fails = subst (λ t. StopsBy (judge s) t e) (sym (since-none _ _ none)) (halts-fails s (given after) e halts);
  told = always (whole before) _ (λ all known.
      let front = holds-of now (λ w. take (length (given after)) w ≡ given after) all (same ∙ known) begins in
      subst (λ t. StopsIn (judge s) t e) (sym (since-none _ all none)) (halts-in s (given after) (drop (length (given after)) all) all e (later-is all (given after) front) halts));
}

-- a refusal is no failed read
pub no-read : (s : Subject) (rs : List Fields) (e : LoadFault) (P : ℕ → Type 0) → Refuses (judge s) rs e → IfRead e P
no-read s rs (load.Record f n) P h = tt
no-read s rs (load.BadCatalog f n) P h = tt
no-read s rs (load.Read n) P h = absurd h
no-read s rs load.Memory P h = tt

-- what holds of a failed read that is never told
pub never-read : (e : LoadFault) (P : Type 0) → IfRead e (λ n. ⊥) → IfRead e (λ n. P)
never-read (load.Record f n) P h = tt
never-read (load.BadCatalog f n) P h = tt
never-read (load.Read n) P h = absurd h
never-read load.Memory P h = tt

-- what holds at any rate
pub whenever-read : (e : LoadFault) (P : Type 0) → P → IfRead e (λ n. P)
whenever-read (load.Record f n) P h = tt
whenever-read (load.BadCatalog f n) P h = tt
whenever-read (load.Read n) P h = h
whenever-read load.Memory P h = tt

-- of a failed read that is told only of one
pub of-read : (e : LoadFault) (P : Type 0) → IsRead e → IfRead e (λ n. P) → P
of-read (load.Record f n) P is h = absurd is
of-read (load.BadCatalog f n) P is h = absurd is
of-read (load.Read n) P is h = h
of-read load.Memory P is h = absurd is

pub read-through : (told e : LoadFault) (P : Type 0) → IfRead told (λ n. IsRead e) → IfRead e (λ n. P) → IfRead told (λ n. P)
read-through (load.Record f n) e P is h = tt
read-through (load.BadCatalog f n) e P is h = tt
read-through (load.Read n) e P is h = of-read e P is h
read-through load.Memory e P is h = tt

-- a count that rose is above nothing
pub more-ends : (before after : ℕ) → before < after → 0 < after
more-ends before after more = omega (arith, more)

-- a list that has one item more is longer
pub one-more : {A : Type 0} (old now : List A) (x : A) → now ≡ old ++ x ∷ [] → length old < length now
one-more old now x e =
    let n = length-append old (x ∷ []) in
    let l = ap length e in
    omega (arith, n, l)
