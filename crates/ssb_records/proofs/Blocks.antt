-- A text whose first part ends in a line feed: its records are those of the two parts.
use Rattle.std.proofs.Common.{◌≡◌, ◌≢◌, ◌==◌, ◌∙◌, ◌+◌, ◌<◌, ◌||◌, ◌&&◌, ℕ, suc, zero, Bool, true, false, cond, List, [], ◌∷◌, ◌++◌, length, Option, Some, None, ◌⊎◌, inl, inr, refl, sym, ap, arith, length-append}
use Rattle.std.proofs.lemmas.Bool.{false≢true}
use Rattle.std.proofs.lemmas.Bool.Decides.{nat_tests}
use Rattle.csv.specs.Machine.{next_record, step, ends_at_end, Read}
use Rattle.csv.specs.Reading.{records, records_from, records_next, strip_bom, is_bom}
use Rattle.csv.specs.declared.parser.State.{State}
use Rattle.csv.specs.declared.parser.Action.{Action}
use Rattle.csv.specs.declared.parser.Action.TheVariants as act
use Rattle.csv.specs.declared.parser.State.TheVariants as st
use Rattle.ssb_records.specs.Records.{bar_config, records_of}
use Rattle.ssb_records.proofs.Step.{next-less}

-- the last byte is a line feed
abbrev pub EndsLf : List ℕ → Type 0
EndsLf [] = ⊥
EndsLf (c ∷ []) = c ≡ 10
EndsLf (c ∷ d ∷ rest) = EndsLf (d ∷ rest)

-- a reader stands inside a record, or between two
abbrev pub IsIn : State → Type 0
IsIn s = (s ≡ st.StartField) ⊎ (s ≡ st.InField)

abbrev pub IsOut : State → Type 0
IsOut s = (s ≡ st.StartRecord) ⊎ (s ≡ st.AfterCr)

abbrev Move : Type 0
Move = State × Action

-- what a byte does inside a record, and between two
abbrev InMoves : Move → ℕ → Type 0
InMoves t c = ((t ≡ (st.StartField, act.EndField)) × (c ≢ 10)) ⊎ (((t ≡ (st.InField, act.Copy)) × (c ≢ 10)) ⊎ (((t ≡ (st.AfterCr, act.EndRecord)) × (c ≢ 10)) ⊎ (t ≡ (st.StartRecord, act.EndRecord))))

abbrev OutMoves : Move → ℕ → Type 0
OutMoves t c = (t ≡ (st.StartRecord, act.Skip)) ⊎ (((t ≡ (st.StartField, act.EndField)) × (c ≢ 10)) ⊎ ((t ≡ (st.InField, act.Copy)) × (c ≢ 10)))

in-by : (bar cr lf : Bool) (c : ℕ) → (c == 10) ≡ lf → (bar ≡ true → c ≢ 10) → (cr ≡ true → c ≢ 10) → (lf ≡ false → c ≢ 10)
    → InMoves (cond bar (st.StartField, act.EndField) (cond (cr || lf) (cond cr st.AfterCr st.StartRecord, act.EndRecord) (st.InField, act.Copy))) c
in-by true cr lf c e f g h = inl (refl, f refl)
in-by false true lf c e f g h = inr (inr (inl (refl, g refl)))
in-by false false true c e f g h = inr (inr (inr refl))
in-by false false false c e f g h = inr (inl (refl, h refl))

is-not : (c n : ℕ) → n ≢ 10 → (c == n) ≡ true → c ≢ 10
is-not c n d e is = d (grind (arith, nat_tests))

no-lf : (c : ℕ) → (c == 10) ≡ false → c ≢ 10
no-lf c e is = false≢true (sym e ∙ (rw is refl))

in-moves : (s : State) (c : ℕ) → IsIn s → InMoves (step bar_config s c) c
in-moves s c (inl e) = rw e (in-by (c == 124) (c == 13) (c == 10) c refl (is-not c 124 (λ e. omega arith)) (is-not c 13 (λ e. omega arith)) (no-lf c))
in-moves s c (inr e) = rw e (in-by (c == 124) (c == 13) (c == 10) c refl (is-not c 124 (λ e. omega arith)) (is-not c 13 (λ e. omega arith)) (no-lf c))

out-by : (bar cr lf : Bool) (c : ℕ) → (bar ≡ true → c ≢ 10) → (lf ≡ false → c ≢ 10)
    → OutMoves (cond (cr || lf) (st.StartRecord, act.Skip) (cond bar (st.StartField, act.EndField) (cond (cr || lf) (cond cr st.AfterCr st.StartRecord, act.EndRecord) (st.InField, act.Copy)))) c
out-by bar true lf c f h = inl refl
out-by bar false true c f h = inl refl
out-by true false false c f h = inr (inl (refl, f refl))
out-by false false false c f h = inr (inr (refl, h refl))

start-moves : (c : ℕ) → OutMoves (step bar_config st.StartRecord c) c
start-moves c = out-by (c == 124) (c == 13) (c == 10) c (is-not c 124 (λ e. omega arith)) (no-lf c)

skip-or : (b : Bool) (t : Move) (c : ℕ) → OutMoves t c → OutMoves (cond b (st.StartRecord, act.Skip) t) c
skip-or true t c m = inl refl
skip-or false t c m = m

out-moves : (s : State) (c : ℕ) → IsOut s → OutMoves (step bar_config s c) c
out-moves s c (inl e) = rw e (start-moves c)
out-moves s c (inr e) = rw e (skip-or (c == 10) (step bar_config st.StartRecord c) c (start-moves c))

-- what is left of the first part: nothing, or a text that ends in a line feed
abbrev pub At : State → List ℕ → Type 0
At s r = ((r ≡ []) × (s ≡ st.StartRecord)) ⊎ EndsLf r

-- a record of the first part is a record of the whole
record Both (b : List ℕ) (o whole : Option Read) : Type 0 where
  fields : List (List ℕ)
  state : State
  rest : List ℕ
  here : o ≡ Some (fields, state, rest)
  there : whole ≡ Some (fields, state, rest ++ b)
  out : IsOut state
  left : At state rest

inside : (s : State) (fs : List (List ℕ)) (f a b : List ℕ) → IsIn s → EndsLf a → Both b (next_record bar_config s fs f a) (next_record bar_config s fs f (a ++ b))
unfolding next_record
inside s fs f [] b is lf = absurd lf
inside s fs f (c ∷ []) b is lf = elim (in-moves s c is) [
  | inl m ↦ absurd (m.1 lf)
  | inr (inl m) ↦ absurd (m.1 lf)
  | inr (inr (inl m)) ↦ absurd (m.1 lf)
  | inr (inr (inr m)) ↦ record { fields = fs ++ (f ∷ []); state = st.StartRecord; rest = []; here = rw m refl; there = rw m refl; out = inl refl; left = inl (refl, refl) }
]
inside s fs f (c ∷ d ∷ more) b is lf = elim (in-moves s c is) [
  | inl m ↦ let h = inside st.StartField (fs ++ (f ∷ [])) [] (d ∷ more) b (inl refl) lf in rw (m.0) h
  | inr (inl m) ↦ let h = inside st.InField fs (f ++ (c ∷ [])) (d ∷ more) b (inr refl) lf in rw (m.0) h
  | inr (inr (inl m)) ↦ record { fields = fs ++ (f ∷ []); state = st.AfterCr; rest = d ∷ more; here = rw (m.0) refl; there = rw (m.0) refl; out = inr refl; left = inr lf }
  | inr (inr (inr m)) ↦ record { fields = fs ++ (f ∷ []); state = st.StartRecord; rest = d ∷ more; here = rw m refl; there = rw m refl; out = inl refl; left = inr lf }
]

-- the first part has no more record
abbrev Neither : List (List ℕ) → List ℕ → List ℕ → Option Read → Option Read → Type 0
Neither fs f b o whole = (o ≡ None) × (whole ≡ next_record bar_config st.StartRecord fs f b)

between : (s : State) (fs : List (List ℕ)) (f a b : List ℕ) → IsOut s → EndsLf a
    → Both b (next_record bar_config s fs f a) (next_record bar_config s fs f (a ++ b)) ⊎ Neither fs f b (next_record bar_config s fs f a) (next_record bar_config s fs f (a ++ b))
unfolding next_record
between s fs f [] b is lf = absurd lf
between s fs f (c ∷ []) b is lf = elim (out-moves s c is) [
  | inl m ↦ inr (rw m refl, rw m refl)
  | inr (inl m) ↦ absurd (m.1 lf)
  | inr (inr m) ↦ absurd (m.1 lf)
]
between s fs f (c ∷ d ∷ more) b is lf = elim (out-moves s c is) [
  | inl m ↦ let h = between st.StartRecord fs f (d ∷ more) b (inl refl) lf in rw m h
  | inr (inl m) ↦ let h = inside st.StartField (fs ++ (f ∷ [])) [] (d ∷ more) b (inl refl) lf in inl (rw (m.0) h)
  | inr (inr m) ↦ let h = inside st.InField fs (f ++ (c ∷ [])) (d ∷ more) b (inr refl) lf in inl (rw (m.0) h)
]

out-ends : (s : State) → IsOut s → ends_at_end s ≡ false
out-ends s (inl e) = rw e refl
out-ends s (inr e) = rw e refl

-- more fuel than bytes gives the same records
next-fuel : (m n : ℕ) (o : Option Read) (xs : List ℕ) → ((r : Read) → o ≡ Some r → (length r.2 < length xs) × (ends_at_end r.1 ≡ false))
    → ((s : State) (ys : List ℕ) → ends_at_end s ≡ false → length ys < length xs → records_from bar_config m s ys ≡ records_from bar_config n s ys)
    → records_next (records_from bar_config m) o ≡ records_next (records_from bar_config n) o
next-fuel m n None xs less more = refl
next-fuel m n (Some r) xs less more = let g = less r refl in ap (λ t. r.0 ∷ t) (more r.1 r.2 g.1 g.0)

pub fuel : (m n : ℕ) (s : State) (xs : List ℕ) → ends_at_end s ≡ false → length xs < m → length xs < n → records_from bar_config m s xs ≡ records_from bar_config n s xs
unfolding records_from
fuel zero n s xs e lm ln = absurd (omega arith)
fuel (suc m) zero s xs e lm ln = absurd (omega arith)
fuel (suc m) (suc n) s xs e lm ln =
    next-fuel m n (next_record bar_config s [] [] xs) xs (λ r is. next-less bar_config s xs r e is) (λ s2 ys e2 l. fuel m n s2 ys e2 (omega arith) (omega arith))

none-left : (m : ℕ) → records_from bar_config m st.StartRecord [] ≡ []
unfolding records_from next_record
none-left zero = refl
none-left (suc m) = refl

pub join-from : (m : ℕ) (s : State) (a b : List ℕ) → IsOut s → At s a → length (a ++ b) < m
    → records_from bar_config m s (a ++ b) ≡ records_from bar_config m s a ++ records_from bar_config m st.StartRecord b
unfolding records_from
join-from zero s a b out at lt = absurd (omega arith)
join-from (suc m) s a b out (inl e) lt = rw (e.0, e.1, none-left (suc m)) refl
join-from (suc m) s a b out (inr lf) lt = elim (between s [] [] a b out lf) [
  | inl h ↦
      let less = next-less bar_config s (a ++ b) (h.fields, h.state, h.rest ++ b) (out-ends s out) h.there in
      let size = less.0 in
      let n = length-append h.rest b in
      let more = join-from m h.state h.rest b h.out h.left (omega arith) in
      let same = fuel m (suc m) st.StartRecord b refl (omega arith) (omega arith) in
      rw (h.here, h.there, more, same) refl
  | inr h ↦ rw (h.0, h.1) refl
]

-- the records of a text that is cut behind a line feed
pub records-append : (a b : List ℕ) → EndsLf a → records bar_config (a ++ b) ≡ records bar_config a ++ records bar_config b
records-append a b lf =
    let n = length-append a b in
    let x = join-from (length (a ++ b) + 1) st.StartRecord a b (inl refl) (inr lf) (omega arith) in
    let y = fuel (length (a ++ b) + 1) (length a + 1) st.StartRecord a refl (omega arith) (omega arith) in
    let z = fuel (length (a ++ b) + 1) (length b + 1) st.StartRecord b refl (omega arith) (omega arith) in
    x ∙ (rw (y, z) refl)

last-never : (p q : Bool) → (p && q && false) ≡ false
last-never true true = refl
last-never true false = refl
last-never false q = refl

and-never : (p q : Bool) → (p && false && q) ≡ false
and-never true q = refl
and-never false q = refl

bom-never : (x y : ℕ) → is_bom x y 10 ≡ false
bom-never x y = last-never (x == 0xEF) (y == 0xBB)

strip-by : (b : Bool) (xs ys : List ℕ) → b ≡ false → cond b xs ys ≡ ys
strip-by true xs ys e = cc e
strip-by false xs ys e = refl

strip-three : (m : Bool) (x y : ℕ) (b : List ℕ) → m ≡ false → EndsLf (cond m [] (x ∷ y ∷ 10 ∷ [])) × (cond m b (x ∷ y ∷ 10 ∷ b) ≡ cond m [] (x ∷ y ∷ 10 ∷ []) ++ b)
strip-three true x y b e = cc e
strip-three false x y b e = (refl, refl)

strip-four : (m : Bool) (x y z w : ℕ) (a b : List ℕ) → EndsLf (w ∷ a) → EndsLf (cond m (w ∷ a) (x ∷ y ∷ z ∷ w ∷ a)) × (cond m (w ∷ a ++ b) (x ∷ y ∷ z ∷ w ∷ a ++ b) ≡ cond m (w ∷ a) (x ∷ y ∷ z ∷ w ∷ a) ++ b)
strip-four true x y z w a b lf = (lf, refl)
strip-four false x y z w a b lf = (lf, refl)

strip-lf : (b : List ℕ) → strip_bom (10 ∷ b) ≡ 10 ∷ b
unfolding strip_bom
strip-lf [] = refl
strip-lf (x ∷ []) = refl
strip-lf (x ∷ y ∷ b) = refl

line-alone : records bar_config (10 ∷ []) ≡ []
unfolding next_record records_from
line-alone = refl

-- a line feed before a text changes nothing
records-lf : (b : List ℕ) → records bar_config (10 ∷ b) ≡ records bar_config b
records-lf b = records-append (10 ∷ []) b refl ∙ (rw line-alone refl)

-- a text whose first part ends in a line feed, without its byte order mark, which stands in the first part; the second part takes the line feed with it, so that no mark is looked for there
strip-front : (a b : List ℕ) → EndsLf a → EndsLf (strip_bom a) × (strip_bom (a ++ b) ≡ strip_bom a ++ b)
unfolding strip_bom
strip-front [] b lf = absurd lf
strip-front (x ∷ []) [] lf = (lf, refl)
strip-front (x ∷ []) (y ∷ []) lf = (lf, refl)
strip-front (x ∷ []) (y ∷ z ∷ b) lf = let e : x ≡ 10 = lf in (lf, rw e refl)
strip-front (x ∷ y ∷ []) [] lf = (lf, refl)
strip-front (x ∷ y ∷ []) (z ∷ b) lf = let e : y ≡ 10 = lf in (lf, rw e (strip-by ((x == 0xEF) && (10 == 0xBB) && (z == 0xBF)) b (x ∷ 10 ∷ z ∷ b) (and-never (x == 0xEF) (z == 0xBF))))
strip-front (x ∷ y ∷ z ∷ []) b lf = let e : z ≡ 10 = lf in rw e (strip-three (is_bom x y 10) x y b (bom-never x y))
strip-front (x ∷ y ∷ z ∷ w ∷ a) b lf = strip-four (is_bom x y z) x y z w a b lf

pub records-of-append : (a b : List ℕ) → EndsLf a → records_of (a ++ b) ≡ records_of a ++ records_of (10 ∷ b)
records-of-append a b lf =
    let s = strip-front a b lf in
    rw (s.1, strip-lf b, records-lf b) (records-append (strip_bom a) b s.0)

-- no byte, no record
pub no-records : records_of [] ≡ []
unfolding strip_bom records_from next_record
no-records = refl

-- a line feed alone is no record
pub no-lines : records_of (10 ∷ []) ≡ []
no-lines = ap (records bar_config) (strip-lf []) ∙ line-alone
