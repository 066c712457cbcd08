-- Tickets that make a batch, and what a part knows of them.
use Rattle.std.proofs.Common.{◌≡◌, ◌∙◌, ◌++◌, ◌∷◌, [], ◌+◌, ◌-◌, ◌<◌, ◌≤◌, ◌&&◌, ◌||◌, ℕ, Bool, true, false, true≢false, not, nat_eq, List, length, take, drop, get_or, None, Some, refl, sym, ap, subst, arith}
use Rattle.std.specs.Prelude.{if◌then◌else◌}
use Rattle.std.specs.List.{AllByRecursion, IsDistinct, list_all, list_any}
use Rattle.std.specs.List.{All}
use Rattle.std.proofs.lemmas.Bool.{eqb-true}
use Rattle.std.proofs.lemmas.List.{map-append, take-append-drop, take_more, take_rest}
use Rattle.std.proofs.lemmas.List.Elements.{All-cons, All-nil}
use Rattle.ssb_pipeline.specs.Part.{PartState, has, is_handed_out}
use Rattle.ssb_pipeline.specs.Tickets.{TicketState, batch_fault, has_twice, is_alike, morsels_of}
use Rattle.ssb_pipeline.specs.declared.batch.BatchFault.{BatchFault}
use Rattle.ssb_pipeline.specs.declared.batch.BatchFault.TheVariants as fault
use Rattle.ssb_pipeline.proofs.RangeFacts.{itself}

pub both-left : (a b : Bool) → (a && b) ≡ true → a ≡ true
both-left true b h = refl
both-left false b h = absurd (true≢false (sym h))

pub both-right : (a b : Bool) → (a && b) ≡ true → b ≡ true
both-right true b h = h
both-right false b h = absurd (true≢false (sym h))

pub neither-left : (a b : Bool) → (a || b) ≡ false → a ≡ false
neither-left true b h = absurd (true≢false h)
neither-left false b h = refl

pub neither-right : (a b : Bool) → (a || b) ≡ false → b ≡ false
neither-right true b h = absurd (true≢false h)
neither-right false b h = h

-- ---- which tickets they are

pub some-none : (f : BatchFault) → Some f ≡ None → ⊥
some-none f e = cc

-- a batch has tickets that are alike, and no morsel twice
pub batch-apart : (ts : List TicketState) → batch_fault ts ≡ None → has_twice (morsels_of ts) ≡ false
batch-apart [] e = refl
batch-apart (t ∷ ts) e = by (list_all (is_alike t) ts) (has_twice (morsels_of (t ∷ ts))) e
  where
    by : (a b : Bool) → (if not a then Some fault.MixedTickets else (if b then Some fault.MorselTwice else None)) ≡ None → b ≡ false
    by true true h = absurd (some-none _ h)
    by true false h = refl
    by false b h = absurd (some-none _ h)

lacks-all : (i : ℕ) (is : List ℕ) → has is i ≡ false → AllByRecursion (λ y. nat_eq i y ≡ false) is
lacks-all i [] h = tt
lacks-all i (x ∷ is) h = (neither-left (nat_eq i x) (has is i) h, lacks-all i is (neither-right (nat_eq i x) (has is i) h))

pub twice-distinct : (is : List ℕ) → has_twice is ≡ false → IsDistinct nat_eq is
unfolding IsDistinct
twice-distinct [] h = tt
twice-distinct (i ∷ is) h = (lacks-all i is (neither-left (has is i) (has_twice is) h), twice-distinct is (neither-right (has is i) (has_twice is) h))

-- ---- the first of them

-- a morsel is that of one of them
pub any-morsel : (i : ℕ) (ts : List TicketState) → list_any (λ t. nat_eq i t.morsel) ts ≡ list_any (nat_eq i) (morsels_of ts)
any-morsel i [] = refl
any-morsel i (t ∷ ts) = ap (λ b. nat_eq i t.morsel || b) (any-morsel i ts)

-- the first one, and those behind it
abbrev pub behind : List TicketState → List TicketState
behind ts = take (length ts - 1) (drop 1 ts)

pub split-first : (ts : List TicketState) (t : TicketState) → 1 ≤ length ts → t ≡ get_or ts 0 t → ts ≡ t ∷ behind ts
split-first [] t le is = absurd (omega (arith, le))
split-first (u ∷ us) t le is = ap (λ v. v ∷ us) (sym is) ∙ ap (λ vs. t ∷ vs) (sym (take_rest (u ∷ us) 1))

module _ (ts : List TicketState) (t : TicketState) (i : ℕ) (le : 1 ≤ length ts) (first : t ≡ get_or ts 0 t) (is : i ≡ t.morsel) where
  twice-first : has_twice (morsels_of ts) ≡ (list_any (λ u. nat_eq i u.morsel) (behind ts) || has_twice (morsels_of (behind ts)))
  twice-first = ap (λ us. has_twice (morsels_of us)) (split-first ts t le first) ∙ ap (λ b. b || has_twice (morsels_of (behind ts))) (ap (λ k. list_any (nat_eq k) (morsels_of (behind ts))) (sym is) ∙ sym (any-morsel i (behind ts)))

  pub twice-here : list_any (λ u. nat_eq i u.morsel) (behind ts) ≡ true → has_twice (morsels_of ts) ≡ true
  twice-here h = twice-first ∙ ap (λ b. b || has_twice (morsels_of (behind ts))) h

  pub twice-behind : list_any (λ u. nat_eq i u.morsel) (behind ts) ≡ false → has_twice (morsels_of ts) ≡ has_twice (morsels_of (behind ts))
  twice-behind h = twice-first ∙ ap (λ b. b || has_twice (morsels_of (behind ts))) h

-- the fault of some tickets, where there is one
pub fault-is : (ts : List TicketState) (t : TicketState) (b : Bool) → 1 ≤ length ts → t ≡ get_or ts 0 t → list_all (is_alike t) (behind ts) ≡ true → has_twice (morsels_of ts) ≡ b
    → batch_fault ts ≡ (if b then Some fault.MorselTwice else None)
fault-is ts t b le first alike twice = ap batch_fault at ∙ by (list_all (is_alike t) (behind ts)) (has_twice (morsels_of (t ∷ behind ts))) alike (ap (λ us. has_twice (morsels_of us)) (sym at) ∙ twice)
  where
    at : ts ≡ t ∷ behind ts
    at = split-first ts t le first

    by : (x y : Bool) → x ≡ true → y ≡ b → (if not x then Some fault.MixedTickets else (if y then Some fault.MorselTwice else None)) ≡ (if b then Some fault.MorselTwice else None)
    by true y h e = ap (λ z. if z then Some fault.MorselTwice else None) e
    by false y h e = absurd (true≢false (sym h))

-- the morsels of one ticket more
pub one-further : (ts : List TicketState) (place : ℕ) (t : TicketState) → place < length ts → t ≡ get_or ts place t → morsels_of (take (place + 1) ts) ≡ morsels_of (take place ts) ++ t.morsel ∷ []
one-further ts place t there is =
    ap morsels_of (take_more ts place t there ∙ ap (λ u. take place ts ++ u ∷ []) (sym is)) ∙ map-append (λ u. u.morsel) (take place ts) (t ∷ [])

all-first : (P : ℕ → Type 0) (xs ys : List ℕ) → AllByRecursion P (xs ++ ys) → AllByRecursion P xs
all-first P [] ys h = tt
all-first P (x ∷ xs) ys h = (h.0, all-first P xs ys h.1)

distinct-first : (xs ys : List ℕ) → IsDistinct nat_eq (xs ++ ys) → IsDistinct nat_eq xs
unfolding IsDistinct
distinct-first [] ys d = tt
distinct-first (x ∷ xs) ys d = (all-first (λ y. nat_eq x y ≡ false) xs ys d.0, distinct-first xs ys d.1)

-- where no morsel stands twice, none does among the first
pub first-distinct : (ts : List TicketState) (n : ℕ) → has_twice (morsels_of ts) ≡ false → IsDistinct nat_eq (morsels_of (take n ts))
first-distinct ts n apart =
    let all = ap morsels_of (sym (take-append-drop n ts)) ∙ map-append (λ u. u.morsel) (take n ts) (drop n ts) in
    distinct-first (morsels_of (take n ts)) (morsels_of (drop n ts)) (subst (IsDistinct nat_eq) all (twice-distinct (morsels_of ts) apart))

-- what holds of their morsels holds of each
pub of-each : (P : ℕ → Type 0) (ts : List TicketState) → ((i : ℕ) → has (morsels_of ts) i ≡ true → P i) → All (λ t. P t.morsel) ts
of-each P [] h = All-nil (λ t. P t.morsel)
of-each P (t ∷ ts) h =
    All-cons (λ u. P u.morsel) t ts (h t.morsel (ap (λ b. b || has (morsels_of ts) t.morsel) (itself t.morsel t.morsel refl)))
    (of-each P ts (λ i m. h i (ap (λ b. nat_eq i t.morsel || b) m ∙ or-true (nat_eq i t.morsel))))
  where
    or-true : (b : Bool) → (b || true) ≡ true
    or-true true = refl
    or-true false = refl

-- ---- what the part knows of them

pub sizes-are : (p : PartState) (t : TicketState) (ts : List TicketState) → list_all (is_handed_out p) (t ∷ ts) ≡ true → t.size ≡ p.size
sizes-are p t ts h = eqb-true t.size p.size (both-left (nat_eq t.size p.size) (has p.handed t.morsel) (both-left (is_handed_out p t) (list_all (is_handed_out p) ts) h))

pub member : (i x : ℕ) (is : List ℕ) (P : ℕ → Type 0) → P x → (has is i ≡ true → P i) → has (x ∷ is) i ≡ true → P i
member i x is P here rest h = by (nat_eq i x) refl h
  where
    by : (b : Bool) → nat_eq i x ≡ b → (b || has is i) ≡ true → P i
    by true e r = subst P (sym (eqb-true i x e)) here
    by false e r = rest r

pub each-handed : (p : PartState) (ts : List TicketState) → list_all (is_handed_out p) ts ≡ true → (i : ℕ) → has (morsels_of ts) i ≡ true → has p.handed i ≡ true
each-handed p [] h i m = absurd (true≢false (sym m))
each-handed p (t ∷ ts) h i m =
    member i t.morsel (morsels_of ts) (λ k. has p.handed k ≡ true) (both-right (nat_eq t.size p.size) (has p.handed t.morsel) (both-left (is_handed_out p t) (list_all (is_handed_out p) ts) h))
    (each-handed p ts (both-right (is_handed_out p t) (list_all (is_handed_out p) ts) h) i) m

pub none-back : (p : PartState) (ts : List TicketState) → list_any (λ t. has p.returned t.morsel) ts ≡ false → (i : ℕ) → has (morsels_of ts) i ≡ true → has p.returned i ≡ false
none-back p [] h i m = absurd (true≢false (sym m))
none-back p (t ∷ ts) h i m =
    member i t.morsel (morsels_of ts) (λ k. has p.returned k ≡ false) (neither-left (has p.returned t.morsel) (list_any (λ u. has p.returned u.morsel) ts) h)
    (none-back p ts (neither-right (has p.returned t.morsel) (list_any (λ u. has p.returned u.morsel) ts) h) i) m

-- a ticket alone
pub one-handed : (p : PartState) (t : TicketState) → t.size ≡ p.size → has p.handed t.morsel ≡ true → is_handed_out p t ≡ true
one-handed p t size handed = ap (λ b. b && has p.handed t.morsel) (itself t.size p.size size) ∙ handed

pub all-of-one : (b : Bool) → (b && true) ≡ b
all-of-one true = refl
all-of-one false = refl

pub any-of-one : (b : Bool) → (b || false) ≡ b
any-of-one true = refl
any-of-one false = refl
