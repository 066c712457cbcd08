-- Batches: what a hold hands out, and what it takes back.
use Rattle.std.proofs.Common.{◌≡◌, ◌∙◌, ◌++◌, ◌∷◌, [], ◌&&◌, ◌||◌, ◌+◌, ◌<◌, ◌≤◌, ◌⊎◌, inl, inr, ℕ, Bool, true, false, true≢false, not, nat_eq, List, Result, map, length, refl, sym, ap, subst, arith, length-append, append_assoc}
use Rattle.std.specs.Prelude.{Vec}
use Rattle.std.specs.List.{All, filter, list_all, list_any}
use Rattle.std.specs.declared.alloc.Global.{Global}
use Rattle.std.proofs.lemmas.Bool.{eqb-true, false_from_ne_true}
use Rattle.std.proofs.lemmas.List.{append-nil, map-append}
use Rattle.std.proofs.lemmas.List.Elements.{All-cons, All-head, All-nil, All-push, All-tail, All-weaker, filter-append}
use Rattle.std.proofs.lemmas.List.Sorted.{list_any-IsPermutation}
use Rattle.ssb_pipeline.specs.Batch.{BringsBatch, GetsTickets, HandsBatch, IsBatchWith, IsDueTo, Settles, without_all}
use Rattle.ssb_pipeline.specs.Part as event
use Rattle.ssb_pipeline.specs.Part.{AreOut, Follows, GivesBack, GivesUp, HandsNext, HandsNone, IsLawfulPart, IsOut, IsOutIn, IsReached, IsTaken, IsTicketOf, IsUnrefused, PartState, Ran, Returns, Runs, handed_between, has, is_awaited, is_handed_out, is_open}
use Rattle.ssb_pipeline.specs.Rule.{BringsOwn, Knows, putter, taker}
use Rattle.ssb_pipeline.specs.State.{PartialState}
use Rattle.ssb_pipeline.specs.Tickets.{TicketState, morsels_of}
use Rattle.ssb_pipeline.specs.Work.{AllBack}
use Rattle.ssb_pipeline.proofs.BatchFacts.{member, one-handed}
use Rattle.ssb_pipeline.proofs.Holds.{same-none}
use Rattle.ssb_pipeline.proofs.Later.{follows_after, hand-follows, is-back}
use Rattle.ssb_pipeline.proofs.Numbers.{either-is, filter-all, filter-has, filter-none, filter-same, head-has, known, lacks-first, lacks-rest, neither-is, not-both, not-is, only-one, tail-has}
use Rattle.ssb_pipeline.proofs.RunFacts.{given-handed, ran-follows, ran_after, ran_one, ran_self, up-ran}
use Rattle.ssb_pipeline.proofs.SetFacts.{has-either, has-last, has-left}

-- ---- tickets of a part

of-later : (p q : PartState) (t : TicketState) → Follows q p → IsTicketOf p t → IsTicketOf q t
of-later p q t f o = record { job = o.job ∙ sym f.job; size = o.size ∙ sym f.size }

all-of-later : (p q : PartState) (ts : List TicketState) → Follows q p → All (IsTicketOf p) ts → All (IsTicketOf q) ts
all-of-later p q ts f all = All-weaker (IsTicketOf p) (IsTicketOf q) (λ t o. of-later p q t f o) ts all

-- what holds of each ticket's morsel holds of the morsels
each-morsel : (P : ℕ → Type 0) (ts : List TicketState) → All (λ t. P t.morsel) ts → (k : ℕ) → has (morsels_of ts) k ≡ true → P k
each-morsel P [] all k there = absurd (true≢false (sym there))
each-morsel P (t ∷ ts) all k there = member k t.morsel (morsels_of ts) P (All-head (λ u. P u.morsel) t ts all) (each-morsel P ts (All-tail (λ u. P u.morsel) t ts all) k) there

both-true : (a b : Bool) → a ≡ true → b ≡ true → (a && b) ≡ true
both-true a b e f = rw (e, f) refl

-- ---- handing out

-- what was handed out so far
pub record Handing (ts : List TicketState) (place : ℕ) (p q : PartState) : Type 0 where
  pub ran : Ran p q
  pub between : handed_between p q ≡ morsels_of ts
  pub returned : q.returned ≡ p.returned
  pub given : q.given ≡ p.given
  pub of : All (IsTicketOf q) ts
  pub many : length ts ≡ place

pub handing-none : (p : PartState) → Handing [] 0 p p
handing-none p = record { ran = ran_self p; between = same-none p p refl; returned = refl; given = refl; of = All-nil (IsTicketOf p); many = refl }

module _ (ts : List TicketState) (place : ℕ) (p q r : PartState) (t : TicketState) (h : Handing ts place p q) (n : HandsNext t q r) where
  new : has p.handed t.morsel ≡ false
  new = false_from_ne_true (has p.handed t.morsel) (λ there. not-both (has q.handed t.morsel) ((ran-follows p q h.ran).handed t.morsel there) n.hands.fresh)

  only-new : filter (λ i. not (has p.handed i)) (t.morsel ∷ []) ≡ t.morsel ∷ []
  only-new = rw new refl

  further : handed_between p r ≡ morsels_of ts ++ t.morsel ∷ []
  further =
      ap (λ (y : PartState). filter (λ i. not (has p.handed i)) y.handed) n.hands.after ∙ filter-append (λ i. not (has p.handed i)) q.handed (t.morsel ∷ [])
      ∙ ap (λ l. l ++ filter (λ i. not (has p.handed i)) (t.morsel ∷ [])) h.between ∙ ap (λ l. morsels_of ts ++ l) only-new

  later : Follows r q
  later = hand-follows t.morsel q r n.hands

  ran : Ran p r
  ran = ran_after p q r h.ran (ran_one (event.hand t.morsel) q r n.hands)

  returned : r.returned ≡ p.returned
  returned = ap (λ (y : PartState). y.returned) n.hands.after ∙ h.returned

  given : r.given ≡ p.given
  given = ap (λ (y : PartState). y.given) n.hands.after ∙ h.given

  of : IsTicketOf r t
  of = record {
    job = ap (λ (u : TicketState). u.job) n.ticket ∙ sym (ap (λ (y : PartState). y.job) n.hands.after);
    size = ap (λ (u : TicketState). u.size) n.ticket ∙ sym (ap (λ (y : PartState). y.size) n.hands.after);
  }

  pub handing-more : Handing (ts ++ t ∷ []) (place + 1) p r
  handing-more = record {
    ran = ran;
    between = further ∙ sym (map-append (λ u. u.morsel) ts (t ∷ []));
    returned = returned;
    given = given;
    of = All-push (IsTicketOf r) ts t (all-of-later q r ts later h.of) of;
    many = let l = length-append ts (t ∷ []) in let m = h.many in omega (arith, l, m);
  }

  -- those before were handed out, so that this one is not among them
  apart : (k : ℕ) → has (morsels_of ts) k ≡ true → has (t.morsel ∷ []) k ≡ false
  apart k there = false_from_ne_true (has (t.morsel ∷ []) k) (λ is.
      let out = (filter-has (λ i. not (has p.handed i)) q.handed k (subst (λ l. has l k ≡ true) (sym h.between) there)).0 in
      not-both (has q.handed t.morsel) (subst (λ i. has q.handed i ≡ true) (only-one t.morsel k is) out) n.hands.fresh)

  -- its ticket is given up
  module _ (law : IsLawfulPart p) (s : PartState) (up : GivesUp t r s) where
    awaited : is_awaited r t ≡ true
    awaited =
        let there : has r.handed t.morsel ≡ true = ap (λ (y : PartState). has y.handed t.morsel) n.hands.after ∙ last q.handed t.morsel in
        let fresh : has r.returned t.morsel ≡ false = ap (λ l. has l t.morsel) returned ∙ false_from_ne_true (has p.returned t.morsel) (λ back. not-both (has p.handed t.morsel) (law.among t.morsel back) new) in
        both-true (is_handed_out r t) (not (has r.returned t.morsel)) (one-handed r t of.size there) (ap not fresh)
      where
        last : (xs : List ℕ) (i : ℕ) → has (xs ++ i ∷ []) i ≡ true
        last [] i = head-has i []
        last (x ∷ xs) i = tail-has x (xs ++ i ∷ []) i (last xs i)

    pub handed-lost : (room : ℕ) → place ≤ room → HandsBatch room ts p s
    handed-lost room le =
        let g = up.awaited awaited in record {
          ran = ran_after p r s ran (up-ran t r s up);
          many = let m = h.many in omega (arith, m, le);
          lost = t.morsel ∷ [];
          between = ap (λ (y : PartState). filter (λ i. not (has p.handed i)) y.handed) g.after ∙ further;
          apart = apart;
          gave = inl (ap (λ (y : PartState). y.gave_up) g.after);
          returned = ap (λ (y : PartState). y.returned) g.after ∙ returned;
          given = λ k. elim (known (nat_eq k t.morsel)) [
            | inl e ↦
                let is = eqb-true k t.morsel e in
                subst (λ i. has s.given i ≡ true) (sym is) g.given.here ∙ sym (ap (λ b. b || has p.given k) (subst (λ i. has (t.morsel ∷ []) i ≡ true) (sym is) (head-has t.morsel [])))
            | inr e ↦ g.given.others k (λ is. lacks-first t.morsel [] k (ap (λ b. b || false) e) is) ∙ ap (λ l. has l k) given ∙ sym (ap (λ b. (b || false) || has p.given k) e)
          ];
          of = all-of-later q s ts (follows_after s r q (ran-follows r s (up-ran t r s up)) later) h.of;
          ended = λ none. inl (ap (λ (y : PartState). y.gave_up) g.after);
        }

module _ (ts : List TicketState) (place room : ℕ) (p q : PartState) (le : place ≤ room) (h : Handing ts place p q) where
  whole : ((ts ≡ []) → event.IsEnded q) → HandsBatch room ts p q
  whole ended = record {
    ran = h.ran;
    many = let m = h.many in omega (arith, m, le);
    lost = [];
    between = h.between ∙ sym (append-nil (morsels_of ts));
    apart = λ k there. refl;
    gave = inr refl;
    returned = h.returned;
    given = λ k. ap (λ l. has l k) h.given;
    of = h.of;
    ended = ended;
  }

  -- no ticket comes any more
  pub handed-ended : (r : PartState) → HandsNone q r → HandsBatch room ts p r
  handed-ended r n = subst (HandsBatch room ts p) (sym n.same) (whole (λ none. n.ended))

  -- the batch is full
  pub handed-full : 0 < place → HandsBatch room ts p q
  handed-full lt = whole (λ none. absurd (let l = ap length none in let m = h.many in omega (arith, l, m, lt)))

-- what the pass knows after the hold
module _ (batch room : ℕ) (ts : List TicketState) (v w : Knows) (x q : PartState) (le : room ≤ batch) (h : HandsBatch room ts x q) where
  between-new : (k : ℕ) → has (morsels_of ts ++ h.lost) k ≡ true → has x.handed k ≡ false
  between-new k there = not-is (has x.handed k) (filter-has (λ i. not (has x.handed i)) q.handed k (subst (λ l. has l k ≡ true) (sym h.between) there)).1

  right-has : (xs ys : List ℕ) (k : ℕ) → has ys k ≡ true → has (xs ++ ys) k ≡ true
  right-has [] ys k there = there
  right-has (x ∷ xs) ys k there = tail-has x (xs ++ ys) k (right-has xs ys k there)

  -- what was given up in it was handed out in it
  pub hands-own : BringsOwn (taker v x) q
  hands-own = record {
    returned = λ k is old. absurd (not-both (has x.returned k) (ap (λ l. has l k) (sym h.returned) ∙ is) old);
    given = λ k is old. inr (between-new k (right-has (morsels_of ts) h.lost k (either (has h.lost k) (has x.given k) (sym (h.given k) ∙ is) old)));
  }
    where
      either : (a b : Bool) → (a || b) ≡ true → b ≡ false → a ≡ true
      either true b e f = refl
      either false b e f = absurd (not-both b e f)

  module _ (out : AreOut x v.due) (law : IsLawfulPart x) (reached : IsReached x) where
    open-in : (k : ℕ) → has x.returned k ≡ false → has x.given k ≡ false → has h.lost k ≡ false → is_open q k ≡ true
    open-in k back up lost = neither-is (has q.returned k) (has q.given k) (ap (λ l. has l k) h.returned ∙ back) (h.given k ∙ ap (λ b. b || has x.given k) lost ∙ up)

    due-kept : filter (is_open q) v.due ≡ v.due
    due-kept = filter-all (is_open q) v.due (λ k there.
        let o = out k there in
        open-in k o.returned o.given (false_from_ne_true (has h.lost k) (λ l. not-both (has x.handed k) o.handed (between-new k (right-has (morsels_of ts) h.lost k l)))))

    got-kept : filter (is_open q) (morsels_of ts) ≡ morsels_of ts
    got-kept = filter-all (is_open q) (morsels_of ts) (λ k there.
        let new = between-new k (has-left (morsels_of ts) h.lost k there) in
        open-in k (false_from_ne_true (has x.returned k) (λ s. not-both (has x.handed k) (law.among k s) new)) (false_from_ne_true (has x.given k) (λ s. not-both (has x.handed k) (given-handed x reached k s) new)) (h.apart k there))

    lost-gone : filter (is_open q) h.lost ≡ []
    lost-gone = filter-none (is_open q) h.lost (λ k there. either-is (has q.returned k) (has q.given k) (inr (h.given k ∙ ap (λ b. b || has x.given k) there)))

    due-more : filter (is_open q) (v.due ++ handed_between x q) ≡ v.due ++ morsels_of ts
    due-more =
        ap (λ l. filter (is_open q) (v.due ++ l)) h.between ∙ filter-append (is_open q) v.due (morsels_of ts ++ h.lost)
        ∙ ap (λ l. l ++ filter (is_open q) (morsels_of ts ++ h.lost)) due-kept ∙ ap (λ l. v.due ++ l) (filter-append (is_open q) (morsels_of ts) h.lost ∙ (λ i. got-kept i ++ lost-gone i) ∙ append-nil (morsels_of ts))

    pub gets-batch : w ≡ putter (taker v x) q → Follows x v.seen → GetsTickets batch ts v w
    gets-batch e f = subst (GetsTickets batch ts v) (sym e) (record {
      many = let m = h.many in omega (arith, m, le);
      lost = h.lost;
      mine = ap (λ l. v.mine ++ l) h.between;
      due = due-more;
      fresh = λ k there. false_from_ne_true (has v.due k) (λ d. not-both (has x.handed k) (out k d).handed (between-new k (has-left (morsels_of ts) h.lost k there)));
      follows = follows_after q x v.seen (ran-follows x q h.ran) f;
      gave = h.gave;
      of = h.of;
      ended = h.ended;
    })

-- the tickets that were got are due
pub due-got : (batch : ℕ) (ts : List TicketState) (v w : Knows) → GetsTickets batch ts v w → All (IsDueTo w) ts
due-got batch ts v w g = pairs ts (λ k there. ap (λ l. has l k) g.due ∙ right v.due (morsels_of ts) k there) g.of
  where
    right : (xs ys : List ℕ) (k : ℕ) → has ys k ≡ true → has (xs ++ ys) k ≡ true
    right [] ys k there = there
    right (x ∷ xs) ys k there = tail-has x (xs ++ ys) k (right xs ys k there)

    pairs : (us : List TicketState) → ((k : ℕ) → has (morsels_of us) k ≡ true → has w.due k ≡ true) → All (IsTicketOf w.seen) us → All (IsDueTo w) us
    pairs [] due are = All-nil (IsDueTo w)
    pairs (u ∷ us) due are =
        All-cons (IsDueTo w) u us (record { of = All-head (IsTicketOf w.seen) u us are; due = due u.morsel (head-has u.morsel (morsels_of us)) })
        (pairs us (λ k there. due k (tail-has u.morsel (morsels_of us) k there)) (All-tail (IsTicketOf w.seen) u us are))

-- ---- giving up

-- the last of the tickets are given up
pub record IsGivingUp (ts us : List TicketState) (p q : PartState) : Type 0 where
  pub rest : List TicketState
  pub is : ts ≡ us ++ rest
  pub ran : Ran p q
  pub handed : q.handed ≡ p.handed
  pub returned : q.returned ≡ p.returned
  pub given : (k : ℕ) → has q.given k ≡ (has (morsels_of rest) k || has p.given k)
  pub gave : (rest ≡ []) ⊎ (q.gave_up ≡ true)

pub giving-none : (ts : List TicketState) (p : PartState) → IsGivingUp ts ts p p
giving-none ts p = record { rest = []; is = sym (append-nil ts); ran = ran_self p; handed = refl; returned = refl; given = λ k. refl; gave = inl refl }

all-at : (P : TicketState → Type 0) (us vs : List TicketState) (t : TicketState) → All P (us ++ t ∷ vs) → P t
all-at P [] vs t all = All-head P t vs all
all-at P (u ∷ us) vs t all = all-at P us vs t (All-tail P u (us ++ t ∷ vs) all)

pub giving-one : (ts ws us : List TicketState) (t : TicketState) (p q r : PartState) → IsGivingUp ts ws p q → ws ≡ us ++ t ∷ [] → All (IsOutIn p) ts → GivesUp t q r → IsGivingUp ts us p r
giving-one ts ws us t p q r h last all up =
    let split : ts ≡ us ++ t ∷ h.rest = h.is ∙ ap (λ l. l ++ h.rest) last ∙ append_assoc us (t ∷ []) h.rest in
    let o = all-at (IsOutIn p) us h.rest t (subst (All (IsOutIn p)) split all) in
    let f = ran-follows p q h.ran in
    let awaited : is_awaited q t ≡ true = both-true (is_handed_out q t) (not (has q.returned t.morsel)) (one-handed q t (o.of.size ∙ sym f.size) (f.handed t.morsel o.out.handed)) (ap (λ l. not (has l t.morsel)) h.returned ∙ ap not o.out.returned) in
    let g = up.awaited awaited in
    record {
      rest = t ∷ h.rest;
      is = split;
      ran = ran_after p q r h.ran (up-ran t q r up);
      handed = ap (λ (y : PartState). y.handed) g.after ∙ h.handed;
      returned = ap (λ (y : PartState). y.returned) g.after ∙ h.returned;
      given = λ k. elim (known (nat_eq k t.morsel)) [
        | inl e ↦ subst (λ i. has r.given i ≡ true) (sym (eqb-true k t.morsel e)) g.given.here ∙ sym (ap (λ b. (b || has (morsels_of h.rest) k) || has p.given k) e)
        | inr e ↦ g.given.others k (λ is. lacks-first t.morsel [] k (ap (λ b. b || false) e) is) ∙ h.given k ∙ sym (ap (λ b. (b || has (morsels_of h.rest) k) || has p.given k) e)
      ];
      gave = inr (ap (λ (y : PartState). y.gave_up) g.after);
    }

pub given-all : (ts us : List TicketState) (p q : PartState) → us ≡ [] → IsGivingUp ts us p q → Settles (morsels_of ts) p q
given-all ts us p q none h =
    let all : h.rest ≡ ts = sym (h.is ∙ ap (λ l. l ++ h.rest) none) in
    let given : (k : ℕ) → has q.given k ≡ (has (morsels_of ts) k || has p.given k) = λ k. h.given k ∙ ap (λ l. has (morsels_of l) k || has p.given k) all in
    record {
      ran = h.ran;
      handed = h.handed;
      each = λ k there. either-is (has q.returned k) (has q.given k) (inr (given k ∙ ap (λ b. b || has p.given k) there));
      returned = λ k lacks. ap (λ l. has l k) h.returned;
      given = λ k lacks. given k ∙ ap (λ b. b || has p.given k) lacks;
      back = elim h.gave [
        | inl empty ↦ inr (subst (λ l. AllBack (morsels_of l) q) (sym empty ∙ all) (All-nil (λ i. has q.returned i ≡ true)))
        | inr gave ↦ inl gave
      ];
    }

-- ---- taking back

other-back : (i : ℕ) (p q : PartState) → Returns i p q → (k : ℕ) → (k ≡ i → ⊥) → has q.returned k ≡ has p.returned k
other-back i p q r k ne = sym (list_any-IsPermutation (nat_eq k) (p.returned ++ i ∷ []) q.returned r.returned) ∙ elim (known (has p.returned k)) [
  | inl there ↦ has-left p.returned (i ∷ []) k there ∙ sym there
  | inr lacks ↦ false_from_ne_true (has (p.returned ++ i ∷ []) k) (λ h. elim (has-last p.returned i k h) [ inl old ↦ not-both (has p.returned k) old lacks | inr is ↦ ne is ]) ∙ sym lacks
]

backs-back : (is : List ℕ) (p q : PartState) → Runs (map event.back is) p q → AllBack is q
backs-back [] p q e = All-nil (λ i. has q.returned i ≡ true)
backs-back (i ∷ is) p q r =
    let later = ran-follows r.0 q (record { events = map event.back is; runs = r.2 }) in
    All-cons (λ k. has q.returned k ≡ true) i is (later.returned i (is-back i p r.0 r.1)) (backs-back is r.0 q r.2)

backs-settle : (is : List ℕ) (p q : PartState) → Runs (map event.back is) p q → Settles is p q
backs-settle [] p q e = record {
  ran = record { events = []; runs = e };
  handed = ap (λ (y : PartState). y.handed) e;
  each = λ k there. absurd (true≢false (sym there));
  returned = λ k _. ap (λ (y : PartState). has y.returned k) e;
  given = λ k _. ap (λ (y : PartState). has y.given k) e;
  back = inr (All-nil (λ i. has q.returned i ≡ true));
}
backs-settle (i ∷ is) p q r =
    let rest = backs-settle is r.0 q r.2 in
    let one = r.1 in
    record {
      ran = record { events = map event.back (i ∷ is); runs = r };
      handed = rest.handed ∙ ap (λ (y : PartState). y.handed) one.after;
      each = λ k there. elim (known (has is k)) [
        | inl later ↦ rest.each k later
        | inr lacks ↦
            let is_it : k ≡ i = elim (has-either (i ∷ []) is k there) [ inl l ↦ only-one i k l | inr l ↦ absurd (not-both (has is k) l lacks) ] in
            either-is (has q.returned k) (has q.given k) (inl (rest.returned k lacks ∙ ap (has r.0.returned) is_it ∙ is-back i p r.0 one))
      ];
      returned = λ k lacks. rest.returned k (lacks-rest i is k lacks) ∙ other-back i p r.0 one k (lacks-first i is k lacks);
      given = λ k lacks. rest.given k (lacks-rest i is k lacks) ∙ one.given.others k (lacks-first i is k lacks);
      back = inr (backs-back (i ∷ is) p q r);
    }

-- a batch was taken
pub taken-settles : (x : PartialState) (ts : List TicketState) (p q : PartState) → x.tickets ≡ ts → IsTaken x p q → Settles (morsels_of ts) p q
taken-settles x ts p q is taken = backs-settle (morsels_of ts) p q (subst (λ us. Runs (map event.back (morsels_of us)) p q) is taken.returns)

-- ---- nothing that is out is refused

pub all-handed : (p : PartState) (ts : List TicketState) → All (IsOutIn p) ts → list_all (is_handed_out p) ts ≡ true
all-handed p [] all = refl
all-handed p (t ∷ ts) all =
    let here = All-head (IsOutIn p) t ts all in
    both-true (is_handed_out p t) (list_all (is_handed_out p) ts) (one-handed p t here.of.size here.out.handed) (all-handed p ts (All-tail (IsOutIn p) t ts all))

pub none-returned : (p : PartState) (ts : List TicketState) → All (IsOutIn p) ts → list_any (λ t. has p.returned t.morsel) ts ≡ false
none-returned p [] all = refl
none-returned p (t ∷ ts) all = ap (λ b. b || list_any (λ u. has p.returned u.morsel) ts) (All-head (IsOutIn p) t ts all).out.returned ∙ none-returned p ts (All-tail (IsOutIn p) t ts all)

-- ---- what the pass knows after a hold in which a batch came back

module _ (v w : Knows) (x q : PartState) (out : AreOut x v.due) where
  -- what is due to the pass is out
  pub due-is-out : Follows x v.seen → (t : TicketState) → IsDueTo v t → IsOutIn x t
  due-is-out f t d = record { of = of-later v.seen x t f d.of; out = out t.morsel d.due }

  module _ (ts : List TicketState) (s : Settles (morsels_of ts) x q) where
    pub settles-own : All (IsDueTo v) ts → BringsOwn (taker v x) q
    settles-own all =
        let due = each-morsel (λ k. has v.due k ≡ true) ts (All-weaker (IsDueTo v) (λ t. has v.due t.morsel ≡ true) (λ t d. d.due) ts all) in
        record {
          returned = λ k is old. elim (known (has (morsels_of ts) k)) [ inl there ↦ inl (due k there) | inr lacks ↦ absurd (not-both (has x.returned k) (sym (s.returned k lacks) ∙ is) old) ];
          given = λ k is old. elim (known (has (morsels_of ts) k)) [ inl there ↦ inl (due k there) | inr lacks ↦ absurd (not-both (has x.given k) (sym (s.given k lacks) ∙ is) old) ];
        }

    still : filter (is_open q) v.due ≡ without_all (morsels_of ts) v.due
    still = filter-same (is_open q) (λ k. not (has (morsels_of ts) k)) v.due (λ k there. elim (known (has (morsels_of ts) k)) [
      | inl it ↦ s.each k it ∙ sym (ap not it)
      | inr lacks ↦ neither-is (has q.returned k) (has q.given k) (s.returned k lacks ∙ (out k there).returned) (s.given k lacks ∙ (out k there).given) ∙ sym (ap not lacks)
    ])

    pub brings-batch : w ≡ putter (taker v x) q → Follows x v.seen → BringsBatch ts v w
    brings-batch e f =
        let none = same-none x q s.handed in
        subst (BringsBatch ts v) (sym e) (record {
          mine = ap (λ l. v.mine ++ l) none ∙ append-nil v.mine;
          due = ap (λ l. filter (is_open q) (v.due ++ l)) none ∙ ap (filter (is_open q)) (append-nil v.due) ∙ still;
          follows = follows_after q x v.seen (ran-follows x q s.ran) f;
          back = s.back;
        })

pub batch-with : (P Q : TicketState → Type 0) (made : Result PartialState (Vec TicketState Global)) → ((t : TicketState) → P t → Q t) → IsBatchWith P made → IsBatchWith Q made
batch-with P Q made f b = record { tickets = b.tickets; of = b.of; each = All-weaker P Q f b.tickets b.each }
