-- Core runs.
use Rattle.std.proofs.Common.{◌≡◌, ◌∙◌, ◌++◌, ◌∷◌, [], ◌<◌, ◌||◌, ℕ, Bool, true, false, true≢false, List, length, map, nat_eq, append_assoc, arith, Option, None, Some, Result, Ok, Err, inl, inr, refl, sym, ap, subst}
use Rattle.std.specs.Prelude.{⊤}
use Rattle.std.specs.List.{IsDistinct}
use Rattle.std.proofs.lemmas.Bool.{eqb-true, false_from_ne_true}
use Rattle.std.specs.List.Sorted.{IsPermutation}
use Rattle.std.proofs.lemmas.List.Sorted.{IsPermutation-refl, list_any-IsPermutation}
use Rattle.std.proofs.lemmas.Map.Keys.{IsDistinct-IsPermutation}
use Rattle.ssb_job.specs.Kept.{AreOneJob}
use Rattle.ssb_plan.specs.JobShape.{JobShape}
use Rattle.ssb_groups.specs.Rows.{SeenRow}
use Rattle.ssb_groups.specs.Stands.{AreRanged, Stands}
use Rattle.ssb_groups.proofs.AnyRows.{stands_for_any}
use Rattle.ssb_groups.proofs.Permuted.{any_order}
use Rattle.ssb_pipeline.specs.Joined.{seen_in}
use Rattle.ssb_pipeline.specs.Part.{Event, Follows, Gives, GivesBack, GivesUp, Hands, HandsAll, HandsOut, Happens, IsLawfulPart, IsOpening, IsReached, PartState, Ran, Refuses, Returns, Runs, RunsLoseNothing, RunsStayLawful, WholeSectionsStand, back, give, hand, hand_all, has, is_awaited, ours, refuse}
use Rattle.ssb_pipeline.specs.State.{PartialState}
use Rattle.ssb_pipeline.specs.Tickets.{TicketState, morsels_of}
use Rattle.ssb_pipeline.specs.declared.fault.ReturnFault.{ReturnFault}
use Rattle.ssb_pipeline.specs.declared.fault.ReturnFault.TheVariants as fault
use Rattle.ssb_pipeline.proofs.JoinedFacts.{seen-append, seen-cons, seen-none}
use Rattle.ssb_pipeline.proofs.Later.{back-follows, follows_after, follows_self, give-follows, hand-follows, refuse-follows, sweep-follows}
use Rattle.ssb_pipeline.proofs.MarkFacts.{lacks-each}
use Rattle.ssb_pipeline.proofs.Numbers.{differs, head-has, known, only-one, tail-has, without, without-is}
use Rattle.ssb_pipeline.proofs.RangeFacts.{distinct-range, itself}
use Rattle.ssb_pipeline.proofs.SetFacts.{distinct-last, has-last, has-left, same-set}

-- ---- runs, one after the other

pub ran_self : (p : PartState) → Ran p p
ran_self p = record { events = []; runs = refl }

pub ran_one : (e : Event) (p q : PartState) → Happens e p q → Ran p q
ran_one e p q h = record { events = e ∷ []; runs = (q, h, refl) }

runs_after : (es fs : List Event) (p q r : PartState) → Runs es p q → Runs fs q r → Runs (es ++ fs) p r
runs_after [] fs p q r a b = subst (λ m. Runs fs m r) a b
runs_after (e ∷ es) fs p q r a b = (a.0, a.1, runs_after es fs a.0 q r a.2 b)

pub ran_after : (p q r : PartState) → Ran p q → Ran q r → Ran p r
ran_after p q r a b = record { events = a.events ++ b.events; runs = runs_after a.events b.events p q r a.runs b.runs }

-- ---- each call is a run

pub same-ran : (p q : PartState) → q ≡ p → Ran p q
same-ran p q e = record { events = []; runs = e }

pub out-ran : (r : Option TicketState) (p q : PartState) → HandsOut p r q → Ran p q
out-ran None p q h = same-ran p q h.same
out-ran (Some t) p q h = ran_one (hand t.morsel) p q h.hands

pub back-ran : (x : PartialState) (r : Result ⊤ ReturnFault) (p q : PartState) → GivesBack p x r q → Ran p q
back-ran x (Ok u) p q h = record { events = map back (morsels_of x.tickets); runs = h.returns }
back-ran x (Err (fault.NotHandedOut y)) p q h = same-ran p q h.same
back-ran x (Err (fault.Doubled y)) p q h = same-ran p q h.same
back-ran x (Err (fault.Memory y)) p q h = same-ran p q h.same

pub up-ran : (t : TicketState) (p q : PartState) → GivesUp t p q → Ran p q
up-ran t p q h = elim (known (is_awaited p t)) [
  | inl here ↦ ran_one (give t.morsel) p q (h.awaited here)
  | inr none ↦ ran_one refuse p q (h.strange none)
]

pub sweep-ran : (p q : PartState) → IsLawfulPart p → q ≡ record p { handed = ours p } → Ran p q
sweep-ran p q l e = ran_one hand_all p q (record { kept = l.within; after = e })

-- ---- a run keeps a part lawful

handed-lawful : (i : ℕ) (p q : PartState) → IsLawfulPart p → Hands i p q → IsLawfulPart q
handed-lawful i p q l h = subst IsLawfulPart (sym h.after) (record {
  handed = distinct-last p.handed i l.handed h.fresh;
  within = λ k there. elim (has-last p.handed i k there) [ inl old ↦ l.within k old | inr new ↦ subst (λ n. has (ours p) n ≡ true) (sym new) h.member ];
  returned = l.returned;
  among = λ k there. has-left p.handed (i ∷ []) k (l.among k there);
  job = l.job;
  stands = l.stands;
})

gave-lawful : (i : ℕ) (p q : PartState) → IsLawfulPart p → Gives i p q → IsLawfulPart q
gave-lawful i p q l h = subst IsLawfulPart (sym h.after) (record { handed = l.handed; within = l.within; returned = l.returned; among = l.among; job = l.job; stands = l.stands })

refused-lawful : (p q : PartState) → IsLawfulPart p → Refuses p q → IsLawfulPart q
refused-lawful p q l h = subst IsLawfulPart (sym h) (record { handed = l.handed; within = l.within; returned = l.returned; among = l.among; job = l.job; stands = l.stands })

swept-lawful : (p q : PartState) → IsLawfulPart p → HandsAll p q → IsLawfulPart q
swept-lawful p q l h = subst IsLawfulPart (sym h.after) (record {
  handed = distinct-range _ _;
  within = λ k there. there;
  returned = l.returned;
  among = λ k there. l.within k (l.among k there);
  job = l.job;
  stands = l.stands;
})

flipped : (x y : ℕ) (a b : Bool) → nat_eq x y ≡ a → nat_eq y x ≡ b → nat_eq x y ≡ nat_eq y x
flipped x y true b e f = e ∙ sym (itself y x (sym (eqb-true x y e)))
flipped x y false true e f = itself x y (sym (eqb-true y x f)) ∙ sym f
flipped x y false false e f = e ∙ sym f

back-lawful : (i : ℕ) (p q : PartState) → IsLawfulPart p → Returns i p q → IsLawfulPart q
back-lawful i p q l h = subst IsLawfulPart (sym h.after) (record {
  handed = l.handed;
  within = l.within;
  returned = IsDistinct-IsPermutation nat_eq flips (p.returned ++ i ∷ []) q.returned h.returned (distinct-last p.returned i l.returned h.fresh);
  among = λ k there. elim (has-last p.returned i k (list_any-IsPermutation (nat_eq k) (p.returned ++ i ∷ []) q.returned h.returned ∙ there)) [ inl old ↦ l.among k old | inr new ↦ subst (λ n. has p.handed n ≡ true) (sym new) h.handed ];
  job = h.job ∙ ap (λ (x : PartState). x.job) h.after;
  stands = subst (λ (x : PartState). Stands q.groups (seen_in x.job x.size q.returned)) h.after h.stands;
})
  where
    flips : (x y : ℕ) → nat_eq x y ≡ nat_eq y x
    flips x y = flipped x y (nat_eq x y) (nat_eq y x) refl refl

step : (e : Event) (p q : PartState) → IsLawfulPart p → Happens e p q → IsLawfulPart q
step (hand i) p q l h = handed-lawful i p q l h
step hand_all p q l h = swept-lawful p q l h
step (back i) p q l h = back-lawful i p q l h
step (give i) p q l h = gave-lawful i p q l h
step refuse p q l h = refused-lawful p q l h

steps : (es : List Event) (p q : PartState) → IsLawfulPart p → Runs es p q → IsLawfulPart q
steps [] p q l r = subst IsLawfulPart (sym r) l
steps (e ∷ es) p q l r = steps es r.0 q (step e p r.0 l r.1) r.2

pub runs : RunsStayLawful
runs p q l r = steps r.events p q l r.runs

pub opening-lawful : (j : JobShape) (m s k : ℕ) (p : PartState) → IsOpening j m s k p → IsLawfulPart p
opening-lawful j m s k p o = record {
  handed = subst (IsDistinct nat_eq) (sym o.handed) (distinct-range 0 0);
  within = λ i there. absurd (true≢false (sym there ∙ ap (λ xs. has xs i) o.handed));
  returned = subst (IsDistinct nat_eq) (sym o.returned) (distinct-range 0 0);
  among = λ i there. absurd (true≢false (sym there ∙ ap (λ xs. has xs i) o.returned));
  job = o.one_job;
  stands = subst (Stands p.groups) (sym (ap (seen_in p.job p.size) o.returned ∙ seen-none p.job p.size)) o.stands;
}

-- ---- a run loses nothing

one-follows : (e : Event) (p q : PartState) → Happens e p q → Follows q p
one-follows (hand i) p q h = hand-follows i p q h
one-follows hand_all p q h = sweep-follows p q h
one-follows (back i) p q h = back-follows i p q h
one-follows (give i) p q h = give-follows i p q h
one-follows refuse p q h = refuse-follows p q h

all-follow : (es : List Event) (p q : PartState) → Runs es p q → Follows q p
all-follow [] p q r = subst (λ x. Follows x p) (sym r) (follows_self p)
all-follow (e ∷ es) p q r = follows_after q r.0 p (all-follow es r.0 q r.2) (one-follows e p r.0 r.1)

pub ran-follows : RunsLoseNothing
ran-follows p q r = all-follow r.events p q r.runs

-- ---- what opening parts come to

-- an opening part, as its own state names it
pub own-opening : (j : JobShape) (m s k : ℕ) (p : PartState) → IsOpening j m s k p → IsOpening p.job p.size p.section p.sections p
own-opening j m s k p o = record { job = refl; size = refl; section = refl; sections = refl; handed = o.handed; returned = o.returned; given = o.given; gave_up = o.gave_up; one_job = o.one_job; stands = o.stands }

pub reached-opening : (p : PartState) → IsOpening p.job p.size p.section p.sections p → IsReached p
reached-opening p o = record { opening = p; empty = o; ran = ran_self p }

-- a run changes neither the job nor the section
pub reached-more : (p q : PartState) → IsReached p → Ran p q → IsReached q
reached-more p q a b =
    let f = ran-follows p q b in
    record { opening = a.opening; empty = rw (f.job, f.size, f.section, f.sections) a.empty; ran = ran_after a.opening p q a.ran b }

pub whole : WholeSectionsStand
whole p l all =
    any_order p.groups (seen_in p.job p.size p.returned) (seen_in p.job p.size (ours p))
    (same-set (seen_in p.job p.size) (seen-none p.job p.size) (seen-cons p.job p.size) p.returned (ours p) l.returned (distinct-range _ _) (λ i h. l.within i (l.among i h)) all) l.stands

-- ---- what was given up is handed out

AreGiven : PartState → Type 0
AreGiven p = (i : ℕ) → has p.given i ≡ true → has p.handed i ≡ true

given-step : (e : Event) (p q : PartState) → AreGiven p → Happens e p q → AreGiven q
unfolding AreGiven
given-step (hand i) p q g h = subst AreGiven (sym h.after) (λ k there. has-left p.handed (i ∷ []) k (g k there))
given-step hand_all p q g h = subst AreGiven (sym h.after) (λ k there. h.kept k (g k there))
given-step (back i) p q g h = subst AreGiven (sym h.after) (λ k there. elim (known (nat_eq k i)) [
  | inl e ↦ absurd (true≢false (sym (subst (λ n. has q.given n ≡ true) (eqb-true k i e) there) ∙ h.given.gone))
  | inr e ↦ g k (sym (h.given.others k (differs k i e)) ∙ there)
])
given-step (give i) p q g h = subst AreGiven (sym h.after) (λ k there. elim (known (nat_eq k i)) [
  | inl e ↦ subst (λ n. has p.handed n ≡ true) (sym (eqb-true k i e)) h.handed
  | inr e ↦ g k (sym (h.given.others k (differs k i e)) ∙ there)
])
given-step refuse p q g h = subst AreGiven (sym h) g

given-steps : (es : List Event) (p q : PartState) → AreGiven p → Runs es p q → AreGiven q
unfolding AreGiven
given-steps [] p q g r = subst AreGiven (sym r) g
given-steps (e ∷ es) p q g r = given-steps es r.0 q (given-step e p r.0 g r.1) r.2

pub given-handed : (p : PartState) → IsReached p → (i : ℕ) → has p.given i ≡ true → has p.handed i ≡ true
unfolding AreGiven
given-handed p r = given-steps r.ran.events r.opening p (λ i h. absurd (true≢false (sym h ∙ ap (λ l. has l i) r.empty.given))) r.ran.runs

-- ---- several numbers that come back, one after the other

ranged-left : (xs ys : List SeenRow) → AreRanged (xs ++ ys) → AreRanged xs
ranged-left [] ys h = tt
ranged-left (x ∷ xs) ys h = (h.0, ranged-left xs ys h.1)

-- where the groups stand for those before and all of these, and none of these was back
pub returns-all : (is : List ℕ) (p q : PartState) → 0 < length is → ((i : ℕ) → has is i ≡ true → has p.handed i ≡ true) → ((i : ℕ) → has is i ≡ true → has p.returned i ≡ false) → IsDistinct nat_eq is
    → IsPermutation (p.returned ++ is) q.returned → ((i : ℕ) → has is i ≡ true → has q.given i ≡ false) → ((i : ℕ) → has is i ≡ false → has q.given i ≡ has p.given i) → AreOneJob q.groups.job q.job → Stands q.groups (seen_in q.job q.size q.returned)
    → Stands q.groups (seen_in p.job p.size (p.returned ++ is)) → q ≡ record p { returned = q.returned; given = q.given; groups = q.groups }
    → Runs (map back is) p q
unfolding IsDistinct
returns-all [] p q some handed fresh d perm gone others job stands all after = absurd (omega (arith, some))
returns-all (i ∷ []) p q some handed fresh d perm gone others job stands all after = (
  q,
  record {
    handed = handed i (head-has i []);
    fresh = fresh i (head-has i []);
    returned = perm;
    given = record { gone = gone i (head-has i []); others = λ k ne. others k (false_from_ne_true (has (i ∷ []) k) (λ h. ne (only-one i k h))) };
    job = job;
    stands = stands;
    after = after;
  },
  refl,
)
returns-all (i ∷ k ∷ is) p q some handed fresh d perm gone others job stands all after =
    let on : (p.returned ++ i ∷ []) ++ k ∷ is ≡ p.returned ++ i ∷ k ∷ is = append_assoc p.returned (i ∷ []) (k ∷ is) in
    let rows : seen_in p.job p.size (p.returned ++ i ∷ k ∷ is) ≡ seen_in p.job p.size (p.returned ++ i ∷ []) ++ seen_in p.job p.size (k ∷ is) = ap (seen_in p.job p.size) (sym on) ∙ seen-append p.job p.size (p.returned ++ i ∷ []) (k ∷ is) in
    let some_groups = stands_for_any p.job (seen_in p.job p.size (p.returned ++ i ∷ [])) (ranged-left _ _ (subst AreRanged rows all.ranged)) in
    let w = without-is i p.given in
    let m : PartState = record p { returned = p.returned ++ i ∷ []; given = without i p.given; groups = some_groups.groups } in
    let first : Returns i p m = record {
      handed = handed i (head-has i (k ∷ is));
      fresh = fresh i (head-has i (k ∷ is));
      returned = IsPermutation-refl (p.returned ++ i ∷ []);
      given = w;
      job = some_groups.job;
      stands = some_groups.stands;
      after = refl;
    } in (
      m,
      first,
      returns-all (k ∷ is) m q (omega arith) (λ n h. handed n (tail-has i (k ∷ is) n h)) (λ n h. fresh-still n (fresh n (tail-has i (k ∷ is) n h)) (lacks-each i (k ∷ is) d.0 n h)) d.1
          (subst (λ xs. IsPermutation xs q.returned) (sym on) perm) (λ n h. gone n (tail-has i (k ∷ is) n h))
          (λ n lacks. elim (known (nat_eq n i)) [
            | inl same ↦ let e = eqb-true n i same in gone n (subst (λ x. has (i ∷ k ∷ is) x ≡ true) (sym e) (head-has i (k ∷ is))) ∙ sym (ap (has (without i p.given)) e ∙ w.gone)
            | inr other ↦ others n (ap (λ b. b || has (k ∷ is) n) other ∙ lacks) ∙ sym (w.others n (differs n i other))
          ]) job stands (subst (λ xs. Stands q.groups (seen_in p.job p.size xs)) (sym on) all) after,
    )
  where
    fresh-still : (n : ℕ) → has p.returned n ≡ false → (n ≡ i → ⊥) → has (p.returned ++ i ∷ []) n ≡ false
    fresh-still n old other = false_from_ne_true (has (p.returned ++ i ∷ []) n) (λ h. elim (has-last p.returned i n h) [ inl there ↦ true≢false (sym there ∙ old) | inr same ↦ other same ])
