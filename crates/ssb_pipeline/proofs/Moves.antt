-- Each step of a pass keeps the rule.
use Rattle.std.proofs.Common.{◌≡◌, ◌≢◌, ℕ, zero, suc, ◌<◌, Bool, true, false, true≢false, List, [], ◌∷◌, ◌++◌, length, drop, set, sym, refl, ap, ◌∙◌, subst, inl, inr, ⊎_elim, arith}
use mathlib.Core.Option.{some, some-injective, some-ne-none}
use lib.ListN.{get_elem?}
use Rattle.crossbeam_queue.specs.Fifo.{Pushes, Pops, Forks, Learns}
use Rattle.crossbeam_queue.proofs.Lists.{at_set, at_snoc, at_longer, set_here, set_again}
use Rattle.std.specs.Prelude.{not}
use Rattle.ssb_pipeline.specs.Part.{AreOut, IsLawfulPart, IsOpening, IsOut, IsReached, PartState, Ran, handed_between, has, is_open}
use Rattle.ssb_pipeline.specs.Rule.{AllPasses, AreApart, BringsOwn, IsBeside, IsOwn, IsWaiting, Knows, Ruled, Serves, fresh, knows, newcomer, putter, taker}
use Rattle.ssb_pipeline.proofs.Numbers.{filter-has, neither, not-both, not-is}
use Rattle.ssb_pipeline.proofs.RunFacts.{opening-lawful, ran-follows, ran_after, ran_self, reached-more, reached-opening, runs}
use Rattle.ssb_pipeline.proofs.SetFacts.{has-either}

not_true : (b : Bool) → (b ≡ true → ⊥) → b ≡ false
not_true true n = absurd (n refl)
not_true false n = refl

within : {A : Type 0} (l : List A) (i : ℕ) (a : A) → get_elem? l i ≡ some a → i < length l
within [] i a e = absurd (some-ne-none a (sym e))
within (x ∷ xs) zero a e = omega arith
within (x ∷ xs) (suc i) a e = let h = within xs i a e in omega arith

head_or : {A : Type 0} → A → List A → A
head_or d [] = d
head_or d (x ∷ xs) = x

first_is : {A : Type 0} (x y : A) (xs : List A) → x ∷ xs ≡ y ∷ [] → (x ≡ y) × (xs ≡ [])
unfolding head_or
first_is x y xs e = (ap (head_or x) e, ap (drop 1) e)

no_item : {A : Type 0} (x : A) (xs : List A) → (x ∷ xs ≡ []) → ⊥
no_item x xs e = let h : suc (length xs) ≡ 0 = ap length e in omega arith

alone : (views : List Knows) (pass : ℕ) (v : Knows) → views ≡ fresh ∷ [] → get_elem? views pass ≡ some v → v.opened ≡ false
alone views pass v e at = here pass (ap (λ l. get_elem? l pass) (sym e) ∙ at)
  where
    here : (i : ℕ) → get_elem? (fresh ∷ []) i ≡ some v → v.opened ≡ false
    here zero h = ap (λ (k : Knows). k.opened) (sym (some-injective fresh v h))
    here (suc i) h = absurd (some-ne-none v (sym h))

same_at : (views : List Knows) (i j : ℕ) (u v : Knows) → i ≡ j → get_elem? views i ≡ some u → get_elem? views j ≡ some v → u ≡ v
same_at views i j u v e a b = some-injective u v (sym a ∙ (ap (λ k. get_elem? views k) e ∙ b))

all_set : (F : ℕ → Knows → Type 0) (views : List Knows) (pass : ℕ) (w : Knows) → F pass w → ((j : ℕ) (u : Knows) → j ≢ pass → get_elem? views j ≡ some u → F j u) → AllPasses F (set views pass w)
all_set F views pass w mine others j u e =
    ⊎_elim (λ (x : (j ≡ pass) × (w ≡ u)). subst (λ (y : ℕ × Knows). F y.0 y.1) (λ i. (sym x.0 i, x.1 i)) mine)
    (λ (x : (j ≢ pass) × (get_elem? views j ≡ some u)). others j u x.0 x.1) (at_set views pass j w u e)

all_more : (F : ℕ → Knows → Type 0) (views : List Knows) (r : Knows) → AllPasses F views → ((j : ℕ) → F j r) → AllPasses F (views ++ r ∷ [])
all_more F views r all new j u e = ⊎_elim (λ x. all j u x) (λ (is : r ≡ u). subst (F j) is (new j)) (at_snoc views r u j e)

-- ---- what is due to two passes

-- one pass knows w now; what is due to it is due to none of the others
apart_set : (views : List Knows) (pass : ℕ) (w : Knows) → AreApart views → ((i j : ℕ) (u : Knows) → j ≢ pass → get_elem? views j ≡ some u → has w.due i ≡ true → has u.due i ≡ true → ⊥) → AreApart (set views pass w)
apart_set views pass w apart others i p q a b at_p at_q due_a due_b =
    ⊎_elim
    (λ (x : (p ≡ pass) × (w ≡ a)). ⊎_elim
    (λ (y : (q ≡ pass) × (w ≡ b)). x.0 ∙ sym y.0)
    (λ (y : (q ≢ pass) × (get_elem? views q ≡ some b)). absurd (others i q b y.0 y.1 (is x.1 due_a) due_b)) (at_set views pass q w b at_q))
    (λ (x : (p ≢ pass) × (get_elem? views p ≡ some a)). ⊎_elim
    (λ (y : (q ≡ pass) × (w ≡ b)). absurd (others i p a x.0 x.1 (is y.1 due_b) due_a))
    (λ (y : (q ≢ pass) × (get_elem? views q ≡ some b)). apart i p q a b x.1 y.1 due_a due_b) (at_set views pass q w b at_q))
    (at_set views pass p w a at_p)
  where
    is : {u : Knows} → w ≡ u → has u.due i ≡ true → has w.due i ≡ true
    is {u} e h = ap (λ (k : Knows). has k.due i) e ∙ h

-- a pass more, to which nothing is due
apart_more : (views : List Knows) (r : Knows) → r.due ≡ [] → AreApart views → AreApart (views ++ r ∷ [])
apart_more views r none apart i p q a b at_p at_q due_a due_b =
    ⊎_elim
    (λ x. ⊎_elim (λ y. apart i p q a b x y due_a due_b) (λ (is : r ≡ b). absurd (not-due b is due_b)) (at_snoc views r b q at_q))
    (λ (is : r ≡ a). absurd (not-due a is due_a)) (at_snoc views r a p at_p)
  where
    not-due : (u : Knows) → r ≡ u → has u.due i ≡ true → ⊥
    not-due u is h = true≢false (sym h ∙ ap (λ (k : Knows). has k.due i) (sym is) ∙ ap (λ l. has l i) none)

-- what was out and is not the pass's own is out after its hold
still_out : (v : Knows) (x : PartState) (i : ℕ) → Ran v.seen x → BringsOwn v x → IsOut v.seen i → (IsOwn v i → ⊥) → IsOut x i
still_out v x i ran own out others = record {
  handed = (ran-follows v.seen x ran).handed i out.handed;
  returned = not_true (has x.returned i) (λ h. others (own.returned i h out.returned));
  given = not_true (has x.given i) (λ h. others (own.given i h out.given));
}

-- what is due to the pass that put x is out in x
due_out : (v : Knows) (x : PartState) → Ran v.seen x → AreOut v.seen v.due → AreOut x (putter v x).due
due_out v x ran out i h =
    let f = filter-has (is_open x) (v.due ++ handed_between v.seen x) i h in
    let n = neither (has x.returned i) (has x.given i) f.1 in
    record {
      handed = elim (has-either v.due (handed_between v.seen x) i f.0) [
        | inl d ↦ (ran-follows v.seen x ran).handed i (out i d).handed
        | inr b ↦ (filter-has (λ k. not (has v.seen.handed k)) x.handed i b).0
      ];
      returned = n.0;
      given = n.1;
    }

-- what is due to the pass that put x was due to it, or was not handed out when it took the part
due_own : (v : Knows) (x : PartState) (i : ℕ) → has (putter v x).due i ≡ true → IsOwn v i
due_own v x i h =
    let f = filter-has (is_open x) (v.due ++ handed_between v.seen x) i h in
    elim (has-either v.due (handed_between v.seen x) i f.0) [
      | inl d ↦ inl d
      | inr b ↦ inr (not-is (has v.seen.handed i) (filter-has (λ k. not (has v.seen.handed k)) x.handed i b).1)
    ]

-- what is due to another pass is not the pass's own
not_own : (views : List Knows) (v u : Knows) (pass j i : ℕ) → AreApart views → get_elem? views pass ≡ some v → get_elem? views j ≡ some u → j ≢ pass → Serves v.seen u → has u.due i ≡ true → IsOwn v i → ⊥
not_own views v u pass j i apart at e other serves h (inl d) = other (apart i j pass u v e at h d)
not_own views v u pass j i apart at e other serves h (inr f) = not-both (has v.seen.handed i) (serves.due i h).handed f

-- to a pass of which nothing is due the part serves as it saw it
serves_none : (part : PartState) (v : Knows) → v.due ≡ [] → Ran v.seen part → Serves part v
serves_none part v none ran = record { ran = ran; due = λ i h. absurd (true≢false (sym h ∙ ap (λ l. has l i) none)) }

-- ---- the steps

pub begins : Ruled [] (fresh ∷ [])
begins = inl (refl, refl)

-- a part as it was opened, by its own job and section
abbrev pub IsOpened : PartState → Type 0
IsOpened x = IsOpening x.job x.size x.section x.sections x

-- the opening part is put by the first pass
opens-free : (pass : ℕ) (x : PartState) (views : List Knows) → views ≡ fresh ∷ [] → get_elem? views pass ≡ some fresh → IsOpened x → Ruled (x ∷ []) (set views pass (knows false x [] []))
opens-free pass x views is at opened =
    inr (inl (record {
      part = x;
      only = refl;
      lawful = opening-lawful x.job x.size x.section x.sections x opened;
      reached = reached-opening x opened;
      passes = all_set (λ _ u. IsWaiting x u) views pass (knows false x [] []) (record { none = refl; serves = serves_none x (knows false x [] []) refl (ran_self x) }) (λ j u other e. absurd (other (only-one j u e)));
      apart = apart_set views pass (knows false x [] []) (λ i p q a b at_p at_q _ _. first views p a is at_p ∙ sym (first views q b is at_q)) (λ i j u other e _ _. other (only-one j u e));
    }))
  where
    first : (l : List Knows) (i : ℕ) (u : Knows) → l ≡ fresh ∷ [] → get_elem? l i ≡ some u → i ≡ 0
    first l i u e h = here i (ap (λ k. get_elem? k i) (sym e) ∙ h)
      where
        here : (i : ℕ) → get_elem? (fresh ∷ []) i ≡ some u → i ≡ 0
        here zero h = refl
        here (suc i) h = absurd (some-ne-none u (sym h))

    only-one : (j : ℕ) (u : Knows) → get_elem? views j ≡ some u → j ≡ pass
    only-one j u e = first views j u is e ∙ sym (first views pass fresh is at)

opens-at : (pass : ℕ) (x : PartState) (items : List PartState) (views : List Knows) → IsOpened x → get_elem? views pass ≡ some fresh → Ruled items views → Ruled (items ++ x ∷ []) (set views pass (knows false x [] []))
opens-at pass x items views opened at (inl n) = subst (λ l. Ruled (l ++ x ∷ []) (set views pass (knows false x [] []))) (sym n.0) (opens-free pass x views n.1 at opened)
opens-at pass x items views opened at (inr (inl f)) = absurd (true≢false (f.passes pass fresh at).none)
opens-at pass x items views opened at (inr (inr o)) =
    let is : fresh ≡ o.known = same_at views pass o.holder fresh o.known ((o.passes pass fresh at).only refl) at o.there in
    absurd (true≢false (sym (ap (λ (k : Knows). k.opened) is ∙ o.opened)))

pub opens : (n pass : ℕ) (v : Knows) (x : PartState) → v ≡ fresh → IsOpened x → Pushes Ruled n pass v x (λ w. w ≡ knows false x [] [])
opens n pass v x is opened items views room rule at = (knows false x [] [], opens-at pass x items views opened (at ∙ ap some is) rule, refl)

empty-at : (pass : ℕ) (items : List PartState) (views : List Knows) → get_elem? views pass ≡ some fresh → Ruled items views → items ≡ []
empty-at pass items views at (inl n) = n.0
empty-at pass items views at (inr (inl f)) = absurd (true≢false (f.passes pass fresh at).none)
empty-at pass items views at (inr (inr o)) = o.empty

pub new-empty : (pass : ℕ) (v : Knows) → v ≡ fresh → Learns Ruled pass v (λ items. items ≡ [])
new-empty pass v is items views rule at = empty-at pass items views (at ∙ ap some is) rule

put_keeps : (pass : ℕ) (v : Knows) (x : PartState) (items : List PartState) (views : List Knows) → v.holds ≡ true → v.opened ≡ true → Ran v.seen x → BringsOwn v x → get_elem? views pass ≡ some v → Ruled items views
    → Ruled (items ++ x ∷ []) (set views pass (putter v x))
put_keeps pass v x items views holds opened ran own at (inl n) = absurd (true≢false (sym opened ∙ alone views pass v n.1 at))
put_keeps pass v x items views holds opened ran own at (inr (inl f)) = absurd (true≢false (sym holds ∙ (f.passes pass v at).none))
put_keeps pass v x items views holds opened ran own at (inr (inr o)) =
    let here : pass ≡ o.holder = (o.passes pass v at).only holds in
    let is : o.known ≡ v = sym (same_at views pass o.holder v o.known here at o.there) in
    let law : IsLawfulPart v.seen = subst (λ (k : Knows). IsLawfulPart k.seen) is o.lawful in
    let reached : IsReached v.seen = subst (λ (k : Knows). IsReached k.seen) is o.reached in
    let serves : (j : ℕ) (u : Knows) → get_elem? views j ≡ some u → Serves v.seen u = λ j u e. subst (λ (k : Knows). Serves k.seen u) is (o.passes j u e).serves in
    inr (inl (record {
      part = x;
      only = ap (λ l. l ++ x ∷ []) o.empty;
      lawful = runs v.seen x law ran;
      reached = reached-more v.seen x reached ran;
      passes = all_set (λ _ u. IsWaiting x u) views pass (putter v x) (record { none = refl; serves = record { ran = ran_self x; due = due_out v x ran (serves pass v at).due } })
          (λ j u other e. record {
            none = not_true u.holds (λ h. other ((o.passes j u e).only h ∙ sym here));
            serves = record {
              ran = ran_after u.seen v.seen x (serves j u e).ran ran;
              due = λ i h. still_out v x i ran own ((serves j u e).due i h) (not_own views v u pass j i o.apart at e other (serves j u e) h);
            };
          });
      apart = apart_set views pass (putter v x) o.apart (λ i j u other e mine theirs. not_own views v u pass j i o.apart at e other (serves j u e) theirs (due_own v x i mine));
    }))

pub puts : (n pass : ℕ) (v : Knows) (x : PartState) → v.holds ≡ true → v.opened ≡ true → Ran v.seen x → BringsOwn v x → Pushes Ruled n pass v x (λ w. w ≡ putter v x)
puts n pass v x holds opened ran own items views room rule at = (putter v x, put_keeps pass v x items views holds opened ran own at rule, refl)

pub full : (pass : ℕ) (v : Knows) → v.holds ≡ true → Learns Ruled pass v (λ items. items ≡ [])
full pass v holds items views (inl n) at = n.0
full pass v holds items views (inr (inl f)) at = absurd (true≢false (sym holds ∙ (f.passes pass v at).none))
full pass v holds items views (inr (inr o)) at = o.empty

pub takes : (pass : ℕ) (v : Knows) → Pops Ruled pass v (λ x w. (w ≡ taker v x) × IsLawfulPart x × IsReached x × Serves x v)
takes pass v x items views (inl n) at = absurd (no_item x items n.0)
takes pass v x items views (inr (inl f)) at =
    let is = first_is x f.part items f.only in
    let law : IsLawfulPart x = subst IsLawfulPart (sym is.0) f.lawful in
    let reached : IsReached x = subst IsReached (sym is.0) f.reached in
    let serves : (j : ℕ) (u : Knows) → get_elem? views j ≡ some u → Serves x u = λ j u e. subst (λ y. Serves y u) (sym is.0) (f.passes j u e).serves in (
      taker v x,
      inr (inr (record {
        empty = is.1;
        holder = pass;
        known = taker v x;
        there = set_here views pass (taker v x) (within views pass v at);
        holds = refl;
        opened = refl;
        lawful = law;
        reached = reached;
        passes = all_set (IsBeside pass x) views pass (taker v x) (record { only = λ _. refl; serves = record { ran = ran_self x; due = (serves pass v at).due } })
            (λ j u other e. record { only = λ h. absurd (true≢false (sym h ∙ (f.passes j u e).none)); serves = serves j u e });
        apart = apart_set views pass (taker v x) f.apart (λ i j u other e mine theirs. other (f.apart i j pass u v e at theirs mine));
      })),
      (refl, law, reached, serves pass v at),
    )
takes pass v x items views (inr (inr o)) at = absurd (no_item x items o.empty)

-- one more pass, which has seen as much as another
more_keeps : (pass : ℕ) (v : Knows) (items : List PartState) (views : List Knows) → v.opened ≡ true → get_elem? views pass ≡ some v → Ruled items views → Ruled items (views ++ newcomer v ∷ [])
more_keeps pass v items views opened at (inl n) = absurd (true≢false (sym opened ∙ alone views pass v n.1 at))
more_keeps pass v items views opened at (inr (inl f)) =
    inr (inl (record {
      part = f.part;
      only = f.only;
      lawful = f.lawful;
      reached = f.reached;
      passes = all_more (λ _ u. IsWaiting f.part u) views (newcomer v) f.passes (λ j. record { none = refl; serves = serves_none f.part (newcomer v) refl (f.passes pass v at).serves.ran });
      apart = apart_more views (newcomer v) refl f.apart;
    }))
more_keeps pass v items views opened at (inr (inr o)) =
    inr (inr (record {
      empty = o.empty;
      holder = o.holder;
      known = o.known;
      there = at_longer views (newcomer v ∷ []) o.holder o.known o.there;
      holds = o.holds;
      opened = o.opened;
      lawful = o.lawful;
      reached = o.reached;
      passes = all_more (IsBeside o.holder o.known.seen) views (newcomer v) o.passes (λ j. record { only = λ h. absurd (true≢false (sym h)); serves = serves_none o.known.seen (newcomer v) refl (o.passes pass v at).serves.ran });
      apart = apart_more views (newcomer v) refl o.apart;
    }))

pub forks : (pass : ℕ) (v : Knows) → v.opened ≡ true → v.holds ≡ false → Forks Ruled pass v v (newcomer v)
forks pass v opened free items views rule at = subst (λ l. Ruled items (l ++ newcomer v ∷ [])) (sym (set_again views pass v at)) (more_keeps pass v items views opened at rule)
