-- One turn of a worker after another.
use Rattle.std.proofs.Common.{◌≡◌, ◌≢◌, ◌⊎◌, inl, inr, ℕ, ◌<◌, true, [], ◌∷◌, ◌++◌, length, sym, refl, ap, ◌∙◌, subst, append_assoc, append-nil, List}
use Rattle.std.proofs.lemmas.List.{set-set, set-get_or}
use Rattle.std.proofs.lemmas.Grind.{get_or-set_at}
use Rattle.std.proofs.lemmas.List.Elements.{All-nil, All-append, All-weaker}
use Rattle.ssb_pipeline.specs.Part.{has}
use Rattle.ssb_pipeline.specs.Rule.{Knows, fresh}
use Rattle.ssb_pipeline.specs.Pass.{AllSections, PartsState, PassState, known, knowing}
use Rattle.ssb_pipeline.specs.Batch.{BringsBatch, GetsTickets, IsMore, without_all}
use Rattle.ssb_pipeline.specs.Tickets.{TicketState, morsels_of}
use Rattle.ssb_pipeline.specs.Work.{AllBack, AreSettled, IsExhausted, IsReady, IsRound, OnlyIn, StaysReady}
use Rattle.ssb_pipeline.proofs.Later.{follows_self, follows_after}
use Rattle.ssb_pipeline.proofs.Numbers.{as-before}
use Rattle.ssb_pipeline.proofs.Passes.{all_knowing, all_but_one}

pub only_self : (s : ℕ) (p : PassState) → OnlyIn s p p
only_self s p = λ k. record { queues = p.queues; views = sym (set-get_or p.views s fresh) k }

-- two changes of one section are one
pub only_again : (s t : ℕ) (p q r : PassState) (v w : Knows) → t ≡ s → s < length p.views → q ≡ knowing p s v → r ≡ knowing q t w → OnlyIn s p r
only_again s t p q r v w is in_views a b =
    let b' : r ≡ knowing (knowing p s v) s w = b ∙ (λ k. knowing (a k) (is k) w) in
    let c : r ≡ knowing p s w = b' ∙ (λ k. record { queues = p.queues; views = set-set p.views s v w k }) in
    let w_is : known r s ≡ w = ap (λ x. known x s) c ∙ get_or-set_at p.views s s w fresh refl in_views in
    c ∙ ap (knowing p s) (sym w_is)

pub only_more : (s : ℕ) (p q r : PassState) → s < length p.views → OnlyIn s p q → OnlyIn s q r → OnlyIn s p r
only_more s p q r in_views a b = only_again s s p q r (known q s) (known r s) refl in_views a b

module _ (parts : PartsState) (s : ℕ) (p q : PassState) (ready : IsReady parts s p) where
  pub ready-again : StaysReady parts s p q → IsReady parts s q
  ready-again a = record { there = ready.there; pass = a.pass; none = a.none }

  pub ready_more : (r : PassState) → StaysReady parts s p q → StaysReady parts s q r → StaysReady parts s p r
  ready_more r a b = record { only = only_more s p q r (subst (λ n. s < n) (sym ready.pass.count) ready.there) a.only b.only; pass = b.pass; none = b.none }

pub round_self : (v : Knows) → IsRound v v
round_self v = record { more = []; mine = sym (append-nil v.mine); due = refl; follows = follows_self v.seen; back = inr (All-nil (λ i. has v.seen.returned i ≡ true)) }

back_after : (v w x : Knows) (a : IsRound v w) (b : IsRound w x) → ((w.seen.gave_up ≡ true) ⊎ AllBack a.more w.seen) → ((x.seen.gave_up ≡ true) ⊎ AllBack b.more x.seen)
    → (x.seen.gave_up ≡ true) ⊎ AllBack (a.more ++ b.more) x.seen
back_after v w x a b h (inl k) = inl k
back_after v w x a b (inl h) (inr k) = inl (b.follows.gave_up h)
back_after v w x a b (inr h) (inr k) =
    let Old : ℕ → Type 0 = λ i. has w.seen.returned i ≡ true in
    let New : ℕ → Type 0 = λ i. has x.seen.returned i ≡ true in
    inr (All-append New a.more b.more (All-weaker Old New b.follows.returned a.more h) k)

pub round_after : (v w x : Knows) → IsRound v w → IsRound w x → IsRound v x
round_after v w x a b = record {
  more = a.more ++ b.more;
  mine = b.mine ∙ (ap (λ l. l ++ b.more) a.mine ∙ append_assoc v.mine a.more b.more);
  due = b.due ∙ a.due;
  follows = follows_after x.seen w.seen v.seen b.follows a.follows;
  back = back_after v w x a b a.back b.back;
}

-- a section more was worked on
pub rounds_step : (p q r : PassState) (s : ℕ) → s < length q.views → AllSections (λ t w. IsRound (known p t) w) q → OnlyIn s q r → IsRound (known q s) (known r s) → AllSections (λ t w. IsRound (known p t) w) r
rounds_step p q r s in_views all only new =
    let F : ℕ → Knows → Type 0 = λ t w. IsRound (known p t) w in
    subst (AllSections F) (sym only) (all_knowing F q s (known r s) all (round_after (known p s) (known q s) (known r s) (all s in_views) new) in_views)

pub ended_step : (D : ℕ → Type 0) (q r : PassState) (s : ℕ) → s < length q.views → ((t : ℕ) → t < length q.views → t ≢ s → D t → IsExhausted (known q t)) → OnlyIn s q r → IsExhausted (known r s) → AllSections (λ t w. D t → IsExhausted w) r
ended_step D q r s in_views all only new =
    let F : ℕ → Knows → Type 0 = λ t w. D t → IsExhausted w in
    subst (AllSections F) (sym only) (all_but_one F q s (known r s) all (λ d. new) in_views)

-- tickets came, and their morsels were brought back
pub round-of : (batch : ℕ) (ts : List TicketState) (v m w : Knows) → GetsTickets batch ts v m → BringsBatch ts m w → IsRound v w
round-of batch ts v m w g b = record {
  more = morsels_of ts ++ g.lost;
  mine = b.mine ∙ g.mine;
  due = b.due ∙ ap (without_all (morsels_of ts)) g.due ∙ as-before (morsels_of ts) v.due g.fresh;
  follows = follows_after w.seen m.seen v.seen b.follows g.follows;
  back = by g.lost g.gave b.back;
}
  where
    by : (lost : List ℕ) → ((m.seen.gave_up ≡ true) ⊎ (lost ≡ [])) → AreSettled (morsels_of ts) w.seen → AreSettled (morsels_of ts ++ lost) w.seen
    by lost (inl gave) settled = inl (b.follows.gave_up gave)
    by lost (inr none) (inl gave) = inl gave
    by lost (inr none) (inr all) = inr (subst (λ is. AllBack is w.seen) (sym (append-nil (morsels_of ts)) ∙ ap (λ l. morsels_of ts ++ l) (sym none)) all)

-- no ticket came
pub round-none : (batch : ℕ) (ts : List TicketState) (v w : Knows) → ts ≡ [] → GetsTickets batch ts v w → IsRound v w
round-none batch ts v w none g = record {
  more = g.lost;
  mine = g.mine ∙ ap (λ us. v.mine ++ (morsels_of us ++ g.lost)) none;
  due = g.due ∙ ap (λ us. v.due ++ morsels_of us) none ∙ append-nil v.due;
  follows = g.follows;
  back = by g.lost g.gave;
}
  where
    by : (lost : List ℕ) → ((w.seen.gave_up ≡ true) ⊎ (lost ≡ [])) → AreSettled lost w.seen
    by lost (inl gave) = inl gave
    by lost (inr empty) = inr (subst (λ is. AllBack is w.seen) (sym empty) (All-nil (λ i. has w.seen.returned i ≡ true)))

-- where tickets came, more was handed out to the pass
pub more-of : (batch : ℕ) (ts : List TicketState) (v m w : Knows) → (ts ≡ [] → ⊥) → GetsTickets batch ts v m → BringsBatch ts m w → IsMore v w
more-of batch [] v m w some g b = absurd (some refl)
more-of batch (t ∷ ts) v m w some g b = record { first = t.morsel; others = morsels_of ts ++ g.lost; mine = b.mine ∙ g.mine }
