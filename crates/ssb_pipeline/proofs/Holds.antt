-- What a pass knows after a hold: it took a part, changed it and put it back.
use Rattle.std.proofs.Common.{◌≡◌, ◌<◌, [], ℕ, false, not, length, refl, sym, ap, ◌∙◌, subst}
use Rattle.std.specs.List.{filter}
use Rattle.std.proofs.lemmas.List.{set-set}
use Rattle.std.proofs.lemmas.Grind.{get_or-set_at}
use Rattle.ssb_pipeline.specs.Part.{PartState, handed_between, has}
use Rattle.ssb_pipeline.specs.Pass.{HoldsNone, PassState, known, knowing}
use Rattle.ssb_pipeline.specs.Rule.{Knows, fresh, putter, taker}
use Rattle.ssb_pipeline.specs.Work.{OnlyIn}
use Rattle.ssb_pipeline.proofs.Numbers.{filter-none}
use Rattle.ssb_pipeline.proofs.Passes.{all_knowing}
use Rattle.ssb_pipeline.proofs.Rounds.{only_again}

-- ---- the pass

pub record Held (s : ℕ) (p r : PassState) (x q : PartState) : Type 0 where
  pub known : known r s ≡ putter (taker (known p s) x) q
  pub only : OnlyIn s p r
  pub none : HoldsNone r

pub taken : (s t : ℕ) (p m : PassState) (x : PartState) → t ≡ s → s < length p.views → m ≡ knowing p s (taker (known p s) x) → known m t ≡ taker (known p s) x
taken s t p m x is in_views a = ap (known m) is ∙ ap (λ y. known y s) a ∙ get_or-set_at p.views s s (taker (known p s) x) fresh refl in_views

pub hold : (s t : ℕ) (p m r : PassState) (x q : PartState) → t ≡ s → s < length p.views → HoldsNone p → m ≡ knowing p s (taker (known p s) x) → r ≡ knowing m t (putter (known m t) q) → Held s p r x q
hold s t p m r x q is in_views none a b =
    let v : Knows = taker (known p s) x in
    let w : Knows = putter (known m t) q in
    let b' : r ≡ knowing (knowing p s v) s w = b ∙ (λ k. knowing (a k) (is k) w) in
    let c : r ≡ knowing p s w = b' ∙ (λ k. record { queues = p.queues; views = set-set p.views s v w k }) in
    let w_is : known r s ≡ w = ap (λ y. known y s) c ∙ get_or-set_at p.views s s w fresh refl in_views in
    record {
      known = w_is ∙ ap (λ u. putter u q) (taken s t p m x is in_views a);
      only = only_again s t p m r v w is in_views a b;
      none = subst HoldsNone (sym c) (all_knowing (λ _ u. u.holds ≡ false) p s w none refl in_views);
    }

-- ---- the part

pub same-none : (x q : PartState) → q.handed ≡ x.handed → handed_between x q ≡ []
same-none x q e = ap (filter (λ i. not (has x.handed i))) e ∙ filter-none (λ i. not (has x.handed i)) x.handed (λ k there. ap not there)
