-- Two lists of cuts gone through together.
use Rattle.std.proofs.Common.{◌≡◌, ◌∙◌, ◌⊎◌, inl, inr, ⊎_elim, ℕ, ℤ, pos, ◌+◌, ◌-◌, ◌<◌, ◌≤◌, ◌<ℤ◌, ◌≤ℤ◌, Bool, true, false, not, List, [], length, get_or, refl, sym, ap, arith, subst}
use Rattle.std.proofs.lemmas.Bool.{cases_lt}
use Rattle.std.proofs.lemmas.Int.{by_lt_z, ints}
use Rattle.std.proofs.lemmas.List.Sums.{fold_more}
use Rattle.std.specs.List.{All}
use mathlib.Core.Bool.{beq}
use Rattle.ssb_sets.specs.Joins.{joined}
use Rattle.ssb_sets.specs.Merging.{Follows, IsNext, Passes, part}
use Rattle.ssb_sets.specs.NumberSets.{has, turned_at}
use Rattle.ssb_sets.specs.Orders.{IsOrdered}
use Rattle.ssb_sets.specs.declared.join.Join.{Join}
use Rattle.ssb_sets.specs.declared.merge.Place.{Place}
use Rattle.ssb_sets.specs.declared.set.NumberSet.{NumberSet}
use Rattle.ssb_sets.proofs.SetFacts.{turned_below, turned_from}

cases_order : (a b : ℤ) → (a <ℤ b) ⊎ (b ≤ℤ a)
cases_order a b = by_lt_z a b inl inr

part_more : (first : Bool) (cuts : List ℤ) (i : ℕ) (n : ℤ) → i < length cuts → part first cuts (i + 1) n ≡ turned_at n (part first cuts i n) (get_or cuts i (pos 0))
part_more first cuts i n lt = fold_more (turned_at n) first cuts i (pos 0) lt

-- a cut that is not above the next one is above none ahead
from-next : (cuts : List ℤ) (i : ℕ) (cut : ℤ) → IsOrdered cuts → (i < length cuts → cut ≤ℤ get_or cuts i (pos 0)) → (k : ℕ) → i ≤ k → k < length cuts → cut ≤ℤ get_or cuts k (pos 0)
from-next cuts i cut ordered next k above long = ⊎_elim
    (λ lt. let o = ordered i k lt long in let m = next (omega (arith, lt, long)) in omega (arith, ints, o, m))
    (λ le. let same : i ≡ k = omega (arith, le, above) in rw (← same) (next (omega (arith, long, same))))
    (cases_lt i k)

-- what a place behind a cut knows: it follows, and of the numbers below the cut the cuts passed say the same
pub record Stepped (first : Bool) (cuts : List ℤ) (p q : Place) (cut : ℤ) : Type 0 where
  follows : Follows first cuts q cut
  same : (n : ℤ) → n <ℤ cut → part first cuts q.passed n ≡ part first cuts p.passed n

pub follows-passed : (first : Bool) (cuts : List ℤ) (p q : Place) (last cut : ℤ) → IsOrdered cuts → Follows first cuts p last → last ≤ℤ cut → (p.passed < length cuts → cut ≤ℤ get_or cuts p.passed (pos 0)) → Passes cuts p cut q → Stepped first cuts p q cut
follows-passed first cuts p q last cut ordered f le next (inl h) =
    let lt = h.0 in
    let here = h.1 in
    let Q : Place → Type 0 = λ r. Stepped first cuts p r cut in
    subst Q (sym h.2)
    (record {
      follows = record {
        within = omega (arith, lt);
        ahead = λ k above long. let o = ordered p.passed k (omega (arith, above)) long in omega (arith, ints, o, here);
        says = λ n from. part_more first cuts p.passed n lt ∙ ap (turned_at n (part first cuts p.passed n)) here ∙ turned_from n _ cut from ∙ ap not (f.says n (omega (arith, ints, from, le)));
      };
      same = λ n below. part_more first cuts p.passed n lt ∙ ap (turned_at n (part first cuts p.passed n)) here ∙ turned_below n _ cut below;
    })
follows-passed first cuts p q last cut ordered f le next (inr h) =
    let Q : Place → Type 0 = λ r. Stepped first cuts p r cut in
    subst Q (sym h.1)
    (record {
      follows = record {
        within = f.within;
        ahead = from-next cuts p.passed cut ordered next;
        says = λ n from. f.says n (omega (arith, ints, from, le));
      };
      same = λ n below. refl;
    })

-- what holds between two cuts: the set that is made says what the cuts passed say, joined
pub record Merging (by : Join) (first_one : Bool) (ones : List ℤ) (first_other : Bool) (others : List ℤ) (p q : Place) (said : Bool) (last : ℤ) (made : NumberSet) : Type 0 where
  pub one : Follows first_one ones p last
  pub other : Follows first_other others q last
  pub now : said ≡ joined by p.said q.said
  pub order : All (λ c. c ≤ℤ last) made.cuts.items
  pub says : (n : ℤ) → has made n ≡ joined by (part first_one ones p.passed n) (part first_other others q.passed n)

pub same-answer : (a b : Bool) → not (beq a b) ≡ false → b ≡ a
same-answer true true e = refl
same-answer true false e = cc
same-answer false true e = cc
same-answer false false e = refl

pub other-answer : (a b : Bool) → not (beq a b) ≡ true → not b ≡ a
other-answer true true e = cc
other-answer true false e = refl
other-answer false true e = refl
other-answer false false e = cc

module _ (by : Join) (first_one : Bool) (ones : List ℤ) (first_other : Bool) (others : List ℤ) (p q p' q' : Place) (said said' : Bool) (last cut : ℤ) (made made' : NumberSet) where
  pub at-next : Merging by first_one ones first_other others p q said last made → IsNext ones p.passed others q.passed cut → last ≤ℤ cut
  at-next m next = ⊎_elim
      (λ h. let o = m.one.ahead p.passed (omega arith) h.0 in let e = h.1 in omega (arith, ints, o, e))
      (λ h. let o = m.other.ahead q.passed (omega arith) h.0 in let e = h.1 in omega (arith, ints, o, e))
      next.there

  -- below the cut nothing changes; from it on both sides are what the places know
  pub merging-step : IsOrdered ones → IsOrdered others → Merging by first_one ones first_other others p q said last made → IsNext ones p.passed others q.passed cut → Passes ones p cut p' → Passes others q cut q'
      → said' ≡ joined by p'.said q'.said → All (λ c. c ≤ℤ cut) made'.cuts.items
      → ((n : ℤ) → n <ℤ cut → has made' n ≡ has made n)
      → ((n : ℤ) → cut ≤ℤ n → has made n ≡ said → has made' n ≡ said')
      → Merging by first_one ones first_other others p' q' said' cut made'
  merging-step ordered_ones ordered_others m next passes_one passes_other now order below above = record {
    one = a.follows;
    other = b.follows;
    now = now;
    order = order;
    says = λ n. ⊎_elim
        (λ lt. below n lt ∙ m.says n ∙ (λ j. joined by (sym (a.same n lt) j) (sym (b.same n lt) j)))
        (λ ge. above n ge (m.says n ∙ (λ j. joined by (m.one.says n (omega (arith, ints, le, ge)) j) (m.other.says n (omega (arith, ints, le, ge)) j)) ∙ sym m.now) ∙ now ∙ (λ j. joined by (sym (a.follows.says n ge) j) (sym (b.follows.says n ge) j)))
        (cases_order n cut);
  }
    where
      le : last ≤ℤ cut
      le = at-next m next

      a : Stepped first_one ones p p' cut
      a = follows-passed first_one ones p p' last cut ordered_ones m.one le next.below_ones passes_one

      b : Stepped first_other others q q' cut
      b = follows-passed first_other others q q' last cut ordered_others m.other le next.below_others passes_other

  pub all-below : Merging by first_one ones first_other others p q said last made → IsNext ones p.passed others q.passed cut → All (λ c. c ≤ℤ cut) made.cuts.items
  all-below m next = λ k d lt. let o = m.order k d lt in let le = at-next m next in omega (arith, ints, o, le)

pub merging-starts : (by : Join) (first_one : Bool) (ones : List ℤ) (first_other : Bool) (others : List ℤ) (said : Bool) (cut : ℤ) (made : NumberSet) → IsOrdered ones → IsOrdered others → IsNext ones 0 others 0 cut
    → said ≡ joined by first_one first_other → ((n : ℤ) → has made n ≡ said) → made.cuts.items ≡ []
    → Merging by first_one ones first_other others (record { passed = 0; said = first_one }) (record { passed = 0; said = first_other }) said cut made
merging-starts by first_one ones first_other others said cut made ordered_ones ordered_others next now same none = record {
  one = record { within = omega arith; ahead = from-next ones 0 cut ordered_ones next.below_ones; says = λ n from. refl };
  other = record { within = omega arith; ahead = from-next others 0 cut ordered_others next.below_others; says = λ n from. refl };
  now = now;
  order = rw none (λ k d lt. absurd (omega (arith, lt)));
  says = λ n. same n ∙ now;
}

-- ---- each cut leaves fewer ahead

none-more : (cuts : List ℤ) (p q : Place) (cut : ℤ) → Passes cuts p cut q → length cuts - q.passed ≤ length cuts - p.passed
none-more cuts p q cut (inl h) = let e = ap (λ (r : Place). r.passed) h.2 in omega (arith, e)
none-more cuts p q cut (inr h) = let e = ap (λ (r : Place). r.passed) h.1 in omega (arith, e)

one-less : (cuts : List ℤ) (p q : Place) (cut : ℤ) → Passes cuts p cut q → p.passed < length cuts → get_or cuts p.passed (pos 0) ≡ cut → length cuts - q.passed < length cuts - p.passed
one-less cuts p q cut (inl h) lt is = let e = ap (λ (r : Place). r.passed) h.2 in omega (arith, e, lt)
one-less cuts p q cut (inr h) lt is = absurd (h.0 lt is)

pub goes-on : (ones others : List ℤ) (p q p' q' : Place) (cut : ℤ) → IsNext ones p.passed others q.passed cut → Passes ones p cut p' → Passes others q cut q'
    → (length ones - p'.passed) + (length others - q'.passed) < (length ones - p.passed) + (length others - q.passed)
goes-on ones others p q p' q' cut next a b = ⊎_elim
    (λ h. let one = one-less ones p p' cut a h.0 h.1 in let other = none-more others q q' cut b in omega (arith, one, other))
    (λ h. let one = none-more ones p p' cut a in let other = one-less others q q' cut b h.0 h.1 in omega (arith, one, other))
    next.there
