-- A part that is worked off: what it hands out comes back before the next.
use Rattle.std.proofs.Common.{◌≡◌, ◌∙◌, ◌∷◌, [], ◌<◌, ◌-◌, ℕ, true, false, true≢false, None, inl, inr, length, sym, ap, subst, arith, length-append}
use Rattle.std.proofs.lemmas.Bool.{false_from_ne_true}
use Rattle.ssb_pipeline.specs.Part.{Grows, Hands, HandsOut, IsBack, IsLawfulPart, IsWhole, PartState, Ran, Returns, back, hand, has, ours}
use Rattle.ssb_pipeline.proofs.Later.{back-follows, follows_after, grows-more, grows_self, hand-follows, is-back}
use Rattle.ssb_pipeline.proofs.RangeFacts.{range-has}
use Rattle.ssb_pipeline.proofs.RunFacts.{ran_after, ran_one, ran_self}
use Rattle.ssb_pipeline.proofs.SetFacts.{has-last, has-right, no-longer}

-- nothing is lost, and nothing is out that was not out before
pub record IsWorked (old now : PartState) : Type 0 where
  pub ran : Ran old now
  pub grows : Grows old now
  pub back : IsBack old → IsBack now
  pub lawful : IsLawfulPart now

pub nothing-yet : (p : PartState) → IsLawfulPart p → IsWorked p p
nothing-yet p l = record { ran = ran_self p; grows = grows_self p; back = λ b. b; lawful = l }

-- what is handed out is handed out then, and did not come back
pub is-out : (i : ℕ) (p q : PartState) → Hands i p q → has q.handed i ≡ true
is-out i p q h = ap (λ (x : PartState). has x.handed i) h.after ∙ has-right p.handed (i ∷ []) i (range-has i 1 i (omega arith) (omega arith))

pub is-fresh : (i : ℕ) (p q : PartState) → IsLawfulPart p → Hands i p q → has q.returned i ≡ false
is-fresh i p q l h = ap (λ (x : PartState). has x.returned i) h.after ∙ false_from_ne_true (has p.returned i) (λ there. true≢false (sym (l.among i there) ∙ h.fresh))

-- fewer of the section are left
pub fewer-left : (i : ℕ) (p q r : PartState) → Hands i p q → IsLawfulPart q → Returns i q r → length (ours r) - length r.handed < length (ours p) - length p.handed
fewer-left i p q r h l b =
    let room = no-longer q.handed (ours q) l.handed l.within in
    let more = ap (λ (x : PartState). length x.handed) h.after ∙ length-append p.handed (i ∷ []) in
    let same = ap (λ (x : PartState). length (ours x)) h.after in
    let still = ap (λ (x : PartState). length (ours x)) b.after in
    let kept = ap (λ (x : PartState). length x.handed) b.after in
    omega (arith, room, more, same, still, kept)

-- one morsel was handed out and came back
pub one-more : (i : ℕ) (old now mid next : PartState) → IsWorked old now → Hands i now mid → Returns i mid next → IsLawfulPart next → IsWorked old next
one-more i old now mid next w h b l =
    let e = h.after in
    let f = b.after in
    let later = follows_after next mid now (back-follows i mid next b) (hand-follows i now mid h) in
    record {
      ran = ran_after old now next w.ran (ran_after now mid next (ran_one (hand i) now mid h) (ran_one (back i) mid next b));
      grows = grows-more old now next w.grows later (ap (λ (x : PartState). x.gave_up) f ∙ ap (λ (x : PartState). x.gave_up) e);
      back = λ all k there. elim (has-last now.handed i k (sym (ap (λ (x : PartState). has x.handed k) e) ∙ sym (ap (λ (x : PartState). has x.handed k) f) ∙ there)) [
        | inl before ↦ later.returned k (w.back all k before)
        | inr same ↦ subst (λ n. has next.returned n ≡ true) (sym same) (is-back i mid next b)
      ];
      lawful = l;
    }

-- where no ticket comes, all is handed out, and so came back
pub all-back : (old now end : PartState) → IsWorked old now → HandsOut now None end → IsBack old → old.gave_up ≡ false → IsWhole end
all-back old now end w h none going i there =
    let g = w.grows in
    subst (λ (x : PartState). has x.returned i ≡ true) (sym h.same)
    (elim h.ended [
      | inl gave ↦ absurd (true≢false (sym gave ∙ g.gave_up ∙ going))
      | inr all ↦ w.back none i (all i (subst (λ (x : PartState). has (ours x) i ≡ true) h.same there))
    ])
