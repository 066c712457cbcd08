-- A part whose section is done from its first morsel on.
use Rattle.std.proofs.Common.{◌≡◌, ◌∙◌, ◌≤◌, ◌<◌, ◌+◌, ◌-◌, ℕ, true, true≢false, inl, inr, refl, sym, ap, subst, arith}
use Rattle.std.specs.List.{range_with_len}
use Rattle.std.proofs.lemmas.Bool.{cases_lt}
use Rattle.ssb_job.specs.Kept.{fact_rows}
use Rattle.ssb_pipeline.specs.Morsels.{morsel_count, section}
use Rattle.ssb_pipeline.specs.Part.{Follows, Grows, IsLawfulPart, IsWhole, PartState, Ran, Returns, back, has, ours}
use Rattle.ssb_pipeline.proofs.Later.{back-follows, grows-more, is-back}
use Rattle.ssb_pipeline.proofs.RangeFacts.{range-has, within-range}
use Rattle.ssb_pipeline.proofs.RunFacts.{ran-follows, ran_after, ran_one, sweep-ran}

-- all is handed out, and what stands before this number came back; where all came back before, the groups are what they were
pub record IsSwept (old now : PartState) (first end morsel : ℕ) : Type 0 where
  pub ran : Ran old now
  pub grows : Grows old now
  pub ours : ours now ≡ range_with_len first (end - first)
  pub handed : now.handed ≡ range_with_len first (end - first)
  pub done : (i : ℕ) → first ≤ i → i < morsel → has now.returned i ≡ true
  pub lawful : IsLawfulPart now
  pub same : IsWhole old → now.groups ≡ old.groups

-- all of the section is handed out at once
pub begins : (p q : PartState) (first end : ℕ) → IsLawfulPart p → q ≡ record p { handed = ours p } → IsLawfulPart q → ours q ≡ range_with_len first (end - first) → IsSwept p q first end first
begins p q first end l e m is = record {
  ran = sweep-ran p q l e;
  grows = record { follows = ran-follows p q (sweep-ran p q l e); gave_up = ap (λ (x : PartState). x.gave_up) e };
  ours = is;
  handed = subst (λ (x : PartState). x.handed ≡ ours x) (sym e) refl ∙ is;
  done = λ i h k. absurd (omega (arith, h, k));
  lawful = m;
  same = λ _. ap (λ (x : PartState). x.groups) e;
}

-- a morsel that came back already
pub passes : (old now : PartState) (first end morsel : ℕ) → IsSwept old now first end morsel → has now.returned morsel ≡ true → IsSwept old now first end (morsel + 1)
passes old now first end morsel s h = record { ran = s.ran; grows = s.grows; ours = s.ours; handed = s.handed; lawful = s.lawful; same = s.same; done = λ i from to. elim (cases_lt i morsel) [ inl l ↦ s.done i from l | inr g ↦ let same : morsel ≡ i = omega (arith, to, g) in subst (λ n. has now.returned n ≡ true) same h ] }

-- the morsels of a section stay the same
same-ours : (old now : PartState) → Follows now old → ours now ≡ ours old
same-ours old now f = λ k. section (morsel_count (fact_rows (f.job k)) (f.size k)) (f.sections k) (f.section k)

-- where all of the section came back before, the next morsel did
pub was-back : (old now : PartState) (first end morsel : ℕ) → IsSwept old now first end morsel → IsWhole old → first ≤ morsel → morsel < end → has now.returned morsel ≡ true
was-back old now first end morsel s whole from to =
    s.grows.follows.returned morsel (whole morsel (subst (λ xs. has xs morsel ≡ true) (sym s.ours ∙ same-ours old now s.grows.follows) (range-has first (end - first) morsel from (omega (arith, from, to)))))

-- a morsel that is done now
pub goes-on : (old now next : PartState) (first end morsel : ℕ) → IsSwept old now first end morsel → first ≤ morsel → morsel < end → Returns morsel now next → IsLawfulPart next → IsSwept old next first end (morsel + 1)
goes-on old now next first end morsel s from to r l =
    let e = r.after in
    let later = back-follows morsel now next r in
    record {
      ran = ran_after old now next s.ran (ran_one (back morsel) now next r);
      grows = grows-more old now next s.grows later (ap (λ (x : PartState). x.gave_up) e);
      ours = ap ours e ∙ s.ours;
      handed = ap (λ (x : PartState). x.handed) e ∙ s.handed;
      lawful = l;
      same = λ whole. absurd (true≢false (sym (was-back old now first end morsel s whole from to) ∙ r.fresh));
      done = λ i from to. elim (cases_lt i morsel) [ inl b ↦ later.returned i (s.done i from b) | inr b ↦ let same : morsel ≡ i = omega (arith, to, b) in subst (λ n. has next.returned n ≡ true) same (is-back morsel now next r) ];
    }

-- the next morsel was handed out
pub next-handed : (old now : PartState) (first end morsel : ℕ) → IsSwept old now first end morsel → first ≤ morsel → morsel < end → has now.handed morsel ≡ true
next-handed old now first end morsel s from to = subst (λ xs. has xs morsel ≡ true) (sym s.handed) (range-has first (end - first) morsel from (omega (arith, from, to)))

-- all of the section came back
pub all-done : (old now : PartState) (first end morsel : ℕ) → IsSwept old now first end morsel → first ≤ end → end ≤ morsel → (i : ℕ) → has (ours now) i ≡ true → has now.returned i ≡ true
all-done old now first end morsel s order ended i h =
    let w = within-range first (end - first) i (subst (λ xs. has xs i ≡ true) s.ours h) in
    let below = w.1 in
    s.done i w.0 (omega (arith, below, order, ended))
