-- What is read as a condition is one.
use Rattle.std.proofs.Common.{◌≡◌, ℕ, zero, suc, ◌<◌, ◌≤◌, List, length, Some, refl, arith, inl, inr}
use Rattle.ssb_tokens.specs.declared.token.Token.{Token}
use Rattle.ssb_terms.specs.declared.keyword.Keyword.TheVariants as words
use Rattle.ssb_tokens.specs.declared.token.Sign.TheVariants as s
use Rattle.ssb_trees.specs.declared.condition.Condition.TheVariants as c
use Rattle.ssb_sql.specs.Forms.{Spelling}
use Rattle.ssb_sql.specs.Conditions.{IsCond, IsOrs, IsConj, IsAnds, IsNeg, IsTest, or_chain, and_chain}
use Rattle.ssb_sql.specs.Conditions.IsCond.{cond}
use Rattle.ssb_sql.specs.Conditions.IsOrs.{no_or, or}
use Rattle.ssb_sql.specs.Conditions.IsConj.{conj}
use Rattle.ssb_sql.specs.Conditions.IsAnds.{no_and, and}
use Rattle.ssb_sql.specs.Conditions.IsNeg.{plain, not}
use Rattle.ssb_sql.specs.Conditions.IsTest.{parens, bare}
use Rattle.ssb_sql.specs.Room.{HasRoom}
use Rattle.ssb_sql.specs.Steps.{Parser, after, nonempty_at, Shrinks}
use Rattle.ssb_sql.specs.ReadConditions.{bare_at, test_at, neg_at, conj_at, disj_at, cond_at}
use Rattle.ssb_tokens.proofs.ReadingFacts.{bind_some}
use Rattle.ssb_sql.proofs.StepFacts.{choose_some}
use Rattle.ssb_sql.proofs.Shapes.{Sound, Shorter, Tame, tame_shorter, IsChain, is_chain, spells, begins, sound_enclosed, made_sound, shrinks_by, nonempty_some}
use Rattle.ssb_sql.proofs.TestSound.{sound_bare, bare_shorter, tame_bare}
use Rattle.ssb_trees.specs.Conditions.{Filter}

module _ {C : Type 0} (R : Spelling C) (r : Shorter R) where
  mutual
    cond_less : {from to : List Token} {x : Filter C} → IsCond R from to x → length to < length from
    cond_less (cond a b) = let p = conj_less a in let q = ors_less b in omega arith

    ors_less : {from to : List Token} {xs : List (Filter C)} → IsOrs R from to xs → length to ≤ length from
    ors_less no_or = omega arith
    ors_less (or a b) = let p = conj_less a in let q = ors_less b in omega arith

    conj_less : {from to : List Token} {x : Filter C} → IsConj R from to x → length to < length from
    conj_less (conj a b) = let p = neg_less a in let q = ands_less b in omega arith

    ands_less : {from to : List Token} {xs : List (Filter C)} → IsAnds R from to xs → length to ≤ length from
    ands_less no_and = omega arith
    ands_less (and a b) = let p = neg_less a in let q = ands_less b in omega arith

    neg_less : {from to : List Token} {x : Filter C} → IsNeg R from to x → length to < length from
    neg_less (plain a) = test_less a
    neg_less (not a) = let p = test_less a in omega arith

    test_less : {from to : List Token} {x : Filter C} → IsTest R from to x → length to < length from
    test_less (parens a) = let p = cond_less a in omega arith
    test_less (bare a) = (bare_shorter R r).by a

  pub cond_shorter : Shorter (IsCond R)
  cond_shorter = record { by = λ h. cond_less h }

  pub conj_shorter : Shorter (IsConj R)
  conj_shorter = record { by = λ h. conj_less h }

  pub neg_shorter : Shorter (IsNeg R)
  neg_shorter = record { by = λ h. neg_less h }

module _ {C : Type 0} (R : Spelling C) (t : Tame R) where
  mutual
    cond_within : {from to : List Token} {x : Filter C} → IsCond R from to x → (d : ℕ) → HasRoom d from → HasRoom d to
    cond_within (cond a b) d h = ors_within b d (conj_within a d h)

    ors_within : {from to : List Token} {xs : List (Filter C)} → IsOrs R from to xs → (d : ℕ) → HasRoom d from → HasRoom d to
    ors_within no_or d h = h
    ors_within (or a b) d h = ors_within b d (conj_within a d h)

    conj_within : {from to : List Token} {x : Filter C} → IsConj R from to x → (d : ℕ) → HasRoom d from → HasRoom d to
    conj_within (conj a b) d h = ands_within b d (neg_within a d h)

    ands_within : {from to : List Token} {xs : List (Filter C)} → IsAnds R from to xs → (d : ℕ) → HasRoom d from → HasRoom d to
    ands_within no_and d h = h
    ands_within (and a b) d h = ands_within b d (neg_within a d h)

    neg_within : {from to : List Token} {x : Filter C} → IsNeg R from to x → (d : ℕ) → HasRoom d from → HasRoom d to
    neg_within (plain a) d h = test_within a d h
    neg_within (not a) d h = test_within a d h

    test_within : {from to : List Token} {x : Filter C} → IsTest R from to x → (d : ℕ) → HasRoom d from → HasRoom d to
    test_within (parens a) zero h = absurd h
    test_within (parens a) (suc d) h = cond_within a d h
    test_within (bare a) d h = (tame_bare R t).within a d h

  pub tame_cond : Tame (IsCond R)
  tame_cond = record { shorter = λ h. (cond_shorter R (tame_shorter R t)).by h; within = λ h d w. cond_within h d w }

  pub tame_conj : Tame (IsConj R)
  tame_conj = record { shorter = λ h. (conj_shorter R (tame_shorter R t)).by h; within = λ h d w. conj_within h d w }

  pub tame_neg : Tame (IsNeg R)
  tame_neg = record { shorter = λ h. (neg_shorter R (tame_shorter R t)).by h; within = λ h d w. neg_within h d w }

-- what p reads, where that is one token at least, is in R, and what inner reads is a condition
module _ {C : Type 0} (R : Spelling C) (p : Parser C) (inner : Parser (Filter C)) (reads : Sound (nonempty_at p) R) (h : Sound inner (IsCond R)) where
  test_sound : (ts : List Token) (x : Filter C × List Token) → test_at p inner ts ≡ Some x → IsTest R ts x.1 x.0
  test_sound ts x e = sound_enclosed inner (bare_at p) (IsCond R) (IsTest R) h (λ us y q. bare ((sound_bare R p reads).by us y q)) (λ from to y a. parens a) ts x e

  neg_sound : (ts : List Token) (x : Filter C × List Token) → neg_at p inner ts ≡ Some x → IsNeg R ts x.1 x.0
  unfolding neg_at
  neg_sound ts x e =
      elim (choose_some (after (s.Word words.Not) ts) _ _ (Some x) e) as (λ _. IsNeg R ts x.1 x.0) [
        | inl g ↦
            let f = bind_some (test_at p inner g.0) _ x g.2 in
            spells (IsNeg R) ts f.0.1 (c.Not f.0.0) x (begins (IsNeg R) (s.Word words.Not) ts g.0 f.0.1 (c.Not f.0.0) g.1 (not (test_sound g.0 f.0 f.1))) f.2
        | inr g ↦ plain (test_sound ts x g.1)
      ]

  pub sound_neg : Sound (neg_at p inner) (IsNeg R)
  sound_neg = record { by = neg_sound }

  ands : IsChain (after (s.Word words.And)) (neg_at p inner) (IsAnds R)
  ands = is_chain (s.Word words.And) (neg_at p inner) (IsNeg R) (IsAnds R) sound_neg (λ to. no_and) (λ from mid to x xs a m. and a m)

  conj_sound : (ts : List Token) (x : Filter C × List Token) → conj_at p inner ts ≡ Some x → IsConj R ts x.1 x.0
  unfolding conj_at
  conj_sound ts x e = made_sound (s.Word words.And) (neg_at p inner) (IsNeg R) (IsAnds R) (IsConj R) and_chain sound_neg ands (λ from mid to y ys a b. conj a b) ts x e

  pub sound_conj : Sound (conj_at p inner) (IsConj R)
  sound_conj = record { by = conj_sound }

  ors : IsChain (after (s.Word words.Or)) (conj_at p inner) (IsOrs R)
  ors = is_chain (s.Word words.Or) (conj_at p inner) (IsConj R) (IsOrs R) sound_conj (λ to. no_or) (λ from mid to x xs a m. or a m)

  disj_sound : (ts : List Token) (x : Filter C × List Token) → disj_at p inner ts ≡ Some x → IsCond R ts x.1 x.0
  disj_sound ts x e = made_sound (s.Word words.Or) (conj_at p inner) (IsConj R) (IsOrs R) (IsCond R) or_chain sound_conj ors (λ from mid to y ys a b. cond a b) ts x e

-- a condition inside one more parenthesis
pub cond_is : {C : Type 0} (p : ℕ → Parser C) (d e : ℕ) (ts : List Token) → d ≡ suc e → cond_at p d ts ≡ disj_at (p e) (cond_at p e) ts
unfolding cond_at
cond_is p d e ts is = rw is refl

pub sound_cond : {C : Type 0} (R : Spelling C) (p : ℕ → Parser C) → ((d : ℕ) → Sound (nonempty_at (p d)) R) → (d : ℕ) → Sound (cond_at p d) (IsCond R)
unfolding cond_at
sound_cond R p reads zero = record { by = λ ts x e. absurd cc }
sound_cond R p reads (suc d) = record { by = λ ts x e. disj_sound R (p d) (cond_at p d) (reads d) (sound_cond R p reads d) ts x e }

-- what p reads at some depth, where that is one token at least
abbrev ReadBy : {C : Type 0} → (ℕ → Parser C) → Spelling C
ReadBy p from to x = (d : ℕ) × (nonempty_at (p d) from ≡ Some (x, to))

module _ {C : Type 0} (p : ℕ → Parser C) where
  read_by : (d : ℕ) → Sound (nonempty_at (p d)) (ReadBy p)
  read_by d = record { by = λ ts x e. (d, e) }

  read_shorter : Shorter (ReadBy p)
  read_shorter = record { by = λ h. (nonempty_some (p h.0) _ _ h.1).1 }

  pub conj_shrinks : (d : ℕ) → Shrinks (after (s.Word words.Or)) (conj_at (p d) (cond_at p d))
  conj_shrinks d =
      shrinks_by (s.Word words.Or) (conj_at (p d) (cond_at p d)) (IsConj (ReadBy p)) (sound_conj (ReadBy p) (p d) (cond_at p d) (read_by d) (sound_cond (ReadBy p) p read_by d)) (conj_shorter (ReadBy p) read_shorter)

  pub neg_shrinks : (d : ℕ) → Shrinks (after (s.Word words.And)) (neg_at (p d) (cond_at p d))
  neg_shrinks d =
      shrinks_by (s.Word words.And) (neg_at (p d) (cond_at p d)) (IsNeg (ReadBy p)) (sound_neg (ReadBy p) (p d) (cond_at p d) (read_by d) (sound_cond (ReadBy p) p read_by d)) (neg_shorter (ReadBy p) read_shorter)
