-- Counting open parentheses.
use Rattle.std.proofs.Common.{◌≡◌, ℕ, zero, suc, ◌+◌, ◌<◌, ◌≤◌, List, [], ◌∷◌, ◌++◌, length, refl, get_or, drop, Some, None, sym, ap, subst, ◌∙◌, arith, add-one}
use Rattle.std.proofs.Math.Seq.{drop-cons}
use Rattle.std.proofs.lemmas.List.{drop_all}
use Rattle.ssb_tokens.specs.declared.token.Token.{Token}
use Rattle.ssb_tokens.specs.declared.token.Token.TheVariants.{Fixed}
use Rattle.ssb_tokens.specs.declared.token.Mark.TheVariants as marks
use Rattle.ssb_tokens.specs.declared.token.Sign.TheVariants as s
use Rattle.ssb_sql.specs.Steps.{is_fixed, is_sign}
use Rattle.ssb_sql.specs.Depth.{IsWithin, opened, closed}
use Rattle.ssb_sql.specs.Room.{HasRoom, room_after}
use Rattle.ssb_sql.proofs.StepFacts.{none_some, some_is}

-- One proof each for what holds of every token but a parenthesis: a clause for any token is checked once for each word and mark.
fewer : (m n : ℕ) → suc m ≤ n → m ≤ n
fewer m n h = omega arith

same_rises : (n m : ℕ) → Some n ≡ Some m → m ≤ n + 1
same_rises n m e = let p = some_is n m e in omega arith

-- as many as there are tokens are enough
pub all_within : (ts : List Token) (n : ℕ) → length ts ≤ n → HasRoom n ts
all_within [] n h = tt
all_within (Fixed (s.Mark marks.Open) ∷ ts) zero h = absurd (omega arith)
all_within (Fixed (s.Mark marks.Open) ∷ ts) (suc n) h = all_within ts n (omega arith)
all_within (Fixed (s.Mark marks.Close) ∷ ts) n h = all_within ts (suc n) (omega arith)
all_within (t ∷ ts) n h = all_within ts n (fewer (length ts) n h)

-- two statements, each of which follows from the other
pub record Same (P Q : Type 0) : Type 0 where
  pub to : P → Q
  pub from : Q → P

-- counting down says the same as the fronts do
fronts : (n : ℕ) (front rest : List Token) → HasRoom n (front ++ rest) → opened front ≤ closed front + n
fronts n [] rest h = omega arith
fronts zero (Fixed (s.Mark marks.Open) ∷ front) rest h = absurd h
fronts (suc n) (Fixed (s.Mark marks.Open) ∷ front) rest h = let p = fronts n front rest h in omega arith
fronts n (Fixed (s.Mark marks.Close) ∷ front) rest h = let p = fronts (suc n) front rest h in omega arith
fronts n (t ∷ front) rest h = fronts n front rest h

room : (n : ℕ) (ts : List Token) → IsWithin n ts → HasRoom n ts
room n [] h = tt
room zero (Fixed (s.Mark marks.Open) ∷ ts) h = let p = h (Fixed (s.Mark marks.Open) ∷ []) ts refl in absurd (omega arith)
room (suc n) (Fixed (s.Mark marks.Open) ∷ ts) h = room n ts (λ front rest e. let p = h (Fixed (s.Mark marks.Open) ∷ front) rest (ap (λ us. Fixed (s.Mark marks.Open) ∷ us) e) in omega arith)
room n (Fixed (s.Mark marks.Close) ∷ ts) h = room (suc n) ts (λ front rest e. let p = h (Fixed (s.Mark marks.Close) ∷ front) rest (ap (λ us. Fixed (s.Mark marks.Close) ∷ us) e) in omega arith)
room n (t ∷ ts) h = room n ts (λ front rest e. h (t ∷ front) rest (ap (λ us. t ∷ us) e))

pub same_room : (n : ℕ) (ts : List Token) → Same (HasRoom n ts) (IsWithin n ts)
same_room n ts = record {
  to = λ h front rest e. fronts n front rest (subst (HasRoom n) e h);
  from = room n ts;
}

same_at : (n m : ℕ) (ts : List Token) → n ≡ m → Same (HasRoom n ts) (HasRoom m ts)
same_at n m ts e = record { to = subst (λ k. HasRoom k ts) e; from = subst (λ k. HasRoom k ts) (sym e) }

pub room_goes : (t : Token) (n m : ℕ) (ts : List Token) → room_after n t ≡ Some m → Same (HasRoom n (t ∷ ts)) (HasRoom m ts)
unfolding room_after is_fixed is_sign
room_goes (Fixed (s.Mark marks.Open)) zero m ts e = absurd cc
room_goes (Fixed (s.Mark marks.Open)) (suc n) m ts e = same_at n m ts (some_is n m e)
room_goes (Fixed (s.Mark marks.Close)) n m ts e = same_at (suc n) m ts (sym (add-one n) ∙ some_is (n + 1) m e)
room_goes t n m ts e = same_at n m ts (some_is n m e)

room_ends : (t : Token) (n : ℕ) (ts : List Token) → room_after n t ≡ None → HasRoom n (t ∷ ts) → ⊥
unfolding room_after is_fixed is_sign
room_ends (Fixed (s.Mark marks.Open)) zero ts e h = h
room_ends (Fixed (s.Mark marks.Open)) (suc n) ts e h = none_some n (sym e)
room_ends (Fixed (s.Mark marks.Close)) n ts e h = none_some (n + 1) (sym e)
room_ends t n ts e h = none_some n (sym e)

room_rises : (t : Token) (n m : ℕ) → room_after n t ≡ Some m → m ≤ n + 1
unfolding room_after is_fixed is_sign
room_rises (Fixed (s.Mark marks.Open)) zero m e = absurd cc
room_rises (Fixed (s.Mark marks.Open)) (suc n) m e = let p = some_is n m e in omega arith
room_rises (Fixed (s.Mark marks.Close)) n m e = let p = some_is (n + 1) m e in omega arith
room_rises t n m e = same_rises n m e

-- what the loop has found: as many are open as before, and what is left decides
pub record Left (most : ℕ) (all : List Token) (room i : ℕ) : Type 0 where
  pub same : Same (HasRoom most all) (HasRoom room (drop i all))
  pub small : room ≤ most + i

front_is : (all : List Token) (i : ℕ) (t d : Token) → i < length all → t ≡ get_or all i d → drop i all ≡ t ∷ drop (i + 1) all
front_is all i t d lt e = drop-cons all i d lt ∙ ap (λ u. u ∷ drop (suc i) all) (sym e) ∙ ap (λ j. t ∷ drop j all) (sym (add-one i))

pub left_goes : (most : ℕ) (all : List Token) (room i left : ℕ) (t d : Token) → Left most all room i → i < length all → t ≡ get_or all i d → room_after room t ≡ Some left → Left most all left (i + 1)
left_goes most all room i left t d h lt e r =
    let g = room_goes t room left (drop (i + 1) all) r in
    let f = front_is all i t d lt e in
    let up = room_rises t room left r in
    let small = h.small in
    record {
      same = record {
        to = λ w. g.to (subst (HasRoom room) f (h.same.to w));
        from = λ w. h.same.from (subst (HasRoom room) (sym f) (g.from w));
      };
      small = omega arith;
    }

pub left_ends : (most : ℕ) (all : List Token) (room i : ℕ) (t d : Token) → Left most all room i → i < length all → t ≡ get_or all i d → room_after room t ≡ None → HasRoom most all → ⊥
left_ends most all room i t d h lt e r w = room_ends t room (drop (i + 1) all) r (subst (HasRoom room) (front_is all i t d lt e) (h.same.to w))

pub left_done : (most : ℕ) (all : List Token) (room i : ℕ) → Left most all room i → length all ≤ i → HasRoom most all
left_done most all room i h le = h.same.from (subst (HasRoom room) (sym (drop_all i all le)) tt)
