-- What a piece is that is cut where it may be.
use Rattle.std.proofs.Common.{◌≡◌, ◌++◌, ◌∙◌, ◌<◌, ◌≤◌, ℕ, zero, suc, true, false, List, [], ◌∷◌, inl, inr, length, take, drop, nat_lt, refl, sym, ap, subst, arith, rules, length-append, append_assoc}
use Rattle.std.proofs.lemmas.Grind.{common_steps}
use Rattle.std.proofs.lemmas.List.{length-take-le, drop_all}
use Rattle.ssb_records.specs.Lines.{EndsInLf, IsPartOfLine}
use Rattle.ssb_records.specs.Pieces.{IsPassedOn, IsPiece, IsCut, IsPlace, handed, piece_of, rest_of}
use Rattle.ssb_records.specs.declared.pieces.Pieces.{Pieces}

pub front-none : (xs ys : List ℕ) → [] ≡ xs ++ ys → xs ≡ []
front-none [] ys e = refl
front-none (x ∷ xs) ys e = cc e

not-empty : (xs : List ℕ) → xs ≡ [] → EndsInLf xs → ⊥
not-empty xs e l =
    let n = length-append l.front (10 ∷ []) in
    let m = ap length (sym e ∙ l.split) in
    omega (arith, n, m)

-- what is cut off, and what is left of it
pub record IsCutOff {S : Type 0} (old now : Pieces S) (end : ℕ) : Type 0 where
  pub piece : piece_of now ≡ take end old.buffer.items
  pub rest : rest_of now ≡ drop end (take old.filled old.buffer.items)
  pub stopped : now.stopped ≡ old.stopped
  pub failed : now.failed ≡ old.failed
  pub long : old.filled ≤ length old.buffer.items

nothing : {S : Type 0} (old now : Pieces S) → IsPlace 0 old → IsCutOff old now 0 → IsCut 0 old → IsPiece false now
nothing old now p c (inl l) = absurd (not-empty (take 0 old.buffer.items) refl l)
nothing old now p c (inr (inl e)) =
    let none : take old.filled old.buffer.items ≡ [] = ap (λ n. take n old.buffer.items) (sym e.2) in
    (c.piece, inl (record { stopped = c.stopped ∙ e.0; failed = c.failed ∙ e.1; rest = c.rest ∙ none }))
nothing old now p c (inr (inr b)) = (c.piece, inr (record { failed = c.failed ∙ b.0; rest = let P : List ℕ → Type 0 = IsPartOfLine in subst P (sym c.rest) b.2 }))

some : {S : Type 0} (old now : Pieces S) (n : ℕ) → IsPlace (suc n) old → IsCutOff old now (suc n) → IsCut (suc n) old → IsPiece true now
some old now n p c cut =
    let inside = p.inside in
    let room = c.long in
    let e = ap length c.piece in
    let m = length-take-le (suc n) old.buffer.items (omega (arith, inside, room)) in
    let long : 0 < length (piece_of now) = omega (arith, e, m) in (
      long,
      elim cut [
        | inl l ↦ inl (let P : List ℕ → Type 0 = EndsInLf in subst P (sym c.piece) l)
        | inr (inl a) ↦ inr (record {
          stopped = c.stopped ∙ a.0;
          failed = c.failed ∙ a.1;
          rest = c.rest ∙ drop_all (suc n) (take old.filled old.buffer.items) (let k = length-take-le old.filled old.buffer.items room in let is = a.2 in omega (arith, k, is));
        })
        | inr (inr b) ↦ absurd (let z = b.1 in omega (arith, z))
      ],
    )

pub hands : {S : Type 0} (old now : Pieces S) (n : ℕ) → IsPlace n old → IsCutOff old now n → IsPiece (nat_lt 0 n) now
hands old now zero p c = nothing old now p c p.cut
hands old now (suc n) p c = let more : nat_lt 0 (suc n) ≡ true = search (rules, common_steps) in rw more (some old now n p c p.cut)

-- what was passed on stays so where a piece is handed out
pub passed-out : {S : Type 0} (given : S → List ℕ) (failures ends : S → ℕ) (p q : Pieces S) (s : S) → IsPassedOn given failures ends p s → handed q ≡ handed p ++ piece_of q → rest_of p ≡ piece_of q ++ rest_of q → q.stopped ≡ p.stopped → q.failed ≡ p.failed
    → q.begun ≡ p.begun → IsPassedOn given failures ends q s
passed-out given failures ends p q s f out split stopped failed begun = record {
  told = f.told ∙ ap (λ t. given p.begun.value ++ t) (ap (λ t. handed p ++ t) split ∙ sym (append_assoc (handed p) (piece_of q) (rest_of q)) ∙ ap (λ t. t ++ rest_of q) (sym out)) ∙ ap (λ b. given b.value ++ (handed q ++ rest_of q)) (sym begun);
  over = λ st fa. subst (λ b. ends b.value < ends s) (sym begun) (f.over (sym stopped ∙ st) (sym failed ∙ fa));
  broken = λ fa. subst (λ b. failures b.value < failures s) (sym begun) (f.broken (sym failed ∙ fa));
  forth = (subst (λ b. failures b.value ≤ failures s) (sym begun) f.forth.0, subst (λ b. ends b.value ≤ ends s) (sym begun) f.forth.1);
  stops = λ fa. stopped ∙ f.stops (sym failed ∙ fa);
}
