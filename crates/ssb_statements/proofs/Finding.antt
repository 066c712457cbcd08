-- The end of the next statement, in a piece or in none.
use Rattle.std.proofs.Common.{◌≡◌, ◌∙◌, ℕ, zero, suc, ◌+◌, ◌-◌, ◌≤◌, List, [], ◌∷◌, ◌++◌, length, take, drop, refl, sym, ap, arith, append_assoc, length-append}
use Rattle.std.proofs.lemmas.List.{append-nil, drop_all, drop-take, length-take}
use Rattle.ssb_tokens.specs.Statements.{statements_from, statements_of}
use Rattle.ssb_statements.specs.Cutting.{GoesOn, HasEnd, cut, cut_from}
use Rattle.ssb_statements.specs.Telling.{IsCut}
use Rattle.ssb_statements.specs.declared.boundary.Boundary.{Boundary}
use Rattle.ssb_statements.specs.declared.boundary.Place.{Place}
use Rattle.ssb_statements.specs.declared.boundary.Place.TheVariants.{Plain, Dash, Literal, Comment}
use Rattle.ssb_statements.proofs.Steps.{if_any-put}

abbrev nil : List ℕ
nil = []

pub drop-nil : (n : ℕ) → drop n nil ≡ nil
drop-nil zero = refl
drop-nil (suc n) = refl

pub drop-drop : (n a : ℕ) (xs : List ℕ) → drop n (drop a xs) ≡ drop (a + n) xs
drop-drop n zero xs = let e : n ≡ 0 + n = omega arith in ap (λ k. drop k xs) e
drop-drop n (suc a) [] = drop-nil n ∙ sym (drop-nil (suc a + n))
drop-drop n (suc a) (x ∷ xs) = let e : suc (a + n) ≡ suc a + n = omega arith in drop-drop n a xs ∙ ap (λ k. drop k (x ∷ xs)) e

-- the bytes of a piece between two places
pub between : (a e : ℕ) (xs : List ℕ) → a ≤ e → take (e - a) (drop a xs) ≡ drop a (take e xs)
between a e xs le = let same : a + (e - a) ≡ e = omega arith in sym (drop-take a (e - a) xs) ∙ ap (λ k. drop a (take k xs)) same

pub none-behind : (e : ℕ) (xs : List ℕ) → drop e (take e xs) ≡ []
none-behind e xs = drop_all e (take e xs) (omega (arith, length-take e xs))

-- the end of the next statement is in the piece
pub finds-next : (taken now piece bytes : List ℕ) (a e n : ℕ) (old new : Boundary) → ((more : List ℕ) → statements_of (taken ++ more) ≡ cut old more) → bytes ≡ drop a (take e piece) → HasEnd old bytes (drop n bytes) new → now ≡ []
    → IsCut (taken ++ drop a (take e piece)) new.so_far.items (now ++ drop (a + n) (take e piece))
finds-next taken now piece bytes a e n old new known is has none more =
    let d = drop a (take e piece) in
    ap statements_of (append_assoc taken d more) ∙ known (d ++ more) ∙ ap (λ b. cut old (b ++ more)) (sym is) ∙ has.next more
    ∙ ap (λ b. new.so_far.items ∷ statements_of (b ++ more)) (ap (drop n) is ∙ drop-drop n a (take e piece) ∙ ap (λ t. t ++ drop (a + n) (take e piece)) (sym none))

-- all of the piece was taken
pub takes-rest : (taken now piece bytes : List ℕ) (a e : ℕ) → bytes ≡ drop a (take e piece) → now ≡ taken ++ bytes → now ++ drop e (take e piece) ≡ taken ++ drop a (take e piece)
takes-rest taken now piece bytes a e is more = ap (λ t. now ++ t) (none-behind e piece) ∙ append-nil now ∙ more ∙ ap (λ t. taken ++ t) is

pub goes-on : (taken rest bytes : List ℕ) (old new : Boundary) → ((more : List ℕ) → statements_of (taken ++ more) ≡ cut old more) → bytes ≡ rest → GoesOn old bytes new → (more : List ℕ) → statements_of ((taken ++ rest) ++ more) ≡ cut new more
goes-on taken rest bytes old new known is goes more = ap (λ b. statements_of ((taken ++ b) ++ more)) (sym is) ∙ ap statements_of (append_assoc taken bytes more) ∙ known (bytes ++ more) ∙ goes.same more

-- ---- no statement has its end where one more byte may belong to it

heads : (a b s : List ℕ) (cs ds us vs : List (List ℕ)) → a ∷ cs ≡ s ∷ us → b ∷ ds ≡ s ∷ vs → a ≡ b
heads a b s cs ds us vs e f = cc

longer : (xs : List ℕ) (b : ℕ) → xs ≡ xs ++ b ∷ [] → ⊥
longer xs b e = absurd (omega (arith, ap length e, length-append xs (b ∷ [])))

not-nil : (s : List ℕ) (us : List (List ℕ)) → [] ≡ s ∷ us → ⊥
not-nil s us e = cc

one-more : (p : Place) (x : ℕ) (xs s : List ℕ) (rest : List ℕ → List (List ℕ)) → ((more : List ℕ) → cut_from p (x ∷ xs) more ≡ s ∷ rest more) → cut_from p (x ∷ xs) [] ≡ (x ∷ xs) ∷ [] → cut_from p (x ∷ xs) (120 ∷ []) ≡ ((x ∷ xs) ++ 120 ∷ []) ∷ [] → ⊥
one-more p x xs s rest h a b = longer (x ∷ xs) 120 (heads _ _ s _ _ _ _ (sym a ∙ h []) (sym b ∙ h (120 ∷ [])))

dash-more : (xs s : List ℕ) (rest : List ℕ → List (List ℕ)) → ((more : List ℕ) → cut_from Dash xs more ≡ s ∷ rest more) → ⊥
unfolding statements_from
dash-more xs s rest h = longer (xs ++ 45 ∷ []) 120 (heads _ _ s _ _ _ _ (sym (if_any-put xs 45) ∙ h []) (sym (if_any-put (xs ++ 45 ∷ []) 120) ∙ h (120 ∷ [])))

no-end-yet : (p : Place) (xs s : List ℕ) (rest : List ℕ → List (List ℕ)) → ((more : List ℕ) → cut_from p xs more ≡ s ∷ rest more) → ⊥
unfolding statements_from
no-end-yet Dash xs s rest h = dash-more xs s rest h
no-end-yet Plain [] s rest h = not-nil s _ (h [])
no-end-yet Plain (x ∷ xs) s rest h = one-more Plain x xs s rest h refl refl
no-end-yet Literal [] s rest h = not-nil s _ (h [])
no-end-yet Literal (x ∷ xs) s rest h = one-more Literal x xs s rest h refl refl
no-end-yet Comment [] s rest h = not-nil s _ (h [])
no-end-yet Comment (x ∷ xs) s rest h = one-more Comment x xs s rest h refl refl

pub is-not-cut : (text : List ℕ) (new : Boundary) → ((more : List ℕ) → statements_of (text ++ more) ≡ cut new more) → (s rest : List ℕ) → IsCut text s rest → ⊥
is-not-cut text new goes s rest h = no-end-yet new.place new.so_far.items s (λ more. statements_of (rest ++ more)) (λ more. sym (goes more) ∙ h more)
