-- A text of one statement: that is no longer than the text.
use Rattle.std.proofs.Common.{◌≡◌, ℕ, ◌+◌, ◌≤◌, Bool, true, false, cond, List, [], ◌∷◌, ◌++◌, length, refl, ap, subst, arith, length-append}
use Rattle.std.specs.Prelude.{◌&&◌}
use Rattle.std.specs.List.{AllZip}
use Rattle.ssb_tokens.specs.declared.token.Token.{Token}
use Rattle.ssb_tokens.specs.StatementLaws.{token_statements}
use Rattle.ssb_tokens.specs.Statements.{Place, if_any, in_plain, is_end, statements_from, statements_of, within}
use Rattle.ssb_tokens.specs.Statements.Place.{plain, literal, comment}
use Rattle.ssb_tokens.specs.Tokens.{IsTokens, begins, goes_on, is_blank, is_dash, is_quote}
use Rattle.ssb_tokens.proofs.StatementFacts.{cuts}

-- ---- lengths

-- how many bytes there are in all
lengths : List (List ℕ) → ℕ
lengths [] = 0
lengths (x ∷ xs) = length x + lengths xs

lengths_append : (xs ys : List (List ℕ)) → lengths (xs ++ ys) ≡ lengths xs + lengths ys
unfolding lengths
lengths_append [] ys = omega arith
lengths_append (x ∷ xs) ys = let h = lengths_append xs ys in omega arith

lengths_any : (so_far : List ℕ) → lengths (if_any so_far) ≤ length so_far
unfolding lengths
lengths_any [] = omega arith
lengths_any (c ∷ cs) = omega arith

length_within : (so_far : List ℕ) (b : ℕ) → length (within so_far b) ≤ length so_far + 1
length_within [] b = omega arith
length_within (c ∷ cs) b = omega (arith, length-append (c ∷ cs) (b ∷ []))

length_more : (so_far : List ℕ) (b : ℕ) → length (so_far ++ b ∷ []) ≤ length so_far + 1
length_more so_far b = omega (arith, length-append so_far (b ∷ []))

length_plain : (so_far : List ℕ) (b : ℕ) → length (in_plain so_far b) ≤ length so_far + 1
length_plain so_far b = by_test (is_blank b)
  where
    by_test : (q : Bool) → length (cond q (within so_far b) (so_far ++ b ∷ [])) ≤ length so_far + 1
    by_test true = length_within so_far b
    by_test false = length_more so_far b

lengths_if : (q : Bool) (xs ys : List (List ℕ)) (n : ℕ) → lengths xs ≤ n → lengths ys ≤ n → lengths (cond q xs ys) ≤ n
lengths_if true xs ys n f g = f
lengths_if false xs ys n f g = g

-- no byte of a text is in two statements
no_longer : (place : Place) (so_far bs : List ℕ) → lengths (statements_from place so_far bs) ≤ length so_far + length bs
unfolding statements_from
no_longer place so_far [] = omega (arith, lengths_any so_far)
no_longer plain so_far (b ∷ bs) =
    let n = length so_far + length (b ∷ bs) in
    let end : lengths (if_any (within so_far b) ++ statements_from plain [] bs) ≤ n =
    omega (arith, lengths_append (if_any (within so_far b)) (statements_from plain [] bs), lengths_any (within so_far b), length_within so_far b, no_longer plain [] bs) in
    let quote : lengths (statements_from literal (so_far ++ b ∷ []) bs) ≤ n = omega (arith, length_more so_far b, no_longer literal (so_far ++ b ∷ []) bs) in
    let dashes : lengths (statements_from comment (within so_far b) bs) ≤ n = omega (arith, length_within so_far b, no_longer comment (within so_far b) bs) in
    let more : lengths (statements_from plain (in_plain so_far b) bs) ≤ n = omega (arith, length_plain so_far b, no_longer plain (in_plain so_far b) bs) in
    lengths_if (is_end b) _ _ n end (lengths_if (is_quote b) _ _ n quote (lengths_if (is_dash b && begins is_dash bs) _ _ n dashes more))
no_longer literal so_far (b ∷ bs) =
    omega (arith, length_more so_far b, no_longer (cond (is_quote b) plain literal) (so_far ++ b ∷ []) bs)
no_longer comment so_far (b ∷ bs) =
    omega (arith, length_within so_far b, no_longer (cond (goes_on b) comment plain) (within so_far b) bs)

-- ---- a single statement

-- a text has one statement, of these tokens
pub record IsSingle (bytes : List ℕ) (ts : List Token) : Type 0 where
  pub statement : List ℕ
  pub all : statements_of bytes ≡ statement ∷ []
  pub short : length statement ≤ length bytes
  pub is_text : IsTokens statement ts

single_cut : (xs : List (List ℕ)) (ts : List Token) → AllZip IsTokens xs (ts ∷ []) → (x : List ℕ) × (xs ≡ x ∷ []) × IsTokens x ts
single_cut [] ts h = absurd h
single_cut (x ∷ []) ts h = (x, refl, h.0)
single_cut (x ∷ y ∷ ys) ts h = absurd h.1

pub single : (bytes : List ℕ) (ts : List Token) → IsTokens bytes ts → token_statements ts ≡ ts ∷ [] → IsSingle bytes ts
unfolding lengths
single bytes ts is e =
    let one = single_cut (statements_of bytes) ts (subst (AllZip IsTokens (statements_of bytes)) e (cuts bytes ts is)) in
    record { statement = one.0; all = one.1; short = omega (arith, no_longer plain [] bytes, ap lengths one.1); is_text = one.2 }
