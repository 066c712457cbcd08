-- Reading from left to right: what every reader is made of.
-- For the contracts inside this crate.
use Rattle.std.specs.Prelude.{◌≡◌, ℕ, zero, suc, Bool, true, false, if◌then◌else◌, List, [], ◌∷◌, ◌++◌, length, ◌<◌, Option, Some, None, Result, nat_lt}
use Rattle.std.specs.Borrow.{Bor}
use Rattle.ssb_sql.specs.Forms.{chain_of}
use Rattle.ssb_tokens.specs.Reading.{Gives, ◌>>=◌, seen}
use Rattle.ssb_tokens.specs.declared.token.Token.{Token}
use Rattle.ssb_tokens.specs.declared.token.Token.TheVariants.{Fixed, Name, Number, Text}
use Rattle.ssb_tokens.specs.declared.token.Sign.{Sign}
use Rattle.ssb_tokens.specs.declared.token.Mark.TheVariants as marks
use Rattle.ssb_tokens.specs.declared.token.Sign.TheVariants as s
use Rattle.ssb_tokens.specs.contracts.token.SignPartialEq.TheImpl as signs
use Rattle.ssb_tokens.specs.declared.stop.Stop.{Stop}

-- what was read, and what follows it
abbrev pub Parser : Type 0 → Type 0
Parser A = List Token → Option (A × List Token)

-- f where there is something, else g
abbrev pub choose : {A B : Type 0} → Option A → (A → B) → B → B
choose None f g = g
choose (Some x) f g = f x

-- whether two signs are one
abbrev pub is_same : Sign → Sign → Bool
is_same = signs.eq-value.it

unfoldable pub is_sign : Sign → Sign → Bool
is_sign a b = is_same a b

unfoldable pub is_fixed : Sign → Token → Bool
is_fixed sign (Fixed found) = is_sign found sign
is_fixed sign (Name n) = false
is_fixed sign (Number n) = false
is_fixed sign (Text t) = false

-- what follows the sign, where it comes next
unfoldable pub after : Sign → List Token → Option (List Token)
after sign [] = None
after sign (t ∷ ts) = if is_fixed sign t then Some ts else None

-- a name or a number, where it comes next
unfoldable pub name_at : Parser (List ℕ)
name_at (Name n ∷ ts) = Some (n, ts)
name_at _ = None

unfoldable pub number_at : Parser ℕ
number_at (Number n ∷ ts) = Some (n, ts)
number_at _ = None

-- whether a literal comes next: a number, with a sign or without, or a text
unfoldable pub is_literal_next : List Token → Bool
is_literal_next (Number n ∷ ts) = true
is_literal_next (Text t ∷ ts) = true
is_literal_next (Fixed (s.Mark marks.Plus) ∷ ts) = true
is_literal_next (Fixed (s.Mark marks.Minus) ∷ ts) = true
is_literal_next _ = false

-- what p reads, where that is one token at least
unfoldable pub nonempty_at : {A : Type 0} → Parser A → Parser A
nonempty_at p ts = p ts >>= λ x. if nat_lt (length x.1) (length ts) then Some x else None

-- what a chain does where it goes on, and where it does not
abbrev pub turn_at : {A L : Type 0} → (L → Option (A × List Token)) → Parser (List A) → List Token → Option L → Option (List A × List Token)
turn_at piece more ts None = Some ([], ts)
turn_at piece more ts (Some l) = piece l >>= λ x. more x.1 >>= λ xs. Some (x.0 ∷ xs.0, xs.1)

-- at most n pieces, as long as the link says that there is one more
unfoldable pub chain_at : {A L : Type 0} → (List Token → Option L) → (L → Option (A × List Token)) → ℕ → List Token → Option (List A × List Token)
chain_at link piece zero ts = Some ([], ts)
chain_at link piece (suc n) ts = turn_at piece (chain_at link piece n) ts (link ts)

-- what was read before, and what is still read
abbrev pub with_front : {A : Type 0} → List A → Option (List A × List Token) → Option (List A × List Token)
with_front front read = read >>= λ x. Some (front ++ x.0, x.1)

-- the pieces in front, and all that follow
unfoldable pub more_at : {A L : Type 0} → (List Token → Option L) → (L → Option (A × List Token)) → List A → Parser (List A)
more_at link piece front ts = with_front front (chain_at link piece (length ts) ts)

-- p {sign p}
unfoldable pub chained_at : {A : Type 0} → Sign → Parser A → Parser (List A)
chained_at sign p ts = p ts >>= λ x. more_at (after sign) p (x.0 ∷ []) x.1

-- p {sign p} as one thing: a piece alone is that piece, and of more of them one is made
abbrev pub made_at : {A : Type 0} → (List A → A) → Sign → Parser A → Parser A
made_at make sign p ts = chained_at sign p ts >>= λ xs. Some (chain_of make xs.0, xs.1)

-- p {"," p}
abbrev pub list_at : {A : Type 0} → Parser A → Parser (List A)
list_at p = chained_at (s.Mark marks.Comma) p

-- what a piece reads is shorter, and no piece begins at the end
pub record Shrinks {A L : Type 0} (link : List Token → Option L) (piece : L → Option (A × List Token)) : Type 0 where
  pub nil : link [] ≡ None
  pub by : (ts : List Token) (l : L) (x : A × List Token) → link ts ≡ Some l → piece l ≡ Some x → length x.1 < length ts

-- a closure that returns this reads what p does
abbrev pub Reads : {A : Type 0} → (Bor (List Token) → Result (A × Bor (List Token)) Stop → Type 0) → Parser A → Type 0
Reads returns p = (ts : Bor (List Token)) (r : Result _ Stop) → returns ts r → Gives seen r (p ts.now)

-- a closure that returns this makes what make does
abbrev pub Makes : {A : Type 0} → (List A → A → Type 0) → (List A → A) → Type 0
Makes returns make = (xs : List _) (x : _) → returns xs x → x ≡ make xs

-- what was read, and what follows the sign behind it
abbrev pub followed_at : {A : Type 0} → A → Sign → List Token → Option (A × List Token)
followed_at x sign ts = after sign ts >>= λ to. Some (x, to)

-- p ")"
unfoldable pub closed_at : {A : Type 0} → Parser A → Parser A
closed_at p ts = p ts >>= λ x. followed_at x.0 (s.Mark marks.Close) x.1

-- "(" p ")", or what stands without parentheses
unfoldable pub enclosed_at : {A : Type 0} → Parser A → Parser A → Parser A
enclosed_at p bare ts = choose (after (s.Mark marks.Open) ts) (closed_at p) (bare ts)

-- "(" p ")"
unfoldable pub parens_at : {A : Type 0} → Parser A → Parser A
parens_at p ts = after (s.Mark marks.Open) ts >>= λ inside. closed_at p inside
