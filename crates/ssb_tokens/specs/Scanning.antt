-- Reading tokens from left to right, as the code does.
-- For the contracts inside this crate.
use Rattle.std.specs.Prelude.{◌≡◌, ℕ, zero, suc, Bool, true, false, ◌&&◌, ◌==◌, if◌then◌else◌, nat_le, List, [], ◌∷◌, ◌++◌, Option, Some, None}
use Rattle.std.specs.Char.{is_ascii_digit}
use Rattle.std.specs.Str.{IsUtf8, str_to_ascii_lowercase}
use Rattle.ssb_terms.specs.Keywords.{keyword_of}
use Rattle.ssb_terms.specs.Names.{is_word_byte}
use Rattle.ssb_tokens.specs.Reading.{◌>>=◌}
use Rattle.ssb_tokens.specs.declared.class.Class.{Class}
use Rattle.ssb_tokens.specs.declared.class.Class.TheVariants as k
use Rattle.ssb_terms.specs.declared.keyword.Keyword.{Keyword}
use Rattle.ssb_tokens.specs.declared.token.Mark.{Mark}
use Rattle.ssb_tokens.specs.declared.token.Mark.TheVariants as marks
use Rattle.ssb_tokens.specs.declared.token.Sign.TheVariants as s
use Rattle.ssb_tokens.specs.declared.token.Token.{Token}
use Rattle.ssb_tokens.specs.declared.token.Token.TheVariants.{Fixed, Name, Number, Text}
use Rattle.ssb_tokens.specs.Class.{class_of}
use Rattle.ssb_tokens.specs.Tokens.{begins, goes_on, is_blank, is_dash, is_quote, value_of}

-- the bytes in front that pass a test, and what follows them
unfoldable pub run : (ℕ → Bool) → List ℕ → List ℕ
run p [] = []
run p (b ∷ bs) = if p b then b ∷ run p bs else []

unfoldable pub past : (ℕ → Bool) → List ℕ → List ℕ
past p [] = []
past p (b ∷ bs) = if p b then past p bs else b ∷ bs

-- past separators; in a comment, or not
unfoldable pub skip : Bool → List ℕ → List ℕ
skip true [] = []
skip true (b ∷ bs) = if goes_on b then skip true bs else skip false bs
skip false [] = []
skip false (b ∷ bs) = if is_blank b then skip false bs else (if is_dash b && begins is_dash bs then skip true bs else b ∷ bs)

-- whether a comment goes on behind a byte; None where no separator begins there
unfoldable pub skip_step : Bool → ℕ → List ℕ → Option Bool
skip_step true b bs = Some (goes_on b)
skip_step false b bs = if is_blank b then Some false else (if is_dash b && begins is_dash bs then Some true else None)

abbrev pub put : ℕ → Option (List ℕ × List ℕ) → Option (List ℕ × List ℕ)
put b read = read >>= λ x. Some (b ∷ x.0, x.1)

-- the text behind its first quote; behind another quote, or not
unfoldable pub text_at : Bool → List ℕ → Option (List ℕ × List ℕ)
text_at true [] = Some ([], [])
text_at true (b ∷ bs) = if is_quote b then put b (text_at false bs) else Some ([], b ∷ bs)
text_at false [] = None
text_at false (b ∷ bs) = if is_quote b then text_at true bs else put b (text_at false bs)

abbrev pub closing_at : List ℕ → Option (Option ℕ × List ℕ)
closing_at [] = Some (None, [])
closing_at (b ∷ bs) = if is_quote b then Some (Some b, bs) else Some (None, b ∷ bs)

-- the next byte of a text, or its end; None where it is not closed
unfoldable pub piece_at : List ℕ → Option (Option ℕ × List ℕ)
piece_at [] = None
piece_at (b ∷ bs) = if is_quote b then closing_at bs else Some (Some b, bs)

-- ---- tokens

abbrev pub token_by_keyword : Option Keyword → List ℕ → Token
token_by_keyword None word = Name (str_to_ascii_lowercase word)
token_by_keyword (Some x) word = Fixed (s.Word x)

-- a reserved word or a name
abbrev pub token_of : List ℕ → Token
token_of word = token_by_keyword (keyword_of word) word

unfoldable pub word_at : List ℕ → Option (Token × List ℕ)
word_at bs = Some (token_of (run is_word_byte bs), past is_word_byte bs)

abbrev pub number_of : ℕ → List ℕ → Option (Token × List ℕ)
number_of n rest = if begins is_word_byte rest then None else (if nat_le n 9223372036854775807 then Some (Number n, rest) else None)

unfoldable pub number_at : List ℕ → Option (Token × List ℕ)
number_at bs = number_of (value_of (run is_ascii_digit bs)) (past is_ascii_digit bs)

abbrev pub text_of : Option (List ℕ × List ℕ) → Option (Token × List ℕ)
text_of read = read >>= λ x. Some (Text x.0, x.1)

unfoldable pub text_token_at : List ℕ → Option (Token × List ℕ)
text_token_at bs = text_of (text_at false bs)

-- the mark that begins with `<`, by what stands behind that
unfoldable pub less_at : List ℕ → Token × List ℕ
less_at [] = (Fixed (s.Mark marks.Less), [])
less_at (b ∷ bs) = if b == 61 then (Fixed (s.Mark marks.LessEqual), bs) else (if b == 62 then (Fixed (s.Mark marks.NotEqual), bs) else (Fixed (s.Mark marks.Less), b ∷ bs))

-- the mark that begins with `>`, by what stands behind that
unfoldable pub greater_at : List ℕ → Token × List ℕ
greater_at [] = (Fixed (s.Mark marks.Greater), [])
greater_at (b ∷ bs) = if b == 61 then (Fixed (s.Mark marks.GreaterEqual), bs) else (Fixed (s.Mark marks.Greater), b ∷ bs)

-- the mark whose first byte alone is the mark x, behind that byte
abbrev pub mark_at : Mark → List ℕ → Token × List ℕ
mark_at marks.Less bs = less_at bs
mark_at marks.Greater bs = greater_at bs
mark_at x bs = (Fixed (s.Mark x), bs)

abbrev pub token_by : Class → List ℕ → List ℕ → Option (Token × List ℕ)
token_by k.Letter bytes rest = word_at bytes
token_by k.Digit bytes rest = number_at bytes
token_by k.Quote bytes rest = text_token_at rest
token_by (k.Mark x) bytes rest = Some (mark_at x rest)
token_by k.Other bytes rest = None

-- the token in front
abbrev pub token_at : List ℕ → Option (Token × List ℕ)
token_at [] = None
token_at (b ∷ bs) = token_by (class_of b) (b ∷ bs) bs

abbrev pub lex_turn : (List ℕ → Option (List Token)) → List ℕ → Option (List Token)
lex_turn more [] = Some []
lex_turn more (b ∷ bs) = token_at (b ∷ bs) >>= λ x. more x.1 >>= λ ts. Some (x.0 ∷ ts)

-- at most n tokens
unfoldable pub lex : ℕ → List ℕ → Option (List Token)
lex zero bs = None
lex (suc n) bs = lex_turn (lex n) (skip false bs)

-- ---- what functions return

abbrev pub first : List ℕ → Option (ℕ × List ℕ)
first [] = None
first (b ∷ bs) = Some (b, bs)

abbrev pub first_if : (ℕ → Bool) → List ℕ → Option (ℕ × List ℕ)
first_if p [] = None
first_if p (b ∷ bs) = if p b then Some (b, bs) else None

-- behind each quote the bytes are UTF-8
pub record CutsAtQuotes (bytes : List ℕ) : Type 0 where
  pub behind : (front rest : List ℕ) → bytes ≡ front ++ 39 ∷ rest → IsUtf8 rest
