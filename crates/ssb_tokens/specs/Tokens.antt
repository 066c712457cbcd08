-- Which bytes spell which tokens.
-- Source: SQL-92, 5.2 <token> and <separator>, cut down: words of ASCII, whole numbers, texts of one piece, fourteen marks, and comments from `--`.
use Rattle.std.specs.Prelude.{◌≡◌, ℕ, ◌+◌, ◌*◌, ◌-◌, ◌≤◌, Bool, true, false, not, ◌&&◌, ◌||◌, ◌==◌, if◌then◌else◌, List, [], ◌∷◌, ◌++◌, Some, codes}
use Rattle.std.specs.Char.{is_ascii_digit}
use Rattle.std.specs.List.{list_all}
use Rattle.std.specs.Str.{str_to_ascii_lowercase}
use Rattle.ssb_terms.specs.Keywords.{keyword_of}
use Rattle.ssb_terms.specs.Names.{is_name, is_word, is_word_byte}
use Rattle.ssb_terms.specs.declared.keyword.Keyword.{Keyword}
use Rattle.ssb_tokens.specs.declared.token.Mark.{Mark}
use Rattle.ssb_tokens.specs.declared.token.Mark.TheVariants as marks
use Rattle.ssb_tokens.specs.declared.token.Sign.TheVariants as s
use Rattle.ssb_tokens.specs.declared.token.Token.{Token}
use Rattle.ssb_tokens.specs.declared.token.Token.TheVariants.{Fixed, Name, Number, Text}

-- ---- bytes

-- a space, a tab, LF or CR: SQL-92, 5.2 <separator>
abbrev pub is_blank : ℕ → Bool
is_blank b = (b == 32) || (b == 9) || (b == 10) || (b == 13)

-- a comment goes on up to LF: SQL-92, 5.2 <comment>
abbrev pub goes_on : ℕ → Bool
goes_on b = not (b == 10)

-- `'`
abbrev pub is_quote : ℕ → Bool
is_quote b = b == 39

-- `-`
abbrev pub is_dash : ℕ → Bool
is_dash b = b == 45

-- `=`
abbrev pub is_equal : ℕ → Bool
is_equal b = b == 61

-- `=` or `>`
abbrev pub follows_less : ℕ → Bool
follows_less b = (b == 61) || (b == 62)

-- each of the bytes passes a test
abbrev pub Each : (ℕ → Bool) → List ℕ → Type 0
Each p bytes = list_all p bytes ≡ true

abbrev pub begins : (ℕ → Bool) → List ℕ → Bool
begins p [] = false
begins p (b ∷ bs) = p b

-- what follows does not begin with a byte that passes a test
abbrev pub Stops : (ℕ → Bool) → List ℕ → Type 0
Stops p rest = begins p rest ≡ false

-- ---- marks

-- how a mark is written: SQL-92, 5.2 <delimiter token>, cut down
abbrev pub mark_text : Mark → List ℕ
mark_text marks.Open = codes "("
mark_text marks.Close = codes ")"
mark_text marks.Comma = codes ","
mark_text marks.Dot = codes "."
mark_text marks.Semicolon = codes ";"
mark_text marks.Plus = codes "+"
mark_text marks.Minus = codes "-"
mark_text marks.Times = codes "*"
mark_text marks.Equal = codes "="
mark_text marks.NotEqual = codes "<>"
mark_text marks.Less = codes "<"
mark_text marks.LessEqual = codes "<="
mark_text marks.Greater = codes ">"
mark_text marks.GreaterEqual = codes ">="

-- no longer mark and no comment begins so
abbrev pub IsLongest : Mark → List ℕ → Type 0
IsLongest marks.Minus rest = Stops is_dash rest
IsLongest marks.Less rest = Stops follows_less rest
IsLongest marks.Greater rest = Stops is_equal rest
IsLongest _ rest = Unit {0}

-- ---- numbers and texts

-- one digit or more: SQL-92, 5.3 <unsigned integer>
abbrev pub is_numeral : List ℕ → Bool
is_numeral [] = false
is_numeral (d ∷ ds) = is_ascii_digit d && list_all is_ascii_digit ds

-- the value of n and then these digits
abbrev pub value_from : ℕ → List ℕ → ℕ
value_from n [] = n
value_from n (d ∷ ds) = value_from (10 * n + (d - 48)) ds

abbrev pub value_of : List ℕ → ℕ
value_of digits = value_from 0 digits

-- each quote of a text is written twice: SQL-92, 5.3 <quote symbol>
abbrev pub doubled : List ℕ → List ℕ
doubled [] = []
doubled (b ∷ bs) = if is_quote b then b ∷ b ∷ doubled bs else b ∷ doubled bs

-- ---- lists of tokens

-- the bytes are these tokens, with separators before, between and behind them
pub data IsTokens : List ℕ → List Token → Type 0 where
  -- no token
  end_of_text : IsTokens [] []
  -- one more separator
  blank : {b : ℕ} {rest : List ℕ} {ts : List Token} → is_blank b ≡ true → IsTokens rest ts → IsTokens (b ∷ rest) ts
  -- `--`, and all that follows up to LF or the end of the text
  comment : (note rest : List ℕ) {ts : List Token} → Each goes_on note → Stops goes_on rest → IsTokens rest ts → IsTokens (45 ∷ 45 ∷ (note ++ rest)) ts
  -- a word, as long as it can be, that is reserved
  reserved : (word rest : List ℕ) (x : Keyword) {ts : List Token} → is_word word ≡ true → keyword_of word ≡ Some x → Stops is_word_byte rest → IsTokens rest ts
      → IsTokens (word ++ rest) (Fixed (s.Word x) ∷ ts)
  -- a word, as long as it can be, that is not reserved: its letters are the same in either case
  name : (word rest : List ℕ) {ts : List Token} → is_name word ≡ true → Stops is_word_byte rest → IsTokens rest ts
      → IsTokens (word ++ rest) (Name (str_to_ascii_lowercase word) ∷ ts)
  -- digits, as many as there are, with no letter and no `_` behind them
  number : (digits rest : List ℕ) {ts : List Token} → is_numeral digits ≡ true → Stops is_word_byte rest → value_of digits ≤ 9223372036854775807 → IsTokens rest ts
      → IsTokens (digits ++ rest) (Number (value_of digits) ∷ ts)
  -- a quote, the text with each quote doubled, and a quote with none behind it
  text : (t rest : List ℕ) {ts : List Token} → Stops is_quote rest → IsTokens rest ts → IsTokens (39 ∷ (doubled t ++ 39 ∷ rest)) (Text t ∷ ts)
  -- a mark, the longest that fits
  mark : (x : Mark) (rest : List ℕ) {ts : List Token} → IsLongest x rest → IsTokens rest ts → IsTokens (mark_text x ++ rest) (Fixed (s.Mark x) ∷ ts)
