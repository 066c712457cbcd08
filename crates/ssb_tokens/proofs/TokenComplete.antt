-- What is a list of tokens is read.
use Rattle.std.proofs.Common.{◌≡◌, ℕ, zero, suc, ◌<◌, ◌≤◌, Bool, true, false, cond, List, [], ◌∷◌, ◌++◌, length, Option, Some, None, refl, sym, ap, ◌∙◌, arith, length-append}
use Rattle.std.specs.Prelude.{not, ◌&&◌, ◌==◌}
use Rattle.std.specs.Char.{is_ascii_alphabetic, is_ascii_digit}
use Rattle.std.specs.List.{list_all}
use Rattle.std.specs.Str.{str_to_ascii_lowercase}
use Rattle.std.proofs.lemmas.Bool.{and_left, and_parts, cond-false, cond-true, or_parts}
use Rattle.std.proofs.lemmas.Bool.Decides.{nat_tests}
use Rattle.ssb_terms.specs.Keywords.{keyword_of}
use Rattle.ssb_terms.specs.Names.{is_reserved, is_word, is_word_byte}
use Rattle.ssb_tokens.specs.declared.class.Class.TheVariants as k
use Rattle.ssb_terms.specs.declared.keyword.Keyword.{Keyword}
use Rattle.ssb_tokens.specs.declared.token.Mark.{Mark}
use Rattle.ssb_tokens.specs.declared.token.Mark.TheVariants as marks
use Rattle.ssb_tokens.specs.declared.token.Sign.TheVariants as s
use Rattle.ssb_tokens.specs.declared.token.Token.{Token}
use Rattle.ssb_tokens.specs.declared.token.Token.TheVariants.{Fixed, Name, Number, Text}
use Rattle.ssb_tokens.specs.Class.{class_of}
use Rattle.ssb_tokens.specs.Tokens.{Each, IsLongest, IsTokens, Stops, begins, doubled, follows_less, goes_on, is_blank, is_dash, is_equal, is_numeral, is_quote, mark_text, value_of}
use Rattle.ssb_tokens.specs.Tokens.IsTokens.{end_of_text, blank, comment, reserved, name, number, text, mark}
use Rattle.ssb_tokens.specs.Reading.{◌>>=◌}
use Rattle.ssb_tokens.specs.Scanning.{greater_at, less_at, lex, lex_turn, number_at, number_of, past, put, run, skip, text_at, text_of, text_token_at, token_at, token_by, token_by_keyword, token_of, word_at}
use Rattle.ssb_tokens.proofs.ReservedWords.{name_is_no_keyword}
use Rattle.ssb_tokens.proofs.TokenFront.{number_is}
use Rattle.ssb_tokens.proofs.TokenSound.{TokenAndRest, letter_in_word, line_end_blank}

-- ---- runs

run_is : (p : ℕ → Bool) (bs rest : List ℕ) → Each p bs → Stops p rest → run p (bs ++ rest) ≡ bs
unfolding run
run_is p [] [] e s = refl
run_is p [] (b ∷ rest) e s = ap (λ t. cond t (b ∷ run p rest) []) s
run_is p (b ∷ bs) rest e s = let two = and_parts (p b) (list_all p bs) e in ap (λ t. cond t (b ∷ run p (bs ++ rest)) []) two.0 ∙ ap (λ l. b ∷ l) (run_is p bs rest two.1 s)

past_is : (p : ℕ → Bool) (bs rest : List ℕ) → Each p bs → Stops p rest → past p (bs ++ rest) ≡ rest
unfolding past
past_is p [] [] e s = refl
past_is p [] (b ∷ rest) e s = ap (λ t. cond t (past p rest) (b ∷ rest)) s
past_is p (b ∷ bs) rest e s = let two = and_parts (p b) (list_all p bs) e in ap (λ t. cond t (past p (bs ++ rest)) (b ∷ bs ++ rest)) two.0 ∙ past_is p bs rest two.1 s

-- a run of digits ends where a word would
no_digit : (b : ℕ) → is_word_byte b ≡ false → is_ascii_digit b ≡ false
no_digit b h = grind (arith, nat_tests)

digits_stop : (rest : List ℕ) → Stops is_word_byte rest → Stops is_ascii_digit rest
digits_stop [] h = refl
digits_stop (b ∷ rest) h = no_digit b h

-- ---- separators

pub skip_blank : (b : ℕ) (bs : List ℕ) → is_blank b ≡ true → skip false (b ∷ bs) ≡ skip false bs
unfolding skip
skip_blank b bs h = ap (λ t. cond t (skip false bs) (cond (is_dash b && begins is_dash bs) (skip true bs) (b ∷ bs))) h

skip_note : (note rest : List ℕ) → Each goes_on note → Stops goes_on rest → skip true (note ++ rest) ≡ skip false rest
unfolding skip
skip_note [] [] e s = refl
skip_note [] (b ∷ rest) e s = ap (λ t. cond t (skip true rest) (skip false rest)) s ∙ sym (skip_blank b rest (line_end_blank b s))
skip_note (b ∷ note) rest e s =
    let two = and_parts (goes_on b) (list_all goes_on note) e in
    ap (λ t. cond t (skip true (note ++ rest)) (skip false (note ++ rest))) two.0 ∙ skip_note note rest two.1 s

pub skip_comment : (note rest : List ℕ) → Each goes_on note → Stops goes_on rest → skip false (45 ∷ 45 ∷ (note ++ rest)) ≡ skip false rest
unfolding skip
skip_comment note rest e s = skip_note note rest e s

-- a token's first byte
pub skip_stays : (b : ℕ) (bs : List ℕ) → is_blank b ≡ false → is_dash b && begins is_dash bs ≡ false → skip false (b ∷ bs) ≡ b ∷ bs
unfolding skip
skip_stays b bs h g =
    ap (λ t. cond t (skip false bs) (cond (is_dash b && begins is_dash bs) (skip true bs) (b ∷ bs))) h
    ∙ ap (λ t. cond t (skip true bs) (b ∷ bs)) g

letter_not_blank : (b : ℕ) → is_ascii_alphabetic b ≡ true → is_blank b ≡ false
letter_not_blank b h = grind (arith, nat_tests)

letter_not_dash : (b : ℕ) → is_ascii_alphabetic b ≡ true → is_dash b ≡ false
letter_not_dash b h = grind (arith, nat_tests)

digit_not_blank : (b : ℕ) → is_ascii_digit b ≡ true → is_blank b ≡ false
digit_not_blank b h = grind (arith, nat_tests)

digit_not_dash : (b : ℕ) → is_ascii_digit b ≡ true → is_dash b ≡ false
digit_not_dash b h = grind (arith, nat_tests)

digit_not_letter : (b : ℕ) → is_ascii_digit b ≡ true → is_ascii_alphabetic b ≡ false
digit_not_letter b h = grind (arith, nat_tests)

pub word_stays : (b : ℕ) (bs rest : List ℕ) → is_word (b ∷ bs) ≡ true → skip false (b ∷ bs ++ rest) ≡ b ∷ bs ++ rest
word_stays b bs rest w =
    let h = (and_parts (is_ascii_alphabetic b) (list_all is_word_byte bs) w).0 in
    skip_stays b (bs ++ rest) (letter_not_blank b h) (and_left (is_dash b) (begins is_dash (bs ++ rest)) (letter_not_dash b h))

pub number_stays : (b : ℕ) (bs rest : List ℕ) → is_numeral (b ∷ bs) ≡ true → skip false (b ∷ bs ++ rest) ≡ b ∷ bs ++ rest
number_stays b bs rest w =
    let h = (and_parts (is_ascii_digit b) (list_all is_ascii_digit bs) w).0 in
    skip_stays b (bs ++ rest) (digit_not_blank b h) (and_left (is_dash b) (begins is_dash (bs ++ rest)) (digit_not_dash b h))

-- ---- the token in front

abbrev some_token : Token → List ℕ → Option TokenAndRest
some_token t rest = Some (t, rest)

letter_class : (b : ℕ) → is_ascii_alphabetic b ≡ true → class_of b ≡ k.Letter
letter_class b h = cond-true (is_ascii_alphabetic b) k.Letter _ h

digit_class : (b : ℕ) → is_ascii_digit b ≡ true → class_of b ≡ k.Digit
digit_class b h = cond-false (is_ascii_alphabetic b) k.Letter _ (digit_not_letter b h) ∙ cond-true (is_ascii_digit b) k.Digit _ h

pub word_each : (b : ℕ) (bs : List ℕ) → is_word (b ∷ bs) ≡ true → Each is_word_byte (b ∷ bs)
word_each b bs w =
    let two = and_parts (is_ascii_alphabetic b) (list_all is_word_byte bs) w in
    ap (λ t. t && list_all is_word_byte bs) (letter_in_word b two.0) ∙ two.1

word_read : (b : ℕ) (bs rest : List ℕ) (o : Option Keyword) → is_word (b ∷ bs) ≡ true → keyword_of (b ∷ bs) ≡ o → Stops is_word_byte rest
    → token_at (b ∷ bs ++ rest) ≡ Some (token_by_keyword o (b ∷ bs), rest)
unfolding word_at
word_read b bs rest o w e s =
    let each = word_each b bs w in
    let all = b ∷ bs ++ rest in
    ap (λ c. token_by c all (bs ++ rest)) (letter_class b (and_parts (is_ascii_alphabetic b) (list_all is_word_byte bs) w).0)
    ∙ ap (λ r. some_token (token_of r) (past is_word_byte all)) (run_is is_word_byte (b ∷ bs) rest each s)
    ∙ ap (some_token (token_of (b ∷ bs))) (past_is is_word_byte (b ∷ bs) rest each s)
    ∙ ap (λ p. some_token (token_by_keyword p (b ∷ bs)) rest) e

number_read : (b : ℕ) (bs rest : List ℕ) → is_numeral (b ∷ bs) ≡ true → Stops is_word_byte rest → value_of (b ∷ bs) ≤ 9223372036854775807
    → token_at (b ∷ bs ++ rest) ≡ Some (Number (value_of (b ∷ bs)), rest)
unfolding number_at
number_read b bs rest w s v =
    let all = b ∷ bs ++ rest in
    let stop = digits_stop rest s in
    ap (λ c. token_by c all (bs ++ rest)) (digit_class b (and_parts (is_ascii_digit b) (list_all is_ascii_digit bs) w).0)
    ∙ ap (λ r. number_of (value_of r) (past is_ascii_digit all)) (run_is is_ascii_digit (b ∷ bs) rest w stop)
    ∙ ap (number_of (value_of (b ∷ bs))) (past_is is_ascii_digit (b ∷ bs) rest w stop)
    ∙ number_is (value_of (b ∷ bs)) rest s v

-- ---- texts

quote_not : (b : ℕ) (t rest : List ℕ) → is_quote b ≡ false → text_at false (b ∷ t ++ rest) ≡ put b (text_at false (t ++ rest))
unfolding text_at
quote_not b t rest h = ap (λ q. cond q (text_at true (t ++ rest)) (put b (text_at false (t ++ rest)))) h

quote_twice : (b : ℕ) (rest : List ℕ) → is_quote b ≡ true → text_at false (b ∷ b ∷ rest) ≡ put b (text_at false rest)
unfolding text_at
quote_twice b rest h = ap (λ q. cond q (text_at true (b ∷ rest)) (put b (text_at false (b ∷ rest)))) h ∙ ap (λ q. cond q (put b (text_at false rest)) (Some ([], b ∷ rest))) h

quote_ends : (rest : List ℕ) → Stops is_quote rest → text_at false (39 ∷ rest) ≡ Some ([], rest)
unfolding text_at
quote_ends [] h = refl
quote_ends (b ∷ rest) h = ap (λ q. cond q (put b (text_at false rest)) (Some ([], b ∷ rest))) h

text_step : (b : ℕ) (t rest : List ℕ) (q : Bool) → is_quote b ≡ q → text_at false (doubled t ++ 39 ∷ rest) ≡ Some (t, rest) → text_at false (doubled (b ∷ t) ++ 39 ∷ rest) ≡ Some (b ∷ t, rest)
text_step b t rest true e h = ap (λ q. text_at false (cond q (b ∷ b ∷ doubled t) (b ∷ doubled t) ++ 39 ∷ rest)) e ∙ quote_twice b (doubled t ++ 39 ∷ rest) e ∙ ap (put b) h
text_step b t rest false e h = ap (λ q. text_at false (cond q (b ∷ b ∷ doubled t) (b ∷ doubled t) ++ 39 ∷ rest)) e ∙ quote_not b (doubled t) (39 ∷ rest) e ∙ ap (put b) h

text_is : (t rest : List ℕ) → Stops is_quote rest → text_at false (doubled t ++ 39 ∷ rest) ≡ Some (t, rest)
text_is [] rest h = quote_ends rest h
text_is (b ∷ t) rest h = text_step b t rest (is_quote b) refl (text_is t rest h)

text_read : (t rest : List ℕ) → Stops is_quote rest → token_at (39 ∷ (doubled t ++ 39 ∷ rest)) ≡ Some (Text t, rest)
unfolding text_token_at
text_read t rest h = ap text_of (text_is t rest h)

-- ---- marks

-- the first byte of a mark, and what stands behind it
abbrev pub head_of : Mark → ℕ
head_of marks.Open = 40
head_of marks.Close = 41
head_of marks.Comma = 44
head_of marks.Dot = 46
head_of marks.Semicolon = 59
head_of marks.Plus = 43
head_of marks.Minus = 45
head_of marks.Times = 42
head_of marks.Equal = 61
head_of marks.Greater = 62
head_of marks.GreaterEqual = 62
head_of _ = 60

abbrev pub tail_of : Mark → List ℕ → List ℕ
tail_of marks.LessEqual rest = 61 ∷ rest
tail_of marks.NotEqual rest = 62 ∷ rest
tail_of marks.GreaterEqual rest = 61 ∷ rest
tail_of _ rest = rest

less_is : (rest : List ℕ) → Stops follows_less rest → less_at rest ≡ (Fixed (s.Mark marks.Less), rest)
unfolding less_at
less_is [] h = refl
less_is (c ∷ rest) h =
    let two = or_parts (c == 61) (c == 62) h in
    cond-false (c == 61) (Fixed (s.Mark marks.LessEqual), rest) _ two.0 ∙ cond-false (c == 62) (Fixed (s.Mark marks.NotEqual), rest) (Fixed (s.Mark marks.Less), c ∷ rest) two.1

greater_is : (rest : List ℕ) → Stops is_equal rest → greater_at rest ≡ (Fixed (s.Mark marks.Greater), rest)
unfolding greater_at
greater_is [] h = refl
greater_is (c ∷ rest) h = cond-false (c == 61) (Fixed (s.Mark marks.GreaterEqual), rest) (Fixed (s.Mark marks.Greater), c ∷ rest) h

abbrev some_pair : TokenAndRest → Option TokenAndRest
some_pair x = Some x

mark_read : (x : Mark) (rest : List ℕ) → IsLongest x rest → token_at (head_of x ∷ tail_of x rest) ≡ Some (Fixed (s.Mark x), rest)
unfolding less_at greater_at
mark_read marks.Open rest h = refl
mark_read marks.Close rest h = refl
mark_read marks.Comma rest h = refl
mark_read marks.Dot rest h = refl
mark_read marks.Semicolon rest h = refl
mark_read marks.Plus rest h = refl
mark_read marks.Minus rest h = refl
mark_read marks.Times rest h = refl
mark_read marks.Equal rest h = refl
mark_read marks.NotEqual rest h = refl
mark_read marks.Less rest h = ap some_pair (less_is rest h)
mark_read marks.LessEqual rest h = refl
mark_read marks.Greater rest h = ap some_pair (greater_is rest h)
mark_read marks.GreaterEqual rest h = refl

pub mark_stays : (x : Mark) (rest : List ℕ) → IsLongest x rest → skip false (head_of x ∷ tail_of x rest) ≡ head_of x ∷ tail_of x rest
mark_stays marks.Open rest h = skip_stays 40 rest refl refl
mark_stays marks.Close rest h = skip_stays 41 rest refl refl
mark_stays marks.Comma rest h = skip_stays 44 rest refl refl
mark_stays marks.Dot rest h = skip_stays 46 rest refl refl
mark_stays marks.Semicolon rest h = skip_stays 59 rest refl refl
mark_stays marks.Plus rest h = skip_stays 43 rest refl refl
mark_stays marks.Minus rest h = skip_stays 45 rest refl h
mark_stays marks.Times rest h = skip_stays 42 rest refl refl
mark_stays marks.Equal rest h = skip_stays 61 rest refl refl
mark_stays marks.NotEqual rest h = skip_stays 60 (62 ∷ rest) refl refl
mark_stays marks.Less rest h = skip_stays 60 rest refl refl
mark_stays marks.LessEqual rest h = skip_stays 60 (61 ∷ rest) refl refl
mark_stays marks.Greater rest h = skip_stays 62 rest refl refl
mark_stays marks.GreaterEqual rest h = skip_stays 62 (61 ∷ rest) refl refl

-- how a mark is written, one byte after the other
pub mark_spelled : (x : Mark) (rest : List ℕ) → mark_text x ++ rest ≡ head_of x ∷ tail_of x rest
mark_spelled marks.Open rest = refl
mark_spelled marks.Close rest = refl
mark_spelled marks.Comma rest = refl
mark_spelled marks.Dot rest = refl
mark_spelled marks.Semicolon rest = refl
mark_spelled marks.Plus rest = refl
mark_spelled marks.Minus rest = refl
mark_spelled marks.Times rest = refl
mark_spelled marks.Equal rest = refl
mark_spelled marks.NotEqual rest = refl
mark_spelled marks.Less rest = refl
mark_spelled marks.LessEqual rest = refl
mark_spelled marks.Greater rest = refl
mark_spelled marks.GreaterEqual rest = refl

tail_longer : (x : Mark) (rest : List ℕ) → length rest ≤ length (tail_of x rest)
tail_longer marks.LessEqual rest = omega arith
tail_longer marks.NotEqual rest = omega arith
tail_longer marks.GreaterEqual rest = omega arith
tail_longer _ rest = omega arith

-- ---- lists of tokens

abbrev listed : List Token → Option (List Token)
listed ts = Some ts

-- one token
turn : (n b : ℕ) (bs rest : List ℕ) (t : Token) (ts : List Token) → skip false (b ∷ bs) ≡ b ∷ bs → token_at (b ∷ bs) ≡ Some (t, rest) → lex n rest ≡ Some ts → lex (suc n) (b ∷ bs) ≡ Some (t ∷ ts)
unfolding lex
turn n b bs rest t ts h e f =
    ap (lex_turn (lex n)) h ∙ ap (λ o. o >>= λ x. lex n x.1 >>= λ us. listed (x.0 ∷ us)) e ∙ ap (λ o. o >>= λ us. listed (t ∷ us)) f

pub lexes : {bs : List ℕ} {ts : List Token} → IsTokens bs ts → (n : ℕ) → length bs < n → lex n bs ≡ Some ts
unfolding lex skip
lexes end_of_text zero lt = absurd (omega arith)
lexes end_of_text (suc n) lt = refl
lexes (blank h a) zero lt = absurd (omega arith)
lexes (blank {b = b} {rest = rest} h a) (suc n) lt = ap (lex_turn (lex n)) (skip_blank b rest h) ∙ lexes a (suc n) (omega arith)
lexes (comment note rest e s a) zero lt = absurd (omega arith)
lexes (comment note rest e s a) (suc n) lt = ap (lex_turn (lex n)) (skip_comment note rest e s) ∙ lexes a (suc n) (omega (arith, length-append note rest))
lexes (reserved [] rest x w e s a) n lt = absurd cc
lexes (reserved (b ∷ bs) rest x w e s a) zero lt = absurd (omega arith)
lexes (reserved (b ∷ bs) rest x {ts = ts} w e stops a) (suc n) lt =
    turn n b (bs ++ rest) rest (Fixed (s.Word x)) ts (word_stays b bs rest w) (word_read b bs rest (Some x) w e stops) (lexes a n (omega (arith, length-append bs rest)))
lexes (name [] rest w s a) n lt = absurd cc
lexes (name (b ∷ bs) rest w s a) zero lt = absurd (omega arith)
lexes (name (b ∷ bs) rest {ts = ts} w s a) (suc n) lt =
    let word = (and_parts (is_word (b ∷ bs)) (not (is_reserved (b ∷ bs))) w).0 in
    turn n b (bs ++ rest) rest (Name (str_to_ascii_lowercase (b ∷ bs))) ts (word_stays b bs rest word) (word_read b bs rest None word (name_is_no_keyword (b ∷ bs) w) s) (lexes a n (omega (arith, length-append bs rest)))
lexes (number [] rest w s v a) n lt = absurd cc
lexes (number (b ∷ bs) rest w s v a) zero lt = absurd (omega arith)
lexes (number (b ∷ bs) rest {ts = ts} w s v a) (suc n) lt =
    turn n b (bs ++ rest) rest (Number (value_of (b ∷ bs))) ts (number_stays b bs rest w) (number_read b bs rest w s v) (lexes a n (omega (arith, length-append bs rest)))
lexes (text t rest s a) zero lt = absurd (omega arith)
lexes (text t rest {ts = ts} s a) (suc n) lt =
    turn n 39 (doubled t ++ 39 ∷ rest) rest (Text t) ts (skip_stays 39 _ refl refl) (text_read t rest s) (lexes a n (omega (arith, length-append (doubled t) (39 ∷ rest))))
lexes (mark x rest h a) zero lt = absurd (omega arith)
lexes (mark x rest {ts = ts} h a) (suc n) lt =
    ap (lex (suc n)) (mark_spelled x rest)
    ∙ turn n (head_of x) (tail_of x rest) rest (Fixed (s.Mark x)) ts (mark_stays x rest h) (mark_read x rest h) (lexes a n (omega (arith, tail_longer x rest, ap length (mark_spelled x rest))))
