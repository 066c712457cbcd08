-- What is read is a list of tokens.
use Rattle.std.proofs.Common.{◌≡◌, ℕ, zero, suc, ◌≤◌, Bool, true, false, cond, List, [], ◌∷◌, ◌++◌, Option, Some, None, refl, sym, ap, subst, ◌∙◌, arith, append_assoc}
use Rattle.std.specs.Prelude.{◌&&◌, ◌||◌, ◌==◌, nat_le}
use Rattle.std.specs.Char.{is_ascii_alphabetic, is_ascii_digit}
use Rattle.std.specs.List.{list_all}
use Rattle.std.proofs.lemmas.Bool.{and_from, and_parts, eqb-true, leb-true, not-false}
use Rattle.std.proofs.lemmas.Bool.Decides.{nat_tests}
use Rattle.ssb_tokens.proofs.ReadingFacts.{bind_some}
use Rattle.ssb_terms.specs.Keywords.{keyword_of}
use Rattle.ssb_terms.specs.Names.{is_word, is_word_byte}
use Rattle.ssb_tokens.specs.declared.class.Class.{Class}
use Rattle.ssb_tokens.specs.declared.class.Class.TheVariants as k
use Rattle.ssb_terms.specs.declared.keyword.Keyword.{Keyword}
use Rattle.ssb_tokens.specs.declared.token.Mark.{Mark}
use Rattle.ssb_tokens.specs.declared.token.Mark.TheVariants as marks
use Rattle.ssb_tokens.specs.declared.token.Sign.TheVariants as s
use Rattle.ssb_tokens.specs.declared.token.Token.{Token}
use Rattle.ssb_tokens.specs.declared.token.Token.TheVariants.{Fixed, Number, Text}
use Rattle.ssb_tokens.specs.Class.{class_of}
use Rattle.ssb_tokens.specs.Tokens.{Each, IsLongest, IsTokens, Stops, begins, doubled, goes_on, is_blank, is_dash, is_numeral, is_quote, mark_text, value_of}
use Rattle.ssb_tokens.specs.Tokens.IsTokens.{end_of_text, blank, comment, reserved, name, number, text, mark}
use Rattle.ssb_tokens.specs.Reading.{◌>>=◌}
use Rattle.ssb_tokens.specs.Scanning.{greater_at, less_at, lex, lex_turn, mark_at, number_at, number_of, past, put, run, skip, text_at, text_of, text_token_at, token_at, token_by, token_by_keyword, token_of, word_at}
use Rattle.ssb_tokens.proofs.ReservedWords.{name_from_no_keyword}
use Rattle.ssb_tokens.proofs.ScanSteps.{past_more, run_more, run_past}

abbrev pub some_of : {A : Type 0} → A → Option A
some_of x = Some x

-- ---- which bytes a class has

abbrev byte_is : Class → ℕ → Type 0
byte_is k.Letter b = is_ascii_alphabetic b ≡ true
byte_is k.Digit b = is_ascii_digit b ≡ true
byte_is k.Quote b = b ≡ 39
byte_is (k.Mark x) b = mark_text x ≡ b ∷ []
byte_is k.Other b = Unit {0}

choice : (b : ℕ) (t : Bool) (x y : Class) → (t ≡ true → byte_is x b) → byte_is y b → byte_is (cond t x y) b
choice b true x y h g = h refl
choice b false x y h g = g

-- the one byte of a mark
one_byte : (x : Mark) (c b : ℕ) (y : Class) → mark_text x ≡ c ∷ [] → byte_is y b → byte_is (cond (b == c) (k.Mark x) y) b
one_byte x c b y h g = choice b (b == c) (k.Mark x) y (λ e. h ∙ ap (λ d. d ∷ []) (sym (eqb-true b c e))) g

named : (b : ℕ) → byte_is (class_of b) b
named b =
    choice b (is_ascii_alphabetic b) k.Letter _ (λ e. e)
    (choice b (is_ascii_digit b) k.Digit _ (λ e. e)
    (choice b (b == 39) k.Quote _ (λ e. eqb-true b 39 e)
    (one_byte marks.Open 40 b _ refl
    (one_byte marks.Close 41 b _ refl
    (one_byte marks.Comma 44 b _ refl
    (one_byte marks.Dot 46 b _ refl
    (one_byte marks.Semicolon 59 b _ refl
    (one_byte marks.Plus 43 b _ refl
    (one_byte marks.Minus 45 b _ refl
    (one_byte marks.Times 42 b _ refl
    (one_byte marks.Equal 61 b _ refl
    (one_byte marks.Less 60 b _ refl
    (one_byte marks.Greater 62 b k.Other refl tt)))))))))))))

byte_of : (b : ℕ) (c : Class) → class_of b ≡ c → byte_is c b
byte_of b c e = subst (λ x. byte_is x b) e (named b)

pub quote_is : (b : ℕ) → class_of b ≡ k.Quote → b ≡ 39
quote_is b e = byte_of b k.Quote e

pub letter_in_word : (b : ℕ) → is_ascii_alphabetic b ≡ true → is_word_byte b ≡ true
letter_in_word b h = grind (arith, nat_tests)

-- ---- runs

pub run_each : (p : ℕ → Bool) (bs : List ℕ) → Each p (run p bs)
unfolding run
run_each p [] = refl
run_each p (b ∷ bs) = run_step (p b) refl (run_each p bs)
  where
    run_step : (q : Bool) → p b ≡ q → Each p (run p bs) → Each p (cond q (b ∷ run p bs) [])
    run_step true e h = and_from (p b) (list_all p (run p bs)) e h
    run_step false e h = refl

past_stops : (p : ℕ → Bool) (bs : List ℕ) → Stops p (past p bs)
unfolding past
past_stops p [] = refl
past_stops p (b ∷ bs) = past_step (p b) refl (past_stops p bs)
  where
    past_step : (q : Bool) → p b ≡ q → Stops p (past p bs) → Stops p (cond q (past p bs) (b ∷ bs))
    past_step true e h = h
    past_step false e h = e

pub run_is_word : (bs : List ℕ) → begins is_ascii_alphabetic bs ≡ true → is_word (run is_word_byte bs) ≡ true
run_is_word [] h = absurd cc
run_is_word (b ∷ bs) h =
    subst (λ w. is_word w ≡ true) (sym (run_more is_word_byte b bs (letter_in_word b h)))
    (and_from (is_ascii_alphabetic b) (list_all is_word_byte (run is_word_byte bs)) h (run_each is_word_byte bs))

run_is_number : (b : ℕ) (bs : List ℕ) → is_ascii_digit b ≡ true → is_numeral (run is_ascii_digit (b ∷ bs)) ≡ true
run_is_number b bs h =
    subst (λ w. is_numeral w ≡ true) (sym (run_more is_ascii_digit b bs h))
    (and_from (is_ascii_digit b) (list_all is_ascii_digit (run is_ascii_digit bs)) h (run_each is_ascii_digit bs))

-- ---- what is skipped

-- what skipping leaves is these tokens; in a comment its note comes first
abbrev pub Skips : Bool → List ℕ → List Token → Type 0
Skips false bs ts = IsTokens bs ts
Skips true bs ts = (note : List ℕ) × (rest : List ℕ) × (bs ≡ note ++ rest) × Each goes_on note × Stops goes_on rest × IsTokens rest ts

-- LF is a separator
pub line_end_blank : (b : ℕ) → goes_on b ≡ false → is_blank b ≡ true
line_end_blank b h = subst (λ c. is_blank c ≡ true) (sym (eqb-true b 10 (not-false (b == 10) h))) refl

head_dash : (bs rest : List ℕ) → bs ≡ rest → begins is_dash bs ≡ true → Stops goes_on rest → ⊥
head_dash [] [] e g stop = absurd cc
head_dash [] (c ∷ rest) e g stop = absurd cc
head_dash (b ∷ bs) [] e g stop = absurd cc
head_dash (b ∷ bs) (c ∷ rest) e g stop =
    let same : b ≡ c = cc in
    let is : c ≡ 45 = sym same ∙ eqb-true b 45 g in
    let no : goes_on 45 ≡ false = subst (λ x. goes_on x ≡ false) is stop in
    absurd cc

-- a note that begins with a dash
note_in : (b : ℕ) (bs : List ℕ) (ts : List Token) → is_dash b ≡ true → begins is_dash bs ≡ true → Skips true bs ts → IsTokens (b ∷ bs) ts
note_in b bs ts h g ([], rest, e, each, stop, is) = absurd (head_dash bs rest e g stop)
note_in b bs ts h g (c ∷ note, rest, e, each, stop, is) =
    let first : is_dash c ≡ true = subst (λ l. begins is_dash l ≡ true) e g in
    let whole : b ∷ bs ≡ 45 ∷ 45 ∷ (note ++ rest) = ap (λ l. b ∷ l) e ∙ ap (λ x. x ∷ c ∷ (note ++ rest)) (eqb-true b 45 h) ∙ ap (λ x. 45 ∷ x ∷ (note ++ rest)) (eqb-true c 45 first) in
    subst (λ l. IsTokens l ts) (sym whole) (comment note rest (and_parts (goes_on c) (list_all goes_on note) each).1 stop is)

skip_line : (b : ℕ) (bs : List ℕ) (ts : List Token) (q : Bool) → goes_on b ≡ q → (IsTokens (skip false bs) ts → IsTokens bs ts) → (IsTokens (skip true bs) ts → Skips true bs ts)
    → IsTokens (cond q (skip true bs) (skip false bs)) ts → Skips true (b ∷ bs) ts
skip_line b bs ts true e f g h = let r = g h in (b ∷ r.0, r.1, ap (λ l. b ∷ l) r.2, and_from (goes_on b) (list_all goes_on r.0) e r.3, r.4, r.5)
skip_line b bs ts false e f g h = ([], b ∷ bs, refl, refl, e, blank (line_end_blank b e) (f h))

skip_dash : (b : ℕ) (bs : List ℕ) (ts : List Token) (q : Bool) → is_dash b && begins is_dash bs ≡ q → (IsTokens (skip true bs) ts → Skips true bs ts)
    → IsTokens (cond q (skip true bs) (b ∷ bs)) ts → IsTokens (b ∷ bs) ts
skip_dash b bs ts true e g h = let two = and_parts (is_dash b) (begins is_dash bs) e in note_in b bs ts two.0 two.1 (g h)
skip_dash b bs ts false e g h = h

skip_one : (b : ℕ) (bs : List ℕ) (ts : List Token) (q : Bool) → is_blank b ≡ q → (IsTokens (skip false bs) ts → IsTokens bs ts) → (IsTokens (skip true bs) ts → Skips true bs ts)
    → IsTokens (cond q (skip false bs) (cond (is_dash b && begins is_dash bs) (skip true bs) (b ∷ bs))) ts → IsTokens (b ∷ bs) ts
skip_one b bs ts true e f g h = blank e (f h)
skip_one b bs ts false e f g h = skip_dash b bs ts (is_dash b && begins is_dash bs) refl g h

pub skips : (q : Bool) (bs : List ℕ) (ts : List Token) → IsTokens (skip q bs) ts → Skips q bs ts
unfolding skip
skips true [] ts h = ([], [], refl, refl, refl, h)
skips true (b ∷ bs) ts h = skip_line b bs ts (goes_on b) refl (skips false bs ts) (skips true bs ts) h
skips false [] ts h = h
skips false (b ∷ bs) ts h = skip_one b bs ts (is_blank b) refl (skips false bs ts) (skips true bs ts) h

-- what is left behind separators begins no comment
abbrev pub IsBare : List ℕ → Type 0
IsBare [] = Unit {0}
IsBare (b ∷ bs) = is_dash b && begins is_dash bs ≡ false

bare_dash : (b : ℕ) (bs : List ℕ) (q : Bool) → is_dash b && begins is_dash bs ≡ q → IsBare (skip true bs) → IsBare (cond q (skip true bs) (b ∷ bs))
bare_dash b bs true e g = g
bare_dash b bs false e g = e

bare_if : (q : Bool) (xs ys : List ℕ) → IsBare xs → IsBare ys → IsBare (cond q xs ys)
bare_if true xs ys f g = f
bare_if false xs ys f g = g

pub bare : (q : Bool) (bs : List ℕ) → IsBare (skip q bs)
unfolding skip
bare true [] = tt
bare true (b ∷ bs) = bare_if (goes_on b) (skip true bs) (skip false bs) (bare true bs) (bare false bs)
bare false [] = tt
bare false (b ∷ bs) = bare_if (is_blank b) (skip false bs) (cond (is_dash b && begins is_dash bs) (skip true bs) (b ∷ bs)) (bare false bs)
    (bare_dash b bs (is_dash b && begins is_dash bs) refl (bare true bs))

-- ---- texts

abbrev pub behind : Bool → List ℕ → List ℕ
behind true bs = 39 ∷ bs
behind false bs = bs

-- x is the text, and what follows it
pub record IsText (bs : List ℕ) (x : List ℕ × List ℕ) : Type 0 where
  pub whole : bs ≡ doubled x.0 ++ 39 ∷ x.1
  pub stops : Stops is_quote x.1

some_pair : (x y : List ℕ × List ℕ) → some_of x ≡ some_of y → x ≡ y
some_pair x y e = cc

put_some : (b : ℕ) (r : Option (List ℕ × List ℕ)) (x : List ℕ × List ℕ) → put b r ≡ Some x → (y : List ℕ × List ℕ) × (r ≡ Some y) × ((b ∷ y.0, y.1) ≡ x)
put_some b None x e = absurd cc
put_some b (Some y) x e = (y, refl, some_pair (b ∷ y.0, y.1) x e)

-- one more byte
more_text : (b : ℕ) (bs : List ℕ) (x : List ℕ × List ℕ) (q : Bool) → is_quote b ≡ q → IsText bs x → IsText (cond q (b ∷ b ∷ bs) (b ∷ bs)) (b ∷ x.0, x.1)
more_text b bs x true e h = record { whole = ap (λ l. b ∷ b ∷ l) h.whole ∙ ap (λ q. cond q (b ∷ b ∷ doubled x.0) (b ∷ doubled x.0) ++ 39 ∷ x.1) (sym e); stops = h.stops }
more_text b bs x false e h = record { whole = ap (λ l. b ∷ l) h.whole ∙ ap (λ q. cond q (b ∷ b ∷ doubled x.0) (b ∷ doubled x.0) ++ 39 ∷ x.1) (sym e); stops = h.stops }

step_true : (b : ℕ) (bs : List ℕ) (x : List ℕ × List ℕ) (q : Bool) → is_quote b ≡ q → ((y : List ℕ × List ℕ) → text_at false bs ≡ Some y → IsText bs y)
    → cond q (put b (text_at false bs)) (Some ([], b ∷ bs)) ≡ Some x → IsText (39 ∷ b ∷ bs) x
step_true b bs x true e h f =
    let p = put_some b (text_at false bs) x f in
    let one = more_text b bs p.0 true e (h p.0 p.1) in
    subst (IsText (39 ∷ b ∷ bs)) p.2 (subst (λ c. IsText (c ∷ b ∷ bs) (b ∷ p.0.0, p.0.1)) (eqb-true b 39 e) one)
step_true b bs x false e h f = subst (IsText (39 ∷ b ∷ bs)) (some_pair ([], b ∷ bs) x f) (record { whole = refl; stops = e })

step_false : (b : ℕ) (bs : List ℕ) (x : List ℕ × List ℕ) (q : Bool) → is_quote b ≡ q → ((y : List ℕ × List ℕ) → text_at false bs ≡ Some y → IsText bs y) → (text_at true bs ≡ Some x → IsText (39 ∷ bs) x)
    → cond q (text_at true bs) (put b (text_at false bs)) ≡ Some x → IsText (b ∷ bs) x
step_false b bs x true e h g f = subst (λ c. IsText (c ∷ bs) x) (sym (eqb-true b 39 e)) (g f)
step_false b bs x false e h g f = let p = put_some b (text_at false bs) x f in subst (IsText (b ∷ bs)) p.2 (more_text b bs p.0 false e (h p.0 p.1))

pub text_sound : (q : Bool) (bs : List ℕ) (x : List ℕ × List ℕ) → text_at q bs ≡ Some x → IsText (behind q bs) x
unfolding text_at
text_sound true [] x f = subst (IsText (39 ∷ [])) (some_pair ([], []) x f) (record { whole = refl; stops = refl })
text_sound true (b ∷ bs) x f = step_true b bs x (is_quote b) refl (text_sound false bs) f
text_sound false [] x f = absurd cc
text_sound false (b ∷ bs) x f = step_false b bs x (is_quote b) refl (text_sound false bs) (text_sound true bs x) f

-- ---- tokens

abbrev pub TokenAndRest : Type 0
TokenAndRest = Token × List ℕ

pub some_token : (x y : TokenAndRest) → some_of x ≡ some_of y → x ≡ y
some_token x y e = cc

-- the token x.0 stands before what x.1 spells, and x.1 is a rest behind the first byte
pub record Goes (b : ℕ) (bs : List ℕ) (x : TokenAndRest) : Type 0 where
  pub by : (ts : List Token) → IsTokens x.1 ts → IsTokens (b ∷ bs) (x.0 ∷ ts)
  pub front : List ℕ
  pub whole : bs ≡ front ++ x.1

word_is : (word rest : List ℕ) (ts : List Token) (o : Option Keyword) → keyword_of word ≡ o → is_word word ≡ true → Stops is_word_byte rest → IsTokens rest ts → IsTokens (word ++ rest) (token_by_keyword o word ∷ ts)
word_is word rest ts None e w stop is = name word rest (name_from_no_keyword word w e) stop is
word_is word rest ts (Some x) e w stop is = reserved word rest x w e stop is

word_goes : (b : ℕ) (bs : List ℕ) (x : TokenAndRest) → is_ascii_alphabetic b ≡ true → word_at (b ∷ bs) ≡ Some x → Goes b bs x
unfolding word_at
word_goes b bs x h e =
    let all = b ∷ bs in
    subst (Goes b bs) (some_token (token_of (run is_word_byte all), past is_word_byte all) x e) (record {
      by = λ ts is. subst (λ l. IsTokens l (token_of (run is_word_byte all) ∷ ts)) (run_past is_word_byte all)
          (word_is (run is_word_byte all) (past is_word_byte all) ts (keyword_of (run is_word_byte all)) refl (run_is_word all h) (past_stops is_word_byte all) is);
      front = run is_word_byte bs;
      whole = sym (run_past is_word_byte bs) ∙ ap (λ l. run is_word_byte bs ++ l) (sym (past_more is_word_byte b bs (letter_in_word b h)));
    })

pub number_some : (n : ℕ) (rest : List ℕ) (x : TokenAndRest) → number_of n rest ≡ Some x → (Stops is_word_byte rest) × (n ≤ 9223372036854775807) × ((Number n, rest) ≡ x)
number_some n rest x e = first (begins is_word_byte rest) refl e
  where
    second : (q : Bool) → nat_le n 9223372036854775807 ≡ q → cond q (Some (Number n, rest)) None ≡ Some x → (n ≤ 9223372036854775807) × ((Number n, rest) ≡ x)
    second true h f = (leb-true n 9223372036854775807 h, some_token (Number n, rest) x f)
    second false h f = absurd cc

    first : (q : Bool) → begins is_word_byte rest ≡ q → cond q None (cond (nat_le n 9223372036854775807) (Some (Number n, rest)) None) ≡ Some x → (begins is_word_byte rest ≡ false) × (n ≤ 9223372036854775807) × ((Number n, rest) ≡ x)
    first true h f = absurd cc
    first false h f = let r = second (nat_le n 9223372036854775807) refl f in (h, r.0, r.1)

number_goes : (b : ℕ) (bs : List ℕ) (x : TokenAndRest) → is_ascii_digit b ≡ true → number_at (b ∷ bs) ≡ Some x → Goes b bs x
unfolding number_at
number_goes b bs x h e =
    let all = b ∷ bs in
    let f = number_some (value_of (run is_ascii_digit all)) (past is_ascii_digit all) x e in
    subst (Goes b bs) f.2 (record {
      by = λ ts is. subst (λ l. IsTokens l (Number (value_of (run is_ascii_digit all)) ∷ ts)) (run_past is_ascii_digit all)
          (number (run is_ascii_digit all) (past is_ascii_digit all) (run_is_number b bs h) f.0 f.1 is);
      front = run is_ascii_digit bs;
      whole = sym (run_past is_ascii_digit bs) ∙ ap (λ l. run is_ascii_digit bs ++ l) (sym (past_more is_ascii_digit b bs h));
    })

pub text_some : (r : Option (List ℕ × List ℕ)) (x : TokenAndRest) → text_of r ≡ Some x → (y : List ℕ × List ℕ) × (r ≡ Some y) × ((Text y.0, y.1) ≡ x)
text_some None x e = absurd cc
text_some (Some y) x e = (y, refl, some_token (Text y.0, y.1) x e)

text_goes : (b : ℕ) (bs : List ℕ) (x : TokenAndRest) → b ≡ 39 → text_token_at bs ≡ Some x → Goes b bs x
unfolding text_token_at
text_goes b bs x h e =
    let f = text_some (text_at false bs) x e in
    let g = text_sound false bs f.0 f.1 in
    let whole : b ∷ bs ≡ 39 ∷ (doubled f.0.0 ++ 39 ∷ f.0.1) = ap (λ l. b ∷ l) g.whole ∙ ap (λ y. y ∷ (doubled f.0.0 ++ 39 ∷ f.0.1)) h in
    subst (Goes b bs) f.2 (record {
      by = λ ts is. subst (λ l. IsTokens l (Text f.0.0 ∷ ts)) (sym whole) (text f.0.0 f.0.1 g.stops is);
      front = doubled f.0.0 ++ 39 ∷ [];
      whole = g.whole ∙ sym (append_assoc (doubled f.0.0) (39 ∷ []) f.0.1);
    })

-- a mark of one byte
single_goes : (y : Mark) (b : ℕ) (bs : List ℕ) → mark_text y ≡ b ∷ [] → IsLongest y bs → Goes b bs (Fixed (s.Mark y), bs)
single_goes y b bs h long = record { by = λ ts is. subst (λ w. IsTokens (w ++ bs) (Fixed (s.Mark y) ∷ ts)) h (mark y bs long is); front = []; whole = refl }

-- a mark of two bytes
double_goes : (y : Mark) (b c : ℕ) (bs : List ℕ) → mark_text y ≡ b ∷ c ∷ [] → IsLongest y bs → Goes b (c ∷ bs) (Fixed (s.Mark y), bs)
double_goes y b c bs h long = record { by = λ ts is. subst (λ w. IsTokens (w ++ bs) (Fixed (s.Mark y) ∷ ts)) h (mark y bs long is); front = c ∷ []; whole = refl }

or_both : (x y : Bool) → x ≡ false → y ≡ false → (x || y) ≡ false
or_both false false e f = refl
or_both false true e f = absurd cc
or_both true y e f = absurd cc

less_goes : (b : ℕ) (bs : List ℕ) → b ≡ 60 → Goes b bs (less_at bs)
unfolding less_at
less_goes b [] h = single_goes marks.Less b [] (ap (λ y. y ∷ []) (sym h)) refl
less_goes b (c ∷ bs) h = first (c == 61) refl
  where
    second : (q : Bool) → (c == 61) ≡ false → (c == 62) ≡ q → Goes b (c ∷ bs) (cond q (Fixed (s.Mark marks.NotEqual), bs) (Fixed (s.Mark marks.Less), c ∷ bs))
    second true f g = double_goes marks.NotEqual b c bs (ap (λ y. y ∷ 62 ∷ []) (sym h) ∙ ap (λ y. b ∷ y ∷ []) (sym (eqb-true c 62 g))) tt
    second false f g = single_goes marks.Less b (c ∷ bs) (ap (λ y. y ∷ []) (sym h)) (or_both (c == 61) (c == 62) f g)

    first : (q : Bool) → (c == 61) ≡ q → Goes b (c ∷ bs) (cond q (Fixed (s.Mark marks.LessEqual), bs) (cond (c == 62) (Fixed (s.Mark marks.NotEqual), bs) (Fixed (s.Mark marks.Less), c ∷ bs)))
    first true g = double_goes marks.LessEqual b c bs (ap (λ y. y ∷ 61 ∷ []) (sym h) ∙ ap (λ y. b ∷ y ∷ []) (sym (eqb-true c 61 g))) tt
    first false g = second (c == 62) g refl

greater_goes : (b : ℕ) (bs : List ℕ) → b ≡ 62 → Goes b bs (greater_at bs)
unfolding greater_at
greater_goes b [] h = single_goes marks.Greater b [] (ap (λ y. y ∷ []) (sym h)) refl
greater_goes b (c ∷ bs) h = first (c == 61) refl
  where
    first : (q : Bool) → (c == 61) ≡ q → Goes b (c ∷ bs) (cond q (Fixed (s.Mark marks.GreaterEqual), bs) (Fixed (s.Mark marks.Greater), c ∷ bs))
    first true g = double_goes marks.GreaterEqual b c bs (ap (λ y. y ∷ 61 ∷ []) (sym h) ∙ ap (λ y. b ∷ y ∷ []) (sym (eqb-true c 61 g))) tt
    first false g = single_goes marks.Greater b (c ∷ bs) (ap (λ y. y ∷ []) (sym h)) g

same_byte : (b c : ℕ) → c ∷ [] ≡ b ∷ [] → b ≡ c
same_byte b c e = cc

-- a lone dash
minus_ends : (b : ℕ) (bs : List ℕ) → b ≡ 45 → IsBare (b ∷ bs) → Stops is_dash bs
minus_ends b bs h n = subst (λ c. is_dash c && begins is_dash bs ≡ false) h n

mark_goes : (x : Mark) (b : ℕ) (bs : List ℕ) → mark_text x ≡ b ∷ [] → IsBare (b ∷ bs) → Goes b bs (mark_at x bs)
mark_goes marks.Less b bs h n = less_goes b bs (same_byte b 60 h)
mark_goes marks.Greater b bs h n = greater_goes b bs (same_byte b 62 h)
mark_goes marks.Minus b bs h n = single_goes marks.Minus b bs h (minus_ends b bs (same_byte b 45 h) n)
mark_goes marks.Open b bs h n = single_goes marks.Open b bs h tt
mark_goes marks.Close b bs h n = single_goes marks.Close b bs h tt
mark_goes marks.Comma b bs h n = single_goes marks.Comma b bs h tt
mark_goes marks.Dot b bs h n = single_goes marks.Dot b bs h tt
mark_goes marks.Semicolon b bs h n = single_goes marks.Semicolon b bs h tt
mark_goes marks.Plus b bs h n = single_goes marks.Plus b bs h tt
mark_goes marks.Times b bs h n = single_goes marks.Times b bs h tt
mark_goes marks.Equal b bs h n = single_goes marks.Equal b bs h tt
mark_goes marks.NotEqual b bs h n = single_goes marks.NotEqual b bs h tt
mark_goes marks.LessEqual b bs h n = single_goes marks.LessEqual b bs h tt
mark_goes marks.GreaterEqual b bs h n = single_goes marks.GreaterEqual b bs h tt

token_goes : (b : ℕ) (bs : List ℕ) (x : TokenAndRest) (c : Class) → class_of b ≡ c → IsBare (b ∷ bs) → token_by c (b ∷ bs) bs ≡ Some x → Goes b bs x
token_goes b bs x k.Letter h n e = word_goes b bs x (byte_of b k.Letter h) e
token_goes b bs x k.Digit h n e = number_goes b bs x (byte_of b k.Digit h) e
token_goes b bs x k.Quote h n e = text_goes b bs x (byte_of b k.Quote h) e
token_goes b bs x (k.Mark y) h n e = let f = byte_of b (k.Mark y) h in subst (Goes b bs) (some_token (mark_at y bs) x e) (mark_goes y b bs f n)
token_goes b bs x k.Other h n e = absurd cc

pub goes : (b : ℕ) (bs : List ℕ) (x : TokenAndRest) → IsBare (b ∷ bs) → token_at (b ∷ bs) ≡ Some x → Goes b bs x
goes b bs x n e = token_goes b bs x (class_of b) refl n e

-- ---- lists of tokens

pub some_list : (x y : List Token) → some_of x ≡ some_of y → x ≡ y
some_list x y e = cc

turn_sound : (n : ℕ) (us : List ℕ) (ts : List Token) → IsBare us → ((vs : List ℕ) (xs : List Token) → lex n vs ≡ Some xs → IsTokens vs xs) → lex_turn (lex n) us ≡ Some ts → IsTokens us ts
turn_sound n [] ts h f e = subst (IsTokens []) (some_list [] ts e) end_of_text
turn_sound n (b ∷ bs) ts h f e =
    let p = bind_some (token_at (b ∷ bs)) (λ x. lex n x.1 >>= λ xs. some_of (x.0 ∷ xs)) ts e in
    let q = bind_some (lex n p.0.1) (λ xs. some_of (p.0.0 ∷ xs)) ts p.2 in
    let one = (goes b bs p.0 h p.1).by q.0 (f p.0.1 q.0 q.1) in
    subst (IsTokens (b ∷ bs)) (some_list (p.0.0 ∷ q.0) ts q.2) one

pub lex_sound : (n : ℕ) (bs : List ℕ) (ts : List Token) → lex n bs ≡ Some ts → IsTokens bs ts
unfolding lex
lex_sound zero bs ts e = absurd cc
lex_sound (suc n) bs ts e = skips false bs ts (turn_sound n (skip false bs) ts (bare false bs) (lex_sound n) e)
