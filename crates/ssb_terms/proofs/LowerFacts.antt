-- A name in lower case is a name: what makes a name ignores the case of letters.
use Rattle.std.proofs.Common.{◌≡◌, ℕ, true, not, List, [], ◌∷◌, refl, arith}
use Rattle.std.specs.Char.{is_ascii_alphabetic, to_ascii_lowercase}
use Rattle.std.specs.List.{find, list_all}
use Rattle.std.specs.Str.{str_eq_ignore_ascii_case, str_to_ascii_lowercase}
use Rattle.std.proofs.lemmas.Bool.Decides.{nat_tests}
use Rattle.std.proofs.lemmas.Str.Ascii.{lowercase-lowercase}
use Rattle.std.proofs.lemmas.Bool.{and_parts}
use Rattle.ssb_terms.specs.declared.keyword.Keyword.{Keyword}
use Rattle.ssb_terms.specs.Keywords.{keyword_of, keywords, spelling}
use Rattle.ssb_terms.specs.Names.{IsLowerName, is_name, is_reserved, is_word, is_word_byte}

lower-letter : (b : ℕ) → is_ascii_alphabetic b ≡ true → is_ascii_alphabetic (to_ascii_lowercase b) ≡ true
lower-letter b e = grind (arith, nat_tests)

lower-word-byte : (b : ℕ) → is_word_byte b ≡ true → is_word_byte (to_ascii_lowercase b) ≡ true
lower-word-byte b e = grind (arith, nat_tests)

lower-word-bytes : (bs : List ℕ) → list_all is_word_byte bs ≡ true → list_all is_word_byte (str_to_ascii_lowercase bs) ≡ true
lower-word-bytes [] e = refl
lower-word-bytes (b ∷ bs) e =
    let both = and_parts (is_word_byte b) _ e in
    rw (lower-word-byte b both.0) (lower-word-bytes bs both.1)

lower-word : (bs : List ℕ) → is_word bs ≡ true → is_word (str_to_ascii_lowercase bs) ≡ true
lower-word [] e = e
lower-word (b ∷ bs) e =
    let both = and_parts (is_ascii_alphabetic b) _ e in
    rw (lower-letter b both.0) (lower-word-bytes bs both.1)

pub lower-twice : (bs : List ℕ) → str_to_ascii_lowercase (str_to_ascii_lowercase bs) ≡ str_to_ascii_lowercase bs
lower-twice [] = refl
lower-twice (b ∷ bs) = rw (lowercase-lowercase b, lower-twice bs) refl

same-found : (bs : List ℕ) (ks : List Keyword) → find (λ k. str_eq_ignore_ascii_case (str_to_ascii_lowercase bs) (spelling k)) ks ≡ find (λ k. str_eq_ignore_ascii_case bs (spelling k)) ks
same-found bs [] = refl
same-found bs (k ∷ ks) = rw (lower-twice bs, same-found bs ks) refl

same-keyword : (bs : List ℕ) → keyword_of (str_to_ascii_lowercase bs) ≡ keyword_of bs
unfolding keyword_of
same-keyword bs = same-found bs keywords

pub lower-name : (bs : List ℕ) → is_name bs ≡ true → IsLowerName (str_to_ascii_lowercase bs)
lower-name bs e =
    let both = and_parts (is_word bs) (not (is_reserved bs)) e in
    record {
      name = rw (lower-word bs both.0, same-keyword bs) both.1;
      lower = lower-twice bs;
    }
