-- A name is ASCII.
use Rattle.std.proofs.Common.{◌≡◌, ◌<◌, ℕ, zero, suc, true, not, List, [], ◌∷◌, arith}
use Rattle.std.specs.Char.{is_ascii_alphabetic}
use Rattle.std.specs.List.{list_all}
use Rattle.std.specs.Str.{IsAscii, IsUtf8}
use Rattle.std.proofs.lemmas.Bool.Decides.{nat_tests}
use Rattle.std.proofs.lemmas.Str.{IsUtf8-from_ascii}
use Rattle.std.proofs.lemmas.Bool.{and_parts}
use Rattle.ssb_terms.specs.Names.{is_name, is_reserved, is_word, is_word_byte}

letter-small : (b : ℕ) → is_ascii_alphabetic b ≡ true → b < 128
letter-small b e = grind (arith, nat_tests)

word-byte-small : (b : ℕ) → is_word_byte b ≡ true → b < 128
word-byte-small b e = grind (arith, nat_tests)

all-small : (bs : List ℕ) → list_all is_word_byte bs ≡ true → IsAscii bs
all-small [] e i = omega arith
all-small (b ∷ bs) e zero = word-byte-small b (and_parts _ _ e).0
all-small (b ∷ bs) e (suc i) = all-small bs (and_parts _ _ e).1 i

word-ascii : (bs : List ℕ) → is_word bs ≡ true → IsAscii bs
word-ascii [] e i = omega arith
word-ascii (b ∷ bs) e zero = letter-small b (and_parts _ _ e).0
word-ascii (b ∷ bs) e (suc i) = all-small bs (and_parts _ _ e).1 i

pub name-text : (word : List ℕ) → is_name word ≡ true → IsUtf8 word
name-text word e = IsUtf8-from_ascii word (word-ascii word (and_parts (is_word word) (not (is_reserved word)) e).0)
