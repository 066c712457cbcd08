-- A word is a name exactly where it is no reserved word.
use Rattle.std.proofs.Common.{◌≡◌, ℕ, true, false, List, Option, Some, None, refl, ap}
use Rattle.std.specs.Prelude.{not}
use Rattle.std.specs.Option.{is_some}
use Rattle.std.proofs.lemmas.Bool.{and_from, and_parts, not-true, not_from_false}
use Rattle.ssb_terms.specs.Keywords.{keyword_of}
use Rattle.ssb_terms.specs.Names.{is_name, is_reserved, is_word}
use Rattle.ssb_terms.specs.declared.keyword.Keyword.{Keyword}

none_is : (o : Option Keyword) → is_some o ≡ false → o ≡ None
none_is None h = refl
none_is (Some x) h = absurd cc

pub name_is_no_keyword : (word : List ℕ) → is_name word ≡ true → keyword_of word ≡ None
name_is_no_keyword word h = none_is (keyword_of word) (not-true (is_reserved word) (and_parts (is_word word) (not (is_reserved word)) h).1)

pub name_from_no_keyword : (word : List ℕ) → is_word word ≡ true → keyword_of word ≡ None → is_name word ≡ true
name_from_no_keyword word w h = and_from (is_word word) (not (is_reserved word)) w (not_from_false (is_reserved word) (ap is_some h))
