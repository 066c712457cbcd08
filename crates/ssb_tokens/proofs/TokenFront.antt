-- The token in front, as the code finds it.
use Rattle.std.proofs.Common.{◌≡◌, ℕ, ◌<◌, ◌≤◌, ◌^◌, true, false, cond, List, ◌∷◌, Option, Some, None, sym, ap, ◌∙◌, arith, min}
use Rattle.std.specs.Prelude.{nat_le}
use Rattle.std.specs.Char.{is_ascii_digit}
use Rattle.std.proofs.lemmas.Bool.{le-leb, lt-leb}
use Rattle.ssb_terms.specs.Names.{is_word_byte}
use Rattle.ssb_tokens.specs.declared.class.Class.TheVariants as k
use Rattle.ssb_tokens.specs.declared.token.Mark.{Mark}
use Rattle.ssb_tokens.specs.declared.token.Token.{Token}
use Rattle.ssb_tokens.specs.declared.token.Token.TheVariants.{Number}
use Rattle.ssb_tokens.specs.Class.{class_of}
use Rattle.ssb_tokens.specs.Tokens.{begins, value_of}
use Rattle.ssb_tokens.specs.Scanning.{first, mark_at, number_at, number_of, past, run, token_at, token_by}
use Rattle.ssb_tokens.proofs.ScanSteps.{first_is}

abbrev some_token : Token → List ℕ → Option (Token × List ℕ)
some_token t rest = Some (t, rest)

pub number_is : (n : ℕ) (rest : List ℕ) → begins is_word_byte rest ≡ false → n ≤ 9223372036854775807 → number_of n rest ≡ Some (Number n, rest)
number_is n rest s v = ap (λ t. cond t None (cond (nat_le n 9223372036854775807) (some_token (Number n) rest) None)) s ∙ ap (λ t. cond t (some_token (Number n) rest) None) (le-leb n 9223372036854775807 v)

number_not : (n : ℕ) (rest : List ℕ) → begins is_word_byte rest ≡ false → 9223372036854775807 < n → number_of n rest ≡ None
number_not n rest s v = ap (λ t. cond t None (cond (nat_le n 9223372036854775807) (some_token (Number n) rest) None)) s ∙ ap (λ t. cond t (some_token (Number n) rest) None) (lt-leb n 9223372036854775807 v)

pub number_fits : (bs rest : List ℕ) (value : ℕ) → value ≡ min (value_of (run is_ascii_digit bs)) (2 ^ 63) → rest ≡ past is_ascii_digit bs → begins is_word_byte rest ≡ false → value < 2 ^ 63 → number_at bs ≡ Some (Number value, rest)
unfolding number_at
number_fits bs rest value v r s lt =
    let n : value_of (run is_ascii_digit bs) ≡ value = omega arith in
    ap (λ x. number_of x (past is_ascii_digit bs)) n ∙ ap (number_of value) (sym r) ∙ number_is value rest s (omega arith)

pub number_large : (bs rest : List ℕ) (value : ℕ) → value ≡ min (value_of (run is_ascii_digit bs)) (2 ^ 63) → rest ≡ past is_ascii_digit bs → begins is_word_byte rest ≡ false → 2 ^ 63 ≤ value → number_at bs ≡ None
unfolding number_at
number_large bs rest value v r s le = ap (number_of (value_of (run is_ascii_digit bs))) (sym r) ∙ number_not (value_of (run is_ascii_digit bs)) rest s (omega arith)

pub number_in_word : (bs rest : List ℕ) → rest ≡ past is_ascii_digit bs → begins is_word_byte rest ≡ true → number_at bs ≡ None
unfolding number_at
number_in_word bs rest r s =
    let n = value_of (run is_ascii_digit bs) in
    ap (number_of n) (sym r) ∙ ap (λ t. cond t None (cond (nat_le n 9223372036854775807) (some_token (Number n) rest) None)) s

abbrev some_of : Token × List ℕ → Option (Token × List ℕ)
some_of x = Some x

pub mark_here : (bs us : List ℕ) (b : ℕ) (x : Mark) (found : Token × List ℕ) → first bs ≡ Some (b, us) → class_of b ≡ k.Mark x → found ≡ mark_at x us → token_at bs ≡ Some found
mark_here bs us b x found f h e = ap token_at (first_is bs us b f) ∙ ap (λ c. token_by c (b ∷ us) us) h ∙ ap some_of (sym e)
