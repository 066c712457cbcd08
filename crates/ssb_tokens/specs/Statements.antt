-- Where a text of many statements is cut: at each `;` outside text literals and comments.
-- Source: own; SQL-92, 5.2 <comment> and 5.3 <character string literal> say what comments and text literals are.
use Rattle.std.specs.Prelude.{ℕ, Bool, ◌&&◌, ◌==◌, if◌then◌else◌, List, [], ◌∷◌, ◌++◌}
use Rattle.ssb_tokens.specs.Tokens.{begins, goes_on, is_blank, is_dash, is_quote}

-- where a byte stands
pub data Place : Type 0 where
  plain : Place
  literal : Place
  comment : Place

-- one more byte, or token, of a statement that has begun
abbrev pub within : {A : Type 0} → List A → A → List A
within [] b = []
within (s ∷ ss) b = (s ∷ ss) ++ b ∷ []

-- one byte more outside text literals and comments: a statement begins at its first one that is no separator
abbrev pub in_plain : List ℕ → ℕ → List ℕ
in_plain so_far b = if is_blank b then within so_far b else so_far ++ b ∷ []

-- a statement that has nothing is none
abbrev pub if_any : {A : Type 0} → List A → List (List A)
if_any [] = []
if_any (s ∷ ss) = (s ∷ ss) ∷ []

-- `;`
abbrev pub is_end : ℕ → Bool
is_end b = b == 59

-- the statements of a text, of which the first has these bytes so far
unfoldable pub statements_from : Place → List ℕ → List ℕ → List (List ℕ)
statements_from place so_far [] = if_any so_far
statements_from plain so_far (b ∷ bs) =
    if is_end b then if_any (within so_far b) ++ statements_from plain [] bs
    else (if is_quote b then statements_from literal (so_far ++ b ∷ []) bs
    else (if is_dash b && begins is_dash bs then statements_from comment (within so_far b) bs
    else statements_from plain (in_plain so_far b) bs))
statements_from literal so_far (b ∷ bs) = statements_from (if is_quote b then plain else literal) (so_far ++ b ∷ []) bs
statements_from comment so_far (b ∷ bs) = statements_from (if goes_on b then comment else plain) (within so_far b) bs

-- The statements of a text, each with its `;` where it has one. A statement begins at its first byte outside separators and comments.
abbrev pub statements_of : List ℕ → List (List ℕ)
statements_of text = statements_from plain [] text
