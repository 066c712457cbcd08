-- Whole lines of a text, and what is behind the last of them.
-- Source: own; 10 is the line feed.
use Rattle.std.specs.Prelude.{◌≡◌, ◌++◌, [], ◌∷◌, ◌==◌, ℕ, List, false, ◌⊎◌}
use Rattle.std.specs.List.{list_any}

-- bytes that end in a line feed
pub record EndsInLf (xs : List ℕ) : Type 0 where
  pub front : List ℕ
  pub split : xs ≡ front ++ 10 ∷ []

-- whole lines, or no byte at all
abbrev pub AreLines : List ℕ → Type 0
AreLines xs = (xs ≡ []) ⊎ EndsInLf xs

-- no line feed among these bytes
abbrev pub IsPartOfLine : List ℕ → Type 0
IsPartOfLine xs = list_any (λ x. x == 10) xs ≡ false

-- a text up to its last line feed, and the rest
pub record IsCutAtLf (text lines rest : List ℕ) : Type 0 where
  pub split : text ≡ lines ++ rest
  pub whole : AreLines lines
  pub part : IsPartOfLine rest
