-- The reserved words.
-- Source: SQL-92, 5.2 <reserved word>, cut down; the list is this project's.
use Rattle.std.specs.Prelude.{ℕ, List, [], ◌∷◌, Option, codes}
use Rattle.std.specs.List.{find}
use Rattle.std.specs.Str.{str_eq_ignore_ascii_case}
use Rattle.ssb_terms.specs.declared.keyword.Keyword.{Keyword}
use Rattle.ssb_terms.specs.declared.keyword.Keyword.TheVariants as w

-- its letters, in lower case
abbrev pub spelling : Keyword → List ℕ
spelling w.Select = codes "select"
spelling w.From = codes "from"
spelling w.Where = codes "where"
spelling w.Group = codes "group"
spelling w.By = codes "by"
spelling w.Order = codes "order"
spelling w.And = codes "and"
spelling w.Or = codes "or"
spelling w.Not = codes "not"
spelling w.Between = codes "between"
spelling w.In = codes "in"
spelling w.Is = codes "is"
spelling w.Null = codes "null"
spelling w.As = codes "as"
spelling w.Asc = codes "asc"
spelling w.Desc = codes "desc"
spelling w.Sum = codes "sum"
spelling w.Count = codes "count"
spelling w.Min = codes "min"
spelling w.Max = codes "max"
spelling w.Having = codes "having"

abbrev pub keywords : List Keyword
keywords =
    w.Select ∷ w.From ∷ w.Where ∷ w.Group ∷ w.By ∷ w.Order ∷ w.And ∷ w.Or ∷ w.Not ∷ w.Between ∷ w.In ∷ w.Is ∷ w.Null ∷ w.As ∷ w.Asc
    ∷ w.Desc ∷ w.Sum ∷ w.Count ∷ w.Min ∷ w.Max ∷ w.Having ∷ []

-- the reserved word that these letters are, whatever their case
unfoldable pub keyword_of : List ℕ → Option Keyword
keyword_of word = find (λ k. str_eq_ignore_ascii_case word (spelling k)) keywords
