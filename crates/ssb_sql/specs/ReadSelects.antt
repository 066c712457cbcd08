-- Reading queries.
-- For the contracts inside this crate.
use Rattle.std.specs.Prelude.{ℕ, suc, Bool, true, false, if◌then◌else◌, List, [], ◌∷◌, Option, Some, None}
use Rattle.ssb_tokens.specs.declared.token.Token.{Token}
use Rattle.ssb_tokens.specs.declared.token.Token.TheVariants.{Fixed, Name, Number}
use Rattle.ssb_terms.specs.declared.keyword.Keyword.{Keyword}
use Rattle.ssb_terms.specs.declared.keyword.Keyword.TheVariants as words
use Rattle.ssb_tokens.specs.declared.token.Mark.TheVariants as marks
use Rattle.ssb_tokens.specs.declared.token.Sign.TheVariants as s
use Rattle.ssb_sql.specs.declared.named.ColumnName.{ColumnName}
use Rattle.ssb_trees.specs.declared.aggregate.Aggregate.TheVariants as a
use Rattle.ssb_trees.specs.declared.aggregate.SetFunction.{SetFunction}
use Rattle.ssb_trees.specs.declared.aggregate.SetFunction.TheVariants as functions
use Rattle.ssb_sql.specs.declared.select.Output.{Output}
use Rattle.ssb_sql.specs.declared.select.Output.TheVariants as u
use Rattle.ssb_sql.specs.declared.select.Item.{Item}
use Rattle.ssb_sql.specs.declared.select.Key.{Key}
use Rattle.ssb_sql.specs.declared.select.Key.TheVariants as k
use Rattle.ssb_sql.specs.declared.select.Order.{Order}
use Rattle.ssb_sql.specs.declared.select.Select.{Select}
use Rattle.ssb_tokens.specs.Reading.{◌>>=◌}
use Rattle.ssb_sql.specs.Steps.{Parser, choose, after, name_at, list_at, closed_at}
use Rattle.ssb_sql.specs.ReadParts.{column_at}
use Rattle.ssb_sql.specs.ReadExpressions.{expr_at}
use Rattle.ssb_sql.specs.ReadConditions.{cond_at}
use Rattle.ssb_trees.specs.Conditions.{Filter}
use Rattle.ssb_trees.specs.declared.aggregate.Aggregate.{Aggregate}

abbrev pub function_of : Keyword → Option SetFunction
function_of words.Sum = Some functions.Sum
function_of words.Count = Some functions.Count
function_of words.Min = Some functions.Min
function_of words.Max = Some functions.Max
function_of _ = None

-- a set function, and what follows
unfoldable pub function_at : Parser SetFunction
function_at (Fixed (s.Word w) ∷ ts) = function_of w >>= λ f. Some (f, ts)
function_at _ = None

-- what follows a `*`, which may stand alone behind COUNT and its `(`
unfoldable pub star_at : SetFunction → List Token → Option (List Token)
star_at functions.Count ts = after (s.Mark marks.Times) ts
star_at _ ts = None

-- what follows a function and its `(`
unfoldable pub argument_at : ℕ → SetFunction → Parser (Aggregate ColumnName)
argument_at d f ts =
    choose (star_at f ts) (λ rest. after (s.Mark marks.Close) rest >>= λ to. Some (a.Rows, to))
    (closed_at (expr_at d) ts >>= λ x. Some (a.Of f x.0, x.1))

-- what follows a function
unfoldable pub aggregate_at : ℕ → SetFunction → Parser (Aggregate ColumnName)
aggregate_at d f ts = after (s.Mark marks.Open) ts >>= λ inside. argument_at d f inside

unfoldable pub output_at : ℕ → Parser Output
output_at d ts =
    choose (function_at ts) (λ f. aggregate_at d f.0 f.1 >>= λ x. Some (u.Aggregate x.0, x.1))
    (column_at ts >>= λ x. Some (u.Column x.0, x.1))

abbrev pub item_of : Output → Option (List ℕ) → Item
item_of x n = record { output = x; alias = n }

-- AS and a name, or nothing
unfoldable pub alias_at : Parser (Option (List ℕ))
alias_at ts = choose (after (s.Word words.As) ts) (λ rest. name_at rest >>= λ n. Some (Some n.0, n.1)) (Some (None, ts))

unfoldable pub item_at : ℕ → Parser Item
item_at d ts = output_at d ts >>= λ x. alias_at x.1 >>= λ n. Some (item_of x.0 n.0, n.1)

-- the word and a condition over what p reads; or nothing
unfoldable pub filter_at : {C : Type 0} → Keyword → (ℕ → Parser C) → ℕ → Parser (Option (Filter C))
filter_at word p d ts = choose (after (s.Word word) ts) (λ rest. cond_at p d rest >>= λ x. Some (Some x.0, x.1)) (Some (None, ts))

-- the word, BY, p {"," p}; or nothing
unfoldable pub by_at : {A : Type 0} → Keyword → Parser A → Parser (List A)
by_at word p ts = choose (after (s.Word word) ts) (λ rest. after (s.Word words.By) rest >>= λ start. list_at p start) (Some ([], ts))

unfoldable pub key_at : Parser Key
key_at (Name n ∷ ts) = Some (k.Name n, ts)
key_at (Number n ∷ ts) = Some (k.Position n, ts)
key_at _ = None

abbrev pub order_of : Key → Bool → Order
order_of x descending = record { key = x; descending = descending }

unfoldable pub order_at : Parser Order
order_at ts =
    key_at ts >>= λ x. choose (after (s.Word words.Asc) x.1) (λ rest. Some (order_of x.0 false, rest))
    (choose (after (s.Word words.Desc) x.1) (λ rest. Some (order_of x.0 true, rest)) (Some (order_of x.0 false, x.1)))

abbrev pub is_nil : List Token → Bool
is_nil [] = true
is_nil (t ∷ ts) = false

-- the end, or a `;` and the end
unfoldable pub ends : List Token → Bool
ends ts = choose (after (s.Mark marks.Semicolon) ts) is_nil (is_nil ts)

-- WHERE, GROUP BY, HAVING and ORDER BY
abbrev pub Clauses : Type 0
Clauses = Option (Filter ColumnName) × List ColumnName × Option (Filter Output) × List Order

abbrev pub select_of : List Item → List (List ℕ) → Option (Filter ColumnName) → List ColumnName → Option (Filter Output) → List Order → Select
select_of items from condition groups having orders = record { items = items; from = from; condition = condition; groups = groups; having = having; orders = orders }

-- ORDER BY, and nothing behind it but the end
unfoldable pub ordered_at : List Token → Option (List Order)
ordered_at ts = by_at words.Order order_at ts >>= λ o. if ends o.1 then Some o.0 else None

-- HAVING, and what follows
unfoldable pub kept_at : ℕ → List Token → Option (Option (Filter Output) × List Order)
kept_at d ts = filter_at words.Having output_at (suc d) ts >>= λ h. ordered_at h.1 >>= λ o. Some (h.0, o)

-- GROUP BY, and what follows
unfoldable pub grouped_at : ℕ → List Token → Option (List ColumnName × Option (Filter Output) × List Order)
grouped_at d ts = by_at words.Group column_at ts >>= λ g. kept_at d g.1 >>= λ h. Some (g.0, h.0, h.1)

-- WHERE, and what follows
unfoldable pub filtered_at : ℕ → List Token → Option Clauses
filtered_at d ts = filter_at words.Where (λ deep. column_at) (suc d) ts >>= λ w. grouped_at d w.1 >>= λ g. Some (w.0, g.0, g.1, g.2)

-- FROM, and what follows
unfoldable pub joined_at : ℕ → List Token → Option (List (List ℕ) × Clauses)
joined_at d ts = after (s.Word words.From) ts >>= λ tables. list_at name_at tables >>= λ f. filtered_at d f.1 >>= λ w. Some (f.0, w)

-- a query up to its end, with at most this many open parentheses
unfoldable pub query_at : ℕ → List Token → Option Select
query_at d ts = after (s.Word words.Select) ts >>= λ start. list_at (item_at d) start >>= λ i. joined_at d i.1 >>= λ f. Some (select_of i.0 f.0 f.1.0 f.1.1 f.1.2 f.1.3)
