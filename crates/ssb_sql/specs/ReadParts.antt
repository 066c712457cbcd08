-- Reading columns, literals and operands.
-- For the contracts inside this crate.
use Rattle.std.specs.Prelude.{ℕ, nat_le, if◌then◌else◌, List, ◌∷◌, Option, Some, None, ℤ, pos, neg_ℤ}
use Rattle.ssb_tokens.specs.declared.token.Token.TheVariants.{Text}
use Rattle.ssb_tokens.specs.declared.token.Mark.TheVariants as marks
use Rattle.ssb_tokens.specs.declared.token.Sign.TheVariants as s
use Rattle.ssb_sql.specs.declared.named.ColumnName.{ColumnName}
use Rattle.ssb_terms.specs.declared.literal.Literal.{Literal}
use Rattle.ssb_terms.specs.declared.literal.Literal.TheVariants as l
use Rattle.ssb_trees.specs.declared.operand.Operand.TheVariants as o
use Rattle.ssb_tokens.specs.Reading.{◌>>=◌}
use Rattle.ssb_sql.specs.Steps.{Parser, choose, after, name_at, number_at, is_literal_next, nonempty_at}
use Rattle.ssb_trees.specs.declared.operand.Operand.{Operand}

abbrev pub column_of : Option (List ℕ) → List ℕ → ColumnName
column_of t n = record { table = t; column = n }

unfoldable pub column_at : Parser ColumnName
column_at ts = name_at ts >>= λ x. choose (after (s.Mark marks.Dot) x.1) (λ rest. name_at rest >>= λ y. Some (column_of (Some x.0) y.0, y.1)) (Some (column_of None x.0, x.1))

-- a number that fits in 64 bits with a sign; and one that stands behind a `-`, with that sign
unfoldable pub small_at : Parser ℤ
small_at ts = number_at ts >>= λ x. if nat_le x.0 9223372036854775807 then Some (pos x.0, x.1) else None

unfoldable pub below_at : Parser ℤ
below_at ts = number_at ts >>= λ x. if nat_le x.0 9223372036854775807 then Some (neg_ℤ (pos x.0), x.1) else None

abbrev pub small_literal_at : Parser Literal
small_literal_at ts = small_at ts >>= λ x. Some (l.Number x.0, x.1)

abbrev pub below_literal_at : Parser Literal
below_literal_at ts = below_at ts >>= λ x. Some (l.Number x.0, x.1)

unfoldable pub plain_literal_at : Parser Literal
plain_literal_at (Text t ∷ ts) = Some (l.Text t, ts)
plain_literal_at ts = small_at ts >>= λ x. Some (l.Number x.0, x.1)

unfoldable pub literal_at : Parser Literal
literal_at ts =
    choose (after (s.Mark marks.Plus) ts) (λ rest. small_at rest >>= λ x. Some (l.Number x.0, x.1))
    (choose (after (s.Mark marks.Minus) ts) (λ rest. below_at rest >>= λ x. Some (l.Number x.0, x.1))
    (plain_literal_at ts))

-- a literal, or what p reads
unfoldable pub operand_at : {C : Type 0} → Parser C → Parser (Operand C)
operand_at p ts =
    if is_literal_next ts then (literal_at ts >>= λ x. Some (o.Literal x.0, x.1))
    else (nonempty_at p ts >>= λ x. Some (o.Column x.0, x.1))
