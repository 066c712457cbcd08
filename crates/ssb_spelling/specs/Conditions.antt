-- How a condition is spelt: as SQL has it, with parentheses round each AND and OR, and on one line: control characters of a text are escaped.
-- Source: SQL-92, 5.3 <literal>, 8.12 <search condition>, cut down to the language.
use Rattle.std.specs.Prelude.{◌++◌, ℕ, Bool, true, false, not, List, [], ◌∷◌, Option, Some, None, chars, codes, encode_utf8_all, if◌then◌else◌, map, nat_eq, slice_get}
use Rattle.std.specs.Char.{is_control}
use Rattle.std.specs.Char.Escape.{escape_default}
use Rattle.std.specs.List.{flat_map}
use Rattle.std.specs.Fmt.{signed_decimal}
use Rattle.ssb_catalog.specs.Shapes.{TableShape}
use Rattle.ssb_terms.specs.declared.literal.Literal.{Literal}
use Rattle.ssb_terms.specs.declared.literal.Literal.TheVariants as literal
use Rattle.ssb_terms.specs.declared.operator.Op.{Op}
use Rattle.ssb_terms.specs.declared.operator.Op.TheVariants as op
use Rattle.ssb_trees.specs.Lists.{concat}
use Rattle.ssb_trees.specs.declared.condition.Condition.{Condition}
use Rattle.ssb_trees.specs.declared.condition.Condition.TheOpen.{Condition-F}
use Rattle.ssb_trees.specs.declared.condition.Condition.TheFolds.{fold-Condition}
use Rattle.ssb_trees.specs.declared.operand.Operand.{Operand}
use Rattle.ssb_trees.specs.declared.operand.Operand.TheVariants as operand
use Rattle.ssb_query.specs.declared.column.BoundColumn.{BoundColumn}
use Rattle.ssb_query.specs.declared.query.Origin.{Origin}
use Rattle.ssb_query.specs.declared.query.Origin.TheVariants as origin
use Rattle.ssb_query.specs.declared.query.QueryParts.{QueryParts}
use Rattle.ssb_spelling.specs.Titles.{Bytes, closed_unless, column_name, origin_title}

-- ---- lists

-- texts behind others, each behind what parts them
abbrev pub further : Bytes → List Bytes → Bytes
further by texts = concat (map (λ t. by ++ t) texts)

-- texts, parted from one another
abbrev pub parted : Bytes → List Bytes → Bytes
parted by [] = []
parted by (t ∷ ts) = t ++ further by ts

-- ---- literals and operands

-- a control character is shown escaped, as `\n` or `\u{1b}`, and any other as it is
abbrev pub shown_char : ℕ → List ℕ
shown_char c = if is_control c then escape_default c else c ∷ []

-- a quote is shown twice
abbrev pub quoted_char : ℕ → List ℕ
quoted_char c = if nat_eq c 39 then codes "''" else shown_char c

-- letters, character by character
abbrev pub quotable : Bytes → Bytes
quotable letters = encode_utf8_all (flat_map quoted_char (chars letters))

abbrev pub quoted : Bytes → Bytes
quoted letters = codes "'" ++ (quotable letters ++ codes "'")

abbrev pub literal_text : Literal → Bytes
literal_text (literal.Number n) = signed_decimal n
literal_text (literal.Text letters) = quoted letters

-- an operand, where this is the text of what may stand beside literals
abbrev pub operand_text : {C : Type 0} → (C → Bytes) → Operand C → Bytes
operand_text of (operand.Column x) = of x
operand_text of (operand.Literal l) = literal_text l

-- a group column by its name; of a place where there is none, nothing
abbrev pub name_if : List TableShape → List ℕ → Option BoundColumn → Bytes
name_if catalog from None = []
name_if catalog from (Some x) = column_name catalog from x

-- what HAVING is over: a group column, or an aggregate by its spelling
abbrev pub origin_text : List TableShape → QueryParts → Origin → Bytes
origin_text catalog q (origin.Group place) = name_if catalog q.from (slice_get q.groups place)
origin_text catalog q (origin.Aggregate place) = origin_title catalog q (origin.Aggregate place)

-- ---- conditions

abbrev pub op_text : Op → Bytes
op_text op.Eq = codes " = "
op_text op.Ne = codes " <> "
op_text op.Lt = codes " < "
op_text op.Le = codes " <= "
op_text op.Gt = codes " > "
op_text op.Ge = codes " >= "

-- a word behind NOT where the test is negated
abbrev pub between_text : Bool → Bytes
between_text true = codes " not between "
between_text false = codes " between "

abbrev pub in_text : Bool → Bytes
in_text true = codes " not in ("
in_text false = codes " in ("

abbrev pub null_text : Bool → Bytes
null_text true = codes " is not null"
null_text false = codes " is null"

-- a condition's text, and whether it is a negation
pub record SpeltCondition : Type 0 where
  pub is_negation : Bool
  pub text : Bytes

abbrev pub plain : Bytes → SpeltCondition
plain text = record { is_negation = false; text = text }

-- what NOT stands before: no other NOT, so that a negation stands in parentheses
abbrev pub as_negated : SpeltCondition → Bytes
as_negated s = closed_unless (not s.is_negation) s.text

abbrev pub condition_layer : (O : Type 0) → (O → Bytes) → Condition-F O SpeltCondition → SpeltCondition
condition_layer O of (Condition-F.Any parts) = plain (codes "(" ++ (parted (codes " or ") (map (λ s. s.text) parts) ++ codes ")"))
condition_layer O of (Condition-F.All parts) = plain (codes "(" ++ (parted (codes " and ") (map (λ s. s.text) parts) ++ codes ")"))
condition_layer O of (Condition-F.Not part) = record { is_negation = true; text = codes "not " ++ as_negated part }
condition_layer O of (Condition-F.Compare o a b) = plain (of a ++ (op_text o ++ of b))
condition_layer O of (Condition-F.Between x a b negated) = plain (of x ++ (between_text negated ++ (of a ++ (codes " and " ++ of b))))
condition_layer O of (Condition-F.In x literals negated) = plain (of x ++ (in_text negated ++ (parted (codes ", ") (map literal_text literals) ++ codes ")")))
condition_layer O of (Condition-F.IsNull x negated) = plain (of x ++ null_text negated)

-- a condition over operands of these texts
abbrev pub condition_spelling : (O : Type 0) → (O → Bytes) → Condition O → SpeltCondition
condition_spelling O of = fold-Condition O SpeltCondition (condition_layer O of)

abbrev pub condition_text : (O : Type 0) → (O → Bytes) → Condition O → Bytes
condition_text O of c = (condition_spelling O of c).text
