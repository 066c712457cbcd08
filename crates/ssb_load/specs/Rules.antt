-- What a column takes of a field, and what it then holds.
-- Source: own. An empty field is null; `int` is a number of 64 bits; a text has at most 4,096 bytes; `key` and `need` are not null.
use Rattle.std.specs.Prelude.{◌+◌, ◌∷◌, ◌&&◌, ◌||◌, ℕ, ℤ, pos, Bool, false, List, [], length, map, not, nat_lt, is_none, Option, Some, None, unwrap_or, if◌then◌else◌}
use Rattle.std.specs.List.{list_any}
use Rattle.std.specs.Ordering.{int_eq}
use Rattle.ssb_cells.specs.Cell.{Cell, null, number, text}
use Rattle.ssb_cells.specs.Tables.{Filled}
use Rattle.ssb_terms.specs.declared.rule.ColType.{ColType}
use Rattle.ssb_terms.specs.declared.rule.ColType.TheVariants as kinds
use Rattle.ssb_catalog.specs.Shapes.{is_int}
use Rattle.ssb_records.specs.Records.{Fields, field, is_empty}
use Rattle.ssb_load.specs.Numbers.{number_of}
use Rattle.ssb_terms.specs.Roles.{needs_value, key_place}
use Rattle.ssb_terms.specs.declared.rule.Rule.{Rule}

-- a field of an `int` column that is not empty and spells no number of 64 bits
abbrev pub is_bad_number : Rule → List ℕ → Bool
is_bad_number p f = is_int p.kind && (not (is_empty f) && is_none (number_of f))

-- an empty field where a value is needed
abbrev pub is_missing : Rule → List ℕ → Bool
is_missing p f = needs_value p.role && is_empty f

-- a text that is too long
abbrev pub is_too_long : Rule → List ℕ → Bool
is_too_long p f = not (is_int p.kind) && nat_lt 4096 (length f)

-- some field of a record, from this place on, passes a test under its rule
abbrev pub any_from : (Rule → List ℕ → Bool) → ℕ → List Rule → Fields → Bool
any_from t at [] r = false
any_from t at (p ∷ ps) r = t p (field r at) || any_from t (at + 1) ps r

-- some field of a record passes a test under its rule
abbrev pub any_field : (Rule → List ℕ → Bool) → List Rule → Fields → Bool
any_field t rules r = any_from t 0 rules r

abbrev pub number_at : Option ℕ → Fields → Option ℤ
number_at None r = None
number_at (Some k) r = number_of (field r k)

-- the key of a record
abbrev pub key_of : List Rule → Fields → Option ℤ
key_of rules r = number_at (key_place rules) r

abbrev pub is_value : Option ℤ → ℤ → Bool
is_value None z = false
is_value (Some k) z = int_eq z k

-- a key stands in one of these records
abbrev pub is_key_taken : List Rule → List Fields → ℤ → Bool
is_key_taken rules good z = list_any (λ r. is_value (key_of rules r) z) good

-- what a column of this type holds of a field that is not empty
abbrev pub value_in : ColType → List ℕ → Cell
value_in kinds.Int f = number (unwrap_or (number_of f) (pos 0))
value_in kinds.Text f = text f

-- what a column of this type holds of a field
abbrev pub cell_in : ColType → List ℕ → Cell
cell_in kind f = if is_empty f then null else value_in kind f

-- the columns of these records, from this field on
abbrev pub columns_from : ℕ → List Rule → List Fields → List Filled
columns_from at [] rs = []
columns_from at (p ∷ ps) rs = record { kind = p.kind; values = map (λ r. cell_in p.kind (field r at)) rs } ∷ columns_from (at + 1) ps rs

-- the columns of these records: a value for each record in each column
abbrev pub columns_of : List Rule → List Fields → List Filled
columns_of rules rs = columns_from 0 rules rs
