-- What a contract sees of a catalog: for each table its name, and for each of its columns name, type and role.
-- Source: own.
use Rattle.std.specs.Prelude.{ℕ, Bool, true, false, List, map}
use Rattle.ssb_catalog.specs.declared.catalog.ColumnDef.{ColumnDef}
use Rattle.ssb_terms.specs.declared.rule.ColType.{ColType}
use Rattle.ssb_terms.specs.declared.rule.ColType.TheVariants as kinds
use Rattle.ssb_terms.specs.declared.rule.Rule.{Rule}

-- a column of this type holds numbers
abbrev pub is_int : ColType → Bool
is_int kinds.Int = true
is_int kinds.Text = false

pub record TableShape : Type 0 where
  pub name : List ℕ
  pub columns : List ColumnDef

-- what the columns of a table take
abbrev pub rules_of : TableShape → List Rule
rules_of t = map (λ c. c.rule) t.columns
