-- What a select means over a catalog.
-- Source: SQL-92, 6.4 <column reference>, 7.9 <query specification>, 13.1 <declare cursor>, cut down to the language.
use Rattle.std.specs.Prelude.{◌≡◌, List, None, Result, Ok, Err, All}
use Rattle.ssb_catalog.specs.Shapes.{TableShape}
use Rattle.ssb_sql.specs.declared.select.Select.{Select}
use Rattle.ssb_bind.specs.Bound.{the_column}
use Rattle.ssb_bind.specs.Faults.{least_fault, Says}
use Rattle.ssb_bind.specs.Names.{column_names}
use Rattle.ssb_bind.specs.declared.fault.BindFault.{BindFault}
use Rattle.ssb_bind.specs.Query.{IsQueryOf}
use Rattle.ssb_bind.specs.Resolved.{resolved_select}
use Rattle.ssb_bind.specs.declared.fit.Fit.TheVariants as fit
use Rattle.ssb_bind.specs.declared.resolved.ResolvedName.{ResolvedName}
use Rattle.ssb_query.specs.declared.query.QueryParts.{QueryParts}

-- a name fits one column of one table of FROM
abbrev pub FitsOne : ResolvedName → Type 0
FitsOne name = name.fit ≡ fit.One (the_column name)

-- each name stands for one column of one table of FROM, the query is that of the select, and no refusal applies
pub record Means (c : List TableShape) (s : Select) (q : QueryParts) : Type 0 where
  pub each_name : All FitsOne (column_names (resolved_select c q.from s))
  pub query : IsQueryOf c s (resolved_select c q.from s) q
  pub no_fault : least_fault c s ≡ None

-- the query that the select means, or the least fault
abbrev pub BindsTo : List TableShape → Select → Result QueryParts BindFault → Type 0
BindsTo c s (Ok q) = Means c s q
BindsTo c s (Err f) = Says (least_fault c s) f
