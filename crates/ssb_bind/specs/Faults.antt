-- Why a select means nothing over a catalog: the ten refusals, least number first.
-- Source: SQL-92, 6.3 <table reference>, 6.4 <column reference>, 7.7 <group by clause>, 7.8 <having clause>, 7.9 <query specification>, 13.1 <declare cursor>; the shape of a
-- star is that of the Star Schema Benchmark; the limits are this project's own.
use Rattle.std.specs.Prelude.{◌≡◌, ◌⊎◌, ℕ, Bool, true, false, ◌++◌, if◌then◌else◌, List, [], ◌∷◌, length, nat_lt, Option, Some, None, Result, Ok, Err, find, is_none, map, unwrap_or}
use Rattle.std.specs.List.{list_any}
use Rattle.std.specs.Str.{bytes_eq}
use Rattle.ssb_catalog.specs.Shapes.{TableShape}
use Rattle.ssb_sql.specs.declared.select.Select.{Select}
use Rattle.ssb_bind.specs.Bound.{bound_where, having_aggregates, the_column}
use Rattle.ssb_bind.specs.Columns.{table_number, table_numbers, is_wrong_fit}
use Rattle.ssb_bind.specs.Names.{column_names, ungrouped_names}
use Rattle.ssb_bind.specs.Resolved.{resolved_select}
use Rattle.ssb_bind.specs.declared.resolved.Resolved.{Resolved}
use Rattle.ssb_bind.specs.declared.resolved.ResolvedName.{ResolvedName}
use Rattle.ssb_bind.specs.Orders.{bad_from}
use Rattle.ssb_query.specs.Star.{unjoined_from}
use Rattle.ssb_bind.specs.Rules.{rules_in}
use Rattle.ssb_query.specs.Tables.{fact_place}
use Rattle.ssb_bind.specs.Typing.{has_mismatch}
use Rattle.ssb_bind.specs.declared.fault.BindFault.{BindFault}
use Rattle.ssb_bind.specs.declared.fault.BindFault.TheVariants as fault
use Rattle.ssb_bind.specs.declared.fault.TooMany.{TooMany}
use Rattle.ssb_bind.specs.declared.fault.TooMany.TheVariants as many
use Rattle.ssb_bind.specs.declared.fit.Wrong.{Wrong}
use Rattle.ssb_bind.specs.declared.fit.Wrong.TheVariants as wrong
use Rattle.ssb_query.specs.declared.query.QueryParts.{QueryParts}
use Rattle.ssb_query.specs.declared.query.TableRules.{TableRules}

-- ---- each by itself, with its detail: of the first place in the text

-- a FROM name that is no table
abbrev pub unknown_table : List TableShape → List (List ℕ) → Option (List ℕ)
unknown_table c from = find (λ name. is_none (table_number c name)) from

-- the first of these names that also stands among those before, or earlier among these
abbrev pub repeated : List (List ℕ) → List (List ℕ) → Option (List ℕ)
repeated before [] = None
repeated before (name ∷ names) = if list_any (bytes_eq name) before then Some name else repeated (before ++ name ∷ []) names

-- a FROM name that stood in FROM before
abbrev pub table_twice : Select → Option (List ℕ)
table_twice s = repeated [] s.from

-- a name without table that no table of FROM has, or one whose table is not in FROM or lacks it; a name without table that two tables have
abbrev pub wrong_name : Wrong → Resolved → Option ResolvedName
wrong_name w r = find (λ name. is_wrong_fit w name.fit) (column_names r)

abbrev pub fault_of : Wrong → List ℕ → BindFault
fault_of wrong.Unknown name = fault.UnknownColumn name
fault_of wrong.Ambiguous name = fault.AmbiguousColumn name

-- a column of the select list or of HAVING, in no aggregate, that is no group column
abbrev pub not_grouped : Resolved → Option ResolvedName
not_grouped r = find (λ _. true) (ungrouped_names r)

-- an order key that is not the name or the position of exactly one select column: its number from 1
abbrev pub bad_order : Select → Option ℕ
bad_order s = bad_from s.items 1 s.orders

-- another table of FROM that no conjunct of WHERE joins to the fact table by its key
abbrev pub unjoined : QueryParts → Select → Option (List ℕ)
unjoined q s = unjoined_from q 0 s.from

-- over 8 tables, 32 select columns, 16 group columns, 32 order keys, or this many aggregates in HAVING over 32: the first that holds
abbrev pub too_many_by : ℕ → Select → Option TooMany
too_many_by having s =
    if nat_lt 8 (length s.from) then Some many.Tables
    else (if nat_lt 32 (length s.items) then Some many.Items
    else (if nat_lt 16 (length s.groups) then Some many.Groups
    else (if nat_lt 32 (length s.orders) then Some many.Orders
    else (if nat_lt 32 having then Some many.Having
    else None))))

abbrev pub too_many : Resolved → Select → Option TooMany
too_many r s = too_many_by (length (having_aggregates r.having)) s

-- ---- all of them

-- the first fault of a list in which each may be missing
abbrev pub first_of : List (Option BindFault) → Option BindFault
first_of [] = None
first_of (Some f ∷ fs) = Some f
first_of (None ∷ fs) = first_of fs

abbrev pub with : {A : Type 0} → (A → BindFault) → Option A → Option BindFault
with f None = None
with f (Some x) = Some (f x)

abbrev pub when : Bool → BindFault → Option BindFault
when true f = Some f
when false f = None

abbrev pub wrong_names : Wrong → Resolved → Option BindFault
wrong_names w r = with (λ name. fault_of w name.name) (wrong_name w r)

-- A select's FROM, WHERE and GROUP BY, with a column in the place of each name: of these, joins are judged. The rest is judged as it is written.
abbrev pub draft : List TableRules → List ℕ → Resolved → QueryParts
draft tables from r = record {
  tables = tables;
  from = from;
  fact = unwrap_or (fact_place tables from) 0;
  condition = bound_where r.condition;
  groups = map the_column r.groups;
  having = None;
  aggregates = [];
  items = [];
  orders = [];
}

-- the refusals that are judged of a select with its names resolved, each with its fault where it applies
abbrev pub resolved_faults : List TableRules → List ℕ → Resolved → Select → List (Option BindFault)
resolved_faults tables from r s =
    with fault.TableTwice (table_twice s)
    ∷ wrong_names wrong.Unknown r
    ∷ wrong_names wrong.Ambiguous r
    ∷ when (has_mismatch tables from r) fault.TypeMismatch
    ∷ with (λ name. fault.NotGrouped name.name) (not_grouped r)
    ∷ []

-- all that are judged before a query is made
abbrev pub name_faults : List TableShape → List TableRules → List ℕ → Resolved → Select → List (Option BindFault)
name_faults c tables from r s = with fault.UnknownTable (unknown_table c s.from) ∷ resolved_faults tables from r s

-- those of ORDER BY and of the fact table
abbrev pub part_faults : List TableRules → List ℕ → Select → List (Option BindFault)
part_faults tables from s = with fault.BadOrderItem (bad_order s) ∷ when (is_none (fact_place tables from)) fault.NoFactTable ∷ []

-- those that are judged of the query
abbrev pub query_faults : QueryParts → Resolved → Select → List (Option BindFault)
query_faults q r s = with fault.NotStar (unjoined q s) ∷ with fault.TooMany (too_many r s) ∷ []

abbrev pub shape_faults : QueryParts → Resolved → Select → List (Option BindFault)
shape_faults q r s = part_faults q.tables q.from s ++ query_faults q r s

-- the ten refusals
abbrev pub faults : List TableShape → List ℕ → Resolved → Select → List (Option BindFault)
faults c from r s = let tables = rules_in c in name_faults c tables from r s ++ shape_faults (draft tables from r) r s

-- the least that applies: a number is judged only where no lesser one applies
unfoldable pub least_fault : List TableShape → Select → Option BindFault
least_fault c s = let from = table_numbers c s.from in first_of (faults c from (resolved_select c from s) s)

-- ---- what is answered

-- what a refusal says of the one that applies: it is that one, or a growth was refused
abbrev pub Says : Option BindFault → BindFault → Type 0
Says applies f = (f ≡ fault.Memory) ⊎ (applies ≡ Some f)

-- a check for one fault, or several
abbrev pub Judges : {A : Type 0} → Option BindFault → Result A BindFault → Type 0
Judges applies (Ok x) = applies ≡ None
Judges applies (Err f) = Says applies f
