-- Which columns of FROM's tables a name fits.
-- Source: SQL-92, 6.4 <column reference>. Names are in lower case on both sides.
use Rattle.std.specs.Prelude.{ℕ, ◌+◌, Bool, true, false, if◌then◌else◌, List, [], ◌∷◌, ◌++◌, map, Option, Some, None, slice_get, unwrap_or}
use Rattle.std.specs.List.{position}
use Rattle.ssb_catalog.specs.Catalog.{is_table_named, is_column_named}
use Rattle.ssb_catalog.specs.Shapes.{TableShape}
use Rattle.ssb_catalog.specs.declared.catalog.ColumnDef.{ColumnDef}
use Rattle.ssb_sql.specs.declared.named.ColumnName.{ColumnName}
use Rattle.ssb_query.specs.declared.column.BoundColumn.{BoundColumn}
use Rattle.ssb_bind.specs.declared.fit.Fit.{Fit}
use Rattle.ssb_bind.specs.declared.fit.Fit.TheVariants as fit
use Rattle.ssb_bind.specs.declared.fit.Wrong.{Wrong}
use Rattle.ssb_bind.specs.declared.fit.Wrong.TheVariants as wrong

-- the number of the table of this name
abbrev pub table_number : List TableShape → List ℕ → Option ℕ
table_number c name = position (is_table_named name) c

-- The numbers of FROM's tables: 0 for a name of no table, which no bound query has.
abbrev pub table_numbers : List TableShape → List (List ℕ) → List ℕ
table_numbers c names = map (λ name. unwrap_or (table_number c name) 0) names

-- a name may say of which table it is
abbrev pub may_be_of : Option (List ℕ) → TableShape → Bool
may_be_of None t = true
may_be_of (Some name) t = is_table_named name t

-- the columns of this name, of those from the place `at` on, of the table at a place of FROM
abbrev pub fitting : List ℕ → ℕ → ℕ → List ColumnDef → List BoundColumn
fitting name table at [] = []
fitting name table at (c ∷ cs) = if is_column_named name c then record { table = table; column = at } ∷ fitting name table (at + 1) cs else fitting name table (at + 1) cs

abbrev pub fitting_in : ColumnName → ℕ → Option TableShape → List BoundColumn
fitting_in name place None = []
fitting_in name place (Some t) = if may_be_of name.table t then fitting name.column place 0 t.columns else []

-- the columns that a name fits, of the tables from a place of FROM on
abbrev pub fitting_from : List TableShape → ColumnName → ℕ → List ℕ → List BoundColumn
fitting_from c name place [] = []
fitting_from c name place (n ∷ ns) = fitting_in name place (slice_get c n) ++ fitting_from c name (place + 1) ns

-- every column of FROM's tables that a name fits
unfoldable pub columns_for : List TableShape → List ℕ → ColumnName → List BoundColumn
columns_for c from name = fitting_from c name 0 from

-- how many there are: none, one alone, or several
abbrev pub fit_of : {A : Type 0} → List A → Fit A
fit_of [] = fit.Missing
fit_of (x ∷ []) = fit.One x
fit_of (x ∷ y ∷ rest) = fit.Several

-- what a name fits, once it also fits this
abbrev pub and_one : {A : Type 0} → Fit A → A → Fit A
and_one fit.Missing x = fit.One x
and_one (fit.One y) x = fit.Several
and_one fit.Several x = fit.Several

-- the one that fits alone, or else the other
abbrev pub the_one : {A : Type 0} → Fit A → A → A
the_one (fit.One x) other = x
the_one fit.Missing other = other
the_one fit.Several other = other

-- a name that fits no column, or several
abbrev pub is_wrong_fit : {A : Type 0} → Wrong → Fit A → Bool
is_wrong_fit wrong.Unknown fit.Missing = true
is_wrong_fit wrong.Unknown (fit.One x) = false
is_wrong_fit wrong.Unknown fit.Several = false
is_wrong_fit wrong.Ambiguous fit.Missing = false
is_wrong_fit wrong.Ambiguous (fit.One x) = false
is_wrong_fit wrong.Ambiguous fit.Several = true
