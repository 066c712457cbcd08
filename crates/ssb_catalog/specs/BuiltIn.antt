-- The built-in catalog: the tables and columns that stand where no catalog is given, a line for each column.
-- Source: the Star Schema Benchmark (O'Neil, O'Neil and Chen) has the tables, the columns and their order; types and roles are this project's choice.
use Prim.Native.String.{String}
use Rattle.std.specs.Prelude.{List, [], ◌∷◌, codes}
use Rattle.ssb_terms.specs.declared.rule.ColType.TheVariants as kinds
use Rattle.ssb_catalog.specs.Shapes.{TableShape}
use Rattle.ssb_catalog.specs.declared.catalog.ColumnDef.{ColumnDef}
use Rattle.ssb_terms.specs.declared.rule.Role.TheVariants as roles

-- a key, which is not null and has no value twice
abbrev pub int_key : String → ColumnDef
int_key name = record { name = codes name; rule = record { kind = kinds.Int; role = roles.Key } }

abbrev pub nullable_int : String → ColumnDef
nullable_int name = record { name = codes name; rule = record { kind = kinds.Int; role = roles.Nullable } }

abbrev pub nullable_text : String → ColumnDef
nullable_text name = record { name = codes name; rule = record { kind = kinds.Text; role = roles.Nullable } }

abbrev pub lineorder_columns : List ColumnDef
lineorder_columns =
    nullable_int "lo_orderkey"
    ∷ nullable_int "lo_linenumber"
    ∷ nullable_int "lo_custkey"
    ∷ nullable_int "lo_partkey"
    ∷ nullable_int "lo_suppkey"
    ∷ nullable_int "lo_orderdate"
    ∷ nullable_text "lo_orderpriority"
    ∷ nullable_text "lo_shippriority"
    ∷ nullable_int "lo_quantity"
    ∷ nullable_int "lo_extendedprice"
    ∷ nullable_int "lo_ordtotalprice"
    ∷ nullable_int "lo_discount"
    ∷ nullable_int "lo_revenue"
    ∷ nullable_int "lo_supplycost"
    ∷ nullable_int "lo_tax"
    ∷ nullable_int "lo_commitdate"
    ∷ nullable_text "lo_shipmode"
    ∷ []

abbrev pub customer_columns : List ColumnDef
customer_columns =
    int_key "c_custkey"
    ∷ nullable_text "c_name"
    ∷ nullable_text "c_address"
    ∷ nullable_text "c_city"
    ∷ nullable_text "c_nation"
    ∷ nullable_text "c_region"
    ∷ nullable_text "c_phone"
    ∷ nullable_text "c_mktsegment"
    ∷ []

abbrev pub supplier_columns : List ColumnDef
supplier_columns =
    int_key "s_suppkey"
    ∷ nullable_text "s_name"
    ∷ nullable_text "s_address"
    ∷ nullable_text "s_city"
    ∷ nullable_text "s_nation"
    ∷ nullable_text "s_region"
    ∷ nullable_text "s_phone"
    ∷ []

abbrev pub part_columns : List ColumnDef
part_columns =
    int_key "p_partkey"
    ∷ nullable_text "p_name"
    ∷ nullable_text "p_mfgr"
    ∷ nullable_text "p_category"
    ∷ nullable_text "p_brand1"
    ∷ nullable_text "p_color"
    ∷ nullable_text "p_type"
    ∷ nullable_int "p_size"
    ∷ nullable_text "p_container"
    ∷ []

abbrev pub date_columns : List ColumnDef
date_columns =
    int_key "d_datekey"
    ∷ nullable_text "d_date"
    ∷ nullable_text "d_dayofweek"
    ∷ nullable_text "d_month"
    ∷ nullable_int "d_year"
    ∷ nullable_int "d_yearmonthnum"
    ∷ nullable_text "d_yearmonth"
    ∷ nullable_int "d_daynuminweek"
    ∷ nullable_int "d_daynuminmonth"
    ∷ nullable_int "d_daynuminyear"
    ∷ nullable_int "d_monthnuminyear"
    ∷ nullable_int "d_weeknuminyear"
    ∷ nullable_text "d_sellingseason"
    ∷ nullable_text "d_lastdayinweekfl"
    ∷ nullable_text "d_lastdayinmonthfl"
    ∷ nullable_text "d_holidayfl"
    ∷ nullable_text "d_weekdayfl"
    ∷ []

abbrev pub ssb_tables : List TableShape
ssb_tables =
    record { name = codes "lineorder"; columns = lineorder_columns }
    ∷ record { name = codes "customer"; columns = customer_columns }
    ∷ record { name = codes "supplier"; columns = supplier_columns }
    ∷ record { name = codes "part"; columns = part_columns }
    ∷ record { name = codes "date"; columns = date_columns }
    ∷ []
