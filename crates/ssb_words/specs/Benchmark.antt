-- The benchmark's queries by their names, each text written line by line.
-- Source: the Star Schema Benchmark (O'Neil, O'Neil and Chen) has the thirteen names and what each asks; the texts are this project's.
use Prim.Native.String.{String}
use Rattle.std.specs.Prelude.{ℕ, List, [], ◌∷◌, ◌++◌, codes}

-- lines one after the other, each with a line feed behind it
abbrev pub in_lines : List String → List ℕ
in_lines [] = []
in_lines (line ∷ lines) = codes line ++ codes "\n" ++ in_lines lines

abbrev pub q1_1 : List ℕ
q1_1 =
    in_lines
    ("select sum(lo_extendedprice*lo_discount) as revenue"
    ∷ "from lineorder, date"
    ∷ "where lo_orderdate = d_datekey and d_year = 1993"
    ∷ "and lo_discount between 1 and 3 and lo_quantity < 25;"
    ∷ [])

abbrev pub q1_2 : List ℕ
q1_2 =
    in_lines
    ("select sum(lo_extendedprice*lo_discount) as revenue"
    ∷ "from lineorder, date"
    ∷ "where lo_orderdate = d_datekey and d_yearmonthnum = 199401"
    ∷ "and lo_discount between 4 and 6 and lo_quantity between 26 and 35;"
    ∷ [])

abbrev pub q1_3 : List ℕ
q1_3 =
    in_lines
    ("select sum(lo_extendedprice*lo_discount) as revenue"
    ∷ "from lineorder, date"
    ∷ "where lo_orderdate = d_datekey and d_weeknuminyear = 6 and d_year = 1994"
    ∷ "and lo_discount between 5 and 7 and lo_quantity between 26 and 35;"
    ∷ [])

-- the second flight: what sales of parts made, with this condition on parts and suppliers
abbrev pub sales_of_parts : String → List ℕ
sales_of_parts condition =
    in_lines
    ("select sum(lo_revenue), d_year, p_brand1"
    ∷ "from lineorder, date, part, supplier"
    ∷ "where lo_orderdate = d_datekey and lo_partkey = p_partkey"
    ∷ "and lo_suppkey = s_suppkey"
    ∷ condition
    ∷ "group by d_year, p_brand1 order by d_year, p_brand1;"
    ∷ [])

abbrev pub q2_1 : List ℕ
q2_1 = sales_of_parts "and p_category = 'MFGR#12' and s_region = 'AMERICA'"

abbrev pub q2_2 : List ℕ
q2_2 = sales_of_parts "and p_brand1 between 'MFGR#2221' and 'MFGR#2228' and s_region = 'ASIA'"

abbrev pub q2_3 : List ℕ
q2_3 = sales_of_parts "and p_brand1 = 'MFGR#2221' and s_region = 'EUROPE'"

abbrev pub q3_1 : List ℕ
q3_1 =
    in_lines
    ("select c_nation, s_nation, d_year, sum(lo_revenue) as revenue"
    ∷ "from customer, lineorder, supplier, date"
    ∷ "where lo_custkey = c_custkey and lo_suppkey = s_suppkey"
    ∷ "and lo_orderdate = d_datekey"
    ∷ "and c_region = 'ASIA' and s_region = 'ASIA'"
    ∷ "and d_year >= 1992 and d_year <= 1997"
    ∷ "group by c_nation, s_nation, d_year order by d_year asc, revenue desc;"
    ∷ [])

-- the third flight by cities: what sales between these made, with such conditions
abbrev pub sales_between_cities : List String → List ℕ
sales_between_cities conditions =
    in_lines
    ("select c_city, s_city, d_year, sum(lo_revenue) as revenue"
    ∷ "from customer, lineorder, supplier, date"
    ∷ "where lo_custkey = c_custkey and lo_suppkey = s_suppkey"
    ∷ "and lo_orderdate = d_datekey"
    ∷ [])
    ++ in_lines conditions
    ++ in_lines ("group by c_city, s_city, d_year order by d_year asc, revenue desc;" ∷ [])

abbrev pub q3_2 : List ℕ
q3_2 =
    sales_between_cities
    ("and c_nation = 'UNITED STATES' and s_nation = 'UNITED STATES'"
    ∷ "and d_year >= 1992 and d_year <= 1997"
    ∷ [])

abbrev pub q3_3 : List ℕ
q3_3 =
    sales_between_cities
    ("and (c_city = 'UNITED KI1' or c_city = 'UNITED KI5')"
    ∷ "and (s_city = 'UNITED KI1' or s_city = 'UNITED KI5')"
    ∷ "and d_year >= 1992 and d_year <= 1997"
    ∷ [])

abbrev pub q3_4 : List ℕ
q3_4 =
    sales_between_cities
    ("and (c_city = 'UNITED KI1' or c_city = 'UNITED KI5')"
    ∷ "and (s_city = 'UNITED KI1' or s_city = 'UNITED KI5')"
    ∷ "and d_yearmonth = 'Dec1997'"
    ∷ [])

abbrev pub q4_1 : List ℕ
q4_1 =
    in_lines
    ("select d_year, c_nation, sum(lo_revenue - lo_supplycost) as profit"
    ∷ "from date, customer, supplier, part, lineorder"
    ∷ "where lo_custkey = c_custkey and lo_suppkey = s_suppkey"
    ∷ "and lo_partkey = p_partkey and lo_orderdate = d_datekey"
    ∷ "and c_region = 'AMERICA' and s_region = 'AMERICA'"
    ∷ "and (p_mfgr = 'MFGR#1' or p_mfgr = 'MFGR#2')"
    ∷ "group by d_year, c_nation order by d_year, c_nation;"
    ∷ [])

abbrev pub q4_2 : List ℕ
q4_2 =
    in_lines
    ("select d_year, s_nation, p_category,"
    ∷ "sum(lo_revenue - lo_supplycost) as profit"
    ∷ "from date, customer, supplier, part, lineorder"
    ∷ "where lo_custkey = c_custkey and lo_suppkey = s_suppkey"
    ∷ "and lo_partkey = p_partkey and lo_orderdate = d_datekey"
    ∷ "and c_region = 'AMERICA' and s_region = 'AMERICA'"
    ∷ "and (d_year = 1997 or d_year = 1998)"
    ∷ "and (p_mfgr = 'MFGR#1' or p_mfgr = 'MFGR#2')"
    ∷ "group by d_year, s_nation, p_category"
    ∷ "order by d_year, s_nation, p_category;"
    ∷ [])

abbrev pub q4_3 : List ℕ
q4_3 =
    in_lines
    ("select d_year, s_city, p_brand1,"
    ∷ "sum(lo_revenue - lo_supplycost) as profit"
    ∷ "from date, customer, supplier, part, lineorder"
    ∷ "where lo_custkey = c_custkey and lo_suppkey = s_suppkey"
    ∷ "and lo_partkey = p_partkey and lo_orderdate = d_datekey"
    ∷ "and c_region = 'AMERICA' and s_nation = 'UNITED STATES'"
    ∷ "and (d_year = 1997 or d_year = 1998) and p_category = 'MFGR#14'"
    ∷ "group by d_year, s_city, p_brand1 order by d_year, s_city, p_brand1;"
    ∷ [])

-- a text beside its name
abbrev pub named_texts : List (List ℕ × List ℕ)
named_texts =
    (codes "Q1.1", q1_1)
    ∷ (codes "Q1.2", q1_2)
    ∷ (codes "Q1.3", q1_3)
    ∷ (codes "Q2.1", q2_1)
    ∷ (codes "Q2.2", q2_2)
    ∷ (codes "Q2.3", q2_3)
    ∷ (codes "Q3.1", q3_1)
    ∷ (codes "Q3.2", q3_2)
    ∷ (codes "Q3.3", q3_3)
    ∷ (codes "Q3.4", q3_4)
    ∷ (codes "Q4.1", q4_1)
    ∷ (codes "Q4.2", q4_2)
    ∷ (codes "Q4.3", q4_3)
    ∷ []
