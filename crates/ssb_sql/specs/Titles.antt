-- How a fault of a text is told: by its number and its name.
-- Source: own; docs/FAULTS.md lists them, but for that of Memory, which no line has.
use Rattle.std.specs.Prelude.{ℕ, List, codes}
use Rattle.ssb_sql.specs.declared.fault.SqlFault.{SqlFault}
use Rattle.ssb_sql.specs.declared.fault.SqlFault.TheVariants as fault

-- the number and the name of a fault
abbrev pub sql_title : SqlFault → List ℕ
sql_title fault.Syntax = codes "S1 Syntax"
sql_title fault.TooDeep = codes "S2 TooDeep"
sql_title fault.TooLong = codes "S3 TooLong"
sql_title fault.Memory = codes "S4 Memory"
