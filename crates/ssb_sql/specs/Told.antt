-- What is told of a text of which nothing was read.
-- For the contracts inside this crate.
use Rattle.ssb_sql.specs.declared.fault.SqlFault.{SqlFault}
use Rattle.ssb_sql.specs.declared.fault.SqlFault.TheVariants as fault
use Rattle.ssb_tokens.specs.declared.stop.Stop.{Stop}
use Rattle.ssb_tokens.specs.declared.stop.Stop.TheVariants as stop

-- why nothing was read, as the fault of a text
abbrev pub told : Stop → SqlFault
told stop.Memory = fault.Memory
told stop.Syntax = fault.Syntax
