-- What the reader of tokens answers.
-- For the contracts inside this crate.
use Rattle.std.specs.Prelude.{List, Result, Ok, Err, ⊤}
use Rattle.ssb_tokens.specs.declared.token.Token.{Token}
use Rattle.ssb_sql.specs.declared.select.Select.{Select}
use Rattle.ssb_sql.specs.declared.fault.SqlFault.{SqlFault}
use Rattle.ssb_sql.specs.declared.fault.SqlFault.TheVariants as fault
use Rattle.ssb_sql.specs.Grammar.{Parses}
use Rattle.ssb_sql.specs.Room.{HasRoom}

-- TooDeep where some front has over 64 more `(` than `)`; else Syntax where the tokens spell nothing; else what they spell
abbrev pub Reads : List Token → Result Select SqlFault → Type 0
Reads ts (Ok x) = HasRoom 64 ts × Parses ts x
Reads ts (Err fault.TooDeep) = HasRoom 64 ts → ⊥
Reads ts (Err fault.Syntax) = HasRoom 64 ts × ((x : Select) → Parses ts x → ⊥)
Reads ts (Err fault.Memory) = ⊤
Reads ts (Err fault.TooLong) = ⊥
