-- What the lender of a held part is after the loan.
-- Source: own.
use Rattle.std.specs.Borrow.{Lends, MutBor, Fml}
use Rattle.ssb_pipeline.specs.Part.{PartState}
use Rattle.ssb_pipeline.specs.declared.parts.Held.{Held}
use Rattle.ssb_pipeline.specs.contracts.parts.Held.{the_row as held_row}
use Rattle.ssb_pipeline.specs.contracts.part.Part.{the_row as part_row}

abbrev pub with_part : Held → PartState → Held
with_part h x = record h { part = x }

-- h ends with the last value behind r for its part
abbrev pub LendsPart : MutBor Held → MutBor PartState → Fml
LendsPart h r = Lends held_row part_row h r (with_part h.now)
