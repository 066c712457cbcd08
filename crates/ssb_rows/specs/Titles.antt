-- How a fault of an answer is told: by its number and its name.
-- Source: own; docs/FAULTS.md lists them, but for that of Memory, which no line has.
use Rattle.std.specs.Prelude.{ℕ, List, codes}
use Rattle.ssb_rows.specs.declared.fault.AnswerFault.{AnswerFault}
use Rattle.ssb_rows.specs.declared.fault.AnswerFault.TheVariants as fault

-- the number and the name of a fault
abbrev pub answer_title : AnswerFault → List ℕ
answer_title (fault.RowOverflow row) = codes "A1 RowOverflow"
answer_title fault.SumOutOfRange = codes "A2 SumOutOfRange"
answer_title fault.Memory = codes "A3 Memory"
answer_title fault.Write = codes "A4 Write"
