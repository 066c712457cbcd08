-- The records of a file of fields between bars.
-- Source: own, in the words of `csv`: fields between bars, no header, no quotes, no trimming, a record ends at LF or CR LF.
use Rattle.std.specs.Prelude.{◌==◌, ℕ, Bool, List, [], length, None, true, false, unwrap_or}
use Rattle.csv.specs.Reading.{records, strip_bom}
use Rattle.csv.specs.Records.{field_at}
use Rattle.csv.specs.declared.parser.Config.{Config}
use Rattle.csv.specs.declared.parser.Terminator.TheVariants as term

-- the settings: 124 is the bar; without quoting the quote and its escapes have no meaning
abbrev pub bar_config : Config
bar_config = record { delimiter = 124; quote = 34; escape = None; double_quote = true; quoting = false; comment = None; terminator = term.CRLF }

-- a record is the list of its fields, and a field is its bytes
abbrev pub Fields : Type 0
Fields = List (List ℕ)

-- the records of a file
abbrev pub records_of : List ℕ → List Fields
records_of bytes = records bar_config (strip_bom bytes)

-- a field of no byte
abbrev pub is_empty : List ℕ → Bool
is_empty bytes = length bytes == 0

-- a field of a record by its place from 0, and no byte past the last
abbrev pub field : Fields → ℕ → List ℕ
field r i = unwrap_or (field_at r i) []
