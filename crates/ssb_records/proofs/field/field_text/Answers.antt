use Rattle.csv.specs.Records.{fields_of}
use Rattle.ssb_records.proofs.FieldFacts.{field-text}
use Rattle.ssb_records.proofs.field.field_text.Goals as goal

pub from_utf8_unchecked-requires : goal.from_utf8_unchecked-requires
from_utf8_unchecked-requires c = rw c.field_bytes.ensures (field-text (fields_of c.args.row.now) c.args.i c.requires)
