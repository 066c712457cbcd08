use Rattle.std.proofs.Common.{◌≡◌, ◌<◌, sym, length, below_more, arith}
use Rattle.std.specs.Str.{IsUtf8}
use Rattle.std.proofs.lemmas.Str.{is_utf8-from_IsUtf8}
use Rattle.csv.specs.Records.{fields_of}
use Rattle.ssb_records.specs.Records.{field}
use Rattle.ssb_records.proofs.FieldFacts.{texts-from, texts-not, not-text}
use Rattle.ssb_records.proofs.field.is_each_text.Goals as goal

pub returns-in_default : goal.returns-in_default
returns-in_default c =
    let fs = fields_of c.args.row.now in
    let n = c.len-i-end.ensures in
    let lt : c.loop-i.i < length fs = omega arith in
    sym (texts-not fs c.loop-i.i lt (not-text _ (rw c.field_bytes.ensures at c.in_default.ensures.cases.0)))

pub loop-i-preserved : goal.loop-i-preserved
loop-i-preserved c =
    let text : IsUtf8 (field (fields_of c.args.row.now) c.loop-i.i) = rw c.field_bytes.ensures at c.in-Ok.ensures.cases.1 in
    below_more _ _ c.loop-i.invariant (is_utf8-from_IsUtf8 _ text)

pub returns : goal.returns
returns c =
    let fs = fields_of c.args.row.now in
    let n = c.len-i-end.ensures in
    let le : length fs ≡ c.loop-i.i = omega arith in
    sym (texts-from fs (λ k lt. c.loop-i.invariant k (omega arith)))
