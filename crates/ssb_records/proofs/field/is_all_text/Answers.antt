use Rattle.std.proofs.Common.{subst, sym}
use Rattle.std.specs.Bool.{MatchBool}
use Rattle.std.specs.Str.{IsAscii, IsNotAscii}
use Rattle.ssb_records.proofs.FieldFacts.{ascii-fields}
use Rattle.ssb_records.proofs.field.is_all_text.Goals as goal

pub returns-then-is_ascii : goal.returns-then-is_ascii
returns-then-is_ascii c =
    let row = c.args.row.now in
    let bytes = c.as_slice.result.now in
    let ascii = rw c.as_slice.ensures at (subst (λ b. MatchBool b (IsAscii bytes) (IsNotAscii bytes)) c.if-is_ascii.true c.is_ascii.ensures.cases) in
    sym (ascii-fields 0 row.ends row.bytes ascii)
