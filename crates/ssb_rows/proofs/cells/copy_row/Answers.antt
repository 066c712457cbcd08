use Rattle.std.proofs.Common.{◌≡◌, ◌∙◌, ◌++◌, drop, length, ap, sym, arith, rules}
use Rattle.std.proofs.lemmas.List.{length-drop, length-take-le}
use Rattle.ssb_rows.specs.Kept.{keyed_row, keyed_rows}
use Rattle.ssb_rows.proofs.KeptFacts.{row-pushed}
use Rattle.ssb_rows.proofs.cells.copy_row.Goals as goal

pub returns-clause-row : goal.returns-clause-row
returns-clause-row c =
    let width = c.args.width in
    let values = c.args.values.now in
    let row = keyed_row values width c.args.key in
    let copied : c.extend_from_slice.new.self.items ≡ c.args.copied.now.items ++ row = search rules in
    let behind = length-drop c.args.key.from values in
    let many : width ≡ length row = sym (length-take-le width (drop c.args.key.from values) (omega (arith, behind, c.requires.there))) in
    let begins : c.len-from.result ≡ length c.args.copied.now.items = search rules in
    ap (keyed_rows c.extend_from_slice.new.self.items width) c.in_ok-push.ensures.items ∙ row-pushed c.args.copied.now.items row c.extend_from_slice.new.self.items width c.args.keys.now.items _ copied c.requires.within begins many
