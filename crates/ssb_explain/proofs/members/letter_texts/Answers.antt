use Rattle.std.proofs.Common.{◌≡◌, ◌∙◌, ◌<◌, length, ap, subst, sym}
use Rattle.std.proofs.lemmas.List.Elements.{All-take}
use Rattle.std.specs.List.{All}
use Rattle.ssb_cells.specs.Codes.{texts_of}
use Rattle.ssb_explain.specs.Members.{codes_in}
use Rattle.ssb_explain.proofs.MemberFacts.{codes-below}
use Rattle.ssb_explain.proofs.members.letter_texts.Goals as goal

pub code_texts-requires-clause-there : goal.code_texts-requires-clause-there
code_texts-requires-clause-there c =
    let s = c.args.set.now in
    let n = length (texts_of c.args.column.now.values) in
    let same : c.deref.result.now ≡ codes_in s n = c.deref.ensures.value ∙ c.in_ok-all.ensures ∙ ap (codes_in s) c.text_count.ensures in
    All-take (λ code. code < n) c.min-count.result c.deref.result.now (subst (All (λ code. code < n)) (sym same) (codes-below s n))
