use Rattle.std.proofs.Common.{◌≡◌, ◌∙◌, ◌++◌, ◌∷◌, [], bytes_eq, length, map, string_bytes, if◌then◌else◌, ap, arith}
use Rattle.std.specs.List.{list_any}
use Rattle.std.proofs.lemmas.List.{length-map}
use Rattle.ssb_cells.specs.Cell.{text}
use Rattle.ssb_cells.specs.Codes.{with_text}
use Rattle.ssb_cells.proofs.CodeFacts.{distinct-with, length-with}
use Rattle.ssb_cells.proofs.SpellingFacts.{more-spelt}
use Rattle.ssb_cells.proofs.dictionary.Dictionary.add.Goals as goal

pub invariant_of-self-2 : goal.invariant_of-self-2
invariant_of-self-2 c =
    let old = map string_bytes c.self.inside.texts.keys in
    let more : map string_bytes c.insert.new.self.keys ≡ with_text old (text c.args.letters.now) =
    ap (map string_bytes) c.in_ok-insert.ensures.keys ∙ more-spelt c.self.inside.texts.keys c.in_ok-text.text ∙ ap (λ t. if list_any (bytes_eq t) old then old else old ++ t ∷ []) c.in_ok-text.ensures.ok in
    let long = ap length more in
    let few = length-with old (text c.args.letters.now) in
    let now = length-map c.insert.new.self.keys string_bytes in
    let was = ap length c.self.view_is in
    let room = c.requires in
    record { counted = omega (arith, long, few, now, was, room); distinct = rw more (distinct-with old (text c.args.letters.now) c.self.invariant.distinct) }

pub returns-clause-ok : goal.returns-clause-ok
returns-clause-ok c = rw (← c.self.view_is) (ap (map string_bytes) c.in_ok-insert.ensures.keys ∙ more-spelt c.self.inside.texts.keys c.in_ok-text.text ∙ ap (λ t. if list_any (bytes_eq t) (map string_bytes c.self.inside.texts.keys) then map string_bytes c.self.inside.texts.keys else map string_bytes c.self.inside.texts.keys ++ t ∷ []) c.in_ok-text.ensures.ok)
