use Rattle.std.proofs.Common.{◌≡◌, ◌∙◌, Some, bytes_eq, is_some, position, ap, refl, sym}
use Rattle.ssb_cells.proofs.CodeFacts.{found-any, own-place-of}
use Rattle.ssb_cells.proofs.dictionary.Dictionary.find_again.Goals as goal

pub returns-then-is_at-clause-place : goal.returns-then-is_at-clause-place
returns-then-is_at-clause-place c = sym (own-place-of c.args.self.now c.args.letters.now _ (rw c.self.view_is at c.self.invariant.distinct) (c.if-is_at.ensures refl))

pub returns-then-is_at-clause-found : goal.returns-then-is_at-clause-found
returns-then-is_at-clause-found c =
    let at = own-place-of c.args.self.now c.args.letters.now _ (rw c.self.view_is at c.self.invariant.distinct) (c.if-is_at.ensures refl) in
    sym (ap is_some at) ∙ found-any (bytes_eq c.args.letters.now) c.args.self.now
