use Rattle.std.proofs.Common.{◌∙◌, ap, sym}
use Rattle.ssb_statements.specs.Cutting.{cut}
use Rattle.ssb_statements.specs.declared.boundary.Boundary.{Boundary}
use Rattle.ssb_statements.proofs.Steps.{goes-by, literal-ends, literal-goes}
use Rattle.ssb_statements.proofs.boundary.Boundary.take_in_literal.Goals.{then-byte-eq39, else-byte-eq39}
use Rattle.ssb_statements.proofs.boundary.Boundary.take_in_literal.Goals as goal

pub returns-clause-cut : goal.returns-clause-cut
returns-clause-cut c =
    goes-by _ _ _ c.if-byte-eq39.self _ c.going_on.ensures (λ more. elim c.if-byte-eq39.branch [
      | then-byte-eq39 w ↦ literal-ends _ _ _ _ c.requires w.if-byte-eq39.true c.put.ensures.so_far more ∙ ap (λ (b : Boundary). cut b more) (sym w.self-is)
      | else-byte-eq39 w ↦ literal-goes _ _ _ _ _ c.requires c.put.ensures.place w.if-byte-eq39.false c.put.ensures.so_far more ∙ ap (λ (b : Boundary). cut b more) (sym w.self-is)
    ])
