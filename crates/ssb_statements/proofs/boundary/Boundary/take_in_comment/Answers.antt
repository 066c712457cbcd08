use Rattle.std.proofs.Common.{◌∙◌, ap, sym}
use Rattle.ssb_statements.specs.Cutting.{cut}
use Rattle.ssb_statements.specs.declared.boundary.Boundary.{Boundary}
use Rattle.ssb_statements.proofs.Steps.{comment-ends, comment-goes, goes-by}
use Rattle.ssb_statements.proofs.boundary.Boundary.take_in_comment.Goals.{then-byte-eq10, else-byte-eq10}
use Rattle.ssb_statements.proofs.boundary.Boundary.take_in_comment.Goals as goal

pub returns-clause-cut : goal.returns-clause-cut
returns-clause-cut c =
    let within = c.put_within-is_within in
    goes-by _ _ _ c.if-byte-eq10.self _ c.going_on.ensures (λ more. elim c.if-byte-eq10.branch [
      | then-byte-eq10 w ↦ comment-ends _ _ _ _ c.requires w.if-byte-eq10.true within.ensures.so_far more ∙ ap (λ (b : Boundary). cut b more) (sym w.self-is)
      | else-byte-eq10 w ↦ comment-goes _ _ _ _ _ c.requires within.ensures.place w.if-byte-eq10.false within.ensures.so_far more ∙ ap (λ (b : Boundary). cut b more) (sym w.self-is)
    ])
