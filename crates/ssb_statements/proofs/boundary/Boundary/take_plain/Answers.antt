use Rattle.std.proofs.Common.{◌∙◌, sym, ap}
use Rattle.ssb_statements.specs.Cutting.{cut_from}
use Rattle.ssb_statements.proofs.Steps.{blank-goes, goes-by, other-goes, quote-goes}
use Rattle.ssb_statements.proofs.boundary.Boundary.take_plain.Goals as goal

pub returns-then-byte-eq39-clause-cut : goal.returns-then-byte-eq39-clause-cut
returns-then-byte-eq39-clause-cut c = goes-by _ _ _ _ _ c.going_on-then-byte-eq39.ensures (quote-goes _ _ _ _ c.requires c.if-byte-eq39.true c.put.ensures.so_far)

pub returns-then-is_blank-clause-cut : goal.returns-then-is_blank-clause-cut
returns-then-is_blank-clause-cut c =
    goes-by _ _ _ _ _ c.going_on-then-is_blank.ensures (λ more. blank-goes _ _ _ _ c.requires c.if-byte-eq59.false c.if-byte-eq39.false c.if-byte-eq45.false (sym c.is_blank.ensures ∙ c.if-is_blank.true) c.put_within.ensures.so_far more
    ∙ ap (λ p. cut_from p c.put_within.new.self.so_far.items more) (sym (c.put_within.ensures.place ∙ c.requires)))

pub returns-clause-cut : goal.returns-clause-cut
returns-clause-cut c =
    goes-by _ _ _ _ _ c.going_on-2.ensures (λ more. other-goes _ _ _ _ c.requires c.if-byte-eq59.false c.if-byte-eq39.false c.if-byte-eq45.false (sym c.is_blank.ensures ∙ c.if-is_blank.false) c.put-2.ensures.so_far more
    ∙ ap (λ p. cut_from p c.put-2.new.self.so_far.items more) (sym (c.put-2.ensures.place ∙ c.requires)))
