use Rattle.ssb_statements.proofs.Steps.{dash-goes, dashes-go, taken-from}
use Rattle.ssb_statements.proofs.boundary.Boundary.take_behind_dash.Goals as goal

pub returns-then-byte-eq45-clause-cut : goal.returns-then-byte-eq45-clause-cut
returns-then-byte-eq45-clause-cut c = record { same = dashes-go _ _ _ _ _ c.requires c.if-byte-eq45.true c.put_within-dash.ensures.so_far c.put_within-byte.ensures.so_far }

pub returns-clause-cut : goal.returns-clause-cut
returns-clause-cut c = taken-from _ _ _ _ _ (dash-goes _ _ _ _ c.requires c.if-byte-eq45.false c.put.ensures.so_far) c.take_plain-byte.ensures.cut
