use Rattle.std.proofs.Common.{sym}
use Rattle.std.proofs.lemmas.List.{append-nil}
use Rattle.ssb_statements.proofs.Steps.{dash-ends, place-ends}
use Rattle.ssb_statements.proofs.boundary.Boundary.end.Goals as goal

pub returns-in-Dash-clause-cut : goal.returns-in-Dash-clause-cut
returns-in-Dash-clause-cut c = dash-ends _ _ _ c.in-Dash.is c.put.ensures.so_far

pub returns : goal.returns
returns c = record { bytes = sym (append-nil c.args.self.now.so_far.items); cut = place-ends _ _ c.in_default.not-Dash }
