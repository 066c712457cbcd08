use Rattle.std.proofs.Common.{◌≡◌, ◌++◌, drop, map, take}
use Rattle.ssb_rows.specs.Leads.{with_lead}
use Rattle.ssb_rows.proofs.order.set_leads.Given as goal

abbrev pub invariant-loop-at : goal.invariant-loop-at
invariant-loop-at l = l.keys ≡ map (with_lead l.by l.cells l.width) (take l.at l.fn.keys) ++ drop l.at l.fn.keys
