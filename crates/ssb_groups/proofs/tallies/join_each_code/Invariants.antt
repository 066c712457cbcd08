use Rattle.ssb_groups.specs.Tallies.{kept_codes}
use Rattle.ssb_groups.proofs.TallyFacts.{JoinedTo}
use Rattle.ssb_groups.proofs.tallies.join_each_code.Given as goal

abbrev pub invariant-loop-at : goal.invariant-loop-at
invariant-loop-at l = JoinedTo l.tables l.joining l.places (kept_codes l.more) l.initial.tally l.tally l.at
