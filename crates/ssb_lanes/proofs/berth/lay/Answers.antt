use Rattle.std.proofs.Common.{rules}
use Rattle.ssb_lanes.proofs.BerthMoves.{lays, new-empty}
use Rattle.ssb_lanes.proofs.berth.lay.Goals as goal

pub push_as-requires-clause-rule : goal.push_as-requires-clause-rule
push_as-requires-clause-rule g c = (lays g.S.Source _ _ _ _ c.requires.new (record { told = search rules; unread = λ none. record { nothing = search rules; same = search rules }; read = record { reads = tt; forth = search rules } }), new-empty g.S.Source _ _ c.requires.new)
