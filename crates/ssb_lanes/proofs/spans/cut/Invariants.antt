use Rattle.std.proofs.Common.{◌≡◌, ◌+◌, ◌*◌, ◌/◌, vec_len}
use Rattle.ssb_lanes.specs.Sections.{Reach}
use Rattle.ssb_lanes.proofs.spans.cut.Given as goal

-- as many cuts lie behind as ranges were made
abbrev pub invariant-loop : goal.invariant-loop
invariant-loop l = Reach 0 l.spans.items l.start × (l.start + l.len / l.count ≡ l.counter * (l.len / l.count)) × (vec_len l.spans + 1 ≡ l.counter)
