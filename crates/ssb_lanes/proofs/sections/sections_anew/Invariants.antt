use Rattle.std.proofs.Common.{◌≡◌, [], map, take}
use Rattle.std.specs.List.{All}
use Rattle.std.specs.Io.Take.{take_limit}
use Rattle.ssb_lanes.specs.Sections.{StandAt, handles_of}
use Rattle.ssb_lanes.proofs.sections.sections_anew.Given as goal

abbrev pub invariant-loop-span : goal.invariant-loop-span
invariant-loop-span g l = All (λ s. s.given.items ≡ []) l.sections.items × (map (λ s. take_limit s.begun.value) l.sections.items ≡ map (λ s. s.size) (take l.span-index l.spans)) × StandAt g.R.File.Seek.stream_position (take l.span-index l.spans) (handles_of l.sections.items)
