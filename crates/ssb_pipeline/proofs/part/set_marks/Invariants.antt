use Rattle.std.proofs.Common.{◌≡◌, take}
use Rattle.ssb_pipeline.specs.Marks.{with_marks}
use Rattle.ssb_pipeline.specs.Tickets.{morsels_of}
use Rattle.ssb_pipeline.proofs.part.set_marks.Given as goal

abbrev pub invariant-loop-place : goal.invariant-loop-place
invariant-loop-place l = l.marks ≡ with_marks l.mark l.first l.initial.marks (morsels_of (take l.place l.tickets))
