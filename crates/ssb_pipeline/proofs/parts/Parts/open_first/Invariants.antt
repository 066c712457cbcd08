use Rattle.std.specs.List.{All}
use Rattle.std.specs.Arc.{arc_value}
use Rattle.ssb_pipeline.specs.Pass.{queue_name, IsSingle}
use Rattle.ssb_pipeline.proofs.Passes.{IsOpened}
use Rattle.ssb_pipeline.proofs.parts.Parts.open_first.Given as goal

abbrev pub invariant-loop-section : goal.invariant-loop-section
invariant-loop-section g l = record {
  opened : IsOpened queue_name (arc_value l.job) l.morsel_size l.sections l.queues.items l.passes.items l.section;
  single : All IsSingle l.queues.items;
}
