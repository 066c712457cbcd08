use Rattle.std.proofs.Common.{[], take}
use Rattle.std.specs.Arc.{arc_value}
use Rattle.ssb_job.specs.Kept.{AreOneJob}
use Rattle.ssb_pipeline.specs.Replay.{AreOf, Replays}
use Rattle.ssb_pipeline.proofs.calls.replay.Given as goal

abbrev pub invariant-loop-place : goal.invariant-loop-place
invariant-loop-place l = record {
  replays : Replays (take l.place l.calls) l.replies.items (record { own = l.initial.own; twin = l.initial.twin; slots = [] }) (record { own = l.own; twin = l.twin; slots = l.slots.items });
  own : AreOneJob l.own.job (arc_value l.job);
  twin : AreOneJob l.twin.job (arc_value l.job);
  of : AreOf (arc_value l.job) l.slots.items;
}
