use Rattle.std.proofs.Common.{◌∙◌, refl, sym, true≢false}
use Rattle.ssb_pipeline.proofs.Rounds.{only_self, ready-again, ready_more, round_self, round_after}
use Rattle.ssb_pipeline.proofs.worker.work_section.Goals as goal

pub loop-init : goal.loop-init
loop-init g c = record { scratch = refl; ready = record { only = only_self _ _; pass = c.requires.ready.pass; none = c.requires.ready.none }; round = round_self _ }

pub turn-requires : goal.turn-requires
turn-requires g c = record { ready = ready-again _ _ _ _ c.requires.ready c.loop.invariant.ready; some = c.requires.some; scratch = c.loop.invariant.scratch ∙ c.requires.scratch }

pub returns-then-not-turn-clause-ready : goal.returns-then-not-turn-clause-ready
returns-then-not-turn-clause-ready g c = ready_more _ _ _ _ c.requires.ready _ c.loop.invariant.ready c.turn.ensures.ready

pub returns-then-not-turn-clause-round : goal.returns-then-not-turn-clause-round
returns-then-not-turn-clause-round g c = round_after _ _ _ c.loop.invariant.round c.turn.ensures.round

pub loop-preserved : goal.loop-preserved
loop-preserved g c = record { scratch = c.turn.ensures.same ∙ c.loop.invariant.scratch; ready = ready_more _ _ _ _ c.requires.ready _ c.loop.invariant.ready c.turn.ensures.ready; round = round_after _ _ _ c.loop.invariant.round c.turn.ensures.round }

pub returns-then-not-turn-clause-ended : goal.returns-then-not-turn-clause-ended
returns-then-not-turn-clause-ended g c = c.if-not-turn.ensures.ended refl

pub unreachable-requires : goal.unreachable-requires
unreachable-requires g c = true≢false (sym c.in-None.ensures.steps)
