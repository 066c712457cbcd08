use Rattle.std.proofs.lemmas.Result.{IfOk-weaker}
use Rattle.ssb_pipeline.specs.Replay.Answers.{back, hand, sweep, twin_hand, up}
use Rattle.ssb_pipeline.proofs.calls.answer.Goals as goal

pub returns-in-Hand-clause-answers : goal.returns-in-Hand-clause-answers
returns-in-Hand-clause-answers c = rw c.in-Hand.is (IfOk-weaker c.hand.result _ _ (λ r h. hand h) c.hand.ensures.hands)

pub returns-in-TwinHand-clause-answers : goal.returns-in-TwinHand-clause-answers
returns-in-TwinHand-clause-answers c = rw c.in-TwinHand.is (IfOk-weaker c.hand-in-TwinHand.result _ _ (λ r h. twin_hand h) c.hand-in-TwinHand.ensures.hands)

pub returns-in-Back-clause-answers : goal.returns-in-Back-clause-answers
returns-in-Back-clause-answers c = rw c.in-Back.is (IfOk-weaker c.bring_back.result _ _ (λ r h. back h) c.bring_back.ensures.brings)

pub returns-in-Up-clause-answers : goal.returns-in-Up-clause-answers
returns-in-Up-clause-answers c = rw c.in-Up.is (up c.give_up.ensures.gives)

pub returns-in_ok-sweep-in-Sweep-clause-answers : goal.returns-in_ok-sweep-in-Sweep-clause-answers
returns-in_ok-sweep-in-Sweep-clause-answers c = rw c.in-Sweep.is (sweep (record { ran = c.sweep.ensures.ran; grows = c.sweep.ensures.grows; whole = c.in_ok-sweep-in-Sweep.ensures.whole }))
