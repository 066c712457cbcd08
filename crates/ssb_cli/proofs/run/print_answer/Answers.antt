use denote.Param.Send.{sendable}
use Rattle.std.proofs.Crossing.{crosses}
use Rattle.ssb_answer.proofs.Crossing.{file_send, in_send, take_send}
use Rattle.ssb_cli.proofs.run.print_answer.Goals as goal

pub write_answer-requires-send-S : goal.write_answer-requires-send-S
write_answer-requires-send-S g c κs bounds = search (in_send, take_send, file_send, crosses, sendable) depth 20
