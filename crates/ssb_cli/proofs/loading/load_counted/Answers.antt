use denote.Param.Send.{sendable}
use Rattle.std.proofs.Crossing.{crosses}
use Rattle.ssb_answer.proofs.Crossing.{file_send, in_send, joined_send, take_send}
use Rattle.ssb_files.proofs.counted.Counted.TheSendSync as counted
use Rattle.ssb_cli.proofs.loading.load_counted.Goals as goal

pub load_shown-requires-send-J : goal.load_shown-requires-send-J
load_shown-requires-send-J g c κs within = search (joined_send, counted.the_send, in_send, take_send, file_send, crosses, sendable) depth 40
