use denote.Param.Send.{sendable}
use Rattle.std.proofs.Crossing.{crosses}
use Rattle.ssb_lanes.proofs.Crossing.{joined_send}
use Rattle.std.proofs.Common.{arith}
use Rattle.ssb_lanes.specs.JoinedSource.{joined_source}
use Rattle.ssb_lanes.proofs.BesideFacts.{ran-beside}
use Rattle.ssb_load.proofs.LoadingAll.{always-ok, ran-ended, ran-failed, ran-grows, ran-lawful, ran-loads, ran-told, ran-whole}
use Rattle.ssb_lanes.proofs.all_joined.load_all_with.Goals as goal

pub returns : goal.returns
returns g c =
    let catalog = c.args.catalog.now in
    let before = c.args.sources.now in
    let cut = c.split_at_mut-front in
    let own = c.split_at_mut-own in
    let beside = c.load_others_beside-first in
    let r = c.put_together.result in
    let inside = c.fact_number-fact.ensures.inside in
    let front_long = cut.ensures.front_len in
    let rest_long = cut.ensures.back_len in
    let own_long = own.ensures.front_len in
    let count = c.requires.sources in
    let from = ran-beside joined_source catalog c.fact_number-fact.result before cut.result.0.now cut.result.1.now own.result.0.now own.result.1.now beside.new.front beside.new.back c.index-own-0.result beside.new.source beside.result.0.0 beside.result.1
    beside.result.0.1 c.put_together-rest.result r (omega (arith, front_long)) cut.ensures.value own.ensures.value (omega (arith, own_long)) beside.ensures.front beside.ensures.fact beside.ensures.back c.put_together-rest.ensures
    c.put_together.ensures in
    let ran = ran-whole joined_source catalog before _ r count from in
    record {
      grows = ran-grows joined_source 0 catalog before _ r ran;
      loads = ran-loads joined_source catalog before _ r ran;
      ended = ran-ended joined_source 0 catalog before _ r ran;
      failed = ran-failed joined_source catalog before _ r ran;
      told = λ files is. ran-told joined_source catalog before _ r files ran is;
      lawful = ran-lawful joined_source 0 catalog before _ r ran;
      catalog = always-ok r c.fact_number-fact.ensures.catalog;
    }

pub load_others_beside-first-requires-send-J : goal.load_others_beside-first-requires-send-J
load_others_beside-first-requires-send-J g c κs within = search (joined_send, crosses, sendable) depth 20
