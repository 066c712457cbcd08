use Rattle.std.proofs.Common.{map}
use Rattle.ssb_lanes.specs.Joined.{all_bytes, given_upto, sources_in}
use Rattle.ssb_reply.specs.Reply.{Replies}
use Rattle.ssb_answer.proofs.Fresh.{told-whole}
use Rattle.ssb_answer.proofs.readers.run.Goals as goal

pub returns-clause-replies : goal.returns-clause-replies
returns-clause-replies g c files e =
    told-whole c.deref_mut.result.now _ c.args.readers.items files (λ j. given_upto (λ s. s.given.items) j.at (sources_in j.lanes.items)) (λ j. all_bytes (map (λ s. g.R.Read.remaining s.begun.value) (sources_in j.lanes.items))) g.R.Read.remaining
    (λ fs. Replies c.args.catalog fs c.args.text.now c.run_from.result (g.W.Sink.taken c.args.out.now) (g.W.Sink.taken c.run_from.new.out)) c.deref_mut.ensures.value c.in-Ok.ensures.given c.in-Ok.ensures.whole e
    (c.run_from.ensures.runs.told files)

pub returns-clause-some : goal.returns-clause-some
returns-clause-some g c = (_, c.run_from.ensures.runs.replies)
