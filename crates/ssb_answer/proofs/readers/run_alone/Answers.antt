use Rattle.ssb_reply.specs.Reply.{Replies}
use Rattle.ssb_answer.proofs.Fresh.{told-whole}
use Rattle.ssb_answer.proofs.readers.run_alone.Goals as goal

pub returns-clause-replies : goal.returns-clause-replies
returns-clause-replies g c files e =
    told-whole c.deref_mut.result.now _ c.args.readers.items files (λ s. s.given.items) (λ s. g.R.Read.remaining s.begun.value) g.R.Read.remaining
    (λ fs. Replies c.args.catalog fs c.args.text.now c.run_alone_from.result (g.W.Sink.taken c.args.out.now) (g.W.Sink.taken c.run_alone_from.new.out)) c.deref_mut.ensures.value c.in-Ok.ensures.given c.in-Ok.ensures.whole e
    (c.run_alone_from.ensures.runs.told files)

pub returns-clause-some : goal.returns-clause-some
returns-clause-some g c = (_, c.run_alone_from.ensures.runs.replies)
