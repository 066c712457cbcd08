use Rattle.std.specs.Arc.{arc_value}
use Rattle.ssb_answer.proofs.ShownFacts.{text-titled}
use Rattle.ssb_answer.proofs.database.Database.titled_answer.Goals as goal

pub returns : goal.returns
returns g c =
    text-titled c.args.self.now.catalog c.args.text.now c.args.self.now.tables (arc_value c.in_ok-job.job) c.answer_titled-answered.result c.in_ok-job.ensures.asks c.in_ok-job.ensures.tables (rw c.catalog.ensures at c.answer_titled-answered.ensures)
