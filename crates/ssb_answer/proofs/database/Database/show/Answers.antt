use Rattle.ssb_answer.proofs.ShownFacts.{shows-sink, shows-text}
use Rattle.ssb_answer.proofs.database.Database.show.Goals as goal

pub returns-clause-shows : goal.returns-clause-shows
returns-clause-shows g c =
    shows-text c.args.self.now.catalog c.args.self.now.tables c.args.text.now c.args.shape c.titled_answer-titled.result c.write_titled-written.result _ _ _ _ c.titled_answer-titled.ensures c.write_titled-written.ensures.shows

pub returns-clause-sink : goal.returns-clause-sink
returns-clause-sink g c =
    shows-sink c.args.self.now.catalog c.args.self.now.tables c.args.text.now c.args.shape c.write_titled-written.result _ _ _ _ _ _
    (shows-text c.args.self.now.catalog c.args.self.now.tables c.args.text.now c.args.shape c.titled_answer-titled.result c.write_titled-written.result _ _ _ _ c.titled_answer-titled.ensures c.write_titled-written.ensures.shows)
    c.write_titled-written.ensures.holds
