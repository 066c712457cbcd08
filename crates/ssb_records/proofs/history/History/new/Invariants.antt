use Rattle.std.proofs.Common.{[]}
use Rattle.ssb_records.proofs.history.History.new.Given as goal

abbrev pub ghost-told_by : goal.ghost-told_by
ghost-told_by g a = []
