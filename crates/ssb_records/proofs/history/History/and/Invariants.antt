use Rattle.std.proofs.Common.{[], ◌∷◌, ◌++◌}
use Rattle.ssb_records.proofs.history.History.and.Given as goal

abbrev pub ghost-told_by : goal.ghost-told_by
ghost-told_by g a = a._first.now.items ++ a._second.now ∷ []
