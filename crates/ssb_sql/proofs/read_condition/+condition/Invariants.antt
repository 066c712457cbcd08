use Rattle.std.proofs.Common.{◌+◌, ◌*◌}
use Rattle.ssb_sql.proofs.read_condition.+condition.Given as goal

abbrev pub decreases-condition : goal.decreases-condition
decreases-condition g l = 6 * l.depth

abbrev pub decreases-test : goal.decreases-test
decreases-test g l = 6 * l.depth + 1

abbrev pub decreases-negation : goal.decreases-negation
decreases-negation g l = 6 * l.depth + 2

abbrev pub decreases-conjunction-made : goal.decreases-conjunction-made
decreases-conjunction-made g l = 6 * l.depth + 3

abbrev pub decreases-conjunction : goal.decreases-conjunction
decreases-conjunction g l = 6 * l.depth + 4

abbrev pub decreases-condition-made : goal.decreases-condition-made
decreases-condition-made g l = 6 * l.inside + 5
