use Rattle.std.proofs.Common.{◌≡◌, find, drop}
use Rattle.ssb_bind.specs.Columns.{is_wrong_fit}
use Rattle.ssb_bind.proofs.names.in_names.Given as goal

abbrev pub invariant-loop-name : goal.invariant-loop-name
invariant-loop-name l = find (λ n. is_wrong_fit l.wrong n.fit) (drop l.name-index l.all) ≡ find (λ n. is_wrong_fit l.wrong n.fit) l.all
