use Rattle.std.proofs.Common.{get_or, pos, refl, subst}
use Rattle.std.proofs.lemmas.List.Folds.{map_fixed}
use Rattle.ssb_sets.specs.Values.{IsWithin, two_byte_bounds}
use Rattle.ssb_sets.proofs.kernel.I16Number.between.Goals as goal

pub two_bytes_between-requires-clause-within : goal.two_bytes_between-requires-clause-within
two_bytes_between-requires-clause-within c i lt = subst (λ ns. IsWithin two_byte_bounds (get_or ns i (pos 0))) (map_fixed (λ n. n) c.args.numbers.now (λ k d small. refl)) (c.requires.within i lt)
