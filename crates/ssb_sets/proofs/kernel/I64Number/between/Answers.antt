use Rattle.std.proofs.Common.{get_or, pos, refl, subst}
use Rattle.std.proofs.lemmas.List.Folds.{map_fixed}
use Rattle.ssb_sets.specs.Values.{IsWithin, eight_byte_bounds}
use Rattle.ssb_sets.proofs.kernel.I64Number.between.Goals as goal

pub eight_bytes_between-requires-clause-within : goal.eight_bytes_between-requires-clause-within
eight_bytes_between-requires-clause-within c i lt = subst (λ ns. IsWithin eight_byte_bounds (get_or ns i (pos 0))) (map_fixed (λ n. n) c.args.numbers.now (λ k d small. refl)) (c.requires.within i lt)
