use Rattle.std.proofs.Common.{◌≡◌, ◌+◌, length}
use Rattle.std.specs.List.{All}
use Rattle.ssb_pipeline.specs.Pass.{IsPassOfParts, HoldsNone, KnowsNothing}
use Rattle.ssb_pipeline.proofs.parts.Parts.more.Given as goal

abbrev pub invariant-loop : goal.invariant-loop
invariant-loop l = record {
  first : IsPassOfParts l.self l.first × HoldsNone l.first × KnowsNothing l.first;
  all : All (λ p. IsPassOfParts l.self p × HoldsNone p × KnowsNothing p) l.all.items;
  count : length l.all.items + 1 ≡ l.counter;
}
