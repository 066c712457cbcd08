use Rattle.std.proofs.Common.{◌≡◌, [], map}
use Rattle.ssb_answer.proofs.readers.sources_of.Given as goal

abbrev pub invariant-loop-reader : goal.invariant-loop-reader
invariant-loop-reader g l = record {
  whole : map (λ s. g.R.Read.remaining s.begun.value) l.sources.items ≡ map g.R.Read.remaining l.yielded;
  given : map (λ s. s.given.items) l.sources.items ≡ map (λ r. []) l.yielded;
}
