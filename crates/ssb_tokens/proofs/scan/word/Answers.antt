use Rattle.ssb_terms.specs.Names.{is_word_byte}
use Rattle.ssb_tokens.proofs.ScanSteps.{past_le, run_taken}
use Rattle.ssb_tokens.proofs.scan.word.Goals as goal

pub slice_bounds-result-count : goal.slice_bounds-result-count
slice_bounds-result-count c = rw c.past_word-rest.ensures (past_le is_word_byte c.args.bytes.now)

pub returns-clause-word : goal.returns-clause-word
returns-clause-word c = rw c.past_word-rest.ensures (run_taken is_word_byte c.args.bytes.now)
