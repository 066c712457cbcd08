use Rattle.core.proofs.dec2flt.Eight.{bytes_of}
use Rattle.ssb_load.proofs.WordFacts.{some-few}
use Rattle.ssb_load.proofs.digits.few_digits.Goals as goal

pub returns : goal.returns
returns c = some-few c.args.bytes.now c.word_of.result c.number_in_word.result c.requires.0 c.requires.1 (bytes_of c.args.bytes.now (λ i. (c.type_inv.bytes i).fits)) c.word_of.ensures c.number_in_word.ensures
