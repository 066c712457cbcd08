use Rattle.std.proofs.Common.{arith}
use Rattle.core.proofs.dec2flt.Eight.{bytes_of}
use Rattle.ssb_load.proofs.WordFacts.{joined}
use Rattle.ssb_load.proofs.digits.word_of.Goals as goal

pub overflow_add-result : goal.overflow_add-result
overflow_add-result c = let h = joined c.args.bytes.now _ _ c.requires.0 c.requires.1 (bytes_of c.args.bytes.now (λ i. (c.type_inv.bytes i).fits)) c.four_bytes.ensures c.four_bytes-last.ensures in omega (arith, h.1)

pub returns : goal.returns
returns c = (joined c.args.bytes.now _ _ c.requires.0 c.requires.1 (bytes_of c.args.bytes.now (λ i. (c.type_inv.bytes i).fits)) c.four_bytes.ensures c.four_bytes-last.ensures).0
