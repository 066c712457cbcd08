use Rattle.std.proofs.Common.{length}
use Rattle.ssb_tokens.proofs.TokenLists.{Split}
use Rattle.ssb_tokens.proofs.lexer.lex.Given as goal

abbrev pub invariant-loop-rest : goal.invariant-loop-rest
invariant-loop-rest l = Split l.fn.text l.rest l.tokens

abbrev pub decreases-loop-rest : goal.decreases-loop-rest
decreases-loop-rest l = length l.rest
