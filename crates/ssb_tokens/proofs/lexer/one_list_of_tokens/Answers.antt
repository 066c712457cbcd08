use Rattle.ssb_tokens.proofs.TokenLists.{one_list}
use Rattle.ssb_tokens.proofs.lexer.one_list_of_tokens.Goals as goal

pub returns : goal.returns
returns c = one_list
