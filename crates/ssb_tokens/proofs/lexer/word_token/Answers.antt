use Rattle.std.proofs.Common.{◌≡◌, true, sym, subst, ◌∙◌}
use Rattle.ssb_terms.specs.Names.{is_word}
use Rattle.ssb_tokens.proofs.ReservedWords.{name_from_no_keyword}
use Rattle.ssb_tokens.proofs.TokenSound.{run_is_word}
use Rattle.ssb_tokens.proofs.lexer.word_token.Goals as goal

pub new-requires : goal.new-requires
new-requires c =
    name_from_no_keyword c.word.result.0.now
    (subst (λ w. is_word w ≡ true) (sym c.word.ensures.word) (run_is_word c.args.bytes.now c.requires))
    (sym c.keyword_of.ensures ∙ c.in_default.is)
