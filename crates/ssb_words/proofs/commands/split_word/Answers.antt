use Rattle.std.proofs.Common.{◌≡◌, ◌∙◌, ◌+◌, ℕ, List, [], length, take, sym, ap, arith}
use Rattle.std.proofs.lemmas.List.{drop_all, take_all}
use Rattle.std.proofs.lemmas.Str.Pattern.{split_once_first}
use Rattle.std.specs.List.{after_first, before_first, position_or_len}
use Rattle.ssb_words.specs.Commands.{is_space}
use Rattle.ssb_words.proofs.commands.split_word.Goals as goal

none-first : (line : List ℕ) → position_or_len is_space line ≡ length line → line ≡ before_first is_space line
none-first line e = sym (ap (λ n. take n line) e ∙ take_all (length line) line (omega arith))

none-behind : (line : List ℕ) → position_or_len is_space line ≡ length line → [] ≡ after_first is_space line
none-behind line e = sym (drop_all (position_or_len is_space line + 1) line (omega (arith, e)))

pub returns-in-None-clause-word : goal.returns-in-None-clause-word
returns-in-None-clause-word c =
    let h = split_once_first 32 c.args.line.now c.split_once.result c.split_once.ensures.cases (omega arith) in
    none-first c.args.line.now (rw c.in-None.is at h)

pub returns-in-None-clause-rest : goal.returns-in-None-clause-rest
returns-in-None-clause-rest c =
    let h = split_once_first 32 c.args.line.now c.split_once.result c.split_once.ensures.cases (omega arith) in
    none-behind c.args.line.now (rw c.in-None.is at h)
