use Rattle.std.proofs.Common.{◌∙◌, refl}
use Rattle.core.proofs.dec2flt.Eight.{eight_is}
use Rattle.ssb_load.proofs.WordFacts.{counted, shifted}
use Rattle.ssb_load.proofs.digits.number_in_word.Goals as goal

pub returns : goal.returns
returns c xs eight is =
    let digits = counted xs c.args.word _ c.args.count eight is refl c.if-others-count.false in
    let s = shifted xs c.args.word c.args.count eight is c.requires.0 c.requires.1 digits in
    (digits, eight_is s.0 _ s.1 s.2 ∙ s.3)
