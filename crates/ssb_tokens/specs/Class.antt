-- What the first byte of a token says.
-- For the contracts inside this crate.
use Rattle.std.specs.Prelude.{ℕ, ◌==◌, if◌then◌else◌}
use Rattle.std.specs.Char.{is_ascii_alphabetic, is_ascii_digit}
use Rattle.ssb_tokens.specs.declared.class.Class.{Class}
use Rattle.ssb_tokens.specs.declared.class.Class.TheVariants as k
use Rattle.ssb_tokens.specs.declared.token.Mark.TheVariants as marks

abbrev pub class_of : ℕ → Class
class_of b =
    if is_ascii_alphabetic b then k.Letter
    else (if is_ascii_digit b then k.Digit
    else (if b == 39 then k.Quote
    else (if b == 40 then k.Mark marks.Open
    else (if b == 41 then k.Mark marks.Close
    else (if b == 44 then k.Mark marks.Comma
    else (if b == 46 then k.Mark marks.Dot
    else (if b == 59 then k.Mark marks.Semicolon
    else (if b == 43 then k.Mark marks.Plus
    else (if b == 45 then k.Mark marks.Minus
    else (if b == 42 then k.Mark marks.Times
    else (if b == 61 then k.Mark marks.Equal
    else (if b == 60 then k.Mark marks.Less
    else (if b == 62 then k.Mark marks.Greater
    else k.Other)))))))))))))
