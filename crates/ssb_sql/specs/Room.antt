-- How many more `(` there may be.
-- For the contracts inside this crate.
use Rattle.std.specs.Prelude.{ℕ, zero, suc, ◌+◌, List, [], ◌∷◌, Option, Some, None, if◌then◌else◌}
use Rattle.ssb_tokens.specs.declared.token.Token.{Token}
use Rattle.ssb_tokens.specs.declared.token.Token.TheVariants.{Fixed}
use Rattle.ssb_tokens.specs.declared.token.Mark.TheVariants as marks
use Rattle.ssb_tokens.specs.declared.token.Sign.TheVariants as s
use Rattle.ssb_sql.specs.Steps.{is_fixed}

abbrev pub one_less : ℕ → Option ℕ
one_less zero = None
one_less (suc n) = Some n

-- how many `(` may still be opened after one token; none where it opens one too many
unfoldable pub room_after : ℕ → Token → Option ℕ
room_after n t = if is_fixed (s.Mark marks.Open) t then one_less n else Some (if is_fixed (s.Mark marks.Close) t then n + 1 else n)

-- a number is not 0, and this holds of the number below it
abbrev pub IsBelow : ℕ → (ℕ → Type 0) → Type 0
IsBelow zero P = ⊥
IsBelow (suc n) P = P n

-- no front of the tokens opens over n more than it closes, token by token
abbrev pub HasRoom : ℕ → List Token → Type 0
HasRoom n [] = Unit {0}
HasRoom n (Fixed (s.Mark marks.Open) ∷ ts) = IsBelow n (λ m. HasRoom m ts)
HasRoom n (Fixed (s.Mark marks.Close) ∷ ts) = HasRoom (suc n) ts
HasRoom n (_ ∷ ts) = HasRoom n ts
