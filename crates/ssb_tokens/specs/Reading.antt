-- What reading bytes and reading tokens share.
-- For the contracts inside this crate and ssb_sql.
use Rattle.std.specs.Prelude.{◌≡◌, List, Option, Some, None, Result, Ok, Err}
use Rattle.std.specs.Borrow.{Bor}
use Rattle.ssb_tokens.specs.declared.stop.Stop.{Stop}
use Rattle.ssb_tokens.specs.declared.stop.Stop.TheVariants as stop

-- f of what was read, where something was
infixl 10 ◌>>=◌
abbrev pub ◌>>=◌ : {A B : Type 0} → Option A → (A → Option B) → Option B
None >>= f = None
(Some x) >>= f = f x

-- what was read, and what follows it, as a contract sees them
abbrev pub seen : {A B : Type 0} → A × Bor (List B) → A × List B
seen x = (x.0, x.1.now)

abbrev pub seen_if : {A B : Type 0} → Option (A × Bor (List B)) → Option (A × List B)
seen_if None = None
seen_if (Some x) = Some (seen x)

-- reading gives nothing; where memory ran out, nothing is said
abbrev pub Fails : {Y : Type 0} → Stop → Option Y → Type 0
Fails stop.Memory read = Unit {0}
Fails stop.Syntax read = read ≡ None

-- what a function returned is what reading gives
abbrev pub Gives : {X Y : Type 0} → (X → Y) → Result X Stop → Option Y → Type 0
Gives view (Ok x) read = read ≡ Some (view x)
Gives view (Err e) read = Fails e read
