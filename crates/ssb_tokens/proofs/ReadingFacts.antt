-- What reading one thing behind another says.
use Rattle.std.proofs.Common.{◌≡◌, Option, Some, None, refl}
use Rattle.ssb_tokens.specs.Reading.{◌>>=◌}

pub bind_some : {A B : Type 0} (r : Option A) (f : A → Option B) (y : B) → (r >>= f) ≡ Some y → (x : A) × (r ≡ Some x) × (f x ≡ Some y)
bind_some None f y e = absurd cc
bind_some (Some x) f y e = (x, refl, e)
