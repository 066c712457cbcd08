-- A key has no null.
use Rattle.std.proofs.Common.{◌≡◌, true, refl}
use Rattle.ssb_terms.specs.Roles.{needs_value, is_key}
use Rattle.ssb_terms.specs.declared.rule.Role.{Role}
use Rattle.ssb_terms.specs.declared.rule.Role.TheVariants as roles

pub key-needs : (role : Role) → is_key role ≡ true → needs_value role ≡ true
key-needs roles.Key e = refl
key-needs roles.Need e = cc e
key-needs roles.Nullable e = cc e
