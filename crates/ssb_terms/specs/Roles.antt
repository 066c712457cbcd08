-- What a column's role says of its values.
-- Source: own. `key` and `need` are not null; a key's values are all different.
use Rattle.std.specs.Prelude.{◌+◌, ℕ, Bool, true, false, List, [], ◌∷◌, Option, Some, None, if◌then◌else◌}
use Rattle.ssb_terms.specs.declared.rule.Role.{Role}
use Rattle.ssb_terms.specs.declared.rule.Role.TheVariants as roles
use Rattle.ssb_terms.specs.declared.rule.Rule.{Rule}

abbrev pub needs_value : Role → Bool
needs_value roles.Key = true
needs_value roles.Need = true
needs_value roles.Nullable = false

abbrev pub is_key : Role → Bool
is_key roles.Key = true
is_key roles.Need = false
is_key roles.Nullable = false

-- the place of the first key
abbrev pub key_from : ℕ → List Rule → Option ℕ
key_from at [] = None
key_from at (p ∷ ps) = if is_key p.role then Some at else key_from (at + 1) ps

abbrev pub key_place : List Rule → Option ℕ
key_place rules = key_from 0 rules
