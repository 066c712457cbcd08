-- How the answers of several sets become one.
-- Source: own.
use Rattle.std.specs.Prelude.{Bool, true, false, ◌&&◌, ◌||◌, List, [], ◌∷◌}
use Rattle.ssb_sets.specs.declared.join.Join.{Join}
use Rattle.ssb_sets.specs.declared.join.Join.TheVariants as joins

-- the answer of two sets
abbrev pub joined : Join → Bool → Bool → Bool
joined joins.Or a b = a || b
joined joins.And a b = a && b

-- the answer of no set
abbrev pub unit : Join → Bool
unit joins.Or = false
unit joins.And = true

-- the answer of many sets
abbrev pub all_joined : Join → List Bool → Bool
all_joined by [] = unit by
all_joined by (b ∷ bs) = joined by b (all_joined by bs)
