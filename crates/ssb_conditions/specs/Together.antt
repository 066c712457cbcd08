-- What several conditions say, joined by OR or by AND.
-- For the contracts inside this crate and ssb_plan.
use Rattle.std.specs.Prelude.{List}
use Rattle.ssb_cells.specs.Truth.{all_of, and, any_of, or}
use Rattle.ssb_cells.specs.declared.truth.Truth.{Truth}
use Rattle.ssb_cells.specs.declared.truth.Truth.TheVariants.{True, False}
use Rattle.ssb_sets.specs.declared.join.Join.{Join}
use Rattle.ssb_sets.specs.declared.join.Join.TheVariants as joins

-- OR, or AND
abbrev pub either : Join → Truth → Truth → Truth
either joins.Or = or
either joins.And = and

-- what settles them
abbrev pub settling : Join → Truth
settling joins.Or = True
settling joins.And = False

-- what several conditions say joined by OR, or by AND
abbrev pub together : Join → List Truth → Truth
together joins.Or = any_of
together joins.And = all_of
