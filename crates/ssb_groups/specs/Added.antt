-- What adding combinations does to groups.
-- Source: own.
use Rattle.std.specs.Prelude.{ℕ, ◌++◌, List, map}
use Rattle.ssb_plan.specs.JobShape.{JobShape}
use Rattle.ssb_groups.specs.Rows.{SeenRow}
use Rattle.ssb_groups.specs.Seen.{seen}
use Rattle.ssb_groups.specs.Stands.{GroupMap, Stands}

-- groups that come to stand for these combinations more
abbrev pub AddsRows : JobShape → List (List ℕ) → GroupMap → GroupMap → Type 0
AddsRows j rows before after = (A : List SeenRow) → Stands before A → Stands after (A ++ map (seen j) rows)
