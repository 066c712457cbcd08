-- How long the text of a query may be, and in how many sections a table's file is opened.
-- Source: own.
use Rattle.std.specs.Prelude.{◌*◌, ◌-◌, ℕ, if◌then◌else◌}
use Rattle.ssb_catalog.specs.Catalog.{is_fact}
use Rattle.ssb_catalog.specs.Shapes.{TableShape}

-- the most bytes that a query's file may have
abbrev pub longest_query : ℕ
longest_query = 65536

-- the fact table is read in four sections for each worker, but two fewer since one worker reads the other tables too; each of these is one section
abbrev pub section_count : TableShape → ℕ → ℕ
section_count table workers = if is_fact table then 4 * workers - 2 else 1
