-- How the work of a run may be cut and shared.
-- Source: the limits are this project's own.
use Rattle.std.specs.Prelude.{ℕ, ◌<◌, ◌≤◌}

-- so many workers, rows of a morsel, and parts
pub record AreInRange (workers morsel_size parts : ℕ) : Type 0 where
  pub some_workers : 0 < workers
  pub few_workers : workers ≤ 64
  pub some_rows : 0 < morsel_size
  pub few_rows : morsel_size ≤ 1048576
  pub some_parts : 0 < parts
  pub few_parts : parts ≤ 16

-- so many morsels are taken at a time
pub record IsBatch (batch : ℕ) : Type 0 where
  pub some_morsels : 0 < batch
  pub few_morsels : batch ≤ 64
