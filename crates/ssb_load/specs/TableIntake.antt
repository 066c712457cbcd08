-- What a table on its way stands for.
-- For the contracts inside this crate, and those inside `ssb_lanes`.
use Rattle.std.specs.Prelude.{◌≡◌, ◌≤◌, ◌<◌, ◌^◌, List, [], length, None}
use Rattle.ssb_load.specs.Subject.{Subject, table}
use Rattle.ssb_load.specs.Loader.{Holds}
use Rattle.ssb_records.specs.Records.{Fields}
use Rattle.ssb_terms.specs.Roles.{key_place}
use Rattle.ssb_load.specs.Tables.{first_fault}
use Rattle.ssb_load.specs.declared.table_intake.TableIntake.{TableIntake}

abbrev pub subject_of : TableIntake → Subject
subject_of t = table t.rules.items t.max_rows

-- a table on its way has the rows of these records, all good
pub record IsLoading (t : TableIntake) (good : List Fields) : Type 0 where
  pub count : length good ≡ t.accepted
  pub room : t.accepted ≤ t.max_rows
  pub few : t.accepted < 2 ^ 32
  pub clean : first_fault t.rules.items t.max_rows [] good ≡ None
  pub holds : Holds t.rules.items good t.loader.seen.keys t.loader.columns.items
  pub key : t.key ≡ key_place t.rules.items
