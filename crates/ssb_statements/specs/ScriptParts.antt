-- The parts of a script, and what is seen of them.
-- For the contracts inside this crate.
use Rattle.std.specs.Prelude.{◌≡◌, ◌<◌, ◌≤◌, ℕ, List, ◌++◌, length, take, drop, vec_len}
use Rattle.ssb_records.specs.declared.source.Source.{Ghosts as Source}
use Rattle.ssb_statements.specs.Parting.{EndsBefore, IsEndOf}
use Rattle.ssb_statements.specs.Reader.{ScriptReader}
use Rattle.ssb_statements.specs.declared.script.Script.TheInside.{Inside}

-- the bytes of the piece that wait to be given
abbrev pub unread : {S P : Type 0} {source : Source S} → Inside S P source → List ℕ
unread s = drop s.at (take s.end s.piece.items)

-- the script, as contracts see it
abbrev pub seen : {S P : Type 0} {source : Source S} → Inside S P source → ScriptReader S
seen s = record { source = s.input.source; ended = s.input.ended; stretch = s.position.all.items; waiting = unread s; line = take 4096 s.line.all.items; ends = length s.ended.items }

-- what holds of the parts
pub record IsWhole {S P : Type 0} {source : Source S} (s : Inside S P source) : Type 0 where
  pub inside : s.at ≤ s.end
  pub held : s.end ≤ vec_len s.piece
  pub room : 0 < vec_len s.piece
  pub line_room : vec_len s.line.kept ≡ 4096
  -- the stretch and the bytes that wait are the last that the source gave
  pub kept : IsEndOf (source.given s.input.source) (s.position.all.items ++ unread s)
  -- where the stretch was told to have ended, it has
  pub over : 0 < length s.ended.items → EndsBefore s.position.all.items (unread s) s.input.ended
