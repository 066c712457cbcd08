-- The pieces of a source's bytes.
-- For the contracts of what reads a source piece by piece.
use Rattle.std.specs.Prelude.{◌≡◌, ◌++◌, ◌+◌, ◌-◌, ◌^◌, ◌<◌, ◌≤◌, [], ℕ, List, length, take, drop, Bool, true, false, if◌then◌else◌, ◌⊎◌}
use Rattle.ssb_records.specs.Lines.{EndsInLf, IsPartOfLine}
use Rattle.ssb_records.specs.declared.pieces.Pieces.{Pieces}

-- the bytes handed out so far, those of the piece at hand among them
abbrev pub handed : {S : Type 0} → Pieces S → List ℕ
handed p = p.done.items

-- the piece at hand
abbrev pub piece_of : {S : Type 0} → Pieces S → List ℕ
piece_of p = take p.cut p.buffer.items

-- the bytes read and not handed out
abbrev pub rest_of : {S : Type 0} → Pieces S → List ℕ
rest_of p = drop p.cut (take p.filled p.buffer.items)

-- whether no more is read
abbrev pub has_stopped : {S : Type 0} → Pieces S → Bool
has_stopped p = p.stopped

-- whether a read failed
abbrev pub has_failed : {S : Type 0} → Pieces S → Bool
has_failed p = p.failed

-- the source before any of this
abbrev pub begun_with : {S : Type 0} → Pieces S → S
begun_with p = p.begun.value

-- The pieces of a source, whose members tell what it gave, how often it failed and how often it met its end: what it gave since they began is handed out, or
-- waits; where no more is read, a read failed since then, or met the end.
pub record IsPassedOn {S : Type 0} (given : S → List ℕ) (failures ends : S → ℕ) (p : Pieces S) (source : S) : Type 0 where
  pub told : given source ≡ given p.begun.value ++ (handed p ++ rest_of p)
  pub over : p.stopped ≡ true → p.failed ≡ false → ends p.begun.value < ends source
  pub broken : p.failed ≡ true → failures p.begun.value < failures source
  pub forth : (failures p.begun.value ≤ failures source) × (ends p.begun.value ≤ ends source)
  pub stops : p.failed ≡ true → p.stopped ≡ true

-- the source has ended, and nothing waits
pub record IsOver {S : Type 0} (p : Pieces S) : Type 0 where
  pub stopped : p.stopped ≡ true
  pub failed : p.failed ≡ false
  pub rest : rest_of p ≡ []

-- a read failed, and only a part of a line waits
pub record IsBroken {S : Type 0} (p : Pieces S) : Type 0 where
  pub failed : p.failed ≡ true
  pub rest : IsPartOfLine (rest_of p)

-- a piece is some whole lines, or the last; none comes after the last, nor where a read failed and no whole line waits
abbrev pub IsPiece : {S : Type 0} → Bool → Pieces S → Type 0
IsPiece true p = (0 < length (piece_of p)) × (EndsInLf (piece_of p) ⊎ IsOver p)
IsPiece false p = (piece_of p ≡ []) × (IsOver p ⊎ IsBroken p)

-- where to cut: behind a line feed, at the end, or before a part of a line
abbrev pub IsCut : {S : Type 0} → ℕ → Pieces S → Type 0
IsCut end p = EndsInLf (take end p.buffer.items) ⊎ (((p.stopped ≡ true) × (p.failed ≡ false) × (end ≡ p.filled)) ⊎ ((p.failed ≡ true) × (end ≡ 0) × IsPartOfLine (take p.filled p.buffer.items)))

pub record IsPlace {S : Type 0} (end : ℕ) (p : Pieces S) : Type 0 where
  pub inside : end ≤ p.filled
  pub cut : IsCut end p

-- how far the end is at most
abbrev pub turns_left : {S : Type 0} → Pieces S → ℕ
turns_left p = (2 ^ 64 - p.filled) + (if p.stopped then 0 else 1)
