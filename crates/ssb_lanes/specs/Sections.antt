-- Which ranges of bytes the sections of a file have.
-- Source: own.
use Rattle.std.specs.Prelude.{◌≡◌, ◌+◌, ◌<◌, ◌≤◌, ◌++◌, ◌⊎◌, [], ◌∷◌, ℕ, List, map, drop, slice_get, Option, Some, IsSome}
use Rattle.std.specs.List.{All}
use Rattle.std.specs.Io.Take.{take_inner, take_limit}
use Rattle.std.specs.declared.io.traits.Read.{Ghosts as Read}
use Rattle.std.specs.declared.io.traits.Take.{Take}
use Rattle.ssb_records.specs.declared.reader.In.{In}
use Rattle.ssb_lanes.specs.declared.spans.Span.{Span}

-- a file of no more bytes is not cut: 16 MB
abbrev pub largest_whole : ℕ
largest_whole = 16777216

-- a range of so many bytes goes to the end of any file
abbrev pub endless : ℕ
endless = 18446744073709551615

-- ranges of which each begins where the one before ends, the first at one byte, and the last ends at another; none is empty
abbrev pub Reach : ℕ → List Span → ℕ → Type 0
Reach from [] to = from ≡ to
Reach from (s ∷ ss) to = (s.start ≡ from) × (0 < s.size) × Reach (from + s.size) ss to

-- ranges that reach from a file's first byte to where the last begins, which lies in the file and has no end
pub record AreSpans (len : ℕ) (spans : List Span) : Type 0 where
  pub before : List Span
  pub last : Span
  pub all : spans ≡ before ++ last ∷ []
  pub reach : Reach 0 before last.start
  pub in_file : 0 < len → last.start < len
  pub no_end : last.size ≡ endless

-- a file of so many bytes is left whole
abbrev pub StaysWhole : ℕ → ℕ → Type 0
StaysWhole len count = (len ≤ largest_whole) ⊎ (count ≤ 1)

-- how many bytes each of these sections may give
abbrev pub sizes_of : {F : Type 0} {read : Read (Take F)} → List (In (Take F) read) → List ℕ
sizes_of sections = map (λ s. take_limit s.begun.value) sections

-- the handles of these sections, as they were before any read
abbrev pub handles_of : {F : Type 0} {read : Read (Take F)} → List (In (Take F) read) → List F
handles_of sections = map (λ s. take_inner s.begun.value) sections

-- every handle tells at which byte it stands
abbrev pub TellPlaces : {F : Type 0} → (F → Option ℕ) → Type 0
TellPlaces place = (file : _) → IsSome (place file)

-- each handle stands at the first byte of its range, where handles tell their places; that a system's file was moved there is the system's word
abbrev pub StandAt : {F : Type 0} → (F → Option ℕ) → List Span → List F → Type 0
StandAt place spans files = TellPlaces place → map place files ≡ map (λ s. Some s.start) spans

-- A file is divided into the ranges of some length, by how many bytes each section may give, and by the handles of all sections but the first, whose handle
-- was there before.
pub record IsDivided {F : Type 0} (place : F → Option ℕ) (sizes : List ℕ) (later : List F) : Type 0 where
  pub len : ℕ
  pub spans : List Span
  pub ranges : AreSpans len spans
  pub same : sizes ≡ map (λ s. s.size) spans
  pub stand : StandAt place (drop 1 spans) later

-- these sections are those of a file; where the first handle stands at the file's first byte, each stands at its range's
pub record AreSections {F : Type 0} {read : Read (Take F)} (place : F → Option ℕ) (sections : List (In (Take F) read)) : Type 0 where
  pub divided : IsDivided place (sizes_of sections) (drop 1 (handles_of sections))
  pub first : (file : F) → slice_get (handles_of sections) 0 ≡ Some file → place file ≡ Some 0 → StandAt place divided.spans (handles_of sections)

-- nothing was read of any of these sections
abbrev pub AreUnread : {F : Type 0} {read : Read (Take F)} → List (In (Take F) read) → Type 0
AreUnread sections = All (λ s. s.given.items ≡ []) sections
