-- Sources one after the other as one source.
-- Source: own.
use Rattle.std.specs.Prelude.{◌≡◌, ◌+◌, ◌≤◌, ◌<◌, [], ◌∷◌, ℕ, List, length, map, take, drop, Bool, true, false, Option, Some}
use Rattle.std.specs.List.{All, HoldsAt, flat_map}
use Rattle.std.specs.Fmt.{option_append}
use Rattle.ssb_records.specs.declared.source.Source.{Ghosts as Source}
use Rattle.ssb_lanes.specs.declared.lane.Lane.{Lane}

-- the sources of lanes
abbrev pub sources_in : {S : Type 0} → List (Lane S) → List S
sources_in lanes = map (λ l. l.source) lanes

-- what the sources before this place gave, and the one at it, one after the other
abbrev pub given_upto : {S : Type 0} → (S → List ℕ) → ℕ → List S → List ℕ
given_upto given at sources = flat_map given (take (at + 1) sources)

-- the bytes of all sources, one after the other, where those of each are told
abbrev pub all_bytes : List (Option (List ℕ)) → Option (List ℕ)
all_bytes [] = Some []
all_bytes (w ∷ ws) = option_append w (all_bytes ws)

-- a read of the lane's source failed since the source was joined
abbrev pub HasFailed : {S : Type 0} → (S → ℕ) → Lane S → Type 0
HasFailed failures lane = failures lane.joined.value < failures lane.source

-- the lane at this place is there, and a read of its source failed
pub record HasFailedAt {S : Type 0} (failures : S → ℕ) (lanes : List (Lane S)) (at : ℕ) : Type 0 where
  pub inside : at < length lanes
  pub failed : HoldsAt (HasFailed failures) lanes at

-- at least as many as failed by then
abbrev pub IsForth : {S : Type 0} → (S → ℕ) → Lane S → Type 0
IsForth failures lane = failures lane.joined.value ≤ failures lane.source

-- a source that gave no byte, and of which no thread has read, as it was joined
pub record IsUnread {S : Type 0} (given : S → List ℕ) (lane : Lane S) : Type 0 where
  pub nothing : given lane.source ≡ []
  pub same : lane.source ≡ lane.joined.value

-- no source was read, no failure was told, and no end
pub record IsUntouched {S : Type 0} (given : S → List ℕ) (lanes : List (Lane S)) (at : ℕ) (stopped : Bool) (failures ends : ℕ) : Type 0 where
  pub first : at ≡ 0
  pub going : stopped ≡ false
  pub unread : All (IsUnread given) lanes
  pub no_failure : failures ≡ 0
  pub no_end : ends ≡ 0

-- Sources, read in their order. Those before the place have met their ends, and those behind it gave nothing so far, unless a read failed. Before any read
-- all is untouched. A failure is told only where a read of the source at the place failed, and an end only once every source has met its own.
pub record IsJoined {S : Type 0} (s : Source S) (lanes : List (Lane S)) (at : ℕ) (begun stopped : Bool) (failures ends : ℕ) : Type 0 where
  pub met : All (λ x. 0 < s.ends x) (take at (sources_in lanes))
  pub fresh : stopped ≡ false → All (λ x. s.given x ≡ []) (drop (at + 1) (sources_in lanes))
  pub untouched : begun ≡ false → IsUntouched s.given lanes at stopped failures ends
  pub forth : All (IsForth s.failures) lanes
  pub broken : stopped ≡ true → HasFailedAt s.failures lanes at
  pub told : 0 < failures → stopped ≡ true
  pub over : 0 < ends → (stopped ≡ false) × (length (sources_in lanes) ≤ at)
