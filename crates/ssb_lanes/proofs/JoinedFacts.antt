-- Sources one after the other: what a read of one of them changes.
use Rattle.std.proofs.Common.{◌≡◌, ◌+◌, ◌≤◌, ◌<◌, ◌++◌, ◌∙◌, ◌==◌, ℕ, zero, suc, Bool, true, false, List, [], ◌∷◌, length, map, take, drop, get_or, set, refl, sym, ap, subst, append_assoc, add-one, arith, IfSome}
use Rattle.std.proofs.Math.Seq.{map-set_same}
use Rattle.std.specs.Prelude.{nat_lt}
use Rattle.std.proofs.lemmas.Bool.{false≢true}
use Rattle.std.proofs.lemmas.Bool.Decides.{nat_tests}
use Rattle.std.proofs.lemmas.List.{append-nil, drop-drop, drop-set-lt, drop_all, get_or-map, get_or-set_same, length-map, length-set, map-set, take-set, take_all, take_more, take_more_set}
use Rattle.std.proofs.lemmas.List.Concat.{flat_map-append}
use Rattle.std.proofs.lemmas.List.Elements.{All-drop, All-head, All-nil, All-push, All-same, All-set, All-tail, All-take}
use Rattle.std.specs.List.{All, flat_map}
use Rattle.ssb_records.specs.Giving.{ends_at}
use Rattle.ssb_lanes.specs.Joined.{HasFailed, HasFailedAt, IsForth, IsJoined, IsUnread, all_bytes, given_upto, sources_in}
use Rattle.ssb_lanes.specs.JoinedLaws.{joined_settled}
use Rattle.ssb_lanes.specs.declared.joined.Joined.{Joined}
use Rattle.ssb_lanes.specs.declared.lane.Lane.{Lane}
use Rattle.ssb_records.specs.declared.source.Source.{Ghosts as Source}
use Rattle.ssb_records.proofs.Cutting.{ended-more}

-- a read that gave no byte into some room met an end
pub at-end : (before after n : ℕ) (room : List ℕ) → n ≤ 0 → 0 < length room → after ≡ before + ends_at n room → 0 < after
at-end before after n room none more e =
    let zero : n ≡ 0 = omega arith in
    let is : (n == 0) ≡ true = rw zero refl in
    ended-more n room after before 0 is more (omega arith) e

-- an answer without a byte counts as no end, where there was no room
pub no-end-counted : (before now : ℕ) (room : List ℕ) → now ≡ before → true ≡ (length room == 0) → now ≡ before + ends_at 0 room
no-end-counted before now room same none =
    let is : nat_lt 0 (length room) ≡ false = grind (arith, nat_tests) in
    rw is (omega (arith, same))

-- ---- the lanes

pub sources-set : {S : Type 0} (lanes : List (Lane S)) (at : ℕ) (lane : Lane S) → sources_in (set lanes at lane) ≡ set (sources_in lanes) at lane.source
sources-set lanes at lane = map-set (λ l. l.source) lanes at lane

pub source-here : {S : Type 0} (lanes : List (Lane S)) (at : ℕ) (lane : Lane S) → at < length lanes → lane ≡ get_or lanes at lane → lane.source ≡ get_or (sources_in lanes) at lane.source
source-here lanes at lane lt here = ap (λ l. l.source) here ∙ sym (get_or-map (λ l. l.source) lanes at lane lane.source lt)

-- the lane at the place, read once
pub record IsRead {S : Type 0} (lanes : List (Lane S)) (at : ℕ) (lane : Lane S) (new : S) : Type 0 where
  pub inside : at < length lanes
  pub here : lane ≡ get_or lanes at lane

-- the lanes after that read
abbrev pub after_read : {S : Type 0} → List (Lane S) → ℕ → Lane S → S → List (Lane S)
after_read lanes at lane new = set lanes at (record { source = new; joined = lane.joined; read = lane.read })

pub whole-after : {S W : Type 0} (whole : S → W) (lanes : List (Lane S)) (at : ℕ) (lane : Lane S) (new : S) → IsRead lanes at lane new → whole new ≡ whole lane.source
    → map whole (sources_in (after_read lanes at lane new)) ≡ map whole (sources_in lanes)
whole-after whole lanes at lane new is same =
    let here = source-here lanes at lane is.inside is.here in
    ap (map whole) (sources-set lanes at _) ∙ map-set_same whole (sources_in lanes) at new lane.source (same ∙ ap whole here)

module _ {S : Type 0} (given : S → List ℕ) where
  -- ---- what was given

  abbrev IsSilent : S → Type 0
  IsSilent s = given s ≡ []

  nothing-more : (sources : List S) (n : ℕ) → All IsSilent (drop n sources) → flat_map given (take (suc n) sources) ≡ flat_map given (take n sources)
  nothing-more [] zero h = refl
  nothing-more [] (suc n) h = refl
  nothing-more (s ∷ ss) zero h = append-nil (given s) ∙ All-head IsSilent s ss h
  nothing-more (s ∷ ss) (suc n) h = ap (λ t. given s ++ t) (nothing-more ss n h)

  -- the next source gave nothing so far
  pub given-next : (sources : List S) (at : ℕ) → All IsSilent (drop (at + 1) sources) → given_upto given (at + 1) sources ≡ given_upto given at sources
  given-next sources at fresh = rw (add-one (at + 1)) (nothing-more sources (at + 1) fresh)

  -- where no source is behind the place, all that was given counts
  pub given-all : (sources : List S) (at : ℕ) → length sources ≤ at + 1 → given_upto given at sources ≡ flat_map given sources
  given-all sources at over = ap (flat_map given) (take_all (at + 1) sources over)

  -- nothing, where no source gave a byte
  nothing-at-all : (sources : List S) → All IsSilent sources → flat_map given sources ≡ []
  nothing-at-all [] h = refl
  nothing-at-all (s ∷ ss) h = rw (All-head IsSilent s ss h) (nothing-at-all ss (All-tail IsSilent s ss h))

  pub given-none : (sources : List S) (at : ℕ) → All IsSilent sources → given_upto given at sources ≡ []
  given-none sources at nothing = nothing-at-all (take (at + 1) sources) (All-take IsSilent (at + 1) sources nothing)

  -- the source at the place gave some bytes more
  pub given-read : (sources : List S) (at : ℕ) (old new : S) (bytes : List ℕ) → at < length sources → old ≡ get_or sources at old → given new ≡ given old ++ bytes
      → given_upto given at (set sources at new) ≡ given_upto given at sources ++ bytes
  given-read sources at old new bytes lt here more =
      let front = flat_map given (take at sources) in
      let after : given_upto given at (set sources at new) ≡ front ++ given new =
      ap (flat_map given) (take_more_set sources at new lt) ∙ flat_map-append given (take at sources) (new ∷ []) ∙ ap (λ t. front ++ t) (append-nil (given new)) in
      let before : given_upto given at sources ≡ front ++ given old =
      ap (flat_map given) (take_more sources at old lt) ∙ flat_map-append given (take at sources) (get_or sources at old ∷ []) ∙ ap (λ t. front ++ t) (append-nil (given (get_or sources at old)) ∙ ap given (sym here)) in
      after ∙ ap (λ t. front ++ t) more ∙ sym (append_assoc front (given old) bytes) ∙ ap (λ t. t ++ bytes) (sym before)

  -- ---- the same of lanes

  pub given-after : (lanes : List (Lane S)) (at : ℕ) (lane : Lane S) (new : S) (bytes : List ℕ) → IsRead lanes at lane new → given new ≡ given lane.source ++ bytes
      → given_upto given at (sources_in (after_read lanes at lane new)) ≡ given_upto given at (sources_in lanes) ++ bytes
  given-after lanes at lane new bytes is more =
      let here = source-here lanes at lane is.inside is.here in
      let lt : at < length (sources_in lanes) = omega (arith, length-map lanes (λ l. l.source), is.inside) in
      ap (given_upto given at) (sources-set lanes at _) ∙ given-read (sources_in lanes) at lane.source new bytes lt here more

  -- nothing was given, and the next lane is at turn
  pub given-moved : (lanes : List (Lane S)) (at : ℕ) (lane : Lane S) (new : S) → All IsSilent (drop (at + 1) (sources_in lanes)) → IsRead lanes at lane new → given new ≡ given lane.source ++ []
      → given_upto given (at + 1) (sources_in (after_read lanes at lane new)) ≡ given_upto given at (sources_in lanes)
  given-moved lanes at lane new fresh is none =
      let now = sources_in (after_read lanes at lane new) in
      let behind : drop (at + 1) now ≡ drop (at + 1) (sources_in lanes) = ap (drop (at + 1)) (sources-set lanes at _) ∙ drop-set-lt (at + 1) (sources_in lanes) at new (omega arith) in
      given-next now at (All-same IsSilent _ _ behind fresh) ∙ given-after lanes at lane new [] is none ∙ append-nil _

  pub silent-sources : (lanes : List (Lane S)) → All (IsUnread given) lanes → All IsSilent (sources_in lanes)
  silent-sources lanes unread i d lt =
      let n = length-map lanes (λ l. l.source) in
      here lanes i d (omega (arith, n, lt)) unread
    where
      here : (ls : List (Lane S)) (j : ℕ) (e : S) → j < length ls → All (IsUnread given) ls → IsSilent (get_or (sources_in ls) j e)
      here [] j e lt h = absurd (omega (arith, lt))
      here (l ∷ ls) zero e lt h = (All-head (IsUnread given) l ls h).nothing
      here (l ∷ ls) (suc j) e lt h = here ls j e (omega (arith, lt)) (All-tail (IsUnread given) l ls h)

-- the lane that was put at a place has failed
pub failed-set : {S : Type 0} (failures : S → ℕ) (lanes : List (Lane S)) (at : ℕ) (new : Lane S) → at < length lanes → HasFailed failures new → HasFailedAt failures (set lanes at new) at
failed-set failures lanes at new lt failed =
    let n = length-set lanes at new in
    record { inside = omega (arith, n, lt); failed = λ d. subst (HasFailed failures) (sym (get_or-set_same lanes at new d lt)) failed }

module _ {S : Type 0} (s : Source S) where
  abbrev HasMet : S → Type 0
  HasMet x = 0 < s.ends x

  abbrev GaveNothing : S → Type 0
  GaveNothing x = s.given x ≡ []

  -- ---- what every Joined keeps

  -- no failure was counted before any read
  forth-unread : (lane : Lane S) → IsUnread s.given lane → IsForth s.failures lane
  forth-unread lane unread =
      let same = ap s.failures unread.same in
      omega (arith, same)

  -- no source was read so far
  pub joined-new : (lanes : List (Lane S)) → All (IsUnread s.given) lanes → IsJoined s lanes 0 false false 0 0
  joined-new lanes unread = record {
    met = All-nil HasMet;
    fresh = λ _. All-drop GaveNothing (0 + 1) (sources_in lanes) (silent-sources s.given lanes unread);
    untouched = λ _. record { first = refl; going = refl; unread = unread; no_failure = refl; no_end = refl };
    forth = λ k d lt. forth-unread (get_or lanes k d) (unread k d lt);
    broken = λ stopped. absurd (false≢true stopped);
    told = λ more. absurd (omega (arith, more));
    over = λ more. absurd (omega (arith, more));
  }

  -- the lane at the place, as it was
  forth-here : (lanes : List (Lane S)) (at : ℕ) (lane : Lane S) → All (IsForth s.failures) lanes → at < length lanes → lane ≡ get_or lanes at lane → IsForth s.failures lane
  forth-here lanes at lane forth lt here = subst (IsForth s.failures) (sym here) (forth at lane lt)

  -- after one more read of it, no fewer failures are counted
  pub forth-after : (lanes : List (Lane S)) (at : ℕ) (lane : Lane S) (new : S) → All (IsForth s.failures) lanes → IsRead lanes at lane new → s.failures lane.source ≤ s.failures new → All (IsForth s.failures) (after_read lanes at lane new)
  forth-after lanes at lane new forth is more =
      let before = forth-here lanes at lane forth is.inside is.here in
      All-set (IsForth s.failures) lanes at (record { source = new; joined = lane.joined; read = lane.read }) (omega (arith, before, more)) forth

  -- where that read failed, it has failed
  pub failed-after : (lanes : List (Lane S)) (at : ℕ) (lane : Lane S) (new : S) → All (IsForth s.failures) lanes → IsRead lanes at lane new → s.failures lane.source < s.failures new → HasFailedAt s.failures (after_read lanes at lane new) at
  failed-after lanes at lane new forth is more =
      let before = forth-here lanes at lane forth is.inside is.here in
      let now : Lane S = record { source = new; joined = lane.joined; read = lane.read } in
      failed-set s.failures lanes at now is.inside (omega (arith, before, more))

  -- the source at the place was read, and perhaps the read failed
  pub joined-after : (lanes : List (Lane S)) (at : ℕ) (lane : Lane S) (new : S) (begun stopped begun_now stopped_now : Bool) (failures failures_now met : ℕ)
      → IsJoined s lanes at begun stopped failures met → IsRead lanes at lane new → begun_now ≡ true → stopped ≡ false → s.failures lane.source ≤ s.failures new → (stopped_now ≡ true → s.failures lane.source < s.failures new) → (0 < failures_now → stopped_now ≡ true)
      → IsJoined s (after_read lanes at lane new) at begun_now stopped_now failures_now met
  joined-after lanes at lane new begun stopped begun_now stopped_now failures failures_now met joined is read going forth fails told =
      let now : Lane S = record { source = new; joined = lane.joined; read = lane.read } in
      let same = sources-set lanes at now in record {
        met = All-same HasMet _ _ (ap (take at) same ∙ take-set (sources_in lanes) at new) joined.met;
        fresh = λ _. All-same GaveNothing _ _ (ap (drop (at + 1)) same ∙ drop-set-lt (at + 1) (sources_in lanes) at new (omega arith)) (joined.fresh going);
        untouched = λ not. absurd (false≢true (sym not ∙ read));
        forth = forth-after lanes at lane new joined.forth is forth;
        broken = λ stops. failed-after lanes at lane new joined.forth is (fails stops);
        told = told;
        over = λ more. let le = (joined.over more).1 in let lt = is.inside in let n = length-map lanes (λ l. l.source) in absurd (omega (arith, n, le, lt));
      }

  -- the source at the place met its end, and the next one is at turn
  pub joined-next : (lanes : List (Lane S)) (at : ℕ) (lane : Lane S) (new : S) (begun stopped begun_now stopped_now : Bool) (failures failures_now met : ℕ)
      → IsJoined s lanes at begun stopped failures met → IsRead lanes at lane new → begun_now ≡ true → stopped ≡ false → s.failures lane.source ≤ s.failures new → stopped_now ≡ false → (0 < failures_now → stopped_now ≡ true) → 0 < s.ends new
      → IsJoined s (after_read lanes at lane new) (at + 1) begun_now stopped_now failures_now met
  joined-next lanes at lane new begun stopped begun_now stopped_now failures failures_now met joined is read going forth goes told ended =
      let now : Lane S = record { source = new; joined = lane.joined; read = lane.read } in
      let same = sources-set lanes at now in
      let n = length-map lanes (λ l. l.source) in
      let lt = is.inside in record {
        met = All-same HasMet _ _ (ap (take (at + 1)) same ∙ take_more_set (sources_in lanes) at new (omega (arith, n, lt))) (All-push HasMet (take at (sources_in lanes)) new joined.met ended);
        fresh = λ _. All-same GaveNothing _ _ (ap (drop (at + 1 + 1)) same ∙ drop-set-lt (at + 1 + 1) (sources_in lanes) at new (omega arith) ∙ sym (drop-drop 1 (at + 1) (sources_in lanes))) (All-drop GaveNothing 1 (drop (at + 1) (sources_in lanes)) (joined.fresh going));
        untouched = λ not. absurd (false≢true (sym not ∙ read));
        forth = forth-after lanes at lane new joined.forth is forth;
        broken = λ stops. absurd (false≢true (sym goes ∙ stops));
        told = told;
        over = λ more. let le = (joined.over more).1 in absurd (omega (arith, n, le, lt));
      }

  -- all sources have met their ends, and the place is behind them
  pub joined-over : (lanes : List (Lane S)) (at met : ℕ) → All HasMet (take at (sources_in lanes)) → All (IsForth s.failures) lanes → length lanes ≤ at → IsJoined s lanes at true false 0 met
  joined-over lanes at met every forth over =
      let n = length-map lanes (λ l. l.source) in record {
        met = every;
        fresh = λ _. All-same GaveNothing _ _ (drop_all (at + 1) (sources_in lanes) (omega (arith, n, over))) (All-nil GaveNothing);
        untouched = λ not. absurd (false≢true (sym not));
        forth = forth;
        broken = λ stopped. absurd (false≢true stopped);
        told = λ more. absurd (omega (arith, more));
        over = λ _. (refl, omega (arith, n, over));
      }

-- before any read it gave nothing
pub none-given : {S : Type 0} (s : Source S) (j : Joined S s) → j.begun ≡ false → given_upto s.given j.at (sources_in j.lanes.items) ≡ []
none-given s j unread = given-none s.given (sources_in j.lanes.items) j.at (silent-sources s.given j.lanes.items (j.joined.untouched unread).unread)

-- once it met its end, it gave all bytes of its sources, where these are told
pub all-settled : {S : Type 0} (s : Source S) → ((x : S) → IfSome (s.whole x) (λ all. take (length (s.given x)) all ≡ s.given x)) → ((x : S) → 0 < s.ends x → IfSome (s.whole x) (λ all. s.given x ≡ all))
    → (j : Joined S s) → 0 < length j.ended.items → IfSome (all_bytes (map s.whole (sources_in j.lanes.items))) (λ all. given_upto s.given j.at (sources_in j.lanes.items) ≡ all)
all-settled s begins settled j ended = joined_settled s.given s.ends s.whole begins settled (sources_in j.lanes.items) j.at (j.joined.over ended).1 j.joined.met
