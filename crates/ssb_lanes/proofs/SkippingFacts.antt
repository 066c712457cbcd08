-- Sources that are read on for nothing, one after the other.
use Rattle.std.proofs.Common.{◌≡◌, ◌∙◌, ◌+◌, ◌<◌, ◌≤◌, ◌++◌, ℕ, List, [], length, map, take, drop, sym, ap, subst, append_assoc, arith}
use Rattle.std.specs.List.{All, flat_map}
use Rattle.std.proofs.lemmas.List.{length-map, length-set, take-set, take_more_set}
use Rattle.std.proofs.lemmas.List.Elements.{All-push, All-same}
use Rattle.std.proofs.lemmas.List.Concat.{flat_map-append}
use lib.Seq.{take-add}
use Rattle.ssb_load.specs.Subject.{RefusesRow, Subject}
use Rattle.ssb_records.specs.CutShort.{IfRead}
use Rattle.ssb_records.specs.Giving.{given_since}
use Rattle.ssb_records.specs.Records.{records_of}
use Rattle.ssb_records.specs.declared.fault.LoadFault.{LoadFault}
use Rattle.ssb_records.specs.declared.fault.LoadFault.TheVariants as load
use Rattle.ssb_records.specs.declared.source.Source.{Ghosts as Source}
use Rattle.ssb_records.proofs.TakingAll.{grows}
use Rattle.ssb_lanes.specs.Assembly.{Halts}
use Rattle.ssb_lanes.specs.Joined.{HasFailedAt, IsForth, given_upto, sources_in}
use Rattle.ssb_lanes.specs.Lane.{IsRead}
use Rattle.ssb_lanes.specs.Lanes.{IsStopped, StopsAt}
use Rattle.ssb_lanes.specs.declared.lanes.Stop.{Stop}
use Rattle.ssb_lanes.specs.declared.lane.Lane.{Lane}
use Rattle.ssb_lanes.proofs.TogetherFacts.{never-read, of-read, whenever-read}
use Rattle.ssb_lanes.proofs.JoinedFacts.{IsRead as IsReadOnce, after_read, forth-after, given-after, sources-set, whole-after}

module _ {S : Type 0} (s : Source S) where
  -- the sources before this place have met their ends since the beginning
  pub record IsSkipping (lanes : List (Lane S)) (from : ℕ) (now : List (Lane S)) (at : ℕ) : Type 0 where
    pub whole : map s.whole (sources_in now) ≡ map s.whole (sources_in lanes)
    pub long : length now ≡ length lanes
    pub more : List ℕ
    pub given : given_upto s.given at (sources_in now) ≡ given_upto s.given from (sources_in lanes) ++ more
    pub met : All (λ x. 0 < s.ends x) (take at (sources_in now))
    pub forth : All (IsForth s.failures) now

  -- what the next source gave so far comes behind
  given-behind : (sources : List S) (at : ℕ) → given_upto s.given (at + 1) sources ≡ given_upto s.given at sources ++ flat_map s.given (take 1 (drop (at + 1) sources))
  given-behind sources at = ap (flat_map s.given) (take-add (at + 1) 1 sources) ∙ flat_map-append s.given (take (at + 1) sources) (take 1 (drop (at + 1) sources))

  -- the source at the place was read on, and gave some bytes more
  given-skipped : (lanes : List (Lane S)) (from : ℕ) (now : List (Lane S)) (at : ℕ) (lane : Lane S) (new : S) (bytes : List ℕ) → IsSkipping lanes from now at → IsReadOnce now at lane new → s.given new ≡ s.given lane.source ++ bytes
      → (more : List ℕ) × (given_upto s.given at (sources_in (after_read now at lane new)) ≡ given_upto s.given from (sources_in lanes) ++ more)
  given-skipped lanes from now at lane new bytes inv is gave =
      (inv.more ++ bytes, given-after s.given now at lane new bytes is gave ∙ ap (λ t. t ++ bytes) inv.given ∙ append_assoc (given_upto s.given from (sources_in lanes)) inv.more bytes)

  -- it met its end
  pub skip-next : (lanes : List (Lane S)) (from : ℕ) (now : List (Lane S)) (at : ℕ) (lane : Lane S) (new : S) (bytes : List ℕ) → IsSkipping lanes from now at → IsReadOnce now at lane new → s.given new ≡ s.given lane.source ++ bytes → s.whole new ≡ s.whole lane.source
      → s.failures lane.source ≤ s.failures new → 0 < s.ends new → IsSkipping lanes from (after_read now at lane new) (at + 1)
  skip-next lanes from now at lane new bytes inv is gave whole forth ended =
      let after = after_read now at lane new in
      let g = given-skipped lanes from now at lane new bytes inv is gave in
      let behind = flat_map s.given (take 1 (drop (at + 1) (sources_in after))) in
      let n = length-map now (λ l. l.source) in
      let lt = is.inside in record {
        whole = whole-after s.whole now at lane new is whole ∙ inv.whole;
        long = length-set now at _ ∙ inv.long;
        more = g.0 ++ behind;
        given = given-behind (sources_in after) at ∙ ap (λ t. t ++ behind) g.1 ∙ append_assoc (given_upto s.given from (sources_in lanes)) g.0 behind;
        met = All-same (λ x. 0 < s.ends x) _ _ (ap (take (at + 1)) (sources-set now at _) ∙ take_more_set (sources_in now) at new (omega (arith, n, lt))) (All-push (λ x. 0 < s.ends x) (take at (sources_in now)) new inv.met ended);
        forth = forth-after s now at lane new inv.forth is forth;
      }

  -- those before it have met theirs
  pub met-still : (lanes : List (Lane S)) (from : ℕ) (now : List (Lane S)) (at : ℕ) (lane : Lane S) (new : S) → IsSkipping lanes from now at → IsReadOnce now at lane new → All (λ x. 0 < s.ends x) (take at (sources_in (after_read now at lane new)))
  met-still lanes from now at lane new inv is = All-same (λ x. 0 < s.ends x) _ _ (ap (take at) (sources-set now at _) ∙ take-set (sources_in now) at new) inv.met

  -- what was given by then is a beginning
  pub skipped-grows : (lanes : List (Lane S)) (from : ℕ) (now : List (Lane S)) (at : ℕ) (lane : Lane S) (new : S) (bytes : List ℕ) → IsSkipping lanes from now at → IsReadOnce now at lane new → s.given new ≡ s.given lane.source ++ bytes
      → given_upto s.given at (sources_in (after_read now at lane new)) ≡ given_upto s.given from (sources_in lanes) ++ given_since (given_upto s.given from (sources_in lanes)) (given_upto s.given at (sources_in (after_read now at lane new)))
  skipped-grows lanes from now at lane new bytes inv is gave =
      let g = given-skipped lanes from now at lane new bytes inv is gave in
      grows (given_upto s.given from (sources_in lanes)) g.0 _ g.1

-- the bytes stop whatever comes behind them, unless a read failed
halts-more : (subject : Subject) (bytes more : List ℕ) (e : LoadFault) → IfRead e (λ n. ⊥) → Halts subject bytes e → Halts subject (bytes ++ more) e
halts-more subject bytes more (load.Record f n) never h = λ rest. subst (λ t. RefusesRow subject (records_of t) f n) (sym (append_assoc bytes more rest)) (h (more ++ rest))
halts-more subject bytes more (load.BadCatalog f n) never h = h
halts-more subject bytes more (load.Read n) never h = absurd never
halts-more subject bytes more load.Memory never h = tt

module _ {S : Type 0} (s : Source S) (subject : Subject) where
  -- sources stop by a failed read
  pub stops-here : (lanes : List (Lane S)) (stop : Stop) → IsRead stop.fault → StopsAt s subject lanes stop → IsStopped s subject lanes stop
  stops-here lanes stop read stops = record {
    inside = let lt = stops.inside in omega (arith, lt);
    met = stops.met;
    halts = stops.halts;
    failed = λ _. of-read stop.fault (HasFailedAt s.failures lanes stop.at) read stops.broken;
    broken = whenever-read stop.fault (stop.at < length lanes) stops.inside;
  }

  -- they stop by another fault, and the rest was read
  pub stops-later : (lanes now : List (Lane S)) (stop : Stop) (at : ℕ) → IfRead stop.fault (λ n. ⊥) → StopsAt s subject lanes stop → at ≤ length now → All (λ x. 0 < s.ends x) (take at (sources_in now))
      → given_upto s.given at (sources_in now) ≡ given_upto s.given stop.at (sources_in lanes) ++ given_since (given_upto s.given stop.at (sources_in lanes)) (given_upto s.given at (sources_in now))
      → (at < length now → HasFailedAt s.failures now at) → IsStopped s subject now (record { at = at; fault = stop.fault })
  stops-later lanes now stop at never stops inside met grows failed = record {
    inside = inside;
    met = met;
    halts = subst (λ t. Halts subject t stop.fault) (sym grows) (halts-more subject (given_upto s.given stop.at (sources_in lanes)) _ stop.fault never stops.halts);
    failed = failed;
    broken = never-read stop.fault (at < length now) never;
  }
