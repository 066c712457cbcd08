-- Lanes, each read by a thread of its own, and what was read of them put together.
use Rattle.std.proofs.Common.{◌≡◌, ◌∙◌, ◌+◌, ◌<◌, ◌≤◌, ◌++◌, ℕ, suc, List, [], ◌∷◌, length, map, take, get_or, set, refl, sym, ap, subst, arith}
use Rattle.std.specs.List.{All, flat_map}
use Rattle.std.proofs.Math.Seq.{map-set_same}
use Rattle.std.proofs.lemmas.Grind.{flat_map-append}
use Rattle.std.proofs.lemmas.List.{append-nil, get_or-set_other, length-map, length-set, take_all, take_more}
use Rattle.std.proofs.lemmas.List.Elements.{All-more, All-set}
use Rattle.ssb_records.specs.CutShort.{IfRead}
use Rattle.ssb_lanes.specs.Assembly.{Halts, IsAssembled, subject_in}
use Rattle.ssb_lanes.specs.Joined.{HasFailed, HasFailedAt, IsForth, sources_in}
use Rattle.ssb_lanes.specs.Lane.{IsLaneRead}
use Rattle.ssb_lanes.specs.Lanes.{AreAdded, StopsAt}
use Rattle.ssb_lanes.specs.declared.assembly.Assembly.{Assembly}
use Rattle.ssb_records.specs.declared.fault.LoadFault.{LoadFault}
use Rattle.ssb_records.specs.declared.fault.LoadFault.TheVariants as load
use Rattle.ssb_records.specs.declared.source.Source.{Ghosts as Source}
use Rattle.ssb_lanes.specs.declared.lane.Lane.{Lane}
use Rattle.ssb_lanes.proofs.JoinedFacts.{failed-set, source-here}

-- what is told of each source stays where it stays of each by its place
pub same-each : {S W : Type 0} (f : S → W) (old new : List (Lane S)) → length new ≡ length old → ((i : ℕ) (d : Lane S) → i < length old → f (get_or new i d).source ≡ f (get_or old i d).source)
    → map f (sources_in new) ≡ map f (sources_in old)
same-each f [] [] len h = refl
same-each f [] (y ∷ ys) len h = cc len
same-each f (x ∷ xs) [] len h = cc len
same-each f (x ∷ xs) (y ∷ ys) len h =
    let here : f y.source ≡ f x.source = h 0 x (omega arith) in
    let rest : map f (sources_in ys) ≡ map f (sources_in xs) = same-each f xs ys (omega (arith, len)) (λ i d lt. h (suc i) d (omega arith)) in
    ap (λ w. w ∷ map f (sources_in ys)) here ∙ ap (λ ws. f x.source ∷ ws) rest

-- what was read of the lanes before this place is put together
pub record IsAdding {S : Type 0} (s : Source S) (then now_with : Assembly) (lanes now : List (Lane S)) (at : ℕ) : Type 0 where
  pub same : sources_in now ≡ sources_in lanes
  pub subject : subject_in now_with ≡ subject_in then
  pub assembled : IsAssembled now_with (flat_map s.given (take at (sources_in lanes)))
  pub met : All (λ x. 0 < s.ends x) (take at (sources_in lanes))
  pub forth : All (IsForth s.failures) now
  pub rest : (k : ℕ) (d : Lane S) → at ≤ k → k < length now → IsLaneRead s (subject_in then) (get_or now k d)

long-same : {S : Type 0} (now lanes : List (Lane S)) → sources_in now ≡ sources_in lanes → length now ≡ length lanes
long-same now lanes same = sym (length-map now (λ l. l.source)) ∙ ap length same ∙ length-map lanes (λ l. l.source)

-- the sources up to and with the lane at the place
pub given-with : {S : Type 0} (given : S → List ℕ) (lanes now : List (Lane S)) (at : ℕ) (lane : Lane S) → sources_in now ≡ sources_in lanes → at < length now → lane ≡ get_or now at lane
    → flat_map given (take (at + 1) (sources_in lanes)) ≡ flat_map given (take at (sources_in lanes)) ++ given lane.source
given-with given lanes now at lane same lt here =
    let long = long-same now lanes same in
    let n = length-map lanes (λ l. l.source) in
    let is : lane.source ≡ get_or (sources_in lanes) at lane.source = source-here now at lane lt here ∙ ap (λ ss. get_or ss at lane.source) same in
    ap (flat_map given) (take_more (sources_in lanes) at lane.source (omega (arith, n, long, lt))) ∙ flat_map-append given (take at (sources_in lanes)) _ ∙ ap (λ t. flat_map given (take at (sources_in lanes)) ++ t) (append-nil _ ∙ ap given (sym is))

pub met-with : {S : Type 0} (ends : S → ℕ) (lanes now : List (Lane S)) (at : ℕ) (lane : Lane S) → sources_in now ≡ sources_in lanes → at < length now → lane ≡ get_or now at lane → All (λ s. 0 < ends s) (take at (sources_in lanes)) → 0 < ends lane.source
    → All (λ s. 0 < ends s) (take (at + 1) (sources_in lanes))
met-with ends lanes now at lane same lt here met more =
    let long = long-same now lanes same in
    let n = length-map lanes (λ l. l.source) in
    let is : lane.source ≡ get_or (sources_in lanes) at lane.source = source-here now at lane lt here ∙ ap (λ ss. get_or ss at lane.source) same in
    All-more (λ s. 0 < ends s) (sources_in lanes) at lane.source (omega (arith, n, long, lt)) met (subst (λ s. 0 < ends s) is more)

pub same-set : {S : Type 0} (lanes now : List (Lane S)) (at : ℕ) (lane new : Lane S) → sources_in now ≡ sources_in lanes → lane ≡ get_or now at lane → new.source ≡ lane.source → sources_in (set now at new) ≡ sources_in lanes
same-set lanes now at lane new same here is = map-set_same (λ l. l.source) now at new lane (is ∙ ap (λ l. l.source) here) ∙ same

-- a lane whose source and beginning are as they were has failed as often
like-forth : {S : Type 0} (failures : S → ℕ) (lane new : Lane S) → new.source ≡ lane.source → new.joined ≡ lane.joined → IsForth failures lane → IsForth failures new
like-forth failures lane new source joined h =
    let a = ap failures source in
    let b = ap (λ j. failures j.value) joined in
    omega (arith, a, b, h)

like-failed : {S : Type 0} (failures : S → ℕ) (lane new : Lane S) → new.source ≡ lane.source → new.joined ≡ lane.joined → HasFailed failures lane → HasFailed failures new
like-failed failures lane new source joined h =
    let a = ap failures source in
    let b = ap (λ j. failures j.value) joined in
    omega (arith, a, b, h)

pub forth-set : {S : Type 0} (failures : S → ℕ) (now : List (Lane S)) (at : ℕ) (lane new : Lane S) → All (IsForth failures) now → at < length now → lane ≡ get_or now at lane → new.source ≡ lane.source → new.joined ≡ lane.joined → All (IsForth failures) (set now at new)
forth-set failures now at lane new forth lt here source joined =
    All-set (IsForth failures) now at new (like-forth failures lane new source joined (subst (IsForth failures) (sym here) (forth at lane lt))) forth

-- one lane more
pub adding-next : {S : Type 0} (s : Source S) (then before after : Assembly) (lanes now : List (Lane S)) (at : ℕ) (lane new : Lane S) → IsAdding s then before lanes now at → at < length now → lane ≡ get_or now at lane
    → new.source ≡ lane.source → new.joined ≡ lane.joined → subject_in after ≡ subject_in before → IsAssembled after (flat_map s.given (take at (sources_in lanes)) ++ s.given lane.source) → 0 < s.ends lane.source
    → IsAdding s then after lanes (set now at new) (at + 1)
adding-next s then before after lanes now at lane new inv lt here same joined subject assembled met = record {
  same = same-set lanes now at lane new inv.same here same;
  subject = subject ∙ inv.subject;
  assembled = subst (IsAssembled after) (sym (given-with s.given lanes now at lane inv.same lt here)) assembled;
  met = met-with s.ends lanes now at lane inv.same lt here inv.met met;
  forth = forth-set s.failures now at lane new inv.forth lt here same joined;
  rest = λ k d le inside.
      let long = length-set now at new in
      subst (IsLaneRead s (subject_in then)) (sym (get_or-set_other now at k new d (λ e. omega (arith, e, le)))) (inv.rest k d (omega (arith, le)) (omega (arith, inside, long)));
}

-- all lanes were added
pub adding-ends : {S : Type 0} (s : Source S) (then now_with : Assembly) (lanes now : List (Lane S)) (at : ℕ) → IsAdding s then now_with lanes now at → length lanes ≤ at → AreAdded s now_with (sources_in now)
adding-ends s then now_with lanes now at inv over =
    let n = length-map lanes (λ l. l.source) in
    let all = take_all at (sources_in lanes) (omega (arith, n, over)) in
    rw inv.same (record {
      assembled = subst (λ ss. IsAssembled now_with (flat_map s.given ss)) all inv.assembled;
      met = subst (All (λ x. 0 < s.ends x)) all inv.met;
    })

-- a failed read is told only where this holds
read-of : (e : LoadFault) (P Q : Type 0) → (P → Q) → IfRead e (λ n. P) → IfRead e (λ n. Q)
read-of (load.Record f n) P Q h p = tt
read-of (load.BadCatalog f n) P Q h p = tt
read-of (load.Read n) P Q h p = h p
read-of load.Memory P Q h p = tt

-- at this lane all stop
pub adding-stops : {S : Type 0} (s : Source S) (then before : Assembly) (lanes now : List (Lane S)) (at : ℕ) (lane new : Lane S) (e : LoadFault) → IsAdding s then before lanes now at → at < length now → lane ≡ get_or now at lane
    → new.source ≡ lane.source → new.joined ≡ lane.joined → Halts (subject_in before) (flat_map s.given (take at (sources_in lanes)) ++ s.given lane.source) e → IfRead e (λ n. HasFailed s.failures lane)
    → StopsAt s (subject_in then) (set now at new) (record { at = at; fault = e })
adding-stops s then before lanes now at lane new e inv lt here is joined halts broken =
    let n = length-set now at new in
    let same = same-set lanes now at lane new inv.same here is in
    record {
      inside = omega (arith, n, lt);
      met = subst (λ ss. All (λ x. 0 < s.ends x) (take at ss)) (sym same) inv.met;
      halts = subst (λ ss. Halts (subject_in then) (flat_map s.given (take (at + 1) ss)) e) (sym same)
          (subst (λ t. Halts (subject_in then) t e) (sym (given-with s.given lanes now at lane inv.same lt here)) (subst (λ j. Halts j (flat_map s.given (take at (sources_in lanes)) ++ s.given lane.source) e) inv.subject halts));
      broken = read-of e (HasFailed s.failures lane) (HasFailedAt s.failures (set now at new) at) (λ failed. failed-set s.failures now at new lt (like-failed s.failures lane new is joined failed)) broken;
    }
