use Rattle.std.proofs.Common.{◌≡◌, ◌∙◌, ◌<◌, ◌∷◌, ◌++◌, ◌+◌, [], ℕ, zero, suc, List, length, get_or, map, take, refl, ap, subst, sym, arith}
use Rattle.std.proofs.Math.ListN.{set}
use Rattle.std.proofs.lemmas.List.{length-set}
use Rattle.std.proofs.lemmas.Option.{slice_get-get_or}
use Rattle.ssb_plan.specs.JobShape.{JobShape}
use Rattle.ssb_groups.specs.GroupKeys.{GroupKey, keys_in}
use Rattle.ssb_groups.specs.Places.{OpenAll, Opens, number_cells}
use Rattle.ssb_groups.proofs.PlacedRows.{open-next}
use Rattle.ssb_groups.proofs.places.fill_places.Goals as goal

-- the list up to a place that is written
up-to : (ps : List ℕ) (k p : ℕ) → k < length ps → take (k + 1) (set ps k p) ≡ take k ps ++ p ∷ []
up-to [] k p lt = absurd (omega (arith, lt))
up-to (q ∷ ps) zero p lt = refl
up-to (q ∷ ps) (suc k) p lt =
    let one : suc k + 1 ≡ suc (k + 1) = omega arith in
    ap (λ n. take n (q ∷ set ps k p)) one ∙ ap (λ l. q ∷ l) (up-to ps k p (omega (arith, lt)))

-- the next number has its place
next : (j : JobShape) (old mid new : List GroupKey) (ns ps : List ℕ) (k p : ℕ) → k < length ns → k < length ps → OpenAll j old mid (map (number_cells j) (take k ns)) (take k ps) → Opens j mid new (number_cells j (get_or ns k 0)) p
    → OpenAll j old new (map (number_cells j) (take (k + 1) ns)) (take (k + 1) (set ps k p))
next j old mid new ns ps k p lt within opened opens =
    subst (λ qs. OpenAll j old new (map (number_cells j) (take (k + 1) ns)) qs) (sym (up-to ps k p within)) (open-next j (number_cells j) old mid new ns (take k ps) k p (get_or ns k 0) (slice_get-get_or ns k 0 lt) opened opens)

pub loop-at-preserved : goal.loop-at-preserved
loop-at-preserved c =
    let j = c.args.columns.now in
    let l = c.loop-at in
    let test = c.loop-at-test.true in
    let is = c.requires.numbers l.at 0 test in
    let many = l.invariant.many in
    let opens = c.in_ok-place.ensures.opened j l.invariant.keys is l.invariant.found in
    record {
      unique = c.in_ok-place.ensures.unique;
      keys = c.in_ok-place.ensures.keys j l.invariant.keys is;
      many = length-set l.places l.at c.in_ok-place.place ∙ many;
      found = opens.placed;
      opened = next j (keys_in c.args.keys.now) (keys_in l.keys) (keys_in c.open_next.new.keys) c.args.numbers.now l.places l.at c.in_ok-place.place test (omega (arith, test, many)) l.invariant.opened opens;
    }
