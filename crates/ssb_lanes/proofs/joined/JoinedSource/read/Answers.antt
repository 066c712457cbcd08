-- What a read of the lane at turn leaves: where it gave bytes, where it met its end, and where it failed.
use Rattle.std.proofs.Common.{◌≡◌, ◌++◌, ◌∙◌, ◌<◌, length, map, take, ap, arith, refl, sym}
use Rattle.std.proofs.lemmas.Bool.{false≢true}
use Rattle.std.proofs.lemmas.List.{append-nil}
use Rattle.ssb_lanes.specs.Joined.{all_bytes, given_upto, sources_in}
use Rattle.ssb_lanes.proofs.JoinedFacts.{IsRead, at-end, given-after, given-moved, joined-after, joined-next, no-end-counted, whole-after}
use Rattle.ssb_lanes.proofs.joined.JoinedSource.read.Goals as goal
use Rattle.ssb_lanes.proofs.joined.JoinedSource.read.Goals.{then-count-gt0-via-then-count-gt0, then-count-gt0-via-else-count-gt0+then-is_empty}

pub invariant_of-self-then-count-gt0 : goal.invariant_of-self-then-count-gt0
invariant_of-self-then-count-gt0 g c =
    let is : IsRead c.loop-self.self.lanes.items c.loop-self.self.at c.index_mut.result.now c.read.new.self = record { inside = omega (arith, c.loop-self.self.lanes.ok.0); here = c.index_mut.ensures.value } in
    let same = c.in-Ok.ensures.failures in
    record { joined = joined-after g.S.Source _ _ _ _ _ _ _ _ _ _ _ c.loop-self.self.joined is c.loop-self.invariant.begun c.loop-self-test.true (omega (arith, same)) (λ stops. absurd (false≢true (sym c.loop-self-test.true ∙ stops))) c.loop-self.self.joined.told }

pub invariant_of-self-then-is_empty : goal.invariant_of-self-then-is_empty
invariant_of-self-then-is_empty g c =
    let is : IsRead c.loop-self.self.lanes.items c.loop-self.self.at c.index_mut.result.now c.read.new.self = record { inside = omega (arith, c.loop-self.self.lanes.ok.0); here = c.index_mut.ensures.value } in
    let same = c.in-Ok.ensures.failures in
    record { joined = joined-after g.S.Source _ _ _ _ _ _ _ _ _ _ _ c.loop-self.self.joined is c.loop-self.invariant.begun c.loop-self-test.true (omega (arith, same)) (λ stops. absurd (false≢true (sym c.loop-self-test.true ∙ stops))) c.loop-self.self.joined.told }

pub returns-then-count-gt0-clause-given : goal.returns-then-count-gt0-clause-given
returns-then-count-gt0-clause-given g c =
    let is : IsRead c.loop-self.self.lanes.items c.loop-self.self.at c.index_mut.result.now c.read.new.self = record { inside = omega (arith, c.loop-self.self.lanes.ok.0); here = c.index_mut.ensures.value } in
    let e = given-after g.S.Source.given _ _ _ _ _ is c.in-Ok.ensures.given ∙ ap (λ t. t ++ take c.in-Ok.count c.read.new.room) c.loop-self.invariant.given in
    elim c.then-count-gt0.branch [
      | then-count-gt0-via-then-count-gt0 w ↦ ap (λ j. given_upto g.S.Source.given j.at (sources_in j.lanes.items)) w.self-is ∙ e
      | then-count-gt0-via-else-count-gt0+then-is_empty w ↦ ap (λ j. given_upto g.S.Source.given j.at (sources_in j.lanes.items)) w.self-is ∙ e
    ]

pub returns-then-count-gt0-clause-whole : goal.returns-then-count-gt0-clause-whole
returns-then-count-gt0-clause-whole g c =
    let is : IsRead c.loop-self.self.lanes.items c.loop-self.self.at c.index_mut.result.now c.read.new.self = record { inside = omega (arith, c.loop-self.self.lanes.ok.0); here = c.index_mut.ensures.value } in
    let e = ap all_bytes (whole-after g.S.Source.whole _ _ _ _ is c.in-Ok.ensures.whole ∙ c.loop-self.invariant.whole) in
    elim c.then-count-gt0.branch [
      | then-count-gt0-via-then-count-gt0 w ↦ ap (λ j. all_bytes (map g.S.Source.whole (sources_in j.lanes.items))) w.self-is ∙ e
      | then-count-gt0-via-else-count-gt0+then-is_empty w ↦ ap (λ j. all_bytes (map g.S.Source.whole (sources_in j.lanes.items))) w.self-is ∙ e
    ]

pub invariant_of-self-in-Ok : goal.invariant_of-self-in-Ok
invariant_of-self-in-Ok g c =
    let is : IsRead c.loop-self.self.lanes.items c.loop-self.self.at c.index_mut.result.now c.read.new.self = record { inside = omega (arith, c.loop-self.self.lanes.ok.0); here = c.index_mut.ensures.value } in
    let room : 0 < length c.read.new.room = grind arith in
    let over : 0 < g.S.Source.ends c.read.new.self = at-end _ _ _ _ c.if-count-gt0.false room c.in-Ok.ensures.ends in
    let same = c.in-Ok.ensures.failures in
    record { joined = joined-next g.S.Source _ _ _ _ _ _ _ _ _ _ _ c.loop-self.self.joined is c.loop-self.invariant.begun c.loop-self-test.true (omega (arith, same)) c.loop-self-test.true c.loop-self.self.joined.told over }

pub loop-self-preserved-in-Ok : goal.loop-self-preserved-in-Ok
loop-self-preserved-in-Ok g c =
    let is : IsRead c.loop-self.self.lanes.items c.loop-self.self.at c.index_mut.result.now c.read.new.self = record { inside = omega (arith, c.loop-self.self.lanes.ok.0); here = c.index_mut.ensures.value } in
    let zero : c.in-Ok.count ≡ 0 = omega arith in
    let none = c.in-Ok.ensures.given ∙ ap (λ n. g.S.Source.given c.index_mut.result.now.source ++ take n c.read.new.room) zero in
    record {
      given = given-moved g.S.Source.given _ _ _ _ (c.loop-self.self.joined.fresh c.loop-self-test.true) is none ∙ c.loop-self.invariant.given;
      whole = whole-after g.S.Source.whole _ _ _ _ is c.in-Ok.ensures.whole ∙ c.loop-self.invariant.whole;
      begun = c.loop-self.invariant.begun;
      failed = c.loop-self.invariant.failed;
      ended = c.loop-self.invariant.ended;
    }

pub invariant_of-self-in-Err : goal.invariant_of-self-in-Err
invariant_of-self-in-Err g c =
    let is : IsRead c.loop-self.self.lanes.items c.loop-self.self.at c.index_mut.result.now c.read.new.self = record { inside = omega (arith, c.loop-self.self.lanes.ok.0); here = c.index_mut.ensures.value } in
    let more = c.in-Err.ensures.failures in
    record { joined = joined-after g.S.Source _ _ _ _ _ _ _ _ _ _ _ c.loop-self.self.joined is c.loop-self.invariant.begun c.loop-self-test.true (omega (arith, more)) (λ _. omega (arith, more)) (λ _. refl) }

pub loop-self-preserved : goal.loop-self-preserved
loop-self-preserved g c =
    let is : IsRead c.loop-self.self.lanes.items c.loop-self.self.at c.index_mut.result.now c.read.new.self = record { inside = omega (arith, c.loop-self.self.lanes.ok.0); here = c.index_mut.ensures.value } in
    record {
      given = given-after g.S.Source.given _ _ _ _ _ is c.in-Err.ensures.given ∙ append-nil _ ∙ c.loop-self.invariant.given;
      whole = whole-after g.S.Source.whole _ _ _ _ is c.in-Err.ensures.whole ∙ c.loop-self.invariant.whole;
      begun = c.loop-self.invariant.begun;
      failed = c.loop-self.invariant.failed;
      ended = c.loop-self.invariant.ended;
    }

pub returns-else-not-is_empty-clause-ends : goal.returns-else-not-is_empty-clause-ends
returns-else-not-is_empty-clause-ends g c = no-end-counted (length c.args.self.now.ended.items) (length c.loop-self.self.ended.items) c.loop-self.room c.loop-self.invariant.ended c.if-not-is_empty.ensures
