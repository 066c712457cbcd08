use Rattle.std.proofs.Common.{◌≡◌, ◌+◌, ◌-◌, ◌+ℤ◌, ◌<ℤ◌, arith, pos, rules, sym, to_z, of_z, w64}
use Rattle.std.proofs.lemmas.Int.{ints}
use Rattle.ssb_sets.proofs.CheckFacts.{abs-of, run-flags}
use Rattle.ssb_sets.proofs.set.NumberSet.flags.Goals as goal

pub runs-preserved : goal.runs-preserved
runs-preserved c =
    let before = c.runs.invariant in
    let told = c.in_ok-fill.ensures in
    let from = to_z w64 (of_z w64 c.args.from) in
    let cut = to_z w64 (of_z w64 c.in-Some.cut) in
    let exact : cut ≡ c.in-Some.cut = search rules in
    let behind : to_z w64 c.runs.start-bits <ℤ c.in-Some.cut = c.in-Some.ensures.behind in
    let within = c.in-Some.ensures.within in
    let begins = before.behind in
    let at : from +ℤ pos c.abs_diff.result ≡ cut = rw c.abs_diff.ensures (abs-of from cut (omega (arith, ints, exact, behind, begins))) in
    let ends : from +ℤ pos (c.abs_diff.result - 1 + 1) ≡ cut = omega (arith, ints, exact, at, behind, begins) in
    let long = told.count in
    record {
      behind = omega (arith, ints, exact, behind, begins);
      within = omega (arith, ints, exact, within);
      count = omega (arith, ints, long, ends);
      each = run-flags c.args.self.now from _ cut c.runs.flags.items c.fill.new.flags.items (c.abs_diff.result - 1) c.has-said.result before.count ends (omega (arith, ints, exact, behind)) long
          before.each c.has-said.ensures (λ n above below. c.in-Some.ensures.stays n above (omega (arith, ints, exact, below))) told.old told.new;
    }

pub returns-clause-each : goal.returns-clause-each
returns-clause-each c =
    let before = c.runs.invariant in
    let told = c.in_ok-fill-2.ensures in
    let from = to_z w64 (of_z w64 c.args.from) in
    let to = to_z w64 (of_z w64 c.args.to) in
    let exact : from ≡ c.args.from = search rules in
    let begins = before.behind in
    let within = before.within in
    let at : from +ℤ pos c.abs_diff-2.result ≡ to = rw c.abs_diff-2.ensures (abs-of from to (omega (arith, ints, within, begins))) in
    let stays = c.in_default.ensures in
    rw (sym exact) (run-flags c.args.self.now from _ (to +ℤ pos 1) c.runs.flags.items c.fill-2.new.flags.items c.abs_diff-2.result c.has-said-2.result before.count
    (omega (arith, ints, at)) (omega (arith, ints, within)) told.count
    before.each c.has-said-2.ensures (λ n above below. stays n above (omega (arith, ints, below))) told.old told.new)
