use Rattle.std.proofs.Common.{◌≡◌, ◌∙◌, ◌++◌, ◌∷◌, ◌+◌, ap, drop, get_or, pos, sym, rules, w64, to_z, of_z}
use Rattle.std.proofs.lemmas.List.{at_drop_more}
use Rattle.ssb_explain.specs.Members.{intervals_from}
use Rattle.ssb_explain.proofs.members.intervals_of.Goals as goal

pub loop-at-preserved : goal.loop-at-preserved
loop-at-preserved c =
    let cuts = c.args.cuts.now in
    let at = c.loop-at.at in
    let all = c.loop-at.intervals.items in
    let from = intervals_from c.loop-at.has c.loop-at.low in
    let same : to_z w64 (of_z w64 (get_or cuts at (pos 0))) ≡ get_or cuts at (pos 0) = search rules in
    c.in_ok-low.ensures (drop (at + 1) cuts) ∙ ap (λ cut. all ++ from (cut ∷ drop (at + 1) cuts)) same ∙ ap (λ rest. all ++ rest) (sym (at_drop_more from cuts at (pos 0) c.loop-at-test.true)) ∙ c.loop-at.invariant
