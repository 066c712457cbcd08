use Rattle.std.proofs.Common.{◌≡◌, ◌∙◌, ◌++◌, ◌∷◌, [], pos, true, false, ap, sym, rules, w64, to_z, of_z}
use Rattle.ssb_sets.specs.NumberSets.{has}
use Rattle.ssb_explain.proofs.MemberFacts.{code-missing, code-there}
use Rattle.ssb_explain.proofs.members.codes_in.Goals as goal
use Rattle.ssb_explain.proofs.members.codes_in.Goals.{then-has+in_ok-push, else-has}

pub loop-code-preserved : goal.loop-code-preserved
loop-code-preserved c =
    let s = c.args.set.now in
    let n = c.loop-code.code in
    let same : to_z w64 (of_z w64 c.from.result) ≡ pos n = search rules in
    elim c.if-has.branch [
      | then-has+in_ok-push w ↦
          let there : has s (pos n) ≡ true = ap (has s) (sym same) ∙ sym c.has.ensures ∙ w.if-has.true in
          rw w.all-is (w.in_ok-push.ensures.items ∙ ap (λ ns. ns ++ n ∷ []) c.loop-code.invariant ∙ sym (code-there s n there))
      | else-has w ↦
          let missing : has s (pos n) ≡ false = ap (has s) (sym same) ∙ sym c.has.ensures ∙ w.if-has.false in
          rw w.all-is (c.loop-code.invariant ∙ sym (code-missing s n missing))
    ]
