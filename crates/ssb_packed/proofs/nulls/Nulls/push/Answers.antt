use Rattle.std.proofs.Common.{◌≡◌, ◌<◌, ◌∙◌, nat_eq, if◌then◌else◌, sym, ap, arith}
use Rattle.ssb_packed.specs.Lent.{flag_at}
use Rattle.ssb_packed.specs.declared.nulls.Nulls.TheInside.{Inside}
use Rattle.ssb_packed.proofs.FlagFacts.{Writes, length-flags, push-flag, unset}
use Rattle.ssb_packed.proofs.nulls.Nulls.push.Goals as goal
use Rattle.ssb_packed.proofs.nulls.Nulls.push.Goals.{then-flag+in_ok-set_flag, else-flag}

pub overflow_add-self : goal.overflow_add-self
overflow_add-self c =
    let room : c.self.inside.len < 4294967295 = rw (length-flags c.self.inside.words.items c.self.inside.len) at (rw (← c.self.view_is) at c.requires) in
    elim c.if-flag.branch [
      | then-flag+in_ok-set_flag w ↦ let e = ap (λ (n : Inside). n.len) w.self-inside-is in omega (arith, room, e)
      | else-flag w ↦ let e = ap (λ (n : Inside). n.len) w.self-inside-is in omega (arith, room, e)
    ]

pub returns-clause-ok : goal.returns-clause-ok
returns-clause-ok c =
    let words = c.self.inside.words.items in
    let len = c.self.inside.len in
    let writes : Writes words c.if-flag.self-inside.words.items len c.args.flag = λ i. elim c.if-flag.branch [
      | then-flag+in_ok-set_flag w ↦ ap (λ (n : Inside). flag_at n.words.items i) w.self-inside-is ∙ w.in_ok-set_flag.ensures.ok i ∙ ap (λ b. if nat_eq i len then b else flag_at words i) (sym w.if-flag.true)
      | else-flag w ↦ ap (λ (n : Inside). flag_at n.words.items i) w.self-inside-is ∙ unset words len (c.self.invariant len (omega arith)) i ∙ ap (λ b. if nat_eq i len then b else flag_at words i) (sym w.if-flag.false)
    ] in
    let same : c.if-flag.self-inside.len ≡ len = elim c.if-flag.branch [ then-flag+in_ok-set_flag w ↦ ap (λ (n : Inside). n.len) w.self-inside-is | else-flag w ↦ ap (λ (n : Inside). n.len) w.self-inside-is ] in
    rw (← c.self.view_is, same) (push-flag words c.if-flag.self-inside.words.items len c.args.flag writes)
