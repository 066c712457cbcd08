use Rattle.std.proofs.Common.{◌≡◌, ◌∙◌, arith, ap, rules, to_z, of_z, w64}
use Rattle.ssb_cells.specs.Cell.{text}
use Rattle.ssb_cells.specs.Codes.{texts_of}
use Rattle.ssb_cells.specs.Compare.{compare}
use Rattle.ssb_cells.specs.Truth.{is_true}
use Rattle.ssb_conditions.specs.Holds.{literal_cell}
use Rattle.ssb_plan.proofs.Encodings.{below-kept, below-none, below-turned, texts-told}
use Rattle.ssb_plan.proofs.leaves.texts_that.Goals as goal
use Rattle.ssb_plan.proofs.leaves.texts_that.Goals.{then-now-said+in_ok-turn_from, else-now-said}

pub loop-code-init : goal.loop-code-init
loop-code-init c = below-none (texts_of c.args.column.now.values) c.args.op (literal_cell c.args.literal.now) c.constant-set.result c.constant-set.ensures.none c.constant-set.ensures.same

pub turn_from-requires : goal.turn_from-requires
turn_from-requires c =
    let same : to_z w64 (of_z w64 c.from.result) ≡ c.from.result = search rules in
    rw (same, c.from.ensures) c.loop-code.invariant.cuts

pub loop-code-preserved : goal.loop-code-preserved
loop-code-preserved c =
    let texts = texts_of c.args.column.now.values in
    let other = literal_cell c.args.literal.now in
    let now : c.is_true-now.result ≡ is_true (compare c.args.op (text c.spelt.result.now) other) = c.is_true-now.ensures ∙ ap is_true (c.compare.ensures ∙ ap (compare c.args.op (text c.spelt.result.now)) c.literal_value-value.ensures) in
    elim c.if-now-said.branch [
      | then-now-said+in_ok-turn_from w ↦
          let same : to_z w64 (of_z w64 w.from.result) ≡ w.from.result = search rules in
          let says = rw (same, w.from.ensures) at w.in_ok-turn_from.ensures.says in
          let order = rw (same, w.from.ensures) at w.in_ok-turn_from.ensures.order in
          rw (w.set-is, w.said-is) (below-turned texts c.args.op other c.loop-code.set w.turn_from.new.self c.loop-code.said c.is_true-now.result c.loop-code.code c.spelt.result.now c.loop-code.invariant c.spelt.ensures now w.if-now-said.true says order)
      | else-now-said w ↦
          rw (w.set-is, w.said-is) (below-kept texts c.args.op other c.loop-code.set c.loop-code.said c.is_true-now.result c.loop-code.code c.spelt.result.now c.loop-code.invariant c.spelt.ensures now w.if-now-said.false)
    ]

pub returns : goal.returns
returns c = texts-told c.args.column.now c.args.op c.args.literal.now c.loop-code.set c.loop-code.said c.loop-code.code c.loop-code.invariant (omega (arith, c.loop-code-test.false, c.text_count-code-end.ensures))
