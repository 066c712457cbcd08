use Rattle.std.proofs.Common.{◌∙◌, ◌++◌, ap, append_assoc, map, refl, string_bytes, sym}
use Rattle.ssb_trees.specs.declared.condition.Condition.TheVariants.{rolls-Any, rolls-All}
use Rattle.ssb_spelling.specs.Conditions.{condition_text, further}
use Rattle.ssb_spelling.proofs.Conditioned.{all-grew, any-grew, not-grew, once-pushed}
use Rattle.ssb_spelling.proofs.Spelt.{on-ok, put-more}
use Rattle.ssb_spelling.proofs.condition.+condition.Goals as goal

pub put_further-loop-part-preserved : goal.put_further-loop-part-preserved
put_further-loop-part-preserved g t c =
    let text = condition_text _ (g.S.Spells.text c.args.names.now) in
    let word = c.args.word.now in
    put-more (λ ps. further word (map text ps)) (λ p. word ++ text p) c.args.parts.now c.loop-part.part-index c.part-item.result (string_bytes c.loop-part.out) (string_bytes c.put_condition.new.out) _ (λ p ps. refl) c.loop-part-test.true c.part-item.is
    (c.in_ok-put_condition.ensures ∙ ap (λ s. s ++ text c.part-item.result) c.in_ok-push_str.ensures.bytes ∙ append_assoc (string_bytes c.loop-part.out) word (text c.part-item.result)) c.loop-part.invariant

pub put_condition-returns-in_ok-put_further-in-Any : goal.put_condition-returns-in_ok-put_further-in-Any
put_condition-returns-in_ok-put_further-in-Any g t c =
    on-ok c.push_str-in-Any-2.result
    (any-grew _ (g.S.Spells.text c.args.names.now) c.args.condition.now c.in-Any.parts c.as_slice.result.now c.in-Some.rest.now c.in-Some.first.now (string_bytes c.args.out.now) (string_bytes c.push_str-in-Any.new.self) (string_bytes c.put_condition.new.out) (string_bytes c.put_further.new.out) (string_bytes c.push_str-in-Any-2.new.self)
    (c.in-Any.is ∙ sym (rolls-Any c.in-Any.parts)) c.as_slice.ensures c.in-Some.ensures.cases.0 c.in_ok-push_str-in-Any.ensures.bytes c.in_ok-put_condition-in-Any.ensures c.in_ok-put_further-in-Any.ensures)
    (once-pushed c.push_str-in-Any-2.result (string_bytes c.push_str-in-Any-2.new.self) _ _ c.push_str-in-Any-2.ensures.bytes)

pub put_condition-returns-in_ok-put_further-in-All : goal.put_condition-returns-in_ok-put_further-in-All
put_condition-returns-in_ok-put_further-in-All g t c =
    on-ok c.push_str-in-All-2.result
    (all-grew _ (g.S.Spells.text c.args.names.now) c.args.condition.now c.in-All.parts c.as_slice-in-All.result.now c.in-Some-split_first.rest.now c.in-Some-split_first.first.now (string_bytes c.args.out.now) (string_bytes c.push_str-in-All.new.self) (string_bytes c.put_condition-in-All.new.out) (string_bytes c.put_further-in-All.new.out) (string_bytes c.push_str-in-All-2.new.self)
    (c.in-All.is ∙ sym (rolls-All c.in-All.parts)) c.as_slice-in-All.ensures c.in-Some-split_first.ensures.cases.0 c.in_ok-push_str-in-All.ensures.bytes c.in_ok-put_condition-in-All.ensures c.in_ok-put_further-in-All.ensures)
    (once-pushed c.push_str-in-All-2.result (string_bytes c.push_str-in-All-2.new.self) _ _ c.push_str-in-All-2.ensures.bytes)

pub put_condition-returns-in_ok-push_str-in-Not : goal.put_condition-returns-in_ok-push_str-in-Not
put_condition-returns-in_ok-push_str-in-Not g t c =
    let of = g.S.Spells.text c.args.names.now in
    on-ok c.put_part.result
    (not-grew _ of c.args.condition.now c.in-Not.part c.get-part.result.now c.is_negation.result (string_bytes c.args.out.now) (string_bytes c.push_str-in-Not.new.self) (string_bytes c.put_part.new.out) c.in-Not.is c.get-part.ensures (c.is_negation.ensures of) c.in_ok-push_str-in-Not.ensures.bytes)
    c.put_part.ensures
