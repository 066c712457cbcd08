-- Whether a condition has a number beside a text, by its form.
use Rattle.std.proofs.Common.{◌≡◌, Bool, ap, ◌∙◌}
use Rattle.ssb_trees.specs.Types.{Kinds, is_mixed, mixed_layer}
use Rattle.ssb_trees.proofs.Forms.{of_form, rolls}
use Rattle.ssb_trees.specs.Conditions.{Filter}
use Rattle.ssb_trees.specs.declared.condition.Condition.TheOpen.{Condition-F}
use Rattle.ssb_trees.specs.declared.condition.Condition.TheFolds.{fold-roll-Condition, map-Condition}
use Rattle.ssb_trees.specs.declared.operand.Operand.{Operand}

pub mixed_of : (C : Type 0) (kind : Kinds C) (c : Filter C) (x : Condition-F (Operand C) (Filter C)) → c ≡ of_form (Operand C) x → is_mixed kind c ≡ mixed_layer kind (map-Condition (Operand C) (Filter C) Bool (is_mixed kind) x)
mixed_of C kind c x is = ap (is_mixed kind) (is ∙ rolls (Operand C) x) ∙ fold-roll-Condition (Operand C) Bool (mixed_layer kind) x
