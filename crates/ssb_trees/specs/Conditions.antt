-- Conditions over any operands: the same condition over others, and the operands that it has.
-- Source: own; the forms are those of SQL-92, 8.12 <search condition>.
use Rattle.std.specs.Prelude.{List, [], ◌∷◌, map, Option, Some, None}
use Rattle.ssb_trees.specs.Lists.{concat}
use Rattle.ssb_trees.specs.declared.condition.Condition.{Condition}
use Rattle.ssb_trees.specs.declared.condition.Condition.TheVariants as condition
use Rattle.ssb_trees.specs.declared.condition.Condition.TheOpen.{Condition-F}
use Rattle.ssb_trees.specs.declared.condition.Condition.TheFolds.{fold-Condition}
use Rattle.ssb_trees.specs.declared.operand.Operand.{Operand}
use Rattle.ssb_trees.specs.declared.operand.Operand.TheVariants as operand

-- a condition over columns and literals, as WHERE has one
abbrev pub Filter : Type 0 → Type 0
Filter C = Condition (Operand C)

-- the same operand with f of its column
abbrev pub mapped_operand : (C D : Type 0) → (C → D) → Operand C → Operand D
mapped_operand C D f (operand.Column c) = operand.Column (f c)
mapped_operand C D f (operand.Literal l) = operand.Literal l

-- the column of an operand, where it is one
abbrev pub operand_columns : {C : Type 0} → Operand C → List C
operand_columns (operand.Column c) = c ∷ []
operand_columns (operand.Literal l) = []

-- one form of condition, with f of each operand
abbrev pub mapped_layer : (O P : Type 0) → (O → P) → Condition-F O (Condition P) → Condition P
mapped_layer O P f (Condition-F.Any parts) = condition.Any parts
mapped_layer O P f (Condition-F.All parts) = condition.All parts
mapped_layer O P f (Condition-F.Not part) = condition.Not part
mapped_layer O P f (Condition-F.Compare op a b) = condition.Compare op (f a) (f b)
mapped_layer O P f (Condition-F.Between x a b negated) = condition.Between (f x) (f a) (f b) negated
mapped_layer O P f (Condition-F.In x literals negated) = condition.In (f x) literals negated
mapped_layer O P f (Condition-F.IsNull x negated) = condition.IsNull (f x) negated

-- the same condition with f of each operand
abbrev pub mapped : (O P : Type 0) → (O → P) → Condition O → Condition P
mapped O P f = fold-Condition O (Condition P) (mapped_layer O P f)

-- What an operand becomes may depend on those before it: a state is handed on from one to the next, in the order of the text.

-- what each makes of the state that it is handed, and the state after the last
abbrev pub each_in_order : {X S : Type 0} → List (S → X × S) → S → List X × S
each_in_order [] s = ([], s)
each_in_order (make ∷ makes) s = let x = make s in let xs = each_in_order makes x.1 in (x.0 ∷ xs.0, xs.1)

-- one form of condition, with what each operand becomes in its turn
abbrev pub in_order_layer : (O P S : Type 0) → (S → O → P) → (S → O → S) → Condition-F O (S → Condition P × S) → S → Condition P × S
in_order_layer O P S given next (Condition-F.Any parts) s = let r = each_in_order parts s in (condition.Any r.0, r.1)
in_order_layer O P S given next (Condition-F.All parts) s = let r = each_in_order parts s in (condition.All r.0, r.1)
in_order_layer O P S given next (Condition-F.Not part) s = let r = part s in (condition.Not r.0, r.1)
in_order_layer O P S given next (Condition-F.Compare op a b) s = let t = next s a in (condition.Compare op (given s a) (given t b), next t b)
in_order_layer O P S given next (Condition-F.Between x a b negated) s = let t = next s x in let u = next t a in (condition.Between (given s x) (given t a) (given u b) negated, next u b)
in_order_layer O P S given next (Condition-F.In x literals negated) s = (condition.In (given s x) literals negated, next s x)
in_order_layer O P S given next (Condition-F.IsNull x negated) s = (condition.IsNull (given s x) negated, next s x)

-- the same condition with what each operand becomes in its turn, and the state after the last
abbrev pub in_order : (O P S : Type 0) → (S → O → P) → (S → O → S) → Condition O → S → Condition P × S
in_order O P S given next = fold-Condition O (S → Condition P × S) (in_order_layer O P S given next)

-- one form of condition, with the operands of the conditions in it
abbrev pub operands_layer : (O : Type 0) → Condition-F O (List O) → List O
operands_layer O (Condition-F.Any parts) = concat parts
operands_layer O (Condition-F.All parts) = concat parts
operands_layer O (Condition-F.Not part) = part
operands_layer O (Condition-F.Compare op a b) = a ∷ b ∷ []
operands_layer O (Condition-F.Between x a b negated) = x ∷ a ∷ b ∷ []
operands_layer O (Condition-F.In x literals negated) = x ∷ []
operands_layer O (Condition-F.IsNull x negated) = x ∷ []

-- the operands of a condition, in the order of its text, without the literals of IN
abbrev pub operands : (O : Type 0) → Condition O → List O
operands O = fold-Condition O (List O) (operands_layer O)

-- ---- columns

abbrev pub condition_columns : {C : Type 0} → Filter C → List C
condition_columns {C} c = concat (map operand_columns (operands (Operand C) c))

-- the columns of a condition, in the order of its text, where there is one
abbrev pub filter_columns : {C : Type 0} → Option (Filter C) → List C
filter_columns None = []
filter_columns (Some c) = condition_columns c

-- the same condition with f of each column
abbrev pub mapped_columns : {C D : Type 0} → (C → D) → Filter C → Filter D
mapped_columns {C} {D} f = mapped (Operand C) (Operand D) (mapped_operand C D f)

abbrev pub mapped_filter : {C D : Type 0} → (C → D) → Option (Filter C) → Option (Filter D)
mapped_filter f None = None
mapped_filter f (Some c) = Some (mapped_columns f c)
