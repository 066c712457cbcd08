-- HAVING is bound operand by operand.
use Rattle.std.proofs.Common.{◌≡◌, List, [], ◌∷◌, ◌++◌, length, fold, Option, Some, None, refl, ap, ◌∙◌, append_assoc}
use Rattle.std.specs.Bool.{⊤}
use Rattle.std.specs.List.{filter_map, cons_option}
use Rattle.ssb_trees.specs.Conditions.{Filter, in_order, operands}
use Rattle.ssb_trees.specs.declared.operand.Operand.{Operand}
use Rattle.ssb_trees.proofs.Turns.{goes, turned}
use Rattle.ssb_query.specs.declared.query.Origin.{Origin}
use Rattle.ssb_bind.specs.Binding.{and_aggregate, and_last, operand_of, operands_of, BindsHaving}
use Rattle.ssb_bind.specs.Bound.{having_aggregates, operand_aggregate}
use Rattle.ssb_bind.specs.Query.{form}
use Rattle.ssb_bind.specs.declared.bind_having.Numbering.{Numbering}
use Rattle.ssb_bind.specs.declared.resolved.ResolvedOutput.{ResolvedOutput}

abbrev given : Numbering → Operand ResolvedOutput → Operand Origin
given s o = operand_of (length s.aggregates) o

abbrev next : Numbering → Operand ResolvedOutput → Numbering
next s o = record { aggregates = and_aggregate s.aggregates o }

turned_is : (s : Numbering) (os : List (Operand ResolvedOutput)) → turned given next s os ≡ operands_of s.aggregates os
turned_is s [] = refl
turned_is s (o ∷ os) = ap (λ z. given s o ∷ z) (turned_is (next s o) os)

one_more : {A : Type 0} (all : List A) (a : Option A) (rest : List A) → and_last all a ++ rest ≡ all ++ cons_option a rest
one_more all None rest = refl
one_more all (Some a) rest = append_assoc all (a ∷ []) rest

nothing_behind : {A : Type 0} (xs : List A) → xs ≡ xs ++ []
nothing_behind [] = refl
nothing_behind (x ∷ xs) = ap (λ zs. x ∷ zs) (nothing_behind xs)

last_is : (s : Numbering) (os : List (Operand ResolvedOutput)) → (fold next s os).aggregates ≡ s.aggregates ++ filter_map operand_aggregate os
last_is s [] = nothing_behind s.aggregates
last_is s (o ∷ os) = last_is (next s o) os ∙ one_more s.aggregates (operand_aggregate o) (filter_map operand_aggregate os)

pub binds : (s t : Numbering) (h : Filter ResolvedOutput) (b : Filter Origin) → (let r = in_order (Operand ResolvedOutput) (Operand Origin) Numbering given next h s in (b ≡ r.0) × (t ≡ r.1))
    → BindsHaving s.aggregates (Some h) (Some b) × (t.aggregates ≡ s.aggregates ++ having_aggregates (Some h))
binds s t h b e =
    let all = operands (Operand ResolvedOutput) h in
    let g = goes (Operand ResolvedOutput) (Operand Origin) Numbering ⊤ given next (λ p. tt) (λ o. tt) (λ s o. refl) h s in (
      (ap form e.0 ∙ g.form, ap (operands (Operand Origin)) e.0 ∙ g.each ∙ turned_is s all),
      ap (λ o. o.aggregates) e.1 ∙ ap (λ o. o.aggregates) g.last ∙ last_is s all,
    )
