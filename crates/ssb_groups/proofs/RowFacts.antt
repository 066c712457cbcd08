-- What groups stand for over two lists of rows taken together.
use Rattle.std.proofs.Common.{◌≡◌, ℕ, List, [], ◌∷◌, ◌++◌, map, Option, None, Some, refl, ap, ◌∙◌, arith}
use Rattle.std.proofs.lemmas.List.{append-nil, map-append}
use Rattle.std.proofs.lemmas.List.Elements.{filter-append}
use Rattle.ssb_plan.specs.JobShape.{JobShape}
use Rattle.ssb_query.specs.declared.column.BoundColumn.{BoundColumn}
use Rattle.ssb_trees.specs.declared.aggregate.Aggregate.{Aggregate}
use Rattle.ssb_groups.specs.Joining.{joining_of, option_joined}
use Rattle.ssb_groups.specs.Rows.{Key, key_eq, SeenRow}
use Rattle.ssb_groups.specs.Stands.{has_over, overflows, least_of, least, group, summary, AreRanged}
use Rattle.ssb_groups.proofs.AggregateFacts.{totals-append}

pub summary-append : (j : JobShape) (aggs : List (Aggregate BoundColumn)) (xs ys : List SeenRow) → summary aggs (xs ++ ys) ≡ option_joined (map (joining_of j) aggs) (summary aggs xs) (summary aggs ys)
summary-append j aggs [] ys = refl
summary-append j aggs (x ∷ xs) [] = ap (summary aggs) (append-nil (x ∷ xs))
summary-append j aggs (x ∷ xs) (y ∷ ys) = ap Some (totals-append j aggs (x ∷ xs) (y ∷ ys))

pub group-append : (k : Key) (xs ys : List SeenRow) → group k (xs ++ ys) ≡ group k xs ++ group k ys
group-append k xs ys = filter-append (λ r. key_eq k r.key) xs ys

pub overflows-append : (xs ys : List SeenRow) → overflows (xs ++ ys) ≡ overflows xs ++ overflows ys
overflows-append xs ys = ap (map (λ r. r.fact)) (filter-append has_over xs ys) ∙ map-append _ _ _

pub least_of-assoc : (a b c : Option ℕ) → least_of a (least_of b c) ≡ least_of (least_of a b) c
least_of-assoc None b c = refl
least_of-assoc (Some a) None c = refl
least_of-assoc (Some a) (Some b) None = refl
least_of-assoc (Some a) (Some b) (Some c) = ap Some (omega arith)

pub least-append : (xs ys : List ℕ) → least (xs ++ ys) ≡ least_of (least xs) (least ys)
least-append [] ys = refl
least-append (x ∷ xs) ys = ap (least_of (Some x)) (least-append xs ys) ∙ least_of-assoc (Some x) (least xs) (least ys)

pub AreRanged-append : (xs ys : List SeenRow) → AreRanged xs → AreRanged ys → AreRanged (xs ++ ys)
AreRanged-append [] ys p q = q
AreRanged-append (x ∷ xs) ys p q = (p.0, AreRanged-append xs ys p.1 q)
