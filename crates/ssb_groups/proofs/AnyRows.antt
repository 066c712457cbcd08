-- For any rows there are groups that stand for them: each key once, with the aggregates of its group.
use Rattle.std.proofs.Common.{◌≡◌, ◌∙◌, true≢false, ◌++◌, ◌∷◌, [], Bool, true, false, cond, List, map, length, None, Some, refl, sym, ap, append_assoc, append-nil, subst}
use Rattle.std.specs.Prelude.{if◌then◌else◌}
use Rattle.std.specs.List.{AllByRecursion, IsDistinct, filter}
use Rattle.std.specs.Cmp.{IsEquivalence}
use Rattle.std.specs.Map.{lookup}
use Rattle.indexmap.specs.IndexMap.{insert_entry}
use Rattle.ssb_cells.specs.Cell.{Cell}
use Rattle.ssb_query.specs.declared.column.BoundColumn.{BoundColumn}
use Rattle.ssb_trees.specs.declared.aggregate.Aggregate.{Aggregate}
use Rattle.ssb_plan.specs.JobShape.{JobShape}
use Rattle.ssb_groups.specs.Aggregates.{totals}
use Rattle.ssb_groups.specs.Rows.{Key, SeenRow, key_eq}
use Rattle.ssb_groups.specs.Stands.{AnyRowsHaveGroups, AreRanged, EachRanged, GroupMap, SomeGroups, Stands, group, least, overflows, summary}
use Rattle.ssb_groups.proofs.KeyFacts.{key_eq_laws}
use Rattle.ssb_groups.proofs.RowFacts.{AreRanged-append, group-append, least-append, overflows-append}
use Rattle.ssb_groups.proofs.StandsFacts.{Stands-nothing, none_left}

abbrev Entries : Type 0
Entries = List (Key × List Cell)

-- ---- a look-up in a list with one entry inserted

module _ {K X : Type 0} {eq : K → K → Bool} (laws : IsEquivalence eq) (q k : K) (v : X) where
  lookup-insert_entry : (es : List (K × X)) → lookup (eq q) (insert_entry eq es k v) ≡ cond (eq k q) (Some v) (lookup (eq q) es)
  lookup-insert_entry [] = ap (λ t. cond t (Some v) None) (laws.symm q k)
  lookup-insert_entry (e ∷ es) = by (lookup-insert_entry es) (eq k e.0) (eq q e.0) (eq k q) refl refl refl
    where
      by : lookup (eq q) (insert_entry eq es k v) ≡ cond (eq k q) (Some v) (lookup (eq q) es) → (a b c : Bool) → eq k e.0 ≡ a → eq q e.0 ≡ b → eq k q ≡ c → lookup (eq q) (if a then (e.0, v) ∷ es else e ∷ insert_entry eq es k v) ≡ cond c (Some v) (cond b (Some e.1) (lookup (eq q) es))
      by rest true true true ea eb ec = ap (λ t. cond t (Some v) (lookup (eq q) es)) eb
      by rest true true false ea eb ec = absurd (true≢false (sym eb ∙ laws.symm q e.0 ∙ sym (laws.congr k e.0 q ea) ∙ ec))
      by rest true false true ea eb ec = absurd (true≢false (sym ec ∙ laws.congr k e.0 q ea ∙ laws.symm e.0 q ∙ eb))
      by rest true false false ea eb ec = ap (λ t. cond t (Some v) (lookup (eq q) es)) eb
      by rest false true true ea eb ec = absurd (true≢false (sym eb ∙ sym (laws.congr k q e.0 ec) ∙ ea))
      by rest false true false ea eb ec = ap (λ t. cond t (Some e.1) (lookup (eq q) (insert_entry eq es k v))) eb
      by rest false false true ea eb ec =
          ap (λ t. cond t (Some e.1) (lookup (eq q) (insert_entry eq es k v))) eb ∙ rest ∙ ap (λ t. cond t (Some v) (lookup (eq q) es)) ec
      by rest false false false ea eb ec =
          ap (λ t. cond t (Some e.1) (lookup (eq q) (insert_entry eq es k v))) eb ∙ rest ∙ ap (λ t. cond t (Some v) (lookup (eq q) es)) ec

-- ---- keys stay distinct

each-inserted : (P : Key → Type 0) (es : Entries) (k : Key) (w : List Cell) → AllByRecursion P (map (λ e. e.0) es) → P k → AllByRecursion P (map (λ e. e.0) (insert_entry key_eq es k w))
each-inserted P [] k w all here = (here, tt)
each-inserted P (e ∷ es) k w all here =
    elim (key_eq k e.0) as (λ t. AllByRecursion P (map (λ x. x.0) (if t then (e.0, w) ∷ es else e ∷ insert_entry key_eq es k w))) [
      | true ↦ all
      | false ↦ (all.0, each-inserted P es k w all.1 here)
    ]

distinct-inserted : (es : Entries) (k : Key) (w : List Cell) → IsDistinct key_eq (map (λ e. e.0) es) → IsDistinct key_eq (map (λ e. e.0) (insert_entry key_eq es k w))
unfolding IsDistinct
distinct-inserted [] k w d = (tt, tt)
distinct-inserted (e ∷ es) k w d = by (distinct-inserted es k w d.1) (key_eq k e.0) refl
  where
    by : IsDistinct key_eq (map (λ x. x.0) (insert_entry key_eq es k w)) → (b : Bool) → key_eq k e.0 ≡ b → IsDistinct key_eq (map (λ x. x.0) (if b then (e.0, w) ∷ es else e ∷ insert_entry key_eq es k w))
    by rest true is = d
    by rest false is = (each-inserted (λ y. key_eq e.0 y ≡ false) es k w d.0 (key_eq_laws.symm e.0 k ∙ is), rest)

-- ---- one more row

some-total : (aggs : List (Aggregate BoundColumn)) (xs : List SeenRow) (r : SeenRow) → Some (totals aggs (xs ++ r ∷ [])) ≡ summary aggs (xs ++ r ∷ [])
some-total aggs [] r = refl
some-total aggs (x ∷ xs) r = refl

-- the row is in the group of its own key
own-group : (A : List SeenRow) (r : SeenRow) → group r.key (A ++ r ∷ []) ≡ group r.key A ++ r ∷ []
own-group A r = group-append r.key A (r ∷ []) ∙ ap (λ b. group r.key A ++ cond b (r ∷ []) []) (key_eq_laws.refl r.key)

step : (g : GroupMap) (A : List SeenRow) (r : SeenRow) → Stands g A → EachRanged r.arguments → SomeGroups g.job (A ++ r ∷ [])
step g A r p ranged = record {
  groups = n;
  job = refl;
  stands = record {
    ranged = AreRanged-append A (r ∷ []) p.ranged (ranged, tt);
    counted = refl;
    overflow = refl;
    exact = λ none k. lookup-insert_entry key_eq_laws k r.key w g.entries ∙ by none k (key_eq r.key k) refl;
    distinct = distinct-inserted g.entries r.key w p.distinct;
  };
}
  where
    aggs : List (Aggregate BoundColumn)
    aggs = g.job.query.aggregates

    w : List Cell
    w = totals aggs (group r.key (A ++ r ∷ []))

    n : GroupMap
    n = record { job = g.job; entries = insert_entry key_eq g.entries r.key w; overflow = least (overflows (A ++ r ∷ [])); counted = length (A ++ r ∷ []) }

    by : least (overflows (A ++ r ∷ [])) ≡ None → (k : Key) (b : Bool) → key_eq r.key k ≡ b → cond b (Some w) (lookup (key_eq k) g.entries) ≡ summary aggs (group k (A ++ r ∷ []))
    by none k true is =
        let same : group r.key (A ++ r ∷ []) ≡ group k (A ++ r ∷ []) = (λ i. filter (λ (x : SeenRow). key_eq_laws.congr r.key k x.key is i) (A ++ r ∷ [])) in
        ap (λ xs. Some (totals aggs xs)) (own-group A r) ∙ some-total aggs (group r.key A) r ∙ ap (summary aggs) (sym (own-group A r) ∙ same)
    by none k false is =
        let before : g.overflow ≡ None = p.overflow ∙ none_left (least (overflows A)) (least (overflows (r ∷ []))) (sym (ap least (overflows-append A (r ∷ [])) ∙ least-append (overflows A) (overflows (r ∷ []))) ∙ none) in
        p.exact before k ∙ ap (summary aggs) (sym (group-append k A (r ∷ []) ∙ ap (λ b. group k A ++ cond b (r ∷ []) []) (key_eq_laws.symm k r.key ∙ is) ∙ append-nil (group k A)))

-- ---- all rows, one after the other

more : (j : JobShape) (B A : List SeenRow) (g : GroupMap) → g.job ≡ j → Stands g A → AreRanged B → SomeGroups j (A ++ B)
more j [] A g is p ranged = record { groups = g; job = is; stands = subst (Stands g) (sym (append-nil A)) p }
more j (r ∷ rs) A g is p ranged =
    let n = step g A r p ranged.0 in
    let rest = more j rs (A ++ r ∷ []) n.groups (n.job ∙ is) n.stands ranged.1 in
    record { groups = rest.groups; job = rest.job; stands = subst (Stands rest.groups) (append_assoc A (r ∷ []) rs) rest.stands }

pub stands_for_any : AnyRowsHaveGroups
stands_for_any j R ranged =
    let none : GroupMap = record { job = j; entries = []; overflow = None; counted = 0 } in
    more j R [] none refl (Stands-nothing none refl refl refl) ranged
