-- Groups to which rows are added, place by place.
use Rattle.std.proofs.Common.{◌≡◌, ◌∙◌, inl, inr, ⊎_elim, ℕ, ◌+◌, ◌≤◌, true, false, List, [], ◌∷◌, ◌++◌, length, map, get_or, slice_get, Option, None, Some, refl, sym, ap, ap₂, subst, arith, length-append}
use Rattle.std.specs.List.{IsDistinct}
use Rattle.std.specs.Map.{lookup}
use Rattle.std.proofs.lemmas.Option.{same_Some}
use Rattle.ssb_cells.specs.Cell.{Cell}
use Rattle.ssb_plan.specs.JobShape.{JobShape}
use Rattle.ssb_query.specs.declared.column.BoundColumn.{BoundColumn}
use Rattle.ssb_trees.specs.declared.aggregate.Aggregate.{Aggregate}
use Rattle.ssb_groups.specs.Aggregates.{agg, arguments_at}
use Rattle.ssb_groups.specs.Keys.{cells_in, kept_total, spelt_cell}
use Rattle.ssb_groups.specs.Places.{rows_at}
use Rattle.ssb_groups.specs.Rows.{Key, SeenRow, key_eq}
use Rattle.ssb_groups.specs.Stands.{AreRanged, GroupMap, Stands, group, least, least_of, overflows, summary}
use Rattle.ssb_groups.specs.Tallies.{AllTell, AreTallies, IsTotal, entries_of, texts_of, total_at, totals_at, totals_in}
use Rattle.ssb_groups.specs.GroupKeys.{GroupKey}
use Rattle.ssb_groups.specs.declared.kept.KeptTotal.{KeptTotal}
use Rattle.ssb_groups.proofs.Bounds.{summary_is}
use Rattle.ssb_groups.proofs.GroupFacts.{AreApart, entries-keys, get-none, get-within, group-same, group_at, group_of, lookup-at, lookup-none, others-apart, search-key, summary-none, summary-some, totals-are, totals-each}
use Rattle.ssb_groups.proofs.KeyFacts.{key_eq_laws}
use Rattle.ssb_groups.proofs.PlaceFacts.{get-front}
use Rattle.ssb_groups.proofs.RowFacts.{AreRanged-append, group-append, least-append, overflows-append}

-- ---- groups as they are kept

-- the entries of groups are those of keys with their tallies
pub record AreKeptAs (g : GroupMap) (ks : List GroupKey) (tallies : List (List KeptTotal)) : Type 0 where
  pub entries : g.entries ≡ entries_of g.job ks tallies
  pub apart : AreApart g.job ks
  pub tallies_are : AreTallies g.job (length ks) tallies

module _ (g : GroupMap) (A : List SeenRow) (ks : List GroupKey) (tallies : List (List KeptTotal)) (stands : Stands g A) (none : g.overflow ≡ None) (kept : AreKeptAs g ks tallies) where
  abbrev j : JobShape
  j = g.job

  -- a key's totals are those of its group, which has rows
  lookup-here : (p : ℕ) (k : GroupKey) → slice_get ks p ≡ Some k → summary j.query.aggregates (group (cells_in j k) A) ≡ Some (totals_in j (totals_at tallies p))
  lookup-here p k at =
      sym (stands.exact none (cells_in j k)) ∙ ap (lookup (key_eq (cells_in j k))) kept.entries ∙ lookup-at j tallies (cells_in j k) ks 0 p k kept.apart at (key_eq_laws.refl (cells_in j k))
      ∙ (let z : 0 + p ≡ p = omega arith in ap (λ n. Some (totals_in j (totals_at tallies n))) z)

  pub rows-here : (p : ℕ) (k : GroupKey) → slice_get ks p ≡ Some k → group (cells_in j k) A ≡ [] → ⊥
  rows-here p k at empty = let e = sym (lookup-here p k at) ∙ ap (summary j.query.aggregates) empty in some-none (totals_in j (totals_at tallies p)) e
    where
      some-none : (x : List Cell) → Some x ≡ None → ⊥
      some-none x e = cc e

  pub tells-here : (p : ℕ) (k : GroupKey) → slice_get ks p ≡ Some k → (i : ℕ) (a : Aggregate BoundColumn) → slice_get j.query.aggregates i ≡ Some a → total_at (texts_of j a) (get_or tallies i []) p ≡ agg a (arguments_at i (group (cells_in j k) A))
  tells-here p k at i a e =
      let z : 0 + i ≡ i = omega arith in
      totals-each j p (group (cells_in j k) A) 0 j.query.aggregates tallies kept.tallies_are.many (summary_is j.query.aggregates (group (cells_in j k) A) (totals_in j (totals_at tallies p)) (lookup-here p k at)) i a e
      ∙ ap (λ n. agg a (arguments_at n (group (cells_in j k) A))) z

  -- values that no key has are those of no row
  pub no-rows : (q : Key) → ((p : ℕ) (k : GroupKey) → slice_get ks p ≡ Some k → key_eq q (cells_in j k) ≡ false) → group q A ≡ []
  no-rows q absent = summary-none j.query.aggregates (group q A) (sym (stands.exact none q) ∙ ap (lookup (key_eq q)) kept.entries ∙ lookup-none j tallies q ks 0 absent)

  -- before more rows are added, the tallies tell the rows of the keys that there will be
  module _ (new : List GroupKey) (rest : List GroupKey) (front : new ≡ ks ++ rest) (apart : AreApart j new) where
    old-key : (p : ℕ) (k : GroupKey) → slice_get ks p ≡ Some k → slice_get new p ≡ Some k
    old-key p k at = ap (λ xs. slice_get xs p) front ∙ get-front ks rest p k at

    -- behind the old keys there are no rows yet
    none-behind : (p : ℕ) (k : GroupKey) → slice_get new p ≡ Some k → length ks ≤ p → group (cells_in j k) A ≡ []
    none-behind p k at past =
        no-rows (cells_in j k) (λ n g e. key_eq_laws.symm (cells_in j k) (cells_in j g) ∙ others-apart j new n p g k apart (old-key n g e) at (let lt = get-within ks n g e in omega (arith, lt, past)))

    tells-at : (i : ℕ) (a : Aggregate BoundColumn) → slice_get j.query.aggregates i ≡ Some a → (p : ℕ) (o : Option GroupKey) → slice_get new p ≡ o → IsTotal i a (group_of j o A) (total_at (texts_of j a) (get_or tallies i []) p)
    tells-at i a e p None at =
        let past = get-none new p at in
        let long = ap length front in
        inr (refl, ap (λ t. spelt_cell (texts_of j a) (kept_total t)) ((kept.tallies_are.each i a e).rest p (omega (arith, past, long, length-append ks rest))))
    tells-at i a e p (Some k) at = by (slice_get ks p) refl
      where
        by : (o : Option GroupKey) → slice_get ks p ≡ o → IsTotal i a (group (cells_in j k) A) (total_at (texts_of j a) (get_or tallies i []) p)
        by (Some h) was =
            let same : h ≡ k = same_Some h k (sym (old-key p h was) ∙ at) in
            inl (subst (λ x. total_at (texts_of j a) (get_or tallies i []) p ≡ agg a (arguments_at i (group (cells_in j x) A))) same (tells-here p h was i a e))
        by None was =
            let past = get-none ks p was in
            inr (none-behind p k at past, ap (λ t. spelt_cell (texts_of j a) (kept_total t)) ((kept.tallies_are.each i a e).rest p past))

    pub tells-before : AllTell j tallies (group_at j new A)
    tells-before = λ i a e p. tells-at i a e p (slice_get new p) refl

    -- ---- after they are added

    -- rows that are joined at these places
    pub record AddsAt (B : List SeenRow) (places : List ℕ) (Rs : List (List SeenRow)) : Type 0 where
      pub rows : (p : ℕ) → rows_at p places Rs ≡ group_at j new B p
      pub fresh : (p : ℕ) (k : GroupKey) → length ks ≤ p → slice_get new p ≡ Some k → group (cells_in j k) B ≡ [] → ⊥
      pub absent : (q : Key) → ((p : ℕ) (k : GroupKey) → slice_get new p ≡ Some k → key_eq q (cells_in j k) ≡ false) → group q B ≡ []
      pub plain : overflows B ≡ []
      pub ranged : AreRanged B

    module _ (n : GroupMap) (B : List SeenRow) (places : List ℕ) (Rs : List (List SeenRow)) (adds : AddsAt B places Rs) (more : List (List KeptTotal)) (many : length more ≡ length j.query.aggregates)
        (tells : AllTell j more (λ p. group_at j new A p ++ rows_at p places Rs)) (job : n.job ≡ j) (entries : n.entries ≡ entries_of j new more) (counted : n.counted ≡ g.counted + length B) (overflow : n.overflow ≡ g.overflow) where
      joined-at : (p : ℕ) (k : GroupKey) → slice_get new p ≡ Some k → group_at j new A p ++ rows_at p places Rs ≡ group (cells_in j k) (A ++ B)
      joined-at p k at =
          ap₂ (λ xs ys. xs ++ ys) (ap (λ o. group_of j o A) at) (adds.rows p ∙ ap (λ o. group_of j o B) at) ∙ sym (group-append (cells_in j k) A B)

      some-rows : (p : ℕ) (k : GroupKey) → slice_get new p ≡ Some k → group (cells_in j k) (A ++ B) ≡ [] → ⊥
      some-rows p k at empty = by (slice_get ks p) refl
        where
          both : group (cells_in j k) A ++ group (cells_in j k) B ≡ []
          both = sym (group-append (cells_in j k) A B) ∙ empty

          first-none : (xs ys : List SeenRow) → xs ++ ys ≡ [] → xs ≡ []
          first-none [] ys e = refl
          first-none (x ∷ xs) ys e = cc e

          second-none : (xs ys : List SeenRow) → xs ++ ys ≡ [] → ys ≡ []
          second-none [] ys e = e
          second-none (x ∷ xs) ys e = cc e

          by : (o : Option GroupKey) → slice_get ks p ≡ o → ⊥
          by (Some h) was =
              let same : h ≡ k = same_Some h k (sym (old-key p h was) ∙ at) in
              rows-here p h was (subst (λ x. group (cells_in j x) A ≡ []) (sym same) (first-none _ _ both))
          by None was = adds.fresh p k (get-none ks p was) at (second-none _ _ both)

      exact-at : (q : Key) (p : ℕ) (k : GroupKey) → slice_get new p ≡ Some k → key_eq q (cells_in j k) ≡ true → lookup (key_eq q) n.entries ≡ summary j.query.aggregates (group q (A ++ B))
      exact-at q p k at same =
          let R = group (cells_in j k) (A ++ B) in
          let z : 0 + p ≡ p = omega arith in
          let told : (i : ℕ) (a : Aggregate BoundColumn) → slice_get j.query.aggregates i ≡ Some a → total_at (texts_of j a) (get_or more i []) p ≡ agg a (arguments_at (0 + i) R) =
          λ i a e. ⊎_elim (λ is. is ∙ (let y : i ≡ 0 + i = omega arith in ap₂ (λ m rows. agg a (arguments_at m rows)) y (joined-at p k at))) (λ nothing. absurd (some-rows p k at (sym (joined-at p k at) ∙ nothing.0))) (tells i a e p) in
          ap (lookup (key_eq q)) entries ∙ lookup-at j more q new 0 p k apart at same ∙ ap (λ m. Some (totals_in j (totals_at more m))) z
          ∙ ap Some (totals-are j p R 0 j.query.aggregates more many told)
          ∙ sym (summary-some j.query.aggregates R (some-rows p k at)) ∙ ap (summary j.query.aggregates) (sym (group-same q (cells_in j k) (A ++ B) same))

      exact-none : (q : Key) → ((p : ℕ) (k : GroupKey) → slice_get new p ≡ Some k → key_eq q (cells_in j k) ≡ false) → lookup (key_eq q) n.entries ≡ summary j.query.aggregates (group q (A ++ B))
      exact-none q absent =
          let mine : group q A ≡ [] = no-rows q (λ p k e. absent p k (old-key p k e)) in
          let all : group q (A ++ B) ≡ [] = group-append q A B ∙ ap₂ (λ xs ys. xs ++ ys) mine (adds.absent q absent) in
          ap (lookup (key_eq q)) entries ∙ lookup-none j more q new 0 absent ∙ ap (summary j.query.aggregates) (sym all)

      pub stands-after : Stands n (A ++ B)
      stands-after = record {
        ranged = AreRanged-append A B stands.ranged adds.ranged;
        counted = let a = stands.counted in omega (arith, a, counted, length-append A B);
        overflow =
            let mine : least (overflows A) ≡ None = sym stands.overflow ∙ none in
            overflow ∙ none ∙ sym (ap least (overflows-append A B) ∙ least-append (overflows A) (overflows B) ∙ ap₂ least_of mine (ap least adds.plain));
        exact = λ _ q. subst (λ (x : JobShape). lookup (key_eq q) n.entries ≡ summary x.query.aggregates (group q (A ++ B))) (sym job)
            (⊎_elim (λ there. exact-at q there.0 there.1.key there.1.there there.1.same) (exact-none q) (search-key j q new));
        distinct = subst (λ es. IsDistinct key_eq (map (λ e. e.0) es)) (sym entries) (subst (IsDistinct key_eq) (sym (entries-keys j more 0 new)) apart);
      }
