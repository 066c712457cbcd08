-- What groups stand for where the combinations of a block, or other groups, are joined to their tallies.
use Rattle.std.proofs.Common.{◌≡◌, ◌∙◌, ◌+◌, ◌++◌, ◌∷◌, ◌<◌, ◌^◌, ℕ, [], List, Option, None, length, map, get_or, suc, ap, ap₂, refl, subst, sym, arith}
use Rattle.std.specs.List.{IsDistinct}
use Rattle.std.proofs.lemmas.List.{length-map}
use Rattle.ssb_plan.specs.JobShape.{JobShape}
use Rattle.ssb_groups.specs.Gathering.{AllTaken, key_at}
use Rattle.ssb_groups.specs.Keys.{cells_in, kept_total, spelt_cell}
use Rattle.ssb_groups.specs.Aggregates.{agg, arguments_at}
use Rattle.ssb_groups.specs.Places.{AllOver, AreGrown, IsTable, JoinsRows, OpenAll}
use Rattle.ssb_groups.specs.Rows.{SeenRow}
use Rattle.ssb_groups.specs.Seen.{seen}
use Rattle.ssb_groups.specs.Stands.{AreRanged, GroupMap, Stands, group, overflows}
use Rattle.ssb_groups.specs.Tallies.{IsTally, entries_from, entries_of, kept_totals, texts_of, totals_at, totals_in}
use Rattle.ssb_groups.specs.GroupKeys.{GroupKey}
use Rattle.ssb_groups.specs.declared.kept.KeptTotal.{KeptTotal}
use Rattle.ssb_groups.specs.declared.kept.KeptTotal.TheVariants as total
use Rattle.ssb_keys.specs.declared.kept.Kept.{Kept}
use Rattle.ssb_keys.specs.declared.kept.Kept.TheVariants as kept
use Rattle.ssb_groups.proofs.AddedFacts.{AreKeptAs, stands-after, tells-before, tells-here}
use Rattle.ssb_groups.proofs.GroupFacts.{AreApart, apart, group_at}
use Rattle.ssb_groups.proofs.KeyFacts.{keys_equal}
use Rattle.ssb_groups.proofs.PlacedRows.{adds-block, adds-groups, can-block, can-groups, placed-long}
use Rattle.ssb_groups.proofs.TakenFacts.{keys-seen, taken-over}
use Rattle.ssb_groups.proofs.TallyFacts.{found, kept-at, lists-at, mapped-here, tells-grown}

-- groups with the keys and tallies of a table
abbrev pub groups_of : JobShape → List GroupKey → List (List KeptTotal) → Option ℕ → ℕ → GroupMap
groups_of j ks tallies over count = record { job = j; entries = entries_of j ks tallies; overflow = over; counted = count }

module _ (j : JobShape) (ks new : List GroupKey) (tallies after : List (List KeptTotal)) (m n : ℕ) (A B : List SeenRow) (stands : Stands (groups_of j ks tallies None m) A) (distinct : IsDistinct keys_equal ks) (table : IsTable j ks tallies)
    (new-distinct : IsDistinct keys_equal new) (new-table : IsTable j new after) (counted : n ≡ m + length B) (few : m + length B < 2 ^ 32) where
  abbrev g : GroupMap
  g = groups_of j ks tallies None m

  are : AreKeptAs g ks tallies
  are = record { entries = refl; apart = apart j ks table.keys distinct; tallies_are = table.are }

  new-apart : AreApart j new
  new-apart = apart j new new-table.keys new-distinct

  short : length A + length B < 2 ^ 32
  short = let a = stands.counted in omega (arith, a, few)

  -- the combinations of a block
  pub stands-block : (block : List (List ℕ)) (totals : List (List Kept)) → B ≡ map (seen j) block → JoinsRows j (map (key_at j) block) totals ks new tallies after → AllTaken j block totals → overflows B ≡ [] → AreRanged B → Stands (groups_of j new after None n) (A ++ B)
  stands-block block totals is joins taken plain ranged =
      let opens : OpenAll j ks new (map (λ r. r.key) B) joins.places = subst (λ vs. OpenAll j ks new vs joins.places) (keys-seen j block ∙ ap (map (λ r. r.key)) (sym is)) joins.opens in
      let adds = adds-block g A ks tallies stands refl are new new-apart joins.places B opens plain ranged in
      let can = can-block j new A B joins.places stands.ranged ranged short (placed-long j new (λ r. r.key) B joins.places opens.placed) adds.rows in
      let before = tells-before g A ks tallies stands refl are new opens.front.0 opens.front.1 new-apart in
      let over = subst (λ R. AllOver j totals (map (λ r. r ∷ []) R)) (sym is) (taken-over j block totals taken) in
      let tells = joins.joins.joined.joined (group_at j new A) (map (λ r. r ∷ []) B) can (tells-grown j tallies joins.joins.grown (group_at j new A) joins.joins.grows before) over in
      stands-after g A ks tallies stands refl are new opens.front.0 opens.front.1 new-apart (groups_of j new after None n) B joins.places (map (λ r. r ∷ []) B) adds after new-table.are.many tells refl refl counted refl

  -- other groups
  pub stands-groups : (os : List GroupKey) (more : List (List KeptTotal)) (k : ℕ) → Stands (groups_of j os more None k) B → IsDistinct keys_equal os → IsTable j os more → JoinsRows j (map (cells_in j) os) (map kept_totals more) ks new tallies after → overflows B ≡ [] → Stands (groups_of j new after None n) (A ++ B)
  stands-groups os more k others os-distinct os-table joins plain =
      let h : GroupMap = groups_of j os more None k in
      let os-apart : AreApart j os = apart j os os-table.keys os-distinct in
      let theirs : AreKeptAs h os more = record { entries = refl; apart = os-apart; tallies_are = os-table.are } in
      let adds = adds-groups g A ks tallies stands refl are new new-apart joins.places h refl B os more others refl theirs joins.opens plain joins.opens os-apart in
      let can = can-groups j new A B joins.places stands.ranged others.ranged short os (placed-long j new (cells_in j) os joins.places joins.opens.placed) adds.rows in
      let before = tells-before g A ks tallies stands refl are new joins.opens.front.0 joins.opens.front.1 new-apart in
      let Rs = map (λ o. group (cells_in j o) B) os in
      let over : AllOver j (map kept_totals more) Rs = λ i a at p lt.
      let one = found os p (let long = length-map os (λ o. group (cells_in j o) B) in omega (arith, lt, long)) in
      ap (λ ts. spelt_cell (texts_of j a) (get_or ts p kept.Null)) (lists-at more i) ∙ ap (spelt_cell (texts_of j a)) (kept-at (get_or more i []) p) ∙ tells-here h B os more others refl theirs p one.0 one.1 i a at ∙ ap (λ R. agg a (arguments_at i R)) (sym (mapped-here (λ o. group (cells_in j o) B) os p one.0 [] one.1)) in
      let tells = joins.joins.joined.joined (group_at j new A) Rs can (tells-grown j tallies joins.joins.grown (group_at j new A) joins.joins.grows before) over in
      stands-after g A ks tallies stands refl are new joins.opens.front.0 joins.opens.front.1 new-apart (groups_of j new after None n) B joins.places Rs adds after new-table.are.many tells refl refl counted refl

-- ---- no key

pub empty-table : (j : JobShape) (ks : List GroupKey) (ts : List (List KeptTotal)) → ks ≡ [] → length ts ≡ length j.query.aggregates → ((i : ℕ) → get_or ts i [] ≡ []) → IsTable j ks ts
empty-table j ks ts none many empty =
    subst (λ xs. IsTable j xs ts) (sym none) (record {
      keys = tt;
      are = record { many = many; each = λ i a at. subst (IsTally (texts_of j a) 0) (sym (empty i)) (record { long = omega arith; kept = λ p. tt; rest = λ p past. refl }) };
    })

-- ---- room alone changes no entry

totals-grown : (p : ℕ) (before after : List (List KeptTotal)) → length after ≡ length before → ((i : ℕ) → get_or (get_or after i []) p total.Null ≡ get_or (get_or before i []) p total.Null) → totals_at after p ≡ totals_at before p
totals-grown p [] [] many same = refl
totals-grown p [] (t ∷ after) many same = absurd (omega (arith, many))
totals-grown p (t ∷ before) [] many same = absurd (omega (arith, many))
totals-grown p (t ∷ before) (u ∷ after) many same = ap₂ (λ c cs. c ∷ cs) (ap kept_total (same 0)) (totals-grown p before after (omega (arith, many)) (λ i. same (suc i)))

pub entries-grown : (j : JobShape) (before after : List (List KeptTotal)) → AreGrown before after → (n : ℕ) (ks : List GroupKey) → entries_from j after n ks ≡ entries_from j before n ks
entries-grown j before after grown n [] = refl
entries-grown j before after grown n (k ∷ ks) =
    ap₂ (λ c es. c ∷ es) (ap (λ ts. (cells_in j k, totals_in j ts)) (totals-grown n before after grown.many (λ i. grown.same i n))) (entries-grown j before after grown (suc n) ks)
