-- The rows of a block, and those of other groups, at the places of their keys.
use Rattle.std.proofs.Common.{◌≡◌, ◌≢◌, ◌∙◌, ◌⊎◌, inl, inr, ⊎_elim, ℕ, zero, suc, ◌+◌, ◌<◌, ◌≤◌, ◌^◌, Bool, true, false, cond, nat_eq, List, [], ◌∷◌, ◌++◌, length, map, get_or, slice_get, take, Option, None, Some, refl, sym, ap, ap₂, subst, arith, append-nil, append_assoc, length-append}
use Rattle.std.specs.List.{IsDistinct}
use Rattle.std.proofs.Math.Dec.{ltb}
use Rattle.std.proofs.lemmas.Bool.{eqb-true, eq-eqb, ltb-false, ltb-true}
use Rattle.std.proofs.lemmas.List.{length-map, map-append, take_more}
use Rattle.std.proofs.lemmas.Option.{get_or_from_slice_get, same_Some, slice_get_within}
use Rattle.ssb_plan.specs.JobShape.{JobShape}
use Rattle.ssb_groups.specs.Keys.{cells_in}
use Rattle.ssb_groups.specs.Places.{AllRanged, ArePlaced, CanJoin, IsPlaced, OpenAll, Opens, rows_at}
use Rattle.ssb_groups.specs.Rows.{Key, SeenRow, key_eq}
use Rattle.ssb_groups.specs.Stands.{AreRanged, GroupMap, Stands, group, overflows}
use Rattle.ssb_groups.specs.GroupKeys.{GroupKey}
use Rattle.ssb_groups.specs.declared.kept.KeptTotal.{KeptTotal}
use Rattle.ssb_groups.proofs.AddedFacts.{AddsAt, AreKeptAs, no-rows, rows-here}
use Rattle.ssb_groups.proofs.GroupFacts.{AreApart, get-within, group-same, group_at, group_of, group_of-ranged, group_of-short, group-ranged, places-apart, values_of}
use Rattle.ssb_groups.proofs.KeyFacts.{key_eq_laws}
use Rattle.ssb_groups.proofs.PlaceFacts.{get-front, get-last}

-- ---- places are found one after the other

module _ (j : JobShape) where
  placed-front : (ks rest new : List GroupKey) (vs : List Key) (ps : List ℕ) → new ≡ ks ++ rest → ArePlaced j ks vs ps → ArePlaced j new vs ps
  placed-front ks rest new [] [] front h = tt
  placed-front ks rest new [] (p ∷ ps) front h = absurd h
  placed-front ks rest new (v ∷ vs) [] front h = absurd h
  placed-front ks rest new (v ∷ vs) (p ∷ ps) front h =
      (record { key = h.0.key; there = ap (λ xs. slice_get xs p) front ∙ get-front ks rest p h.0.key h.0.there; same = h.0.same }, placed-front ks rest new vs ps front h.1)

  placed-more : (ks : List GroupKey) (vs : List Key) (ps : List ℕ) (v : Key) (p : ℕ) → ArePlaced j ks vs ps → IsPlaced j ks v p → ArePlaced j ks (vs ++ v ∷ []) (ps ++ p ∷ [])
  placed-more ks [] [] v p h is = (is, tt)
  placed-more ks [] (q ∷ ps) v p h is = absurd h
  placed-more ks (w ∷ vs) [] v p h is = absurd h
  placed-more ks (w ∷ vs) (q ∷ ps) v p h is = (h.0, placed-more ks vs ps v p h.1 is)

  -- one place more
  pub open-more : (old mid new : List GroupKey) (vs : List Key) (ps : List ℕ) (v : Key) (p : ℕ) → OpenAll j old mid vs ps → Opens j mid new v p → OpenAll j old new (vs ++ v ∷ []) (ps ++ p ∷ [])
  open-more old mid new vs ps v p all one = by one.grown
    where
      by : (new ≡ mid) ⊎ ((k : GroupKey) × (new ≡ mid ++ k ∷ []) × (p ≡ length mid)) → OpenAll j old new (vs ++ v ∷ []) (ps ++ p ∷ [])
      by (inl same) = record {
        front = (all.front.0, same ∙ all.front.1);
        placed = placed-more new vs ps v p (placed-front mid [] new vs ps (same ∙ sym (append-nil mid)) all.placed) one.placed;
        fresh = λ n past lt.
            let long = ap length same in
            let at = all.fresh n past (omega (arith, lt, long)) in
            (at.0, get-front ps (p ∷ []) at.0 n at.1);
      }
      by (inr last) = record {
        front = (all.front.0 ++ last.0 ∷ [], last.1 ∙ ap (λ xs. xs ++ last.0 ∷ []) all.front.1 ∙ append_assoc old all.front.0 (last.0 ∷ []));
        placed = placed-more new vs ps v p (placed-front mid (last.0 ∷ []) new vs ps last.1 all.placed) one.placed;
        fresh = λ n past lt. fresh n past lt (ltb n (length mid)) refl;
      }
        where
          fresh : (n : ℕ) → length old ≤ n → n < length new → (b : Bool) → ltb n (length mid) ≡ b → (i : ℕ) × (slice_get (ps ++ p ∷ []) i ≡ Some n)
          fresh n past lt true e = let at = all.fresh n past (ltb-true n (length mid) e) in (at.0, get-front ps (p ∷ []) at.0 n at.1)
          fresh n past lt false e =
              let long = ap length last.1 in
              let place = last.2 in
              let not = ltb-false n (length mid) e in
              let here : p ≡ n = omega (arith, lt, long, place, not, length-append mid (last.0 ∷ [])) in
              (length ps, get-last ps p ∙ ap Some here)

  -- the same, where the values are those of the first of a list
  pub open-next : {X : Type 0} (f : X → Key) (old mid new : List GroupKey) (xs : List X) (ps : List ℕ) (k p : ℕ) (x : X) → slice_get xs k ≡ Some x → OpenAll j old mid (map f (take k xs)) ps → Opens j mid new (f x) p → OpenAll j old new (map f (take (k + 1) xs)) (ps ++ p ∷ [])
  open-next f old mid new xs ps k p x there opened opens =
      let more = take_more xs k x (slice_get_within xs k x there) ∙ ap (λ y. take k xs ++ y ∷ []) (get_or_from_slice_get xs k x x there) in
      subst (λ vs. OpenAll j old new vs (ps ++ p ∷ [])) (sym (ap (map f) more ∙ map-append f (take k xs) (x ∷ []))) (open-more old mid new (map f (take k xs)) ps (f x) p opened opens)

tail-apart : (j : JobShape) (o : GroupKey) (os : List GroupKey) → AreApart j (o ∷ os) → AreApart j os
unfolding IsDistinct
tail-apart j o os h = h.1

-- ---- what stands at places

module _ (j : JobShape) (ks : List GroupKey) where
  pub placed-long : {X : Type 0} (f : X → Key) (xs : List X) (ps : List ℕ) → ArePlaced j ks (map f xs) ps → length ps ≡ length xs
  placed-long f [] [] h = refl
  placed-long f [] (p ∷ ps) h = absurd h
  placed-long f (x ∷ xs) [] h = absurd h
  placed-long f (x ∷ xs) (p ∷ ps) h = ap suc (placed-long f xs ps h.1)

  -- what a place is of
  placed-by : {X : Type 0} (f : X → Key) (xs : List X) (ps : List ℕ) (i p : ℕ) → ArePlaced j ks (map f xs) ps → slice_get ps i ≡ Some p → (x : X) × (slice_get xs i ≡ Some x) × IsPlaced j ks (f x) p
  placed-by f [] [] i p h e = cc
  placed-by f [] (q ∷ ps) i p h e = absurd h
  placed-by f (x ∷ xs) [] i p h e = cc
  placed-by f (x ∷ xs) (q ∷ ps) zero p h e = (x, refl, subst (IsPlaced j ks (f x)) (same_Some q p e) h.0)
  placed-by f (x ∷ xs) (q ∷ ps) (suc i) p h e = placed-by f xs ps i p h.1 e

  -- the place of one of them
  place-of : {X : Type 0} (f : X → Key) (xs : List X) (ps : List ℕ) (i : ℕ) (x : X) → ArePlaced j ks (map f xs) ps → slice_get xs i ≡ Some x → (p : ℕ) × IsPlaced j ks (f x) p
  place-of f [] ps i x h e = cc
  place-of f (y ∷ xs) [] i x h e = absurd h
  place-of f (y ∷ xs) (p ∷ ps) zero x h e = (p, subst (λ z. IsPlaced j ks (f z) p) (same_Some y x e) h.0)
  place-of f (y ∷ xs) (p ∷ ps) (suc i) x h e = place-of f xs ps i x h.1 e

  pub all-within : {X : Type 0} (f : X → Key) (xs : List X) (ps : List ℕ) → ArePlaced j ks (map f xs) ps → (n d : ℕ) → n < length ps → get_or ps n d < length ks
  all-within f [] [] h n d lt = absurd (omega (arith, lt))
  all-within f [] (p ∷ ps) h n d lt = absurd h
  all-within f (x ∷ xs) [] h n d lt = absurd h
  all-within f (x ∷ xs) (p ∷ ps) h zero d lt = get-within ks p h.0.key h.0.there
  all-within f (x ∷ xs) (p ∷ ps) h (suc n) d lt = all-within f xs ps h.1 n d (omega (arith, lt))

  -- values that no key has are not those of a place
  absent-at : (q v : Key) (p : ℕ) → ((n : ℕ) (k : GroupKey) → slice_get ks n ≡ Some k → key_eq q (cells_in j k) ≡ false) → IsPlaced j ks v p → key_eq q v ≡ false
  absent-at q v p absent is = key_eq_laws.symm q v ∙ key_eq_laws.congr v (cells_in j is.key) q is.same ∙ key_eq_laws.symm (cells_in j is.key) q ∙ absent p is.key is.there

  -- where there is no key, no row is placed
  rows-nowhere : {X : Type 0} (f : X → Key) (g : X → List SeenRow) (p : ℕ) (xs : List X) (ps : List ℕ) → slice_get ks p ≡ None → ArePlaced j ks (map f xs) ps → rows_at p ps (map g xs) ≡ []
  rows-nowhere f g p [] [] none h = refl
  rows-nowhere f g p [] (q ∷ ps) none h = absurd h
  rows-nowhere f g p (x ∷ xs) [] none h = absurd h
  rows-nowhere f g p (x ∷ xs) (q ∷ ps) none h =
      let other : nat_eq p q ≡ false = differ (nat_eq p q) refl in
      ap (λ b. cond b (g x ++ rows_at p ps (map g xs)) (rows_at p ps (map g xs))) other ∙ rows-nowhere f g p xs ps none h.1
    where
      differ : (b : Bool) → nat_eq p q ≡ b → b ≡ false
      differ true e = let is : p ≡ q = eqb-true p q e in let some = sym none ∙ ap (slice_get ks) is ∙ h.0.there in cc some
      differ false e = refl

  module _ (apart : AreApart j ks) where
    -- a key stands at a place exactly where it has the values that are placed there
    same-test : (p q : ℕ) (k : GroupKey) (v : Key) → slice_get ks p ≡ Some k → IsPlaced j ks v q → nat_eq p q ≡ key_eq (cells_in j k) v
    same-test p q k v at is = by (nat_eq p q) refl
      where
        by : (b : Bool) → nat_eq p q ≡ b → b ≡ key_eq (cells_in j k) v
        by true e =
            let here : is.key ≡ k = same_Some is.key k (sym is.there ∙ ap (slice_get ks) (sym (eqb-true p q e)) ∙ at) in
            sym (key_eq_laws.symm (cells_in j k) v ∙ ap (λ g. key_eq v (cells_in j g)) (sym here) ∙ is.same)
        by false e =
            let other : p ≢ q = λ h. cc (sym (eq-eqb p q h) ∙ e) in
            let differ = places-apart j ks p q k is.key apart at is.there other in
            sym (key_eq_laws.symm (cells_in j k) v ∙ key_eq_laws.congr v (cells_in j is.key) (cells_in j k) is.same ∙ key_eq_laws.symm (cells_in j is.key) (cells_in j k) ∙ differ)

    -- ---- the rows of a block

    rows-block : (p : ℕ) (k : GroupKey) (B : List SeenRow) (ps : List ℕ) → slice_get ks p ≡ Some k → ArePlaced j ks (map (λ r. r.key) B) ps → rows_at p ps (map (λ r. r ∷ []) B) ≡ group (cells_in j k) B
    rows-block p k [] [] at h = refl
    rows-block p k [] (q ∷ ps) at h = absurd h
    rows-block p k (r ∷ B) [] at h = absurd h
    rows-block p k (r ∷ B) (q ∷ ps) at h = ap₂ (λ b xs. cond b (r ∷ xs) xs) (same-test p q k r.key at h.0) (rows-block p k B ps at h.1)

    -- ---- the rows of other groups

    module _ (B : List SeenRow) where
      abbrev of_key : GroupKey → List SeenRow
      of_key k = group (cells_in j k) B

      rows-none : (p : ℕ) (k : GroupKey) (os : List GroupKey) (ps : List ℕ) → slice_get ks p ≡ Some k → ArePlaced j ks (values_of j os) ps → ((i : ℕ) (o : GroupKey) → slice_get os i ≡ Some o → key_eq (cells_in j k) (cells_in j o) ≡ false) → rows_at p ps (map of_key os) ≡ []
      rows-none p k [] [] at h none = refl
      rows-none p k [] (q ∷ ps) at h none = absurd h
      rows-none p k (o ∷ os) [] at h none = absurd h
      rows-none p k (o ∷ os) (q ∷ ps) at h none =
          ap (λ b. cond b (of_key o ++ rows_at p ps (map of_key os)) (rows_at p ps (map of_key os))) (same-test p q k (cells_in j o) at h.0 ∙ none 0 o refl) ∙ rows-none p k os ps at h.1 (λ i x e. none (suc i) x e)

      rows-merged : (p : ℕ) (k : GroupKey) (os : List GroupKey) (ps : List ℕ) → slice_get ks p ≡ Some k → AreApart j os → ArePlaced j ks (values_of j os) ps
          → (rows_at p ps (map of_key os) ≡ group (cells_in j k) B) ⊎ (((i : ℕ) (o : GroupKey) → slice_get os i ≡ Some o → key_eq (cells_in j k) (cells_in j o) ≡ false) × (rows_at p ps (map of_key os) ≡ []))
      rows-merged p k [] [] at others h = inr (λ i o e. cc, refl)
      rows-merged p k [] (q ∷ ps) at others h = absurd h
      rows-merged p k (o ∷ os) [] at others h = absurd h
      rows-merged p k (o ∷ os) (q ∷ ps) at others h = by (rows-merged p k os ps at (tail-apart j o os others) h.1) (key_eq (cells_in j k) (cells_in j o)) refl
        where
          rest : List SeenRow
          rest = rows_at p ps (map of_key os)

          test : (b : Bool) → key_eq (cells_in j k) (cells_in j o) ≡ b → rows_at p (q ∷ ps) (map of_key (o ∷ os)) ≡ cond b (of_key o ++ rest) rest
          test b e = ap (λ t. cond t (of_key o ++ rest) rest) (same-test p q k (cells_in j o) at h.0 ∙ e)

          others-too : key_eq (cells_in j k) (cells_in j o) ≡ false → ((i : ℕ) (x : GroupKey) → slice_get os i ≡ Some x → key_eq (cells_in j k) (cells_in j x) ≡ false) → (i : ℕ) (x : GroupKey) → slice_get (o ∷ os) i ≡ Some x → key_eq (cells_in j k) (cells_in j x) ≡ false
          others-too e none zero x f = subst (λ y. key_eq (cells_in j k) (cells_in j y) ≡ false) (same_Some o x f) e
          others-too e none (suc i) x f = none i x f

          by : (rows_at p ps (map of_key os) ≡ group (cells_in j k) B) ⊎ (((i : ℕ) (x : GroupKey) → slice_get os i ≡ Some x → key_eq (cells_in j k) (cells_in j x) ≡ false) × (rows_at p ps (map of_key os) ≡ []))
              → (b : Bool) → key_eq (cells_in j k) (cells_in j o) ≡ b
              → (rows_at p (q ∷ ps) (map of_key (o ∷ os)) ≡ group (cells_in j k) B) ⊎ (((i : ℕ) (x : GroupKey) → slice_get (o ∷ os) i ≡ Some x → key_eq (cells_in j k) (cells_in j x) ≡ false) × (rows_at p (q ∷ ps) (map of_key (o ∷ os)) ≡ []))
          by later true e =
              let nothing = rows-none p k os ps at h.1 (λ i x f. key_eq_laws.congr (cells_in j k) (cells_in j o) (cells_in j x) e ∙ places-apart j (o ∷ os) 0 (suc i) o x others refl f (λ z. cc z)) in
              inl (test true e ∙ ap (λ xs. of_key o ++ xs) nothing ∙ append-nil (of_key o) ∙ sym (group-same (cells_in j k) (cells_in j o) B e))
          by (inl is) false e = inl (test false e ∙ is)
          by (inr none) false e = inr (others-too e none.0, test false e ∙ none.1)

-- ---- added

group-has : (v : Key) (B : List SeenRow) (i : ℕ) (r : SeenRow) → slice_get B i ≡ Some r → key_eq v r.key ≡ true → group v B ≡ [] → ⊥
group-has v [] i r e same empty = cc e
group-has v (x ∷ B) zero r e same empty =
    let here : key_eq v x.key ≡ true = subst (λ y. key_eq v y.key ≡ true) (sym (same_Some x r e)) same in
    let some : x ∷ group v B ≡ [] = sym (ap (λ t. cond t (x ∷ group v B) (group v B)) here) ∙ empty in
    cc some
group-has v (x ∷ B) (suc i) r e same empty = by (λ h. group-has v B i r e same h) (key_eq v x.key) refl
  where
    by : (group v B ≡ [] → ⊥) → (b : Bool) → key_eq v x.key ≡ b → ⊥
    by rest true f = let some : x ∷ group v B ≡ [] = sym (ap (λ t. cond t (x ∷ group v B) (group v B)) f) ∙ empty in cc some
    by rest false f = rest (sym (ap (λ t. cond t (x ∷ group v B) (group v B)) f) ∙ empty)

group-absent : (j : JobShape) (ks : List GroupKey) (q : Key) (B : List SeenRow) (ps : List ℕ) → ((n : ℕ) (k : GroupKey) → slice_get ks n ≡ Some k → key_eq q (cells_in j k) ≡ false) → ArePlaced j ks (map (λ r. r.key) B) ps → group q B ≡ []
group-absent j ks q [] ps absent h = refl
group-absent j ks q (r ∷ B) [] absent h = absurd h
group-absent j ks q (r ∷ B) (p ∷ ps) absent h = ap₂ (λ b xs. cond b (r ∷ xs) xs) (absent-at j ks q r.key p absent h.0) (group-absent j ks q B ps absent h.1)

module _ (g : GroupMap) (A : List SeenRow) (ks : List GroupKey) (tallies : List (List KeptTotal)) (stands : Stands g A) (none : g.overflow ≡ None) (kept : AreKeptAs g ks tallies) (new : List GroupKey) (apart : AreApart g.job new) (places : List ℕ) where
  -- the rows of a block
  pub adds-block : (B : List SeenRow) → (opens : OpenAll g.job ks new (map (λ r. r.key) B) places) → overflows B ≡ [] → AreRanged B → AddsAt g A ks tallies stands none kept new opens.front.0 opens.front.1 apart B places (map (λ r. r ∷ []) B)
  adds-block B opens plain ranged = record {
    rows = λ p. rows p (slice_get new p) refl;
    fresh = λ p k past at empty.
        let i = opens.fresh p past (get-within new p k at) in
        let x = placed-by g.job new (λ (r : SeenRow). r.key) B places i.0 p opens.placed i.1 in
        let is : IsPlaced g.job new x.0.key p = x.2 in
        let key : is.key ≡ k = same_Some is.key k (sym is.there ∙ at) in
        group-has (cells_in g.job k) B i.0 x.0 x.1 (key_eq_laws.symm (cells_in g.job k) x.0.key ∙ ap (λ y. key_eq x.0.key (cells_in g.job y)) (sym key) ∙ is.same) empty;
    absent = λ q absent. group-absent g.job new q B places absent opens.placed;
    plain = plain;
    ranged = ranged;
  }
    where
      rows : (p : ℕ) (o : Option GroupKey) → slice_get new p ≡ o → rows_at p places (map (λ r. r ∷ []) B) ≡ group_of g.job (slice_get new p) B
      rows p None at = rows-nowhere g.job new (λ (r : SeenRow). r.key) (λ r. r ∷ []) p B places at opens.placed ∙ ap (λ o. group_of g.job o B) (sym at)
      rows p (Some k) at = rows-block g.job new apart p k B places at opens.placed ∙ ap (λ o. group_of g.job o B) (sym at)

  -- those of other groups
  module _ (h : GroupMap) (same : h.job ≡ g.job) (B : List SeenRow) (os : List GroupKey) (more : List (List KeptTotal)) (others : Stands h B) (no : h.overflow ≡ None) (are : AreKeptAs h os more) (opens : OpenAll h.job ks new (values_of h.job os) places) where
    pub adds-groups : overflows B ≡ [] → OpenAll g.job ks new (values_of g.job os) places → AreApart g.job os → AddsAt g A ks tallies stands none kept new opens.front.0 opens.front.1 apart B places (map (λ k. group (cells_in g.job k) B) os)
    adds-groups plain opened os-apart = record {
      rows = λ p. rows p (slice_get new p) refl;
      fresh = λ p k past at empty.
          let i = opened.fresh p past (get-within new p k at) in
          let x = placed-by g.job new (cells_in g.job) os places i.0 p opened.placed i.1 in
          let is : IsPlaced g.job new (cells_in g.job x.0) p = x.2 in
          let key : is.key ≡ k = same_Some is.key k (sym is.there ∙ at) in
          let alike : key_eq (cells_in g.job x.0) (cells_in g.job k) ≡ true = ap (λ y. key_eq (cells_in g.job x.0) (cells_in g.job y)) (sym key) ∙ is.same in
          rows-here h B os more others no are i.0 x.0 x.1 (ap (λ (y : JobShape). group (cells_in y x.0) B) same ∙ group-same (cells_in g.job x.0) (cells_in g.job k) B alike ∙ empty);
      absent = λ q absent. missing q (λ i o e. let at = place-of g.job new (cells_in g.job) os places i o opened.placed e in absent-at g.job new q (cells_in g.job o) at.0 absent at.1);
      plain = plain;
      ranged = others.ranged;
    }
      where
        missing : (q : Key) → ((i : ℕ) (o : GroupKey) → slice_get os i ≡ Some o → key_eq q (cells_in g.job o) ≡ false) → group q B ≡ []
        missing q absent = no-rows h B os more others no are q (λ i o e. ap (λ (y : JobShape). key_eq q (cells_in y o)) same ∙ absent i o e)

        rows : (p : ℕ) (o : Option GroupKey) → slice_get new p ≡ o → rows_at p places (map (λ k. group (cells_in g.job k) B) os) ≡ group_of g.job (slice_get new p) B
        rows p None at = rows-nowhere g.job new (cells_in g.job) (λ k. group (cells_in g.job k) B) p os places at opened.placed ∙ ap (λ o. group_of g.job o B) (sym at)
        rows p (Some k) at =
            ⊎_elim (λ is. is) (λ nothing. nothing.1 ∙ sym (missing (cells_in g.job k) nothing.0)) (rows-merged g.job new apart B p k os places at os-apart opened.placed) ∙ ap (λ o. group_of g.job o B) (sym at)

-- ---- rows that can be joined

singles-ranged : (B : List SeenRow) → AreRanged B → AllRanged (map (λ r. r ∷ []) B)
singles-ranged [] h = tt
singles-ranged (r ∷ B) h = ((h.0, tt), singles-ranged B h.1)

groups-ranged : (j : JobShape) (B : List SeenRow) (os : List GroupKey) → AreRanged B → AllRanged (map (λ k. group (cells_in j k) B) os)
groups-ranged j B [] h = tt
groups-ranged j B (k ∷ os) h = (group-ranged (cells_in j k) B h, groups-ranged j B os h)

module _ (j : JobShape) (new : List GroupKey) (A B : List SeenRow) (places : List ℕ) (ranged : AreRanged A) (others : AreRanged B) (few : length A + length B < 2 ^ 32) where
  can : (Rs : List (List SeenRow)) → length Rs ≡ length places → ((p : ℕ) → rows_at p places Rs ≡ group_at j new B p) → AllRanged Rs → CanJoin (group_at j new A) places Rs
  can Rs same rows all = record {
    same = same;
    few = λ p.
        let long = ap length (rows p) in
        let mine = group_of-short j (slice_get new p) A in
        let theirs = group_of-short j (slice_get new p) B in
        omega (arith, few, long, mine, theirs);
    ranged = λ p. group_of-ranged j (slice_get new p) A ranged;
    others = all;
  }

  pub can-block : length places ≡ length B → ((p : ℕ) → rows_at p places (map (λ r. r ∷ []) B) ≡ group_at j new B p) → CanJoin (group_at j new A) places (map (λ r. r ∷ []) B)
  can-block long rows = can (map (λ r. r ∷ []) B) (length-map B (λ r. r ∷ []) ∙ sym long) rows (singles-ranged B others)

  pub can-groups : (os : List GroupKey) → length places ≡ length os → ((p : ℕ) → rows_at p places (map (λ k. group (cells_in j k) B) os) ≡ group_at j new B p) → CanJoin (group_at j new A) places (map (λ k. group (cells_in j k) B) os)
  can-groups os long rows = can (map (λ k. group (cells_in j k) B) os) (length-map os (λ k. group (cells_in j k) B) ∙ sym long) rows (groups-ranged j B os others)
