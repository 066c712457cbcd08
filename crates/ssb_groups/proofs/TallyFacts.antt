-- A tally that is joined to others place by place.
use Rattle.std.proofs.Common.{◌≡◌, ◌≢◌, ◌∙◌, inl, inr, ℕ, zero, suc, ◌+◌, ◌<◌, ◌≤◌, ◌^◌, Bool, true, false, cond, nat_eq, List, [], ◌∷◌, ◌++◌, length, map, take, get_or, slice_get, Some, refl, sym, ap, ap₂, subst, arith, append_assoc, append-nil, length-append}
use Rattle.std.specs.List.{All}
use Rattle.std.proofs.Math.ListN.{set}
use Rattle.std.proofs.lemmas.Bool.{eqb-true, eq-eqb}
use Rattle.std.proofs.lemmas.Option.{same_Some}
use Rattle.std.proofs.lemmas.List.{get_or-set_other, get_or-set_same, length-map, length-set, map-append, take_all}
use Rattle.std.proofs.lemmas.Simd.{map-map}
use Rattle.std.specs.declared.alloc.Global.{Global}
use Rattle.std.specs.declared.vec.Vec.{Vec}
use Rattle.ssb_cells.specs.Cell.{Cell, null}
use Rattle.ssb_cells.specs.Tables.{Columns}
use Rattle.ssb_plan.specs.JobShape.{JobShape}
use Rattle.ssb_query.specs.declared.column.BoundColumn.{BoundColumn}
use Rattle.ssb_trees.specs.declared.aggregate.Aggregate.{Aggregate}
use Rattle.ssb_groups.specs.Aggregates.{agg, arguments_at}
use Rattle.ssb_groups.specs.Joining.{Fits, JoinsTotal, joined, joining_of, values_by}
use Rattle.ssb_groups.specs.Keys.{IsKept, kept_total, spelt_cell}
use Rattle.ssb_groups.specs.Places.{AllRanged, AreGrown, AreOver, CanJoin, IsJoined, rows_at}
use Rattle.ssb_groups.specs.Rows.{SeenRow}
use Rattle.ssb_groups.specs.Stands.{AreRanged}
use Rattle.ssb_groups.specs.Tallies.{AllTell, AreAdded, AreTallies, IsAdded, IsTotal, Tells, items, kept_totals, lists, tally_cells, texts_of, total_at}
use Rattle.ssb_groups.specs.declared.joining.Joining.{Joining}
use Rattle.ssb_groups.specs.declared.joining.Joining.TheVariants as joining
use Rattle.ssb_groups.specs.declared.kept.KeptTotal.{KeptTotal}
use Rattle.ssb_groups.specs.declared.kept.KeptTotal.TheVariants as total
use Rattle.ssb_keys.specs.declared.kept.Kept.{Kept}
use Rattle.ssb_keys.specs.declared.kept.Kept.TheVariants as kept
use Rattle.ssb_groups.proofs.AggregateFacts.{agg-append, greater-null}
use Rattle.ssb_groups.proofs.Bounds.{fits-rows}
use Rattle.ssb_groups.proofs.RowFacts.{AreRanged-append}

-- ---- rows at a place

pub rows_at-more : (p : ℕ) (qs : List ℕ) (Rs : List (List SeenRow)) (k : ℕ) → k < length qs → length Rs ≡ length qs
    → rows_at p (take (suc k) qs) (take (suc k) Rs) ≡ rows_at p (take k qs) (take k Rs) ++ cond (nat_eq p (get_or qs k 0)) (get_or Rs k []) []
rows_at-more p [] Rs k lt same = absurd (omega arith)
rows_at-more p (q ∷ qs) [] k lt same = absurd (omega (arith, same))
rows_at-more p (q ∷ qs) (R ∷ Rs) zero lt same = elim (nat_eq p q) as (λ b. cond b (R ++ []) [] ≡ cond b R []) [ true ↦ append-nil R | false ↦ refl ]
rows_at-more p (q ∷ qs) (R ∷ Rs) (suc k) lt same =
    let rest = rows_at-more p qs Rs k (omega arith) (omega (arith, same)) in
    let last = cond (nat_eq p (get_or qs k 0)) (get_or Rs k []) [] in
    elim (nat_eq p q) as (λ b. cond b (R ++ rows_at p (take (suc k) qs) (take (suc k) Rs)) (rows_at p (take (suc k) qs) (take (suc k) Rs)) ≡ cond b (R ++ rows_at p (take k qs) (take k Rs)) (rows_at p (take k qs) (take k Rs)) ++ last) [
      | true ↦ ap (λ xs. R ++ xs) rest ∙ sym (append_assoc R (rows_at p (take k qs) (take k Rs)) last)
      | false ↦ rest
    ]

rows_at-front : (p : ℕ) (qs : List ℕ) (Rs : List (List SeenRow)) (k : ℕ) → length (rows_at p (take k qs) (take k Rs)) ≤ length (rows_at p qs Rs)
rows_at-front p [] Rs zero = omega arith
rows_at-front p [] Rs (suc k) = omega arith
rows_at-front p (q ∷ qs) Rs zero = omega arith
rows_at-front p (q ∷ qs) [] (suc k) = omega arith
rows_at-front p (q ∷ qs) (R ∷ Rs) (suc k) =
    let rest = rows_at-front p qs Rs k in
    elim (nat_eq p q) as (λ b. length (cond b (R ++ rows_at p (take k qs) (take k Rs)) (rows_at p (take k qs) (take k Rs))) ≤ length (cond b (R ++ rows_at p qs Rs) (rows_at p qs Rs))) [
      | true ↦ omega (arith, rest, length-append R (rows_at p (take k qs) (take k Rs)), length-append R (rows_at p qs Rs))
      | false ↦ rest
    ]

ranged-get : (Rs : List (List SeenRow)) (k : ℕ) → AllRanged Rs → AreRanged (get_or Rs k [])
ranged-get [] k h = tt
ranged-get (R ∷ Rs) zero h = h.0
ranged-get (R ∷ Rs) (suc k) h = ranged-get Rs k h.1

ranged-take : (Rs : List (List SeenRow)) (k : ℕ) → AllRanged Rs → AllRanged (take k Rs)
ranged-take [] zero h = tt
ranged-take [] (suc k) h = tt
ranged-take (R ∷ Rs) zero h = tt
ranged-take (R ∷ Rs) (suc k) h = (h.0, ranged-take Rs k h.1)

pub ranged-rows_at : (p : ℕ) (qs : List ℕ) (Rs : List (List SeenRow)) → AllRanged Rs → AreRanged (rows_at p qs Rs)
ranged-rows_at p [] Rs h = tt
ranged-rows_at p (q ∷ qs) [] h = tt
ranged-rows_at p (q ∷ qs) (R ∷ Rs) h =
    let rest = ranged-rows_at p qs Rs h.1 in
    elim (nat_eq p q) as (λ b. AreRanged (cond b (R ++ rows_at p qs Rs) (rows_at p qs Rs))) [ true ↦ AreRanged-append R (rows_at p qs Rs) h.0 rest | false ↦ rest ]

-- ---- one total

joined-null : (w : Joining) (c : Cell) → joined w null c ≡ c
joined-null joining.Adds c = refl
joined-null (joining.Least p) c = refl
joined-null (joining.Greatest p) c = greater-null c

fits-null : (w : Joining) (c : Cell) → Fits w null c
fits-null joining.Adds c = tt
fits-null (joining.Least p) c = tt
fits-null (joining.Greatest p) c = tt

-- a total over rows is joined to that over others
is_total-more : (j : JobShape) (i : ℕ) (a : Aggregate BoundColumn) (R Q : List SeenRow) (c m new : Cell) → AreRanged R → AreRanged Q → length R + length Q < 2 ^ 32 → IsTotal i a R c → m ≡ agg a (arguments_at i Q)
    → JoinsTotal (joining_of j a) c m new → IsTotal i a (R ++ Q) new
is_total-more j i a R Q c m new p q few (inl is) more joins =
    let fits : Fits (joining_of j a) c m = subst (λ x. Fits (joining_of j a) c x) (sym more) (subst (λ x. Fits (joining_of j a) x (agg a (arguments_at i Q))) (sym is) (fits-rows j i a R Q p q few)) in
    inl (joins fits ∙ ap₂ (joined (joining_of j a)) is more ∙ sym (ap (agg a) (map-append _ R Q) ∙ agg-append j a (arguments_at i R) (arguments_at i Q)))
is_total-more j i a R Q c m new p q few (inr none) more joins =
    let w = joining_of j a in
    let fits : Fits w c m = subst (λ x. Fits w x m) (sym none.1) (fits-null w m) in
    inl (joins fits ∙ ap (λ x. joined w x m) none.1 ∙ joined-null w m ∙ more ∙ ap (λ rows. agg a (arguments_at i (rows ++ Q))) (sym none.0))

-- ---- one place after the other

-- one more is joined to the total at its place
pub tells-more : (j : JobShape) (values : List Cell) (i : ℕ) (a : Aggregate BoundColumn) (rows : ℕ → List SeenRow) (places : List ℕ) (Rs : List (List SeenRow)) (k : ℕ) (tally : List KeptTotal) (more : List Kept) (x : KeptTotal) → k < length places
    → CanJoin rows places Rs → get_or places k 0 < length tally → Tells values i a tally (λ p. rows p ++ rows_at p (take k places) (take k Rs)) → AreOver values i a more Rs
    → JoinsTotal (joining_of j a) (total_at values tally (get_or places k 0)) (spelt_cell values (get_or more k kept.Null)) (spelt_cell values (kept_total x))
    → Tells values i a (set tally (get_or places k 0) x) (λ p. rows p ++ rows_at p (take (suc k) places) (take (suc k) Rs))
tells-more j values i a rows places Rs k tally more x lt can within before over joins = λ p. by p (nat_eq p q) refl
  where
    q : ℕ
    q = get_or places k 0

    R : List SeenRow
    R = get_or Rs k []

    front : ℕ → List SeenRow
    front p = rows_at p (take k places) (take k Rs)

    next : (p : ℕ) (b : Bool) → nat_eq p q ≡ b → rows p ++ rows_at p (take (suc k) places) (take (suc k) Rs) ≡ (rows p ++ front p) ++ cond b R []
    next p b e = ap (λ xs. rows p ++ xs) (rows_at-more p places Rs k lt can.same ∙ ap (λ t. front p ++ cond t R []) e) ∙ sym (append_assoc (rows p) (front p) (cond b R []))

    few : length (rows q ++ front q) + length R < 2 ^ 32
    few =
        let all = ap length (next q true (eq-eqb q q refl)) in
        let short = rows_at-front q places Rs (suc k) in
        let small = can.few q in
        omega (arith, all, short, small, length-append (rows q ++ front q) R, length-append (rows q) (rows_at q (take (suc k) places) (take (suc k) Rs)))

    ranged : AreRanged (rows q ++ front q)
    ranged = AreRanged-append (rows q) (front q) (can.ranged q) (ranged-rows_at q (take k places) (take k Rs) (ranged-take Rs k can.others))

    by : (p : ℕ) (b : Bool) → nat_eq p q ≡ b → IsTotal i a (rows p ++ rows_at p (take (suc k) places) (take (suc k) Rs)) (total_at values (set tally q x) p)
    by p true e =
        let here : p ≡ q = eqb-true p q e in
        let same : total_at values (set tally q x) p ≡ spelt_cell values (kept_total x) = ap (λ n. total_at values (set tally q x) n) here ∙ ap (λ t. spelt_cell values (kept_total t)) (get_or-set_same tally q x total.Null within) in
        let many = can.same in
        let total = is_total-more j i a (rows q ++ front q) R (total_at values tally q) (spelt_cell values (get_or more k kept.Null)) (spelt_cell values (kept_total x)) ranged (ranged-get Rs k can.others) few (before q) (over k (omega (arith, lt, many))) joins in
        subst (λ c. IsTotal i a (rows p ++ rows_at p (take (suc k) places) (take (suc k) Rs)) c) (sym same)
        (subst (λ xs. IsTotal i a xs (spelt_cell values (kept_total x))) (sym (next p true e)) (subst (λ n. IsTotal i a ((rows n ++ front n) ++ R) (spelt_cell values (kept_total x))) (sym here) total))
    by p false e =
        let other : p ≢ q = λ h. cc (sym (eq-eqb p q h) ∙ e) in
        let same : total_at values (set tally q x) p ≡ total_at values tally p = ap (λ t. spelt_cell values (kept_total t)) (get_or-set_other tally q p x total.Null other) in
        subst (λ c. IsTotal i a (rows p ++ rows_at p (take (suc k) places) (take (suc k) Rs)) c) (sym same)
        (subst (λ xs. IsTotal i a xs (total_at values tally p)) (sym (next p false e ∙ append-nil (rows p ++ front p))) (before p))

-- ---- what is kept

pub kept-set : (values : List Cell) (tally : List KeptTotal) (q : ℕ) (x : KeptTotal) → q < length tally → ((p : ℕ) → IsKept values (kept_total (get_or tally p total.Null))) → IsKept values (kept_total x)
    → (p : ℕ) → IsKept values (kept_total (get_or (set tally q x) p total.Null))
kept-set values tally q x within h is p = by (nat_eq p q) refl
  where
    by : (b : Bool) → nat_eq p q ≡ b → IsKept values (kept_total (get_or (set tally q x) p total.Null))
    by true e =
        let here : p ≡ q = eqb-true p q e in
        subst (λ t. IsKept values (kept_total t)) (sym (ap (λ n. get_or (set tally q x) n total.Null) here ∙ get_or-set_same tally q x total.Null within)) is
    by false e =
        let other : p ≢ q = λ h. cc (sym (eq-eqb p q h) ∙ e) in
        subst (λ t. IsKept values (kept_total t)) (sym (get_or-set_other tally q p x total.Null other)) (h p)

-- ---- up to a place

-- a tally to which the first so many totals are joined
pub record JoinedTo (tables : List Columns) (w : Joining) (places : List ℕ) (more : List Kept) (before now : List KeptTotal) (k : ℕ) : Type 0 where
  pub joined : (j : JobShape) (i : ℕ) (a : Aggregate BoundColumn) (rows : ℕ → List SeenRow) (Rs : List (List SeenRow)) → joining_of j a ≡ w → CanJoin rows places Rs
      → Tells (values_by tables w) i a before rows → AreOver (values_by tables w) i a more Rs → Tells (values_by tables w) i a now (λ p. rows p ++ rows_at p (take k places) (take k Rs))
  pub kept : (p : ℕ) → IsKept (values_by tables w) (kept_total (get_or now p total.Null))
  pub same : length now ≡ length before
  pub rest : (n p : ℕ) → All (λ q. q < n) places → n ≤ p → get_or now p total.Null ≡ get_or before p total.Null

module _ (tables : List Columns) (w : Joining) (places : List ℕ) (more : List Kept) (before : List KeptTotal) where
  pub joined-none : ((p : ℕ) → IsKept (values_by tables w) (kept_total (get_or before p total.Null))) → JoinedTo tables w places more before before 0
  joined-none kept = record {
    joined = λ j i a rows Rs is can tells over p. subst (λ R. IsTotal i a R (total_at (values_by tables w) before p)) (sym (append-nil (rows p))) (tells p);
    kept = kept;
    same = refl;
    rest = λ n p all past. refl;
  }

  pub joined-next : (now : List KeptTotal) (k : ℕ) (x : KeptTotal) → All (λ p. p < length before) places → k < length places → JoinedTo tables w places more before now k
      → JoinsTotal w (total_at (values_by tables w) now (get_or places k 0)) (spelt_cell (values_by tables w) (get_or more k kept.Null)) (spelt_cell (values_by tables w) (kept_total x)) → IsKept (values_by tables w) (kept_total x)
      → JoinedTo tables w places more before (set now (get_or places k 0) x) (k + 1)
  joined-next now k x there lt to joins is-kept =
      let values = values_by tables w in
      let q = get_or places k 0 in
      let same = to.same in
      let below = there k 0 lt in
      let inside : q < length now = omega (arith, same, below) in
      let next : suc k ≡ k + 1 = omega arith in
      record {
        joined = λ j i a rows Rs is can tells over.
            subst (λ n. Tells values i a (set now q x) (λ p. rows p ++ rows_at p (take n places) (take n Rs))) next
            (tells-more j values i a rows places Rs k now more x lt can inside (to.joined j i a rows Rs is can tells over) over
            (subst (λ y. JoinsTotal y (total_at values now q) (spelt_cell values (get_or more k kept.Null)) (spelt_cell values (kept_total x))) (sym is) joins));
        kept = kept-set values now q x inside to.kept is-kept;
        same = length-set now q x ∙ same;
        rest = λ n p all past.
            let less : q < n = all k 0 lt in
            get_or-set_other now q p x total.Null (λ h. absurd (omega (arith, less, past, h))) ∙ to.rest n p all past;
      }

  pub joined-all : (now : List KeptTotal) (k : ℕ) → length places ≤ k → JoinedTo tables w places more before now k → IsJoined tables w places more before now
  joined-all now k past to =
      let values = values_by tables w in
      record {
        joined = λ j i a rows Rs is can tells over p.
            let many = can.same in
            subst (λ qs. IsTotal i a (rows p ++ rows_at p qs Rs) (total_at values now p)) (take_all k places past)
            (subst (λ Qs. IsTotal i a (rows p ++ rows_at p (take k places) Qs) (total_at values now p)) (take_all k Rs (omega (arith, past, many))) (to.joined j i a rows Rs is can tells over p));
        kept = to.kept;
        same = to.same;
        rest = to.rest;
      }

-- ---- totals as what they stand for

pub kept-at : (ts : List KeptTotal) (k : ℕ) → get_or (kept_totals ts) k kept.Null ≡ kept_total (get_or ts k total.Null)
kept-at [] k = refl
kept-at (t ∷ ts) zero = refl
kept-at (t ∷ ts) (suc k) = kept-at ts k

pub lists-at : (tallies : List (List KeptTotal)) (i : ℕ) → get_or (map kept_totals tallies) i [] ≡ kept_totals (get_or tallies i [])
lists-at [] i = refl
lists-at (t ∷ tallies) zero = refl
lists-at (t ∷ tallies) (suc i) = lists-at tallies i

pub stood : (tallies : List (Vec KeptTotal Global)) → map kept_totals (lists tallies) ≡ map tally_cells tallies
stood tallies = map-map kept_totals items tallies

pub tallies-added : (j : JobShape) (n : ℕ) (tallies : List (List KeptTotal)) → AreTallies j n tallies → AreAdded j n (map kept_totals tallies)
tallies-added j n tallies are = record {
  many = length-map tallies kept_totals ∙ are.many;
  each = λ i a at.
      let tally = get_or tallies i [] in
      let was = are.each i a at in
      let long = was.long in
      subst (IsAdded (texts_of j a) n) (sym (lists-at tallies i)) (record { long = omega (arith, long, length-map tally kept_total); kept = λ p. subst (IsKept (texts_of j a)) (sym (kept-at tally p)) (was.kept p) });
}

-- ---- the tally of an aggregate

pub found : {X : Type 0} (xs : List X) (k : ℕ) → k < length xs → (x : X) × (slice_get xs k ≡ Some x)
found [] k lt = absurd (omega arith)
found (x ∷ xs) zero lt = (x, refl)
found (x ∷ xs) (suc k) lt = found xs k (omega arith)

pub mapped-here : {X Y : Type 0} (f : X → Y) (xs : List X) (k : ℕ) (x : X) (d : Y) → slice_get xs k ≡ Some x → get_or (map f xs) k d ≡ f x
mapped-here f [] k x d e = cc
mapped-here f (y ∷ xs) zero x d e = ap f (same_Some y x e)
mapped-here f (y ∷ xs) (suc k) x d e = mapped-here f xs k x d e

pub within : {X : Type 0} (xs : List X) (k : ℕ) (x : X) → slice_get xs k ≡ Some x → k < length xs
within [] k x e = cc
within (y ∷ xs) zero x e = omega arith
within (y ∷ xs) (suc k) x e = let lt = within xs k x e in omega (arith, lt)

-- a property of the tallies up to a place, where it holds of those before it, and one more is changed
pub done-more : {T : Type 0} (d : T) (P : ℕ → T → Type 0) (xs : List T) (k : ℕ) (x : T) → k < length xs → ((i : ℕ) → i < k → P i (get_or xs i d)) → P k x → (i : ℕ) → i < k + 1 → P i (get_or (set xs k x) i d)
done-more d P xs k x lt before here i below = by (nat_eq i k) refl
  where
    by : (b : Bool) → nat_eq i k ≡ b → P i (get_or (set xs k x) i d)
    by true e =
        let is : i ≡ k = eqb-true i k e in
        subst (λ n. P n (get_or (set xs k x) n d)) (sym is) (subst (P k) (sym (get_or-set_same xs k x d lt)) here)
    by false e =
        let other : i ≢ k = λ h. cc (sym (eq-eqb i k h) ∙ e) in
        subst (P i) (sym (get_or-set_other xs k i x d other)) (before i (omega (arith, below, other)))

-- ---- room for more groups

pub grown-more : (before now : List (List KeptTotal)) (k : ℕ) (x : List KeptTotal) → k < length now → AreGrown before now → length (get_or now k []) ≤ length x → ((p : ℕ) → get_or x p total.Null ≡ get_or (get_or now k []) p total.Null) → AreGrown before (set now k x)
grown-more before now k x lt grown long same = record {
  many = length-set now k x ∙ grown.many;
  longer = λ i. longer i (nat_eq i k) refl;
  same = λ i p. alike i p (nat_eq i k) refl;
}
  where
    longer : (i : ℕ) (b : Bool) → nat_eq i k ≡ b → length (get_or before i []) ≤ length (get_or (set now k x) i [])
    longer i true e =
        let is : i ≡ k = eqb-true i k e in
        let here = ap length (get_or-set_same now k x [] lt) in
        let was = grown.longer k in
        subst (λ n. length (get_or before n []) ≤ length (get_or (set now k x) n [])) (sym is) (omega (arith, here, was, long))
    longer i false e =
        let other : i ≢ k = λ h. cc (sym (eq-eqb i k h) ∙ e) in
        subst (λ t. length (get_or before i []) ≤ length t) (sym (get_or-set_other now k i x [] other)) (grown.longer i)

    alike : (i p : ℕ) (b : Bool) → nat_eq i k ≡ b → get_or (get_or (set now k x) i []) p total.Null ≡ get_or (get_or before i []) p total.Null
    alike i p true e =
        let is : i ≡ k = eqb-true i k e in
        ap (λ n. get_or (get_or (set now k x) n []) p total.Null) is ∙ ap (λ t. get_or t p total.Null) (get_or-set_same now k x [] lt) ∙ same p ∙ grown.same k p ∙ ap (λ n. get_or (get_or before n []) p total.Null) (sym is)
    alike i p false e =
        let other : i ≢ k = λ h. cc (sym (eq-eqb i k h) ∙ e) in
        ap (λ t. get_or t p total.Null) (get_or-set_other now k i x [] other) ∙ grown.same i p

-- tallies with room for more groups are those of more groups
pub grown-tallies : (j : JobShape) (n m : ℕ) (before after : List (List KeptTotal)) → AreTallies j n before → AreGrown before after → ((i : ℕ) → i < length before → m ≤ length (get_or after i [])) → n ≤ m → AreTallies j m after
grown-tallies j n m before after are grown long more = record {
  many = grown.many ∙ are.many;
  each = λ i a at.
      let was = are.each i a at in
      let lt = within j.query.aggregates i a at in
      let many = are.many in
      record {
        long = long i (omega (arith, lt, many));
        kept = λ p. subst (λ t. IsKept (texts_of j a) (kept_total t)) (sym (grown.same i p)) (was.kept p);
        rest = λ p past. grown.same i p ∙ was.rest p (omega (arith, past, more));
      };
}

-- those of as many groups as before
pub grown-same : (j : JobShape) (n : ℕ) (before after : List (List KeptTotal)) → AreTallies j n before → AreGrown before after → AreTallies j n after
grown-same j n before after are grown = record {
  many = grown.many ∙ are.many;
  each = λ i a at.
      let was = are.each i a at in
      let long = was.long in
      let longer = grown.longer i in
      record {
        long = omega (arith, long, longer);
        kept = λ p. subst (λ t. IsKept (texts_of j a) (kept_total t)) (sym (grown.same i p)) (was.kept p);
        rest = λ p past. grown.same i p ∙ was.rest p past;
      };
}

-- the totals of grown tallies
pub tells-grown : (j : JobShape) (before after : List (List KeptTotal)) (rows : ℕ → List SeenRow) → AreGrown before after → AllTell j before rows → AllTell j after rows
tells-grown j before after rows grown tells = λ i a at p. subst (λ t. IsTotal i a (rows p) (spelt_cell (texts_of j a) (kept_total t))) (sym (grown.same i p)) (tells i a at p)
