-- Numbers as cells, and their sums, which are kept outside the tally while places repeat.
use Rattle.std.proofs.Common.{◌≡◌, ◌∙◌, ℕ, ◌<◌, ◌≤◌, ◌+◌, ◌*◌, zero, suc, Bool, true, false, true≢false, ◌∷◌, ap₂, ℤ, FitsSigned, w64, pos, negsuc, ◌+ℤ◌, List, [], length, get_or, refl, sym, ap, subst, arith}
use Rattle.std.specs.List.{All}
use Rattle.std.specs.Prelude.{⊤, ◌==◌, if◌then◌else◌}
use Rattle.std.proofs.Math.ListN.{set}
use Rattle.std.proofs.lemmas.Int.{ints}
use Rattle.std.proofs.lemmas.List.{get_or-map, get_or-set_same, length-map, set-set}
use Rattle.ssb_cells.specs.Cell.{Cell, number}
use Rattle.ssb_cells.specs.Tables.{Columns}
use Rattle.ssb_groups.specs.Joining.{AddsAs, FitsAdded, JoinsTotal, added}
use Rattle.ssb_groups.specs.Keys.{AreOfKind, FitsSum, IsKept, IsOfKind, kept_total, spelt_cell}
use Rattle.ssb_groups.specs.Tallies.{kept_codes, kept_numbers}
use Rattle.ssb_groups.specs.Alone.{AreAlone, AreApplied, IsApplied, IsItself}
use Rattle.ssb_groups.specs.Outcomes.{exact}
use Rattle.ssb_groups.specs.Stands.{IsRanged}
use Rattle.ssb_groups.specs.Value.{apply, checked, in_range, known, over}
use Rattle.ssb_groups.specs.declared.outcome.Operation.{Operation}
use Rattle.ssb_groups.specs.declared.joining.Joining.TheVariants as joining
use Rattle.ssb_terms.specs.declared.rule.ColType.TheVariants as kinds
use Rattle.ssb_groups.specs.declared.kept.KeptTotal.{KeptTotal}
use Rattle.ssb_groups.specs.declared.kept.KeptTotal.TheVariants as total
use Rattle.ssb_keys.specs.declared.kept.Kept.{Kept}
use Rattle.ssb_keys.specs.declared.kept.Kept.TheVariants as kept
use Rattle.ssb_trees.specs.declared.aggregate.SetFunction.{SetFunction}
use Rattle.ssb_groups.proofs.TallyFacts.{JoinedTo, joined-next}

pub number-at : (ns : List ℤ) (k : ℕ) → k < length ns → get_or (kept_numbers ns) k kept.Null ≡ kept.Number (get_or ns k (pos 0))
number-at ns k lt = get_or-map kept.Number ns k (pos 0) kept.Null lt

pub code-at : (cs : List ℕ) (k : ℕ) → k < length cs → get_or (kept_codes cs) k kept.Null ≡ kept.Code (get_or cs k 0)
code-at cs k lt = get_or-map kept.Code cs k 0 kept.Null lt

pub numbers-of-kind : (ns : List ℤ) (m : ℕ) → length ns ≤ m → ((n : ℕ) → n < m → in_range (get_or ns n (pos 0)) ≡ true) → AreOfKind kinds.Int (kept_numbers ns)
numbers-of-kind ns m all range = λ n lt.
    let within : n < length ns = omega (arith, lt, length-map ns kept.Number) in
    subst (IsOfKind kinds.Int) (sym (number-at ns n within)) (range n (omega (arith, within, all)))

-- one more is joined to the total of the present place
pub next : (tables : List Columns) (places : List ℕ) (more : List Kept) (before tally : List KeptTotal) (place at : ℕ) (sum x : KeptTotal) → All (λ p. p < length before) places → at < length places → place < length tally → place ≡ get_or places at 0
    → JoinsTotal joining.Adds (spelt_cell [] (kept_total sum)) (spelt_cell [] (get_or more at kept.Null)) (spelt_cell [] (kept_total x)) → (IsKept [] (kept_total sum) → IsKept [] (kept_total x)) → JoinedTo tables joining.Adds places more before (set tally place sum) at
    → JoinedTo tables joining.Adds places more before (set tally place x) (at + 1)
next tables places more before tally place at sum x there lt inside is joins is-kept to =
    let now = set tally place sum in
    let here : get_or now place total.Null ≡ sum = get_or-set_same tally place sum total.Null inside in
    let at-place : get_or now (get_or places at 0) total.Null ≡ sum = ap (λ p. get_or now p total.Null) (sym is) ∙ here in
    let joined = joined-next tables joining.Adds places more before now at x there lt to
    (subst (λ t. JoinsTotal joining.Adds (spelt_cell [] (kept_total t)) (spelt_cell [] (get_or more at kept.Null)) (spelt_cell [] (kept_total x))) (sym at-place) joins)
    (is-kept (subst (λ t. IsKept [] (kept_total t)) here (to.kept place))) in
    subst (λ xs. JoinedTo tables joining.Adds places more before xs (at + 1)) (ap (λ p. set now p x) (sym is) ∙ set-set tally place sum x) joined

-- ---- what an operation makes of two

ranged-checked : (z : ℤ) → IsRanged (checked z)
ranged-checked z = by (in_range z) refl
  where
    by : (b : Bool) → in_range z ≡ b → IsRanged (if b then known (number z) else over)
    by true e = e
    by false e = tt

checked-in : (z : ℤ) → in_range z ≡ true → checked z ≡ known (number z)
checked-in z e = ap (λ b. if b then known (number z) else over) e

applied-number : (o : Operation) (f : SetFunction) (a b x : ℤ) → IsItself f kinds.Int → in_range a ≡ true → in_range b ≡ true → known (number x) ≡ checked (exact o a b) → IsApplied o f (kept.Number a) (kept.Number b) (kept.Number x)
applied-number o f a b x itself left right is = record {
  cell = kept.Number x;
  number = λ vs ws us. is ∙ ap₂ (apply (exact o)) (sym (checked-in a left)) (sym (checked-in b right));
  kept = λ us. tt;
  alone = itself (kept.Number x) (subst IsRanged (sym is) (ranged-checked (exact o a b)));
}

pub numbers-applied : (o : Operation) (f : SetFunction) (left right xs : List ℤ) → IsItself f kinds.Int → length left ≡ length right → length xs ≡ length left → AreOfKind kinds.Int (kept_numbers left) → AreOfKind kinds.Int (kept_numbers right)
    → ((n : ℕ) → n < length left → known (number (get_or xs n (pos 0))) ≡ checked (exact o (get_or left n (pos 0)) (get_or right n (pos 0)))) → AreApplied o f (kept_numbers left) (kept_numbers right) (kept_numbers xs)
numbers-applied o f left right xs itself beside many lefts rights each = record {
  many = length-map xs kept.Number ∙ many ∙ sym (length-map left kept.Number);
  each = λ n lt.
      let here : n < length left = omega (arith, lt, length-map left kept.Number) in
      let there : n < length right = omega (arith, here, beside) in
      let past : n < length xs = omega (arith, here, many) in
      let in-left = subst (IsOfKind kinds.Int) (number-at left n here) (lefts n lt) in
      let in-right = subst (IsOfKind kinds.Int) (number-at right n there) (rights n (omega (arith, there, length-map right kept.Number))) in
      let one = applied-number o f (get_or left n (pos 0)) (get_or right n (pos 0)) (get_or xs n (pos 0)) itself in-left in-right (each n here) in
      subst (λ c. IsApplied o f c (get_or (kept_numbers right) n kept.Null) (get_or (kept_numbers xs) n kept.Null)) (sym (number-at left n here))
      (subst (λ c. IsApplied o f (kept.Number (get_or left n (pos 0))) c (get_or (kept_numbers xs) n kept.Null)) (sym (number-at right n there)) (subst (IsApplied o f (kept.Number (get_or left n (pos 0))) (kept.Number (get_or right n (pos 0)))) (sym (number-at xs n past)) one));
}

-- values that are numbers, where a set function over one alone is that one
pub numbers-alone : (f : SetFunction) (ns : List ℤ) → IsItself f kinds.Int → AreOfKind kinds.Int (kept_numbers ns) → AreAlone f (kept_numbers ns) (kept_numbers ns)
numbers-alone f ns itself kinds = record { many = refl; each = λ n lt. itself (get_or (kept_numbers ns) n kept.Null) (kinds n lt) }

-- the same of codes
codes-of-kind : (cs : List ℕ) (n : ℕ) → IsOfKind kinds.Text (get_or (kept_codes cs) n kept.Null)
codes-of-kind [] n = tt
codes-of-kind (c ∷ cs) zero = tt
codes-of-kind (c ∷ cs) (suc n) = codes-of-kind cs n

pub codes-alone : (f : SetFunction) (cs : List ℕ) → IsItself f kinds.Text → AreAlone f (kept_codes cs) (kept_codes cs)
codes-alone f cs itself = record { many = refl; each = λ n lt. itself (get_or (kept_codes cs) n kept.Null) (codes-of-kind cs n) }

-- ---- a sum as a number

-- a total shows a sum that it has room for
pub record Shows (t : KeptTotal) (s : ℤ) : Type 0 where
  pub number : FitsSum s → kept_total t ≡ kept.Number s
  pub kept : IsKept [] (kept_total t)

-- the total of a sum, of any size
pub some-total : (s : ℤ) → (t : KeptTotal) × (kept_total t ≡ kept.Number s)
some-total (pos n) = (total.Number (pos 0) n, ap kept.Number (omega (arith, ints)))
some-total (negsuc n) = (total.Number (negsuc n) (suc n * 18446744073709551615), ap kept.Number (omega (arith, ints)))

abbrev FitsCell : Cell → Type 0
FitsCell (number n) = FitsSum n
FitsCell c = ⊤

fits-added : (t : Kept) (n : ℤ) → IsKept [] t → FitsSum n → FitsAdded (spelt_cell [] t) (number n) → FitsCell (added (spelt_cell [] t) (number n))
fits-added kept.Null n is small fits = small
fits-added (kept.Number m) n is small fits = fits
fits-added (kept.Code c) n is small fits = absurd (omega (arith, is))

-- a number is added to the sum from which a total goes on
joins-number : (t : Kept) (s n after : ℤ) (x : KeptTotal) → AddsAs t s → IsKept [] t → FitsSum n → (FitsSum (s +ℤ n) → after ≡ s +ℤ n) → Shows x after → JoinsTotal joining.Adds (spelt_cell [] t) (number n) (spelt_cell [] (kept_total x))
joins-number t s n after x goes is small sum shows = λ fits.
    let all : FitsSum (s +ℤ n) = subst FitsCell (goes n) (fits-added t n is small fits) in
    ap (spelt_cell []) (shows.number (subst FitsSum (sym (sum all)) all)) ∙ ap number (sum all) ∙ sym (goes n)

-- what is joined so far, where a total is written at the present place from which a sum goes on
pub record Adding (places : List ℕ) (more : List Kept) (before tally : List KeptTotal) (place at : ℕ) (s : ℤ) : Type 0 where
  pub sum : KeptTotal
  pub goes : AddsAs (kept_total sum) s
  pub kept : IsKept [] (kept_total sum)
  pub joined : (tables : List Columns) → JoinedTo tables joining.Adds places more before (set tally place sum) at

shows-some : (s : ℤ) → Shows (some-total s).0 s
shows-some s = record { number = λ fits. (some-total s).1; kept = subst (IsKept []) (sym (some-total s).1) tt }

adds-number : (s : ℤ) → AddsAs (kept.Number s) s
adds-number s = λ n. refl

module _ (places : List ℕ) (more : List Kept) (before tally : List KeptTotal) (place at : ℕ) (s n after : ℤ) (there : All (λ p. p < length before) places) (lt : at < length places) (inside : place < length tally) (is : place ≡ get_or places at 0) (here : get_or more at kept.Null ≡ kept.Number n) (small : FitsSum n)
    (sum : FitsSum (s +ℤ n) → after ≡ s +ℤ n) (now : Adding places more before tally place at s)
  where
    -- any total that shows the next sum may be written
    pub adds-shown : (tables : List Columns) (x : KeptTotal) → Shows x after → JoinedTo tables joining.Adds places more before (set tally place x) (at + 1)
    adds-shown tables x shows =
        next tables places more before tally place at now.sum x there lt inside is
        (subst (λ c. JoinsTotal joining.Adds (spelt_cell [] (kept_total now.sum)) (spelt_cell [] c) (spelt_cell [] (kept_total x))) (sym here) (joins-number (kept_total now.sum) s n after x now.goes now.kept small sum shows)) (λ k. shows.kept) (now.joined tables)

    pub adds-next : Adding places more before tally place (at + 1) after
    adds-next = record {
      sum = (some-total after).0;
      goes = subst (λ t. AddsAs t after) (sym (some-total after).1) (adds-number after);
      kept = (shows-some after).kept;
      joined = λ tables. adds-shown tables (some-total after).0 (shows-some after);
    }

pub filled : {X : Type 0} (xs : List X) → (length xs == 0) ≡ false → 0 < length xs
filled [] e = absurd (true≢false e)
filled (x ∷ xs) e = omega arith

-- a place comes that is another than the first
pub started : (places : List ℕ) (place at : ℕ) → (at ≡ 0 → place ≡ get_or places 0 0) → (get_or places at 0 ≡ place → ⊥) → 0 < at
started places place zero first other = absurd (other (sym (first refl)))
started places place (suc at) first other = omega arith

pub fits-64 : (z : ℤ) → FitsSigned w64 z → FitsSum z
fits-64 (pos n) h = (omega (arith, ints), omega (arith, ints))
fits-64 (negsuc n) h = (omega (arith, ints), omega (arith, ints))
