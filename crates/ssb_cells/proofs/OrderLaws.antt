-- The order of values is a total order, and ties only values that are the same: for the layers above.
use Rattle.std.proofs.Common.{◌≡◌, ◌∙◌, ℕ, ℤ, pos, List, [], refl, ap, subst}
use Rattle.std.proofs.lemmas.Cmp.{int_ranked, tied_itself}
use Rattle.std.specs.Cmp.{IsTotalOrder, then_total, on_total, nat_cmp_total, int_cmp_total}
use Rattle.std.specs.Cmp.Lexicographic.{slice_cmp, nat_list_cmp_total, texts_ties, bytes_decides}
use Rattle.std.specs.Ordering.{is_eq, int_cmp, nat_cmp, ordering_reverse, ordering_then, on, then_cmp, MatchOrdering}
use Rattle.std.specs.declared.cmp.Ordering.{Ordering}
use Rattle.std.specs.declared.cmp.Ordering.TheVariants.{Less, Equal, Greater}
use Rattle.ssb_cells.specs.Cell.{Cell, null, number, text}
use Rattle.ssb_cells.specs.Order.{cell_cmp}

-- ---- by three orders, one after the other

abbrev rank : Cell → ℕ
rank null = 0
rank (number n) = 1
rank (text t) = 2

abbrev amount : Cell → ℤ
amount null = pos 0
amount (number n) = n
amount (text t) = pos 0

abbrev bytes : Cell → List ℕ
bytes null = []
bytes (number n) = []
bytes (text t) = t

abbrev by_parts : Cell → Cell → Ordering
by_parts = then_cmp (on rank nat_cmp) (then_cmp (on amount int_cmp) (on bytes (slice_cmp nat_cmp)))

then-equal : (o : Ordering) → ordering_then o Equal ≡ o
then-equal Less = refl
then-equal Equal = refl
then-equal Greater = refl

cell-parts : (a b : Cell) → by_parts a b ≡ cell_cmp a b
cell-parts null null = refl
cell-parts null (number b) = refl
cell-parts null (text b) = refl
cell-parts (number a) null = refl
cell-parts (number a) (number b) = then-equal (int_cmp a b)
cell-parts (number a) (text b) = refl
cell-parts (text a) null = refl
cell-parts (text a) (number b) = refl
cell-parts (text a) (text b) = refl

parts_total : IsTotalOrder by_parts
parts_total = then_total (on_total rank nat_cmp_total) (then_total (on_total amount int_cmp_total) (on_total bytes nat_list_cmp_total))

-- as std's lemmas on sorting want it
pub cell_total : IsTotalOrder cell_cmp
cell_total = subst IsTotalOrder (λ i a b. cell-parts a b i) parts_total

-- ---- each law alone

pub cell_cmp-itself : (a : Cell) → cell_cmp a a ≡ Equal
cell_cmp-itself = tied_itself cell_total

pub cell_cmp-swap : (a b : Cell) → cell_cmp a b ≡ ordering_reverse (cell_cmp b a)
cell_cmp-swap = cell_total.antisymm

pub cell_cmp-trans : (a b c : Cell) → cell_cmp a b ≡ Less → cell_cmp b c ≡ Less → cell_cmp a c ≡ Less
cell_cmp-trans = cell_total.trans

-- ---- what does not differ is the same

pub at-equal : (P Q R : Type 0) (o : Ordering) → o ≡ Equal → MatchOrdering o P Q R → Q
at-equal P Q R o e m = subst (λ w. MatchOrdering w P Q R) e m

int-same : (x y : ℤ) → int_cmp x y ≡ Equal → x ≡ y
int-same x y e = at-equal _ _ _ (int_cmp x y) e (int_ranked x y (int_cmp x y) refl)

text-same : (xs ys : List ℕ) → slice_cmp nat_cmp xs ys ≡ Equal → xs ≡ ys
text-same xs ys e = (bytes_decides xs ys).0 (texts_ties xs ys ∙ ap is_eq e)

pub cell-same : (a b : Cell) → cell_cmp a b ≡ Equal → a ≡ b
cell-same null null e = refl
cell-same null (number b) e = cc
cell-same null (text b) e = cc
cell-same (number a) null e = cc
cell-same (number a) (number b) e = ap number (int-same a b e)
cell-same (number a) (text b) e = cc
cell-same (text a) null e = cc
cell-same (text a) (number b) e = cc
cell-same (text a) (text b) e = ap text (text-same a b e)
