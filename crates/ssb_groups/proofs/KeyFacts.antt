-- Keys are equal where their values are.
use Rattle.std.proofs.Common.{◌≡◌, ◌∙◌, ◌<◌, ℕ, ℤ, pos, nat_eq, bytes_eq, Bool, true, false, true≢false, ◌&&◌, List, [], ◌∷◌, length, get_or, refl, sym, ap, ap₂, subst, arith}
use Rattle.std.specs.Bool.{Decides}
use Rattle.std.specs.Cmp.{IsEquivalence}
use Rattle.std.specs.Cmp.Lexicographic.{pointwise, bytes_decides}
use Rattle.std.proofs.lemmas.Bool.{eq-eqb, eqb-true}
use Rattle.std.proofs.lemmas.Bool.Decides.{Decides-eqb, Decides-int_eq, Decides-like, same_from_decides}
use Rattle.std.proofs.lemmas.Slice.Eq.{slice_eq-Decides}
use Rattle.std.proofs.lemmas.Cmp.{lists_equiv, int_eq_equiv, nat_list_eq_equiv}
use Rattle.std.proofs.lemmas.Option.{same_Some}
use Rattle.ssb_cells.specs.Cell.{Cell, null, number, text}
use Rattle.ssb_cells.specs.Codes.{code_of, texts_of}
use Rattle.ssb_cells.proofs.CodeFacts.{code-of}
use Rattle.ssb_keys.specs.Domains.{AreIn, cells, size}
use Rattle.ssb_keys.specs.Domains.{number as number_of}
use Rattle.ssb_keys.specs.declared.domain.Domain.{Domain}
use Rattle.ssb_keys.proofs.DomainFacts.{cells-number, number-below, number-cells}
use Rattle.ssb_plan.specs.JobShape.{JobShape}
use Rattle.ssb_groups.specs.Keys.{AreKept, HasNumbers, IsKept, IsKey, cells_in, domains_of, key_columns, spelt, spelt_cell}
use Rattle.ssb_groups.specs.Rows.{cell_eq, key_eq}
use Rattle.ssb_groups.specs.GroupKeys.{cells_equal}
use Rattle.ssb_groups.specs.GroupKeys.{GroupKey}
use Rattle.ssb_groups.specs.GroupKeys as form
use Rattle.ssb_keys.specs.declared.kept.Kept.{Kept}
use Rattle.ssb_keys.specs.declared.kept.Kept.TheVariants as kept

cell_itself : (a : Cell) → cell_eq a a ≡ true
cell_itself null = refl
cell_itself (number a) = int_eq_equiv.refl a
cell_itself (text a) = nat_list_eq_equiv.refl a

cell_flip : (a b : Cell) → cell_eq a b ≡ cell_eq b a
cell_flip null null = refl
cell_flip null (number b) = refl
cell_flip null (text b) = refl
cell_flip (number a) null = refl
cell_flip (number a) (number b) = int_eq_equiv.symm a b
cell_flip (number a) (text b) = refl
cell_flip (text a) null = refl
cell_flip (text a) (number b) = refl
cell_flip (text a) (text b) = nat_list_eq_equiv.symm a b

cell_alike : (a b c : Cell) → cell_eq a b ≡ true → cell_eq a c ≡ cell_eq b c
cell_alike null null c e = refl
cell_alike null (number b) c e = absurd (true≢false (sym e))
cell_alike null (text b) c e = absurd (true≢false (sym e))
cell_alike (number a) null c e = absurd (true≢false (sym e))
cell_alike (number a) (number b) null e = refl
cell_alike (number a) (number b) (number c) e = int_eq_equiv.congr a b c e
cell_alike (number a) (number b) (text c) e = refl
cell_alike (number a) (text b) c e = absurd (true≢false (sym e))
cell_alike (text a) null c e = absurd (true≢false (sym e))
cell_alike (text a) (number b) c e = absurd (true≢false (sym e))
cell_alike (text a) (text b) null e = refl
cell_alike (text a) (text b) (number c) e = refl
cell_alike (text a) (text b) (text c) e = nat_list_eq_equiv.congr a b c e

pub cell_eq_laws : IsEquivalence cell_eq
cell_eq_laws = record { refl = cell_itself; symm = cell_flip; congr = cell_alike }

pub key_eq_laws : IsEquivalence key_eq
key_eq_laws = lists_equiv cell_eq_laws

-- ---- the comparison of keys

-- the same number, or the same cells
abbrev pub keys_equal : GroupKey → GroupKey → Bool
keys_equal (form.Number n) (form.Number m) = nat_eq n m
keys_equal (form.Number n) (form.Cells ys) = false
keys_equal (form.Cells xs) (form.Number m) = false
keys_equal (form.Cells xs) (form.Cells ys) = pointwise cells_equal xs ys

-- codes of one column are equal exactly where their texts are
codes_same : (values : List Cell) (a b : ℕ) → a < length (texts_of values) → b < length (texts_of values) → nat_eq a b ≡ bytes_eq (get_or (texts_of values) a []) (get_or (texts_of values) b [])
codes_same values a b p q = by (nat_eq a b) (bytes_eq (letters a) (letters b)) refl refl
  where
    letters : ℕ → List ℕ
    letters code = get_or (texts_of values) code []

    same : bytes_eq (letters a) (letters b) ≡ true → a ≡ b
    same e = same_Some a b (sym (code-of values a p) ∙ ap (code_of values) ((bytes_decides (letters a) (letters b)).0 e) ∙ code-of values b q)

    by : (x y : Bool) → nat_eq a b ≡ x → bytes_eq (letters a) (letters b) ≡ y → x ≡ y
    by true true e h = refl
    by true false e h = absurd (true≢false (sym (nat_list_eq_equiv.refl (letters a)) ∙ ap (λ c. bytes_eq (letters a) (letters c)) (eqb-true a b e) ∙ h))
    by false true e h = absurd (true≢false (sym (eq-eqb a b (same h)) ∙ e))
    by false false e h = refl

cell_same : (values : List Cell) (a b : Kept) → IsKept values a → IsKept values b → cells_equal a b ≡ cell_eq (spelt_cell values a) (spelt_cell values b)
cell_same values kept.Null kept.Null p q = refl
cell_same values kept.Null (kept.Number b) p q = refl
cell_same values kept.Null (kept.Code b) p q = refl
cell_same values (kept.Number a) kept.Null p q = refl
cell_same values (kept.Number a) (kept.Number b) p q = refl
cell_same values (kept.Number a) (kept.Code b) p q = refl
cell_same values (kept.Code a) kept.Null p q = refl
cell_same values (kept.Code a) (kept.Number b) p q = refl
cell_same values (kept.Code a) (kept.Code b) p q = codes_same values a b p q

cells_same : (columns : List (List Cell)) (xs ys : List Kept) → AreKept columns xs → AreKept columns ys → pointwise cells_equal xs ys ≡ key_eq (spelt columns xs) (spelt columns ys)
cells_same [] [] [] p q = refl
cells_same [] [] (y ∷ ys) p q = absurd q
cells_same [] (x ∷ xs) ys p q = absurd p
cells_same (v ∷ vs) [] ys p q = absurd p
cells_same (v ∷ vs) (x ∷ xs) [] p q = absurd q
cells_same (v ∷ vs) (x ∷ xs) (y ∷ ys) p q = ap₂ (λ a b. a && b) (cell_same v x y p.0 q.0) (cells_same vs xs ys p.1 q.1)

-- ---- what stands for values is equal exactly where it is the same

abbrev number_in : Kept → ℤ
number_in kept.Null = pos 0
number_in (kept.Number n) = n
number_in (kept.Code code) = pos 0

abbrev code_in : Kept → ℕ
code_in kept.Null = 0
code_in (kept.Number n) = 0
code_in (kept.Code code) = code

cell-decides : (a b : Kept) → Decides (cells_equal a b) (a ≡ b)
cell-decides kept.Null kept.Null = (λ h. refl, λ e. refl)
cell-decides kept.Null (kept.Number b) = (λ h. absurd (true≢false (sym h)), λ e. cc)
cell-decides kept.Null (kept.Code b) = (λ h. absurd (true≢false (sym h)), λ e. cc)
cell-decides (kept.Number a) kept.Null = (λ h. absurd (true≢false (sym h)), λ e. cc)
cell-decides (kept.Number a) (kept.Number b) = let d = Decides-int_eq a b in (λ h. ap kept.Number (d.0 h), λ e. d.1 (ap number_in e))
cell-decides (kept.Number a) (kept.Code b) = (λ h. absurd (true≢false (sym h)), λ e. cc)
cell-decides (kept.Code a) kept.Null = (λ h. absurd (true≢false (sym h)), λ e. cc)
cell-decides (kept.Code a) (kept.Number b) = (λ h. absurd (true≢false (sym h)), λ e. cc)
cell-decides (kept.Code a) (kept.Code b) = let d = Decides-eqb a b in (λ h. ap kept.Code (d.0 h), λ e. d.1 (ap code_in e))

-- numbers are equal exactly where their cells are
numbers_same : (ds : List Domain) (n m : ℕ) → n < size ds → m < size ds → nat_eq n m ≡ pointwise cells_equal (cells ds n) (cells ds m)
numbers_same ds n m p q =
    same_from_decides (nat_eq n m) (pointwise cells_equal (cells ds n) (cells ds m)) (Decides-eqb n m)
    (Decides-like (pointwise cells_equal (cells ds n) (cells ds m)) (λ e. sym (number-cells ds n p) ∙ ap (number_of ds) e ∙ number-cells ds m q) (λ e. ap (cells ds) e) (slice_eq-Decides cell-decides (cells ds n) (cells ds m) _ refl))

-- keys of one job are equal exactly where their values are
pub key_same : (j : JobShape) (x y : GroupKey) → IsKey j x → IsKey j y → keys_equal x y ≡ key_eq (cells_in j x) (cells_in j y)
key_same j (form.Number n) (form.Number m) p q = numbers_same (domains_of j) n m p.form.1 q.form.1 ∙ cells_same (key_columns j) _ _ p.kept q.kept
key_same j (form.Number n) (form.Cells ys) p q = absurd (omega (arith, p.form.0, q.form))
key_same j (form.Cells xs) (form.Number m) p q = absurd (omega (arith, p.form, q.form.0))
key_same j (form.Cells xs) (form.Cells ys) p q = cells_same (key_columns j) xs ys p.kept q.kept

-- the key that is the number of cells
pub number-key : (j : JobShape) (cs : List Kept) → HasNumbers j → AreIn (domains_of j) cs → AreKept (key_columns j) cs → IsKey j (form.Number (number_of (domains_of j) cs))
number-key j cs has there is = record { form = (has, number-below (domains_of j) cs there); kept = subst (AreKept (key_columns j)) (sym (cells-number (domains_of j) cs there)) is }
