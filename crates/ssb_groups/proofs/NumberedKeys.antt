-- The numbers of keys, made column by column from the last one on.
use Rattle.std.proofs.Common.{◌≡◌, ◌∙◌, ℕ, zero, suc, ◌+◌, ◌*◌, ◌<◌, ◌≤◌, List, [], ◌∷◌, drop, get_or, length, map, refl, slice_get, Some, sym, ap, ap₂, subst, arith}
use Rattle.std.proofs.Math.Nat.{mul-le-mul_right}
use Rattle.std.proofs.lemmas.Option.{get_or_from_slice_get, slice_get-get_or}
use Rattle.std.specs.List.{All}
use Rattle.ssb_cells.specs.Tables.{Columns}
use Rattle.ssb_keys.specs.Domains.{AreIn, IsIn, cells, digit, number, radix, size}
use Rattle.ssb_keys.specs.declared.domain.Domain.{Domain}
use Rattle.ssb_keys.specs.declared.kept.Kept.{Kept}
use Rattle.ssb_keys.proofs.DomainFacts.{cells-number, number-below}
use Rattle.ssb_plan.specs.Inputs.{table_at}
use Rattle.ssb_plan.specs.JobShape.{JobShape}
use Rattle.ssb_plan.specs.declared.input.ColumnRef.{ColumnRef}
use Rattle.ssb_groups.specs.Gathering.{key_at}
use Rattle.ssb_groups.specs.Keys.{AreNumbersOf, HasNumbers, IsKey, IsNumberOf, cells_in, domain_of, domains_of, key_columns, key_of, spelt}
use Rattle.ssb_groups.specs.Places.{number_cells}
use Rattle.ssb_groups.specs.GroupKeys as form
use Rattle.ssb_groups.proofs.ColumnFacts.{key-kept, key-spelt}
use Rattle.ssb_groups.proofs.KeyFacts.{number-key}
use Rattle.ssb_groups.proofs.ValueDomains.{some-radix}

-- the number of the columns from one on, which has values for them
pub record IsNumberFrom (ds : List Domain) (i : ℕ) (cs : List Kept) (n : ℕ) : Type 0 where
  pub number_is : n ≡ number (drop i ds) (drop i cs)
  pub there : AreIn (drop i ds) (drop i cs)

pub none-yet : (ds : List Domain) (cs : List Kept) → length cs ≡ length ds → IsNumberFrom ds (length ds) cs 0
none-yet [] [] same = record { number_is = refl; there = tt }
none-yet [] (c ∷ cs) same = absurd (omega (arith, same))
none-yet (d ∷ ds) [] same = absurd (omega (arith, same))
none-yet (d ∷ ds) (c ∷ cs) same = let rest = none-yet ds cs (omega (arith, same)) in record { number_is = rest.number_is; there = rest.there }

-- ---- one digit more

number-more : (ds : List Domain) (cs : List Kept) (i : ℕ) (d : Domain) (c : Kept) → i < length ds → i < length cs
    → number (drop i ds) (drop i cs) ≡ number (drop (suc i) ds) (drop (suc i) cs) * radix (get_or ds i d) + digit (get_or ds i d) (get_or cs i c)
number-more [] cs i d c h k = absurd (omega (arith, h))
number-more (e ∷ ds) [] i d c h k = absurd (omega (arith, k))
number-more (e ∷ ds) (x ∷ cs) zero d c h k = refl
number-more (e ∷ ds) (x ∷ cs) (suc i) d c h k = number-more ds cs i d c (omega (arith, h)) (omega (arith, k))

there-more : (ds : List Domain) (cs : List Kept) (i : ℕ) (d : Domain) (c : Kept) → i < length ds → i < length cs → AreIn (drop (suc i) ds) (drop (suc i) cs) → IsIn (get_or ds i d) (get_or cs i c) → AreIn (drop i ds) (drop i cs)
there-more [] cs i d c h k rest here = absurd (omega (arith, h))
there-more (e ∷ ds) [] i d c h k rest here = absurd (omega (arith, k))
there-more (e ∷ ds) (x ∷ cs) zero d c h k rest here = (here, rest)
there-more (e ∷ ds) (x ∷ cs) (suc i) d c h k rest here = there-more ds cs i d c (omega (arith, h)) (omega (arith, k)) rest here

pub one-more : (ds : List Domain) (cs : List Kept) (i n : ℕ) (d : Domain) (c : Kept) → i < length ds → i < length cs → IsNumberFrom ds (suc i) cs n → IsIn (get_or ds i d) (get_or cs i c)
    → IsNumberFrom ds i cs (n * radix (get_or ds i d) + digit (get_or ds i d) (get_or cs i c))
one-more ds cs i n d c h k is here = record {
  number_is = ap (λ m. m * radix (get_or ds i d) + digit (get_or ds i d) (get_or cs i c)) is.number_is ∙ sym (number-more ds cs i d c h k);
  there = there-more ds cs i d c h k is.there here;
}

-- ---- there is room for it

size-drop : (tables : List Columns) (rs : List ColumnRef) (i : ℕ) → size (drop i (map (domain_of tables) rs)) ≤ size (map (domain_of tables) rs)
size-drop tables [] zero = omega arith
size-drop tables [] (suc i) = omega arith
size-drop tables (r ∷ rs) zero = omega arith
size-drop tables (r ∷ rs) (suc i) =
    let rest = size-drop tables rs i in
    let some = some-radix (slice_get (table_at tables r.table) r.column) in
    let more : 1 * size (map (domain_of tables) rs) ≤ radix (domain_of tables r) * size (map (domain_of tables) rs) = mul-le-mul_right (size (map (domain_of tables) rs)) (omega (arith, some)) in
    omega (arith, rest, more)

pub has-room : (tables : List Columns) (rs : List ColumnRef) (cs : List Kept) (i n m : ℕ) → IsNumberFrom (map (domain_of tables) rs) i cs n → size (map (domain_of tables) rs) ≤ m → n < m
has-room tables rs cs i n m is few =
    let below = number-below (drop i (map (domain_of tables) rs)) (drop i cs) is.there in
    let fewer = size-drop tables rs i in
    let same = is.number_is in
    omega (arith, below, fewer, few, same)

-- ---- the number of a key

pub is-number : (j : JobShape) (rows : List ℕ) (n : ℕ) → IsNumberFrom (domains_of j) 0 (key_of j rows) n → IsNumberOf j rows n
is-number j rows n is = record { number = is.number_is; there = is.there }

module _ (j : JobShape) (rows : List ℕ) (n : ℕ) (few : HasNumbers j) (is : IsNumberOf j rows n) where
  pub number-is-key : IsKey j (form.Number n)
  number-is-key = subst (λ m. IsKey j (form.Number m)) (sym is.number) (number-key j (key_of j rows) few is.there (key-kept j rows))

  pub number-of-key : cells_in j (form.Number n) ≡ key_at j rows
  number-of-key = ap (spelt (key_columns j)) (ap (cells (domains_of j)) is.number ∙ cells-number (domains_of j) (key_of j rows) is.there) ∙ key-spelt j rows

each-same : (j : JobShape) (ns : List ℕ) (block : List (List ℕ)) → length ns ≡ length block → ((i : ℕ) (rows : List ℕ) → slice_get block i ≡ Some rows → number_cells j (get_or ns i 0) ≡ key_at j rows) → map (number_cells j) ns ≡ map (key_at j) block
each-same j [] [] same each = refl
each-same j [] (rows ∷ block) same each = absurd (omega (arith, same))
each-same j (n ∷ ns) [] same each = absurd (omega (arith, same))
each-same j (n ∷ ns) (rows ∷ block) same each = ap₂ (λ x xs. x ∷ xs) (each 0 rows refl) (each-same j ns block (omega (arith, same)) (λ i rs at. each (suc i) rs at))

-- the values of the keys of a block
pub numbers-of-keys : (j : JobShape) (ns : List ℕ) (block : List (List ℕ)) → HasNumbers j → AreNumbersOf j block ns → map (number_cells j) ns ≡ map (key_at j) block
numbers-of-keys j ns block few are = each-same j ns block are.many (λ i rows at. number-of-key j rows (get_or ns i 0) few (are.each i rows at))

pub numbers-are-keys : (j : JobShape) (ns : List ℕ) (block : List (List ℕ)) → HasNumbers j → AreNumbersOf j block ns → All (λ n. IsKey j (form.Number n)) ns
numbers-are-keys j ns block few are = λ k d lt.
    let many = are.many in
    let at = slice_get-get_or block k [] (omega (arith, many, lt)) in
    subst (λ n. IsKey j (form.Number n)) (sym (get_or_from_slice_get ns k (get_or ns k 0) d (slice_get-get_or ns k 0 lt))) (number-is-key j (get_or block k []) (get_or ns k 0) few (are.each k (get_or block k []) at))
