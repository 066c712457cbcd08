-- Good records give a lawful table.
use Rattle.std.proofs.Common.{◌≡◌, ◌≢◌, ◌∙◌, ◌+◌, ◌<◌, ◌++◌, ◌&&◌, ℕ, ℤ, zero, suc, Bool, true, false, cond, not, List, [], ◌∷◌, length, map, take, get_or, slice_get, Option, Some, None, inl, inr, refl, sym, ap, subst, arith, append_assoc}
use Rattle.std.specs.Prelude.{All, AllPairs, is_none, nat_lt, unwrap_or, pos, neg_ℤ, drop, ◌^◌, ◌≤◌}
use Rattle.std.specs.Str.{all_ascii_digits}
use Rattle.std.specs.Str.Parse.{digits_value, starts_with_minus}
use Rattle.std.specs.List.{list_any}
use Rattle.std.specs.Ordering.{int_eq}
use Rattle.std.proofs.lemmas.Bool.{false≢true, or_parts}
use Rattle.std.proofs.lemmas.Bool.Decides.{Decides-int_eq, Decides-ltb, leb_tells, nat_tests}
use Rattle.std.proofs.lemmas.List.{append-nil, get_or-map, length-map}
use Rattle.std.proofs.lemmas.List.Elements.{All-cons, All-nil}
use Rattle.ssb_cells.specs.Cell.{Cell, null, number}
use Rattle.ssb_cells.specs.Tables.{Filled}
use Rattle.ssb_terms.specs.declared.rule.ColType.{ColType}
use Rattle.ssb_terms.specs.declared.rule.ColType.TheVariants as kinds
use Rattle.ssb_catalog.specs.Shapes.{is_int}
use Rattle.ssb_records.specs.Records.{Fields, field, is_empty}
use Rattle.ssb_load.specs.Numbers.{number_of}
use Rattle.ssb_terms.specs.Roles.{needs_value, is_key, key_place}
use Rattle.ssb_load.specs.Rules.{any_from, key_of, is_value, is_key_taken, value_in, cell_in, columns_from, columns_of}
use Rattle.ssb_load.specs.Loader.{fails}
use Rattle.ssb_load.specs.Tables.{fault_of, first_fault}
use Rattle.ssb_cells.specs.Lawful.{FitsType, EachObeys, HasOneKey, IsGiven, IsInt64, IsLawful}
use Rattle.ssb_terms.specs.declared.rule.Rule.{Rule}
use Rattle.ssb_load.specs.declared.value.Test.TheVariants as tests
use Rattle.ssb_terms.proofs.RoleFacts.{key-needs}
use Rattle.ssb_load.proofs.FaultFacts.{Passes, passes, later-none}

all-map : {A B : Type 0} (f : A → B) (P : B → Type 0) (a : A) (xs : List A) → ((i : ℕ) → i < length xs → P (f (get_or xs i a))) → All P (map f xs)
all-map f P a xs h k d lt =
    let n = length-map xs f in
    let small : k < length xs = omega arith in
    subst P (sym (get_or-map f xs k a d small)) (h k small)

-- each record of good ones passes, beside those before it
pub each-good : (rules : List Rule) (m : ℕ) (before rs : List Fields) (j : ℕ) → first_fault rules m before rs ≡ None → j < length rs → fault_of rules m (before ++ take j rs) (get_or rs j []) ≡ None
unfolding first_fault
each-good rules m before [] j e lt = absurd (omega arith)
each-good rules m before (r ∷ rs) zero e lt = let g = later-none (fault_of rules m before r) _ _ e in rw (append-nil before) g.0
each-good rules m before (r ∷ rs) (suc j) e lt =
    let g = later-none (fault_of rules m before r) _ _ e in
    let h = each-good rules m (before ++ r ∷ []) rs j g.1 (omega arith) in
    rw (append_assoc before (r ∷ []) (take j rs)) at h

any-at : (t : Rule → List ℕ → Bool) (at k : ℕ) (ps : List Rule) (p : Rule) (r : Fields) → any_from t at ps r ≡ false → slice_get ps k ≡ Some p → t p (field r (at + k)) ≡ false
any-at t at k [] p r e is = cc is
any-at t at zero (q ∷ ps) p r e is =
    let same : q ≡ p = cc in
    let h : at + 0 ≡ at = omega arith in
    rw (← same, h) (or_parts _ _ e).0
any-at t at (suc k) (q ∷ ps) p r e is =
    let h : at + suc k ≡ at + 1 + k = omega arith in
    rw h (any-at t (at + 1) k ps p r (or_parts _ _ e).1 is)

-- the column of a rule
column-at : (at k : ℕ) (ps : List Rule) (p : Rule) (rs : List Fields) (c : Filled) → slice_get ps k ≡ Some p → slice_get (columns_from at ps rs) k ≡ Some c → c ≡ record { kind = p.kind; values = map (λ r. cell_in p.kind (field r (at + k))) rs }
column-at at k [] p rs c is got = cc is
column-at at zero (q ∷ ps) p rs c is got =
    let same : q ≡ p = cc in
    let h : at + 0 ≡ at = omega arith in
    rw (h, ← same) (cc)
column-at at (suc k) (q ∷ ps) p rs c is got =
    let h : at + suc k ≡ at + 1 + k = omega arith in
    rw h (column-at (at + 1) k ps p rs c is got)

-- a field under its rule
fits-value : (kind : ColType) (f : List ℕ) → FitsType kind (value_in kind f)
fits-value kinds.Int f = tt
fits-value kinds.Text f = tt

null-fits : (kind : ColType) → FitsType kind null
null-fits kinds.Int = tt
null-fits kinds.Text = tt

fits-cond : (kind : ColType) (b : Bool) (v : Cell) → FitsType kind v → FitsType kind (cond b null v)
fits-cond kind true v h = null-fits kind
fits-cond kind false v h = h

fits-cell : (kind : ColType) (f : List ℕ) → FitsType kind (cell_in kind f)
fits-cell kind f = fits-cond kind (is_empty f) (value_in kind f) (fits-value kind f)

-- the number that a field spells has 64 bits
not-below : (a b : ℕ) → nat_lt a b ≡ false → b ≤ a
not-below a b e = let h : a < b → ⊥ = λ lt. false≢true (sym e ∙ (Decides-ltb a b).1 lt) in omega arith

int-plain : (n : ℕ) → nat_lt n (2 ^ 63) ≡ true → IsInt64 (pos n)
int-plain n e = (Decides-ltb n (2 ^ 63)).0 e

int-minus : (n : ℕ) → nat_lt n (2 ^ 63 + 1) ≡ true → IsInt64 (neg_ℤ (pos n))
int-minus zero e = omega arith
int-minus (suc n) e = let h = (Decides-ltb (suc n) (2 ^ 63 + 1)).0 e in omega arith

last-true : (a b c : Bool) → (a && (b && c)) ≡ true → c ≡ true
last-true true true c e = e
last-true true false c e = cc e
last-true false b c e = cc e

int-or : (b : Bool) (z : ℤ) → (b ≡ true → IsInt64 z) → IsInt64 (unwrap_or (cond b (Some z) None) (pos 0))
int-or true z h = h refl
int-or false z h = omega arith

int-by : (minus : Bool) (m n : ℕ) (am bm an bn : Bool)
    → IsInt64 (unwrap_or (cond minus (cond (am && (bm && nat_lt m (2 ^ 63 + 1))) (Some (neg_ℤ (pos m))) None) (cond (an && (bn && nat_lt n (2 ^ 63))) (Some (pos n)) None)) (pos 0))
int-by true m n am bm an bn = int-or (am && (bm && nat_lt m (2 ^ 63 + 1))) (neg_ℤ (pos m)) (λ e. int-minus m (last-true am bm _ e))
int-by false m n am bm an bn = int-or (an && (bn && nat_lt n (2 ^ 63))) (pos n) (λ e. int-plain n (last-true an bn _ e))

int-spelt : (f : List ℕ) → IsInt64 (unwrap_or (number_of f) (pos 0))
int-spelt f =
    int-by (starts_with_minus f) (digits_value 10 (drop 1 f)) (digits_value 10 f) (all_ascii_digits (drop 1 f)) (nat_lt 0 (length (drop 1 f))) (all_ascii_digits f) (nat_lt 0 (length f))

-- a field that is not empty, and no longer than a text may be, is a value that a file can give
given-value : (kind : ColType) (f : List ℕ) → is_empty f ≡ false → (not (is_int kind) && nat_lt 4096 (length f)) ≡ false → IsGiven (value_in kind f)
given-value kinds.Int f full short = int-spelt f
given-value kinds.Text f full short = (grind (arith, nat_tests), not-below 4096 (length f) short)

given-cond : (kind : ColType) (f : List ℕ) (b : Bool) → is_empty f ≡ b → (not (is_int kind) && nat_lt 4096 (length f)) ≡ false → IsGiven (cond b null (value_in kind f))
given-cond kind f true e short = tt
given-cond kind f false e short = given-value kind f e short

given-cell : (kind : ColType) (f : List ℕ) → (not (is_int kind) && nat_lt 4096 (length f)) ≡ false → IsGiven (cell_in kind f)
given-cell kind f short = given-cond kind f (is_empty f) refl short

value-some : (kind : ColType) (f : List ℕ) → value_in kind f ≢ null
value-some kinds.Int f e = cc e
value-some kinds.Text f e = cc e

and-true : (a b : Bool) → a ≡ true → (a && b) ≡ false → b ≡ false
and-true true b h e = e
and-true false b h e = absurd (false≢true h)

cell-some : (kind : ColType) (f : List ℕ) → is_empty f ≡ false → cell_in kind f ≢ null
cell-some kind f e = rw e (value-some kind f)

-- each record passes the tests of a rule's fields
abbrev pub PassesAt : ℕ → List Rule → List Fields → Type 0
PassesAt at ps rs = (i : ℕ) → i < length rs → (any_from (fails tests.Value) at ps (get_or rs i []) ≡ false) × (any_from (fails tests.Length) at ps (get_or rs i []) ≡ false)

obeys : (at : ℕ) (ps : List Rule) (rs : List Fields) → PassesAt at ps rs → EachObeys ps (columns_from at ps rs)
obeys at [] rs h = tt
obeys at (p ∷ ps) rs h = (
  record {
    kind = refl;
    typed = all-map (λ r. cell_in p.kind (field r at)) (FitsType p.kind) [] rs (λ i lt. fits-cell p.kind (field (get_or rs i []) at));
    given = all-map (λ r. cell_in p.kind (field r at)) IsGiven [] rs (λ i lt. given-cell p.kind (field (get_or rs i []) at) (or_parts _ _ (h i lt).1).0);
    needed = λ needs. all-map (λ r. cell_in p.kind (field r at)) (λ v. v ≢ null) [] rs (λ i lt. cell-some p.kind (field (get_or rs i []) at) (and-true (needs_value p.role) _ needs (or_parts _ _ (h i lt).0).0));
  },
  obeys (at + 1) ps rs (λ i lt. ((or_parts _ _ (h i lt).0).1, (or_parts _ _ (h i lt).1).1)),
)

-- no key of the records before is that of a record
any-none-at : {A : Type 0} (t : A → Bool) (xs : List A) (i : ℕ) (d : A) → list_any t xs ≡ false → i < length xs → t (get_or xs i d) ≡ false
any-none-at t [] i d e lt = absurd (omega arith)
any-none-at t (x ∷ xs) zero d e lt = (or_parts _ _ e).0
any-none-at t (x ∷ xs) (suc i) d e lt = any-none-at t xs i d (or_parts _ _ e).1 (omega arith)

get-take : {A : Type 0} (i j : ℕ) (xs : List A) (d : A) → i < j → get_or (take j xs) i d ≡ get_or xs i d
get-take i zero [] d lt = refl
get-take i (suc j) [] d lt = refl
get-take i zero (x ∷ xs) d lt = absurd (omega arith)
get-take zero (suc j) (x ∷ xs) d lt = refl
get-take (suc i) (suc j) (x ∷ xs) d lt = get-take i j xs d (omega arith)

length-take : {A : Type 0} (j : ℕ) (xs : List A) → j < length xs → length (take j xs) ≡ j
length-take j [] lt = absurd (omega arith)
length-take zero (x ∷ xs) lt = refl
length-take (suc j) (x ∷ xs) lt = let h = length-take j xs (omega arith) in omega arith

-- a key that is not empty and passes is a number
some-number : (o : Option ℤ) → is_none o ≡ false → (z : ℤ) × (o ≡ Some z)
some-number None e = absurd (false≢true (sym e))
some-number (Some z) e = (z, refl)

cell-number : (f : List ℕ) (z : ℤ) → is_empty f ≡ false → number_of f ≡ Some z → cell_in kinds.Int f ≡ number z
cell-number f z full is = rw (full, is) refl

key-number : (p : Rule) (f : List ℕ) → p.kind ≡ kinds.Int → is_key p.role ≡ true → fails tests.Number p f ≡ false → fails tests.Value p f ≡ false → (z : ℤ) × (number_of f ≡ Some z) × (cell_in kinds.Int f ≡ number z)
key-number p f kind key number_passes value_passes =
    let full = and-true (needs_value p.role) (is_empty f) (key-needs p.role key) value_passes in
    let int : is_int p.kind ≡ true = rw kind refl in
    let some = and-true (not (is_empty f)) _ (ap not full) (and-true (is_int p.kind) _ int number_passes) in
    let n = some-number (number_of f) some in
    (n.0, n.1, cell-number f n.0 full n.1)

-- a good record beside those before it
good-at : (rules : List Rule) (m : ℕ) (rs : List Fields) (j : ℕ) → first_fault rules m [] rs ≡ None → j < length rs → Passes rules m (length (take j rs)) (is_key_taken rules (take j rs)) (get_or rs j [])
good-at rules m rs j e lt = passes rules m _ _ _ (each-good rules m [] rs j e lt)

-- the key of a good record is a number, which its column holds
pub record HasKey (p : Rule) (rules : List Rule) (r : Fields) (k : ℕ) : Type 0 where
  pub value : ℤ
  pub is_key : key_of rules r ≡ Some value
  pub is_cell : cell_in p.kind (field r (0 + k)) ≡ number value

key-placed : (rules : List Rule) (r : Fields) (k : ℕ) (z : ℤ) → key_place rules ≡ Some k → number_of (field r (0 + k)) ≡ Some z → key_of rules r ≡ Some z
key-placed rules r k z place is = let h : 0 + k ≡ k = omega arith in rw (place, ← h) is

cell-kind : (kind : ColType) (f : List ℕ) (z : ℤ) → kind ≡ kinds.Int → cell_in kinds.Int f ≡ number z → cell_in kind f ≡ number z
cell-kind kind f z int is = rw int is

key-at : (rules : List Rule) (m n : ℕ) (has : ℤ → Bool) (r : Fields) (k : ℕ) (p : Rule) → Passes rules m n has r → slice_get rules k ≡ Some p → is_key p.role ≡ true → p.kind ≡ kinds.Int → key_place rules ≡ Some k → HasKey p rules r k
key-at rules m n has r k p pass at key int place =
    let n = key-number p (field r (0 + k)) int key (any-at (fails tests.Number) 0 k rules p r pass.numbers at) (any-at (fails tests.Value) 0 k rules p r pass.values at) in
    record { value = n.0; is_key = key-placed rules r k n.0 place n.1; is_cell = cell-kind p.kind (field r (0 + k)) n.0 int n.2 }

apart : (x y : ℤ) → int_eq y x ≡ false → number x ≡ number y → ⊥
apart x y e same = let equal : y ≡ x = cc in false≢true (sym e ∙ (Decides-int_eq y x).1 equal)

keys-differ : (rules : List Rule) (m : ℕ) (rs : List Fields) (k : ℕ) (p : Rule) → first_fault rules m [] rs ≡ None → slice_get rules k ≡ Some p → is_key p.role ≡ true → p.kind ≡ kinds.Int → key_place rules ≡ Some k
    → (i j : ℕ) → i < j → j < length rs → cell_in p.kind (field (get_or rs i []) (0 + k)) ≡ cell_in p.kind (field (get_or rs j []) (0 + k)) → ⊥
keys-differ rules m rs k p e at key int place i j lt lj same =
    let pj = good-at rules m rs j e lj in
    let a = key-at rules m _ _ (get_or rs i []) k p (good-at rules m rs i e (omega arith)) at key int place in
    let b = key-at rules m _ _ (get_or rs j []) k p pj at key int place in
    let fresh : is_key_taken rules (take j rs) b.value ≡ false = rw b.is_key at pj.fresh in
    let n = length-take j rs lj in
    let here = any-none-at (λ r. is_value (key_of rules r) b.value) (take j rs) i [] fresh (omega arith) in
    let there : is_value (key_of rules (get_or rs i [])) b.value ≡ false = rw (get-take i j rs [] lt) at here in
    apart a.value b.value (rw a.is_key at there) (sym a.is_cell ∙ same ∙ b.is_cell)

pairs-map : {A B : Type 0} (f : A → B) (a : A) (xs : List A) → ((i j : ℕ) → i < j → j < length xs → f (get_or xs i a) ≡ f (get_or xs j a) → ⊥) → AllPairs (λ x y. x ≢ y) (map f xs)
pairs-map f a xs h i j d lt lj same =
    let n = length-map xs f in
    let small : j < length xs = omega arith in
    h i j lt small (sym (get_or-map f xs i a d (omega arith)) ∙ same ∙ get_or-map f xs j a d small)

-- there are no more good records than rows allowed
pub good-few : (rules : List Rule) (m : ℕ) (rs : List Fields) → first_fault rules m [] rs ≡ None → length rs ≤ m
good-few rules m [] e = omega arith
good-few rules m (r ∷ rs) e =
    let j = length rs in
    let p = good-at rules m (r ∷ rs) j e (omega arith) in
    let n = length-take j (r ∷ rs) (omega arith) in
    elim (leb_tells m (length (take j (r ∷ rs)))) [ inl x ↦ absurd (false≢true (sym p.room ∙ x.0)) | inr y ↦ (let lt = y.1 in omega (arith, n, lt)) ]

few-rows : (m at : ℕ) (ps : List Rule) (rs : List Fields) → length rs ≤ m → All (λ c. length c.values ≤ m) (columns_from at ps rs)
few-rows m at [] rs le = All-nil (λ (c : Filled). length c.values ≤ m)
few-rows m at (p ∷ ps) rs le =
    All-cons (λ (c : Filled). length c.values ≤ m) (record { kind = p.kind; values = map (λ r. cell_in p.kind (field r at)) rs }) (columns_from (at + 1) ps rs)
    (let n = length-map rs (λ r. cell_in p.kind (field r at)) in omega (arith, n, le)) (few-rows m (at + 1) ps rs le)

-- the columns of good records are a lawful table
pub lawful : (rules : List Rule) (m : ℕ) (rs : List Fields) (columns : List Filled) → HasOneKey rules → first_fault rules m [] rs ≡ None → columns ≡ columns_of rules rs → IsLawful rules m columns
lawful rules m rs columns one e is = rw is (record {
  obeyed = obeys 0 rules rs (λ i lt. let p = good-at rules m rs i e lt in (p.values, p.lengths));
  few = few-rows m 0 rules rs (good-few rules m rs e);
  distinct = λ k p c at key got.
      let (int, place) = one k p at key in
      rw (column-at 0 k rules p rs c at got) (pairs-map (λ r. cell_in p.kind (field r (0 + k))) [] rs (keys-differ rules m rs k p e at key int place));
})
