-- What a catalog's tables keep, in the words of their rules.
use Rattle.std.proofs.Common.{◌≡◌, ◌∙◌, ◌+◌, ◌<◌, ◌≤◌, ℕ, zero, suc, Bool, true, false, cond, List, [], ◌∷◌, length, map, slice_get, Option, Some, refl, sym, ap, arith, get_or}
use Rattle.std.specs.Prelude.{Result, Ok, Err, IfOk}
use Rattle.std.specs.List.{filter}
use Rattle.ssb_catalog.specs.Catalog.{IsTable, IsCatalog, is_key_column}
use Rattle.ssb_cells.specs.Lawful.{HasOneKey}
use Rattle.ssb_load.specs.Loading.{rules_at}
use Rattle.ssb_terms.specs.Roles.{is_key, key_from}
use Rattle.ssb_catalog.specs.Shapes.{TableShape, rules_of}
use Rattle.ssb_catalog.specs.declared.catalog.ColumnDef.{ColumnDef}
use Rattle.ssb_terms.specs.declared.rule.Rule.{Rule}

abbrev pub rule_list : List ColumnDef → List Rule
rule_list columns = map (λ c. c.rule) columns

filter-long : (b : Bool) (c : ColumnDef) (keys : List ColumnDef) → b ≡ true → length (cond b (c ∷ keys) keys) ≡ suc (length keys)
filter-long true c keys e = refl
filter-long false c keys e = cc e

filter-short : (b : Bool) (c : ColumnDef) (keys : List ColumnDef) → length keys ≤ length (cond b (c ∷ keys) keys)
filter-short true c keys = omega arith
filter-short false c keys = omega arith

-- a key stands among the keys
some-key : (cs : List ColumnDef) (k : ℕ) (p : Rule) → slice_get (rule_list cs) k ≡ Some p → is_key p.role ≡ true → 0 < length (filter is_key_column cs)
some-key [] k p at key = cc at
some-key (c ∷ cs) zero p at key =
    let same : c.rule ≡ p = cc in
    let is : is_key c.rule.role ≡ true = rw same key in
    let n = filter-long (is_key_column c) c (filter is_key_column cs) is in
    omega (arith, n)
some-key (c ∷ cs) (suc k) p at key =
    let h = some-key cs k p at key in
    let n = filter-short (is_key_column c) c (filter is_key_column cs) in
    omega (arith, h, n)

place-here : (b : Bool) (at : ℕ) (later : Option ℕ) → b ≡ true → cond b (Some at) later ≡ Some at
place-here true at later e = refl
place-here false at later e = cc e

place-later : (b : Bool) (at : ℕ) (c : ColumnDef) (keys : List ColumnDef) (later found : Option ℕ) → length (cond b (c ∷ keys) keys) ≤ 1 → 0 < length keys → later ≡ found → cond b (Some at) later ≡ found
place-later true at c keys later found few some e = absurd (omega arith)
place-later false at c keys later found few some e = e

-- the only key is the first
key-place : (at : ℕ) (cs : List ColumnDef) (k : ℕ) (p : Rule) → length (filter is_key_column cs) ≤ 1 → slice_get (rule_list cs) k ≡ Some p → is_key p.role ≡ true → key_from at (rule_list cs) ≡ Some (at + k)
key-place at [] k p few is key = cc is
key-place at (c ∷ cs) zero p few is key =
    let same : c.rule ≡ p = cc in
    let here : is_key c.rule.role ≡ true = rw same key in
    place-here (is_key_column c) at (key_from (at + 1) (rule_list cs)) here ∙ ap Some (omega arith)
key-place at (c ∷ cs) (suc k) p few is key =
    let n = filter-short (is_key_column c) c (filter is_key_column cs) in
    let less : length (filter is_key_column cs) ≤ 1 = omega (arith, n, few) in
    let h = key-place (at + 1) cs k p less is key in
    let e : at + 1 + k ≡ at + suc k = omega arith in
    place-later (is_key_column c) at c (filter is_key_column cs) (key_from (at + 1) (rule_list cs)) (Some (at + suc k)) few (some-key cs k p is key) (h ∙ ap Some e)

get-rule : (cs : List ColumnDef) (k : ℕ) (p : Rule) (d : ColumnDef) → slice_get (rule_list cs) k ≡ Some p → (k < length cs) × ((get_or cs k d).rule ≡ p)
get-rule [] k p d at = cc at
get-rule (c ∷ cs) zero p d at = (omega arith, cc)
get-rule (c ∷ cs) (suc k) p d at = let h = get-rule cs k p d at in let lt = h.0 in (omega arith, h.1)

one-of-table : (t : TableShape) (d : ColumnDef) → IsTable t → HasOneKey (rules_of t)
one-of-table t d is k p at key =
    let g = get-rule t.columns k p d at in
    let own : is_key_column (get_or t.columns k d) ≡ true = rw g.1 key in
    (sym (ap (λ r. r.kind) g.1) ∙ is.int_key k d g.0 own, key-place 0 t.columns k p is.one_key at key ∙ ap Some (omega arith))

length-rules : (cs : List ColumnDef) → length (rule_list cs) ≡ length cs
length-rules [] = refl
length-rules (c ∷ cs) = let h = length-rules cs in omega arith

first-of : (cs : List ColumnDef) → 0 < length cs → ColumnDef
first-of [] lt = absurd (omega arith)
first-of (c ∷ cs) lt = c

-- a table of a catalog has columns, and at most one key, which is a number
pub table-rules : (t : TableShape) → IsTable t → (0 < length (rules_of t)) × HasOneKey (rules_of t)
table-rules t is =
    let n = length-rules t.columns in
    let some = is.some in
    (omega (arith, n, some), one-of-table t (first-of t.columns is.some) is)

-- the rules of a table by its number
pub rules-here : (tables : List TableShape) (i : ℕ) (t : TableShape) → i < length tables → t ≡ get_or tables i t → rules_at tables i ≡ rules_of t
rules-here [] i t lt is = absurd (omega arith)
rules-here (u ∷ us) zero t lt is = ap rules_of (sym is)
rules-here (u ∷ us) (suc i) t lt is = rules-here us i t (omega arith) is

-- the rules of a table of a catalog, found by its number
pub record HasRules (tables : List TableShape) (i : ℕ) (rules : List Rule) : Type 0 where
  pub are : rules ≡ rules_at tables i
  pub some : 0 < length rules
  pub key : HasOneKey rules

pub has-rules : (tables seen : List TableShape) (i : ℕ) (t : TableShape) (rules : List Rule) → IsCatalog tables → seen ≡ tables → i < length tables → t ≡ get_or seen i t → rules ≡ rules_of t → HasRules tables i rules
has-rules tables seen i t rules lawful same lt is are =
    let here : t ≡ get_or tables i t = rw same at is in
    let good : IsTable t = rw (← here) at (lawful.each i t lt) in
    let h = table-rules t good in
    record { are = are ∙ sym (rules-here tables i t lt here); some = rw are h.0; key = rw are h.1 }

pub ok-map : {T E : Type 0} (r : Result T E) (P Q : T → Type 0) → ((x : T) → P x → Q x) → IfOk r P → IfOk r Q
ok-map (Ok x) P Q f h = f x h
ok-map (Err e) P Q f h = tt
