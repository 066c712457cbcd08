-- The built-in tables are a catalog: each fact is a test that is computed.
use Rattle.std.proofs.Common.{◌≡◌, ◌≤◌, ◌||◌, Bool, true, false, not, List, [], ◌∷◌, length, map, T, ltb, leb, refl, lit<, lit≤}
use Rattle.std.specs.List.{All, AllByRecursion, filter, list_all}
use Rattle.std.specs.Set.{distinct_count}
use Rattle.std.specs.Str.{bytes_eq}
use Rattle.std.proofs.lemmas.Bool.{and_parts, leb-true}
use Rattle.std.proofs.lemmas.Cmp.{nat_list_eq_equiv}
use Rattle.std.proofs.lemmas.List.Elements.{All-cons, All-from_recursion, All-nil}
use Rattle.std.proofs.lemmas.Map.Made.{IsDistinct-from_count}
use Rattle.ssb_terms.specs.declared.rule.ColType.{ColType}
use Rattle.ssb_terms.specs.declared.rule.ColType.TheVariants as kinds
use Rattle.ssb_catalog.specs.BuiltIn.{ssb_tables}
use Rattle.ssb_catalog.specs.Catalog.{IsCatalog, IsTable, is_key_column}
use Rattle.ssb_catalog.specs.Shapes.{TableShape, is_int}
use Rattle.ssb_catalog.specs.declared.catalog.ColumnDef.{ColumnDef}

abbrev is_int_if_key : ColumnDef → Bool
is_int_if_key c = not (is_key_column c) || is_int c.rule.kind

int-of : (kind : ColType) (key : Bool) → (not key || is_int kind) ≡ true → key ≡ true → kind ≡ kinds.Int
int-of kinds.Int key e is = refl
int-of kinds.Text true e is = cc e
int-of kinds.Text false e is = cc is

abbrev is_short : ColumnDef → Bool
is_short c = leb (length c.name) 128

all-short : (cs : List ColumnDef) → list_all is_short cs ≡ true → All (λ c. length c.name ≤ 128) cs
all-short [] e = All-nil (λ c. length c.name ≤ 128)
all-short (c ∷ cs) e =
    let h = and_parts (is_short c) (list_all is_short cs) e in
    All-cons (λ c. length c.name ≤ 128) c cs (leb-true (length c.name) 128 h.0) (all-short cs h.1)

int-keys : (cs : List ColumnDef) → list_all is_int_if_key cs ≡ true → All (λ c. is_key_column c ≡ true → c.rule.kind ≡ kinds.Int) cs
int-keys [] e = All-nil (λ c. is_key_column c ≡ true → c.rule.kind ≡ kinds.Int)
int-keys (c ∷ cs) e =
    let h = and_parts (is_int_if_key c) (list_all is_int_if_key cs) e in
    All-cons (λ c. is_key_column c ≡ true → c.rule.kind ≡ kinds.Int) c cs (int-of c.rule.kind (is_key_column c) h.0) (int-keys cs h.1)

tested : (t : TableShape) → T (ltb 0 (length t.columns)) → T (leb (length t.columns) 64) → T (leb (length t.name) 128) → list_all is_short t.columns ≡ true → distinct_count bytes_eq (map (λ c. c.name) t.columns) ≡ length (map (λ c. c.name) t.columns)
    → T (leb (length (filter is_key_column t.columns)) 1) → list_all is_int_if_key t.columns ≡ true → IsTable t
tested t some few short shorts apart one ints = record {
  some = lit< some;
  few = lit≤ few;
  short_name = lit≤ short;
  short_columns = all-short t.columns shorts;
  names = IsDistinct-from_count nat_list_eq_equiv (map (λ c. c.name) t.columns) apart;
  one_key = lit≤ one;
  int_key = int-keys t.columns ints;
}

each-table : AllByRecursion IsTable ssb_tables
each-table =
    (tested _ tt tt tt refl refl tt refl, (tested _ tt tt tt refl refl tt refl, (tested _ tt tt tt refl refl tt refl, (tested _ tt tt tt refl refl tt refl, (tested _ tt tt tt refl refl tt refl, tt)))))

pub built-in-catalog : IsCatalog ssb_tables
built-in-catalog = record {
  some = lit< tt;
  few = lit≤ tt;
  names = IsDistinct-from_count nat_list_eq_equiv (map (λ t. t.name) ssb_tables) refl;
  each = All-from_recursion IsTable ssb_tables each-table;
  one_fact = refl;
}
