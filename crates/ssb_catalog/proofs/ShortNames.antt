-- The names that a record without a fault of its own spells are short.
use Rattle.std.proofs.Common.{◌≡◌, ◌≤◌, ◌&&◌, ℕ, Bool, true, false, cond, not, List, length, map, Option, Some, None, refl, arith}
use Rattle.std.specs.Prelude.{nat_le, is_none}
use Rattle.std.specs.Char.{to_ascii_lowercase}
use Rattle.std.proofs.lemmas.List.{length-map}
use Rattle.std.proofs.lemmas.Bool.{and_parts, leb-true}
use Rattle.ssb_terms.specs.Names.{is_name}
use Rattle.ssb_records.specs.Records.{Fields, field}
use Rattle.ssb_catalog.specs.Catalog.{column_in, is_short_name, kind_named, role_named, spelling_fault, table_in}
use Rattle.ssb_records.specs.Width.{has_width}
use Rattle.ssb_catalog.specs.declared.catalog.ColumnDef.{ColumnDef}
use Rattle.ssb_records.specs.declared.fault.CatalogFault.{CatalogFault}
use Rattle.ssb_records.specs.declared.fault.CatalogFault.TheVariants as faults

-- a table's name and a column's
pub record AreShort (name : List ℕ) (c : ColumnDef) : Type 0 where
  pub table : length name ≤ 128
  pub column : length c.name ≤ 128

not-refused : {A : Type 0} (b : Bool) (x : A) (o : Option A) → cond (not b) (Some x) o ≡ None → (b ≡ true) × (o ≡ None)
not-refused true x o e = (refl, e)
not-refused false x o e = cc e

short-word : (word : List ℕ) → is_short_name word ≡ true → length (map to_ascii_lowercase word) ≤ 128
short-word word e =
    let n = length-map word to_ascii_lowercase in
    let m = leb-true (length word) 128 (and_parts (is_name word) (nat_le (length word) 128) e).1 in
    omega arith

pub short-names : (r : Fields) → spelling_fault r ≡ None → AreShort (table_in r) (column_in r)
short-names r e =
    let words = is_short_name (field r 0) && is_short_name (field r 1) in
    let role : Option CatalogFault = cond (is_none (role_named (field r 3))) (Some faults.BadRole) None in
    let kind : Option CatalogFault = cond (is_none (kind_named (field r 2))) (Some faults.BadType) role in
    let name : Option CatalogFault = cond (not words) (Some faults.BadName) kind in
    let wide = not-refused (has_width 4 r) faults.FieldCount name e in
    let named = not-refused words faults.BadName kind wide.1 in
    let both = and_parts (is_short_name (field r 0)) (is_short_name (field r 1)) named.0 in
    record { table = short-word (field r 0) both.0; column = short-word (field r 1) both.1 }
