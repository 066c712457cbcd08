-- What opening the files of tables gives: the sections of each.
-- Source: own.
use Rattle.std.specs.Prelude.{◌≡◌, ◌++◌, [], ◌∷◌, ℕ, List, Option, Vec, length, false}
use Rattle.std.specs.List.{AllZip}
use Rattle.std.specs.declared.alloc.Global.{Global}
use Rattle.std.specs.declared.io.traits.Read.{Ghosts as Read}
use Rattle.std.specs.declared.io.traits.Take.{Take}
use Rattle.ssb_catalog.specs.Catalog.{is_fact}
use Rattle.ssb_catalog.specs.Shapes.{TableShape}
use Rattle.ssb_records.specs.declared.reader.In.{In}
use Rattle.ssb_lanes.specs.Sections.{AreSections}

-- sections are those of a table's file, and there is one where it is not the fact table
abbrev pub AreSectionsOf : {F : Type 0} {read : Read (Take F)} → (F → Option ℕ) → TableShape → List (In (Take F) read) → Type 0
AreSectionsOf place table sections = AreSections place sections × (is_fact table ≡ false → length sections ≡ 1)

-- files in sections, table by table
abbrev pub AreOpened : {F : Type 0} {read : Read (Take F)} → (F → Option ℕ) → List TableShape → List (Vec (In (Take F) read) Global) → Type 0
AreOpened place tables files = AllZip (λ t file. AreSectionsOf place t file.items) tables files

-- one more file is that of a table
abbrev pub GainsTable : {F : Type 0} {read : Read (Take F)} → (F → Option ℕ) → TableShape → List (Vec (In (Take F) read) Global) → List (Vec (In (Take F) read) Global) → Type 0
GainsTable place table before after = (tables : List TableShape) → AreOpened place tables before → AreOpened place (tables ++ table ∷ []) after
