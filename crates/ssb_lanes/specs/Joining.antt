-- Columns of parts, put behind those before them.
-- For the contracts inside this crate.
use Rattle.std.specs.Prelude.{◌≡◌, ◌+◌, ◌++◌, ◌<◌, ◌∷◌, [], List, length, map, ⊤}
use Rattle.ssb_cells.specs.Tables.{Filled}
use Rattle.ssb_lanes.specs.Assembly.{all_in}
use Rattle.ssb_records.specs.Records.{Fields}
use Rattle.ssb_load.specs.Rules.{columns_of}
use Rattle.ssb_lanes.specs.declared.joining.Joining.{Joining}
use Rattle.ssb_lanes.specs.declared.joining.Joining.TheVariants as now
use Rattle.ssb_terms.specs.declared.rule.Rule.{Rule}

-- the values of each column behind those of the column before it; a column that has none behind it stays
abbrev pub behind_each : List Filled → List Filled → List Filled
behind_each [] more = []
behind_each (c ∷ cs) [] = c ∷ cs
behind_each (c ∷ cs) (d ∷ ds) = record c { values = c.values ++ d.values } ∷ behind_each cs ds

-- there is a column before each, of its type, and together they have no more rows than can be counted
abbrev pub FitBehind : List Filled → List Filled → Type 0
FitBehind [] [] = ⊤
FitBehind [] (d ∷ ds) = ⊥
FitBehind (c ∷ cs) [] = ⊥
FitBehind (c ∷ cs) (d ∷ ds) = (d.kind ≡ c.kind) × (length c.values + length d.values < 4294967296) × FitBehind cs ds

-- the columns of each part are those of a list of records, and all lists have no more records than can be counted
pub record AreColumnsOf (rules : List Rule) (parts : List (List Filled)) (lists : List (List Fields)) : Type 0 where
  pub columns : parts ≡ map (columns_of rules) lists
  pub few : length (all_in lists) < 4294967296

-- a column that came of parts is the one that they make
abbrev pub IsOf : Filled → Joining → Type 0
IsOf parts (now.Parts others) = ⊤
IsOf parts (now.Column column) = column ≡ parts
IsOf parts now.Refused = ⊤

-- what became of the parts of a column
abbrev pub Joins : Joining → Joining → Type 0
Joins (now.Parts parts) after = IsOf parts after
Joins (now.Column column) after = ⊤
Joins now.Refused after = ⊤

-- each column that came of parts is the one that they make
abbrev pub AreJoined : List Filled → List Joining → Type 0
AreJoined [] [] = ⊤
AreJoined [] (r ∷ rs) = ⊥
AreJoined (s ∷ ss) [] = ⊥
AreJoined (s ∷ ss) (r ∷ rs) = IsOf s r × AreJoined ss rs
