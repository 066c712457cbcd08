-- Three-valued logic: AND, OR and NOT of True, False and Unknown.
-- Source: SQL-92, 8.12 <search condition>, its truth tables; 7.6 <where clause> for what it keeps.
use Rattle.std.specs.Prelude.{Bool, true, false, List, [], ◌∷◌}
use Rattle.ssb_cells.specs.declared.truth.Truth.{Truth}
use Rattle.ssb_cells.specs.declared.truth.Truth.TheVariants.{True, False, Unknown}

abbrev pub and : Truth → Truth → Truth
and True t = t
and False t = False
and Unknown True = Unknown
and Unknown False = False
and Unknown Unknown = Unknown

abbrev pub or : Truth → Truth → Truth
or True t = True
or False t = t
or Unknown True = True
or Unknown False = Unknown
or Unknown Unknown = Unknown

abbrev pub not : Truth → Truth
not True = False
not False = True
not Unknown = Unknown

-- the AND of a list, True of none
abbrev pub all_of : List Truth → Truth
all_of [] = True
all_of (t ∷ ts) = and t (all_of ts)

-- the OR of a list, False of none
abbrev pub any_of : List Truth → Truth
any_of [] = False
any_of (t ∷ ts) = or t (any_of ts)

-- what a test with no third answer says
abbrev pub truth : Bool → Truth
truth true = True
truth false = False

-- whether it is True: for that alone WHERE keeps a row
abbrev pub is_true : Truth → Bool
is_true True = true
is_true False = false
is_true Unknown = false
