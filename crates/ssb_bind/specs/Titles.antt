-- How a fault of binding is told: by its number and its name, and what it tells of.
-- Source: own; docs/FAULTS.md lists them, but for that of Memory, which no line has.
use Rattle.std.specs.Prelude.{ℕ, List, Option, Some, None, codes}
use Rattle.ssb_bind.specs.declared.fault.BindFault.{BindFault}
use Rattle.ssb_bind.specs.declared.fault.BindFault.TheVariants as fault
use Rattle.ssb_bind.specs.declared.fault.TooMany.{TooMany}
use Rattle.ssb_bind.specs.declared.fault.TooMany.TheVariants as many

-- the number and the name of a fault
abbrev pub bind_title : BindFault → List ℕ
bind_title (fault.UnknownTable name) = codes "B1 UnknownTable"
bind_title (fault.TableTwice name) = codes "B2 TableTwice"
bind_title (fault.UnknownColumn name) = codes "B3 UnknownColumn"
bind_title (fault.AmbiguousColumn name) = codes "B4 AmbiguousColumn"
bind_title fault.TypeMismatch = codes "B5 TypeMismatch"
bind_title (fault.NotGrouped name) = codes "B6 NotGrouped"
bind_title (fault.BadOrderItem key) = codes "B7 BadOrderItem"
bind_title fault.NoFactTable = codes "B8 NoFactTable"
bind_title (fault.NotStar name) = codes "B9 NotStar"
bind_title (fault.TooMany what) = codes "B10 TooMany"
bind_title fault.Memory = codes "B11 Memory"

-- the word for what a query has too many of
abbrev pub many_word : TooMany → List ℕ
many_word many.Tables = codes "tables"
many_word many.Items = codes "items"
many_word many.Groups = codes "groups"
many_word many.Orders = codes "orders"
many_word many.Having = codes "having"

-- the name that a fault tells of, or the word for what is too many
abbrev pub subject_of : BindFault → Option (List ℕ)
subject_of (fault.UnknownTable name) = Some name
subject_of (fault.TableTwice name) = Some name
subject_of (fault.UnknownColumn name) = Some name
subject_of (fault.AmbiguousColumn name) = Some name
subject_of fault.TypeMismatch = None
subject_of (fault.NotGrouped name) = Some name
subject_of (fault.BadOrderItem key) = None
subject_of fault.NoFactTable = None
subject_of (fault.NotStar name) = Some name
subject_of (fault.TooMany what) = Some (many_word what)
subject_of fault.Memory = None
