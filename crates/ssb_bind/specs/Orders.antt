-- The names of select columns, and which of them a key of ORDER BY stands for.
-- Source: SQL-92, 13.1 <declare cursor>: a name or a position of the select list.
use Rattle.std.specs.Prelude.{ℕ, ◌+◌, nat_eq, Bool, true, false, if◌then◌else◌, List, [], ◌∷◌, Option, Some, None}
use Rattle.std.specs.Option.{option_or}
use Rattle.std.specs.Str.{bytes_eq}
use Rattle.ssb_sql.specs.declared.select.Item.{Item}
use Rattle.ssb_sql.specs.declared.select.Key.{Key}
use Rattle.ssb_sql.specs.declared.select.Key.TheVariants as key
use Rattle.ssb_sql.specs.declared.select.Order.{Order}
use Rattle.ssb_sql.specs.declared.select.Output.{Output}
use Rattle.ssb_sql.specs.declared.select.Output.TheVariants as output
use Rattle.ssb_bind.specs.Columns.{fit_of, the_one}
use Rattle.ssb_bind.specs.declared.fit.Fit.{Fit}
use Rattle.ssb_bind.specs.declared.fit.Fit.TheVariants as fit
use Rattle.ssb_query.specs.declared.query.BoundOrder.{BoundOrder}

-- the AS name, or else the name of the column
abbrev pub own_name : Output → Option (List ℕ)
own_name (output.Column name) = Some name.column
own_name (output.Aggregate a) = None

abbrev pub name_of_item : Item → Option (List ℕ)
name_of_item item = option_or item.alias (own_name item.output)

abbrev pub is_named : List ℕ → Option (List ℕ) → Bool
is_named name None = false
is_named name (Some own) = bytes_eq name own

-- a key is the name of the select column at a place, or its position, counted from 1
abbrev pub is_key_of : Key → ℕ → Item → Bool
is_key_of (key.Name name) place item = is_named name (name_of_item item)
is_key_of (key.Position n) place item = nat_eq n (place + 1)

-- the places of the select columns that a key fits, of those from a place on
abbrev pub places_from : Key → ℕ → List Item → List ℕ
places_from k place [] = []
places_from k place (item ∷ items) = if is_key_of k place item then place ∷ places_from k (place + 1) items else places_from k (place + 1) items

unfoldable pub places_for : List Item → Key → List ℕ
places_for items k = places_from k 0 items

-- A key stands for the one select column that it fits: of a key that does not fit one alone, which no bound query has, for the first.
abbrev pub bound_order : List Item → Order → BoundOrder
bound_order items o = record { item = the_one (fit_of (places_for items o.key)) 0; descending = o.descending }

abbrev pub fits_one : {A : Type 0} → Fit A → Bool
fits_one (fit.One x) = true
fits_one fit.Missing = false
fits_one fit.Several = false

-- the number of the first key that does not fit one select column alone, of those from a number on
abbrev pub bad_from : List Item → ℕ → List Order → Option ℕ
bad_from items number [] = None
bad_from items number (o ∷ os) = if fits_one (fit_of (places_for items o.key)) then bad_from items (number + 1) os else Some number
