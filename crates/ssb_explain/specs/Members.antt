-- The values that a filter of a column lets pass, as text.
-- Source: own.
use Rattle.std.specs.Prelude.{◌++◌, ◌∷◌, [], ◌^◌, ◌-ℤ◌, ◌-◌, ℕ, ℤ, pos, Bool, true, false, if◌then◌else◌, List, Option, None, Some, codes, decimal, length, map, nat_eq, slice_get, take, unwrap_or}
use Rattle.std.specs.Fmt.{signed_decimal}
use Rattle.std.specs.List.{filter, range_with_len}
use Rattle.std.specs.Ordering.{int_eq}
use Rattle.ssb_cells.specs.Codes.{texts_of}
use Rattle.ssb_cells.specs.Tables.{Columns, Filled}
use Rattle.ssb_cells.specs.Truth.{is_true}
use Rattle.ssb_plan.specs.declared.column_filter.ColumnFilter.{ColumnFilter}
use Rattle.ssb_plan.specs.declared.sets.ValueSet.{ValueSet}
use Rattle.ssb_sets.specs.NumberSets.{has}
use Rattle.ssb_sets.specs.declared.set.NumberSet.{NumberSet}
use Rattle.ssb_spelling.specs.Conditions.{parted, quoted}
use Rattle.ssb_spelling.specs.Titles.{Bytes}
use Rattle.ssb_terms.specs.declared.rule.ColType.{ColType}
use Rattle.ssb_terms.specs.declared.rule.ColType.TheVariants as kinds
use Rattle.ssb_explain.specs.declared.members.Interval.{Interval}

-- ---- numbers

-- no number of 64 bits is below this
abbrev pub least : ℤ
least = pos 0 -ℤ pos (2 ^ 63)

-- the least number from a cut on; none where there is no least
abbrev pub low_from : ℤ → Option ℤ
low_from cut = if int_eq cut least then None else Some cut

-- the greatest number below a cut; none where no number is
abbrev pub high_below : ℤ → Option ℤ
high_below cut = if int_eq cut least then None else Some (cut -ℤ pos 1)

-- the numbers up to one below a cut, where there is one
abbrev pub up_to : Option ℤ → Option ℤ → List Interval
up_to low None = []
up_to low (Some high) = record { low = low; high = Some high } ∷ []

-- the intervals of a set, from a cut on: whether it has the numbers there, from which one on, and the cuts at which the answer turns
abbrev pub intervals_from : Bool → Option ℤ → List ℤ → List Interval
intervals_from false low [] = []
intervals_from true low [] = record { low = low; high = None } ∷ []
intervals_from false low (cut ∷ cuts) = intervals_from true (low_from cut) cuts
intervals_from true low (cut ∷ cuts) = up_to low (high_below cut) ++ intervals_from false None cuts

abbrev pub intervals_of : NumberSet → List Interval
intervals_of s = intervals_from s.first None s.cuts.items

-- an end of an interval; nothing where it has none
abbrev pub end_text : Option ℤ → Bytes
end_text None = []
end_text (Some n) = signed_decimal n

abbrev pub is_single : Option ℤ → Option ℤ → Bool
is_single None high = false
is_single (Some low) None = false
is_single (Some low) (Some high) = int_eq low high

-- one number by itself, others as `low..high`
abbrev pub interval_text : Interval → Bytes
interval_text i = if is_single i.low i.high then end_text i.low else end_text i.low ++ (codes ".." ++ end_text i.high)

-- ---- texts

-- the codes of the texts that a set has, of so many
abbrev pub codes_in : NumberSet → ℕ → List ℕ
codes_in s count = filter (λ code. has s (pos code)) (range_with_len 0 count)

abbrev pub code_text : List Bytes → ℕ → Bytes
code_text texts code = quoted (unwrap_or (slice_get texts code) [])

-- ---- members

-- so many are shown
abbrev pub shown_count : ℕ
shown_count = 8

abbrev pub more_text : ℕ → Bytes
more_text n = if nat_eq n 0 then [] else codes " and " ++ (decimal n ++ codes " more")

-- the first values, and how many more there are; of none, nothing
abbrev pub together : List Bytes → ℕ → List Bytes
together [] more = []
together (t ∷ ts) more = (parted (codes ", ") (t ∷ ts) ++ more_text more) ∷ []

abbrev pub shown : {V : Type 0} → (V → Bytes) → List V → List Bytes
shown text vs = together (map text (take shown_count vs)) (length vs - shown_count)

abbrev pub value_texts : ColType → Filled → NumberSet → List Bytes
value_texts kinds.Int f s = shown interval_text (intervals_of s)
value_texts kinds.Text f s = shown (code_text (texts_of f.values)) (codes_in s (length (texts_of f.values)))

abbrev pub null_texts : Bool → List Bytes
null_texts true = codes "null" ∷ []
null_texts false = []

-- the members of a set of a column's values: intervals of numbers, or texts, and behind them null where it is one
abbrev pub members_of : Filled → ValueSet → List Bytes
members_of f s = value_texts f.kind f s.numbers ++ null_texts (is_true s.null)

abbrev pub members_in : Option Filled → ValueSet → List Bytes
members_in None s = []
members_in (Some f) s = members_of f s

-- a table, or the one without columns
abbrev pub table_or_none : Option Columns → Columns
table_or_none None = []
table_or_none (Some t) = t

-- those of a filter of a table's column
abbrev pub members : Columns → ColumnFilter → List Bytes
members t f = members_in (slice_get t f.column) f.set

abbrev pub parted_or_nothing : List Bytes → Bytes
parted_or_nothing [] = codes "nothing"
parted_or_nothing (t ∷ ts) = parted (codes ", ") (t ∷ ts)
