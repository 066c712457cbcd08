-- Each query of the grammar is read, and tokens spell one query at most.
use Rattle.std.proofs.Common.{◌≡◌, ℕ, zero, suc, true, false, List, [], ◌∷◌, length, Option, Some, None, refl, sym, ◌∙◌, arith}
use Rattle.std.specs.Prelude.{Err}
use Rattle.ssb_tokens.specs.declared.token.Token.{Token}
use Rattle.ssb_tokens.specs.declared.token.Token.TheVariants.{Fixed, Name}
use Rattle.ssb_tokens.specs.declared.token.Sign.{Sign}
use Rattle.ssb_terms.specs.declared.keyword.Keyword.{Keyword}
use Rattle.ssb_terms.specs.declared.keyword.Keyword.TheVariants as words
use Rattle.ssb_tokens.specs.declared.token.Mark.TheVariants as marks
use Rattle.ssb_tokens.specs.declared.token.Sign.TheVariants as s
use Rattle.ssb_sql.specs.declared.named.ColumnName.{ColumnName}
use Rattle.ssb_trees.specs.declared.aggregate.Aggregate.TheVariants as a
use Rattle.ssb_trees.specs.declared.aggregate.SetFunction.{SetFunction}
use Rattle.ssb_trees.specs.declared.aggregate.SetFunction.TheVariants as functions
use Rattle.ssb_sql.specs.declared.select.Output.{Output}
use Rattle.ssb_sql.specs.declared.select.Output.TheVariants as u
use Rattle.ssb_sql.specs.declared.select.Item.{Item}
use Rattle.ssb_sql.specs.declared.select.Key.{Key}
use Rattle.ssb_sql.specs.declared.select.Order.{Order}
use Rattle.ssb_sql.specs.declared.select.Select.{Select}
use Rattle.ssb_tokens.specs.declared.stop.Stop.{Stop}
use Rattle.ssb_tokens.specs.declared.stop.Stop.TheVariants as stop
use Rattle.ssb_sql.specs.Exact.{Reads}
use Rattle.ssb_sql.specs.Forms.{Spelling, IsList, IsNamed, IsColumn}
use Rattle.ssb_sql.specs.Grammar.{function_word, IsAggregate, IsOutput, IsItem, IsFilter, IsHaving, IsGroups, IsKey, IsOrder, IsOrders, IsEnd, Parses}
use Rattle.ssb_tokens.specs.Reading.{Fails}
use Rattle.ssb_sql.specs.Told.{told}
use Rattle.ssb_sql.specs.Room.{HasRoom}
use Rattle.ssb_sql.specs.Grammar.IsAggregate.{rows, of}
use Rattle.ssb_sql.specs.Grammar.IsOutput.{column, aggregate}
use Rattle.ssb_sql.specs.Forms.IsColumn.{alone, dotted}
use Rattle.ssb_sql.specs.Grammar.IsItem.{unnamed, named}
use Rattle.ssb_sql.specs.Grammar.IsKey.{name, position}
use Rattle.ssb_sql.specs.Grammar.IsOrder.{plain, asc, desc}
use Rattle.ssb_sql.specs.Grammar.IsFilter.{no_filter, filter}
use Rattle.ssb_sql.specs.Grammar.IsGroups.{no_groups, groups}
use Rattle.ssb_sql.specs.Grammar.IsOrders.{no_orders, orders}
use Rattle.ssb_sql.specs.Grammar.IsEnd.{end, semicolon}
use Rattle.ssb_sql.specs.Grammar.Parses.{query}
use Rattle.ssb_sql.specs.Steps.{Parser, after, is_sign, is_literal_next, name_at, list_at}
use Rattle.ssb_sql.specs.ReadParts.{column_at}
use Rattle.ssb_sql.specs.ReadExpressions.{expr_at}
use Rattle.ssb_sql.specs.ReadSelects.{function_at, star_at, argument_at, aggregate_at, output_at, alias_at, item_at, filter_at, by_at, key_at, order_at, ends, select_of, ordered_at, kept_at, grouped_at, filtered_at, joined_at, query_at}
use Rattle.ssb_sql.proofs.StepFacts.{some_is, Stops, stops, differs, sees}
use Rattle.ssb_sql.proofs.Shapes.{Tame, Complete, GoesOn, closed_read, list_read, tame_list}
use Rattle.ssb_sql.proofs.PartFacts.{Begins, begins_column, column_begins, column_no_literal, tame_name, tame_column, named_read, name_read, column_read}
use Rattle.ssb_sql.proofs.Depth.{all_within}
use Rattle.ssb_sql.proofs.ExpressionComplete.{expr_begins, expr_read, close_ends}
use Rattle.ssb_sql.proofs.ConditionComplete.{EndsCond, cond_read}
use Rattle.ssb_sql.proofs.ConditionSound.{tame_cond}
use Rattle.ssb_sql.proofs.ItemFacts.{tame_output, tame_item, tame_order}
use Rattle.ssb_trees.specs.Conditions.{Filter}
use Rattle.ssb_trees.specs.declared.aggregate.Aggregate.{Aggregate}
use Rattle.ssb_trees.specs.declared.expr.Expr.{Expr}

-- aggregates
column_names_none : {from to : List Token} {x : ColumnName} → IsColumn from to x → function_at from ≡ None
unfolding function_at
column_names_none alone = refl
column_names_none dotted = refl

function_read : (f : SetFunction) (ts : List Token) → function_at (Fixed (s.Word (function_word f)) ∷ ts) ≡ Some (f, ts)
unfolding function_at
function_read functions.Sum ts = refl
function_read functions.Count ts = refl
function_read functions.Min ts = refl
function_read functions.Max ts = refl

-- no function takes a `*` that is not there
no_star : (f : SetFunction) (ts : List Token) → Stops (s.Mark marks.Times) ts → star_at f ts ≡ None
unfolding star_at
no_star functions.Count ts h = h
no_star _ ts h = refl

argument_read : (d : ℕ) (f : SetFunction) (ts to : List Token) (x : Expr ColumnName) → Stops (s.Mark marks.Times) ts → expr_at d ts ≡ Some (x, Fixed (s.Mark marks.Close) ∷ to) → argument_at d f ts ≡ Some (a.Of f x, to)
unfolding argument_at
argument_read d f ts to x h e = rw (no_star f ts h, closed_read (expr_at d) ts to x e) refl

rows_read : (d : ℕ) (to : List Token) → argument_at d functions.Count (Fixed (s.Mark marks.Times) ∷ Fixed (s.Mark marks.Close) ∷ to) ≡ Some (a.Rows, to)
unfolding argument_at star_at
rows_read d to = rw (sees (s.Mark marks.Times) (Fixed (s.Mark marks.Close) ∷ to), sees (s.Mark marks.Close) to) refl

-- a function and what stands in its parentheses
aggregate_goes : (d : ℕ) (f : SetFunction) (ts to : List Token) (x : Aggregate ColumnName) → argument_at d f ts ≡ Some (x, to) → output_at d (Fixed (s.Word (function_word f)) ∷ Fixed (s.Mark marks.Open) ∷ ts) ≡ Some (u.Aggregate x, to)
unfolding output_at aggregate_at
aggregate_goes d f ts to x e = rw (function_read f (Fixed (s.Mark marks.Open) ∷ ts), sees (s.Mark marks.Open) ts, e) refl

aggregate_read : {from to : List Token} {x : Aggregate ColumnName} → IsAggregate from to x → (d : ℕ) → HasRoom d from → output_at d from ≡ Some (u.Aggregate x, to)
aggregate_read (rows {to = to}) d h = aggregate_goes d functions.Count (Fixed (s.Mark marks.Times) ∷ Fixed (s.Mark marks.Close) ∷ to) to a.Rows (rows_read d to)
aggregate_read (of a) zero h = absurd h
aggregate_read (of {from = from} {to = to} {f = f} {x = x} e) (suc d) h = aggregate_goes (suc d) f from to (a.Of f x) (argument_read (suc d) f from to x (expr_begins e) (expr_read e d h (close_ends to)))

output_read : {from to : List Token} {x : Output} → IsOutput from to x → (d : ℕ) → HasRoom d from → Stops (s.Mark marks.Dot) to → output_at d from ≡ Some (x, to)
unfolding output_at
output_read (column h) d room n = rw (column_names_none h, column_read h n) refl
output_read (aggregate h) d room n = aggregate_read h d room

-- an output begins with a name or with the word of a function
function_stops : (f : SetFunction) (sign : Sign) → is_sign (s.Word words.Sum) sign ≡ false → is_sign (s.Word words.Count) sign ≡ false → is_sign (s.Word words.Min) sign ≡ false → is_sign (s.Word words.Max) sign ≡ false → (ts : List Token) → Stops sign (Fixed (s.Word (function_word f)) ∷ ts)
function_stops functions.Sum sign a b d e ts = stops (s.Word words.Sum) sign ts a
function_stops functions.Count sign a b d e ts = stops (s.Word words.Count) sign ts b
function_stops functions.Min sign a b d e ts = stops (s.Word words.Min) sign ts d
function_stops functions.Max sign a b d e ts = stops (s.Word words.Max) sign ts e

output_begins : {from to : List Token} {x : Output} → IsOutput from to x → (sign : Sign) → is_sign (s.Word words.Sum) sign ≡ false → is_sign (s.Word words.Count) sign ≡ false → is_sign (s.Word words.Min) sign ≡ false → is_sign (s.Word words.Max) sign ≡ false → Stops sign from
output_begins (column h) sign a b d e = column_begins h sign
output_begins (aggregate (rows {to = to})) sign a b d e = function_stops functions.Count sign a b d e (Fixed (s.Mark marks.Open) ∷ Fixed (s.Mark marks.Times) ∷ Fixed (s.Mark marks.Close) ∷ to)
output_begins (aggregate (of {from = from} {f = f} h)) sign a b d e = function_stops f sign a b d e (Fixed (s.Mark marks.Open) ∷ from)

output_no_literal : {from to : List Token} {x : Output} → IsOutput from to x → is_literal_next from ≡ false
unfolding is_literal_next
output_no_literal (column h) = column_no_literal h
output_no_literal (aggregate rows) = refl
output_no_literal (aggregate (of h)) = refl

begins_output : Begins IsOutput
begins_output = record {
  no_literal = λ h. output_no_literal h;
  no_not = λ h. output_begins h (s.Word words.Not) (differs (s.Word words.Sum) (s.Word words.Not) refl) (differs (s.Word words.Count) (s.Word words.Not) refl) (differs (s.Word words.Min) (s.Word words.Not) refl) (differs (s.Word words.Max) (s.Word words.Not) refl);
  no_open = λ h. output_begins h (s.Mark marks.Open) (differs (s.Word words.Sum) (s.Mark marks.Open) refl) (differs (s.Word words.Count) (s.Mark marks.Open) refl) (differs (s.Word words.Min) (s.Mark marks.Open) refl) (differs (s.Word words.Max) (s.Mark marks.Open) refl);
}

complete_output : (d : ℕ) → Complete (output_at d) IsOutput d (Stops (s.Mark marks.Dot))
complete_output d = record { by = λ h w n. output_read h d w n }

-- what may follow an item
pub record EndsItem (to : List Token) : Type 0 where
  pub dot : Stops (s.Mark marks.Dot) to
  pub alias : Stops (s.Word words.As) to

item_read : {from to : List Token} {x : Item} → IsItem from to x → (d : ℕ) → HasRoom d from → EndsItem to → item_at d from ≡ Some (x, to)
unfolding item_at alias_at
item_read (unnamed a) d h z = rw (output_read a d h z.dot, z.alias) refl
item_read (named {to = to} {n = n} a) d h z =
    rw (output_read a d h (stops (s.Word words.As) (s.Mark marks.Dot) (Name n ∷ to) (differs (s.Word words.As) (s.Mark marks.Dot) refl)), sees (s.Word words.As) (Name n ∷ to), name_read n to) refl

complete_item : (d : ℕ) → Complete (item_at d) IsItem d EndsItem
complete_item d = record { by = λ h w z. item_read h d w z }

item_goes_on : GoesOn EndsItem
item_goes_on = record { comma = λ ts. record { dot = stops (s.Mark marks.Comma) (s.Mark marks.Dot) ts (differs (s.Mark marks.Comma) (s.Mark marks.Dot) refl); alias = stops (s.Mark marks.Comma) (s.Word words.As) ts (differs (s.Mark marks.Comma) (s.Word words.As) refl) } }

items_read : (d : ℕ) (from to : List Token) (xs : List Item) → IsList IsItem from (Fixed (s.Word words.From) ∷ to) xs → HasRoom d from → list_at (item_at d) from ≡ Some (xs, Fixed (s.Word words.From) ∷ to)
items_read d from to xs h w =
    list_read (item_at d) IsItem tame_item d EndsItem item_goes_on (complete_item d) h w
    (record { dot = stops (s.Word words.From) (s.Mark marks.Dot) to (differs (s.Word words.From) (s.Mark marks.Dot) refl); alias = stops (s.Word words.From) (s.Word words.As) to (differs (s.Word words.From) (s.Word words.As) refl) }) (stops (s.Word words.From) (s.Mark marks.Comma) to (differs (s.Word words.From) (s.Mark marks.Comma) refl))

-- names, columns and keys
any_end : GoesOn (λ to. Unit {0})
any_end = record { comma = λ ts. tt }

names_read : (from to : List Token) (xs : List (List ℕ)) → IsList IsNamed from to xs → Stops (s.Mark marks.Comma) to → list_at name_at from ≡ Some (xs, to)
names_read from to xs h n =
    let d = length from in
    list_read name_at IsNamed tame_name d (λ to. Unit {0}) any_end (record { by = λ a w f. named_read a }) h (all_within from d (omega arith)) tt n

-- columns are read at any depth
complete_column : (d : ℕ) → Complete column_at IsColumn d (Stops (s.Mark marks.Dot))
complete_column d = record { by = λ a w n. column_read a n }

column_goes_on : GoesOn (Stops (s.Mark marks.Dot))
column_goes_on = record { comma = λ ts. stops (s.Mark marks.Comma) (s.Mark marks.Dot) ts (differs (s.Mark marks.Comma) (s.Mark marks.Dot) refl) }

columns_read : (from to : List Token) (xs : List ColumnName) → IsList IsColumn from to xs → Stops (s.Mark marks.Dot) to → Stops (s.Mark marks.Comma) to → list_at column_at from ≡ Some (xs, to)
columns_read from to xs h m n =
    let d = length from in
    list_read column_at IsColumn tame_column d (Stops (s.Mark marks.Dot)) column_goes_on (complete_column d) h (all_within from d (omega arith)) m n

key_read : {from to : List Token} {x : Key} → IsKey from to x → key_at from ≡ Some (x, to)
unfolding key_at
key_read name = refl
key_read position = refl

-- what may follow a key
pub record EndsKey (to : List Token) : Type 0 where
  pub asc : Stops (s.Word words.Asc) to
  pub desc : Stops (s.Word words.Desc) to

order_read : {from to : List Token} {x : Order} → IsOrder from to x → EndsKey to → order_at from ≡ Some (x, to)
unfolding order_at
order_read (plain a) z = rw (key_read a, z.asc, z.desc) refl
order_read (asc {to = to} a) z = rw (key_read a, sees (s.Word words.Asc) to) refl
order_read (desc {to = to} a) z = rw (key_read a, stops (s.Word words.Desc) (s.Word words.Asc) to (differs (s.Word words.Desc) (s.Word words.Asc) refl), sees (s.Word words.Desc) to) refl

key_goes_on : GoesOn EndsKey
key_goes_on = record { comma = λ ts. record { asc = stops (s.Mark marks.Comma) (s.Word words.Asc) ts (differs (s.Mark marks.Comma) (s.Word words.Asc) refl); desc = stops (s.Mark marks.Comma) (s.Word words.Desc) ts (differs (s.Mark marks.Comma) (s.Word words.Desc) refl) } }

keys_read : (from to : List Token) (xs : List Order) → IsList IsOrder from to xs → EndsKey to → Stops (s.Mark marks.Comma) to → list_at order_at from ≡ Some (xs, to)
keys_read from to xs h z n =
    let d = length from in
    list_read order_at IsOrder tame_order d EndsKey key_goes_on (record { by = λ a w f. order_read a f }) h (all_within from d (omega arith)) z n

-- what the parts behind FROM begin with
nil_stops : (sign : Sign) → Stops sign []
unfolding after
nil_stops sign = refl

end_stops : {ts : List Token} → IsEnd ts → (sign : Sign) → is_sign (s.Mark marks.Semicolon) sign ≡ false → Stops sign ts
end_stops end sign p = nil_stops sign
end_stops semicolon sign p = stops (s.Mark marks.Semicolon) sign [] p

orders_stop : {from to : List Token} {xs : List Order} → IsOrders from to xs → (sign : Sign) → is_sign (s.Word words.Order) sign ≡ false → Stops sign to → Stops sign from
orders_stop no_orders sign p h = h
orders_stop (orders {from = from} a) sign p h = stops (s.Word words.Order) sign (Fixed (s.Word words.By) ∷ from) p

groups_stop : {from to : List Token} {xs : List ColumnName} → IsGroups from to xs → (sign : Sign) → is_sign (s.Word words.Group) sign ≡ false → Stops sign to → Stops sign from
groups_stop no_groups sign p h = h
groups_stop (groups {from = from} a) sign p h = stops (s.Word words.Group) sign (Fixed (s.Word words.By) ∷ from) p

filter_stops : {C : Type 0} (w : Keyword) (R : Spelling C) {from to : List Token} {x : Option (Filter C)} → IsFilter w R from to x → (sign : Sign) → is_sign (s.Word w) sign ≡ false → Stops sign to → Stops sign from
filter_stops w R no_filter sign p h = h
filter_stops w R (filter {from = from} a) sign p h = stops (s.Word w) sign from p

-- what the parts behind FROM leave of the open parentheses
filter_within : {C : Type 0} (w : Keyword) (R : Spelling C) → Tame R → {from to : List Token} {x : Option (Filter C)} → IsFilter w R from to x → (d : ℕ) → HasRoom d from → HasRoom d to
filter_within w R t no_filter d h = h
filter_within w R t (filter a) d h = (tame_cond R t).within a d h

groups_within : {from to : List Token} {xs : List ColumnName} → IsGroups from to xs → (d : ℕ) → HasRoom d from → HasRoom d to
groups_within no_groups d h = h
groups_within (groups a) d h = (tame_list IsColumn tame_column).within a d h

-- the parts behind FROM
filter_read : {C : Type 0} (w : Keyword) (R : Spelling C) → Tame R → Begins R → (p : ℕ → Parser C) → ((d : ℕ) → Complete (p d) R d (Stops (s.Mark marks.Dot)))
    → {from to : List Token} {x : Option (Filter C)} → IsFilter w R from to x → (d : ℕ) → HasRoom d from → Stops (s.Word w) to → EndsCond to → filter_at w p (suc d) from ≡ Some (x, to)
unfolding filter_at
filter_read w R t starts p complete no_filter d h n z = rw n refl
filter_read w R t starts p complete (filter {from = from} a) d h n z = rw (sees (s.Word w) from, cond_read R t starts p complete a d h z) refl

by_none : {A : Type 0} (word : Keyword) (p : Parser A) (ts : List Token) → Stops (s.Word word) ts → by_at word p ts ≡ Some ([], ts)
unfolding by_at
by_none word p ts g = rw g refl

by_goes : {A : Type 0} (word : Keyword) (p : Parser A) (from to : List Token) (xs : List A) → list_at p from ≡ Some (xs, to) → by_at word p (Fixed (s.Word word) ∷ Fixed (s.Word words.By) ∷ from) ≡ Some (xs, to)
unfolding by_at
by_goes word p from to xs e = rw (sees (s.Word word) (Fixed (s.Word words.By) ∷ from), sees (s.Word words.By) from) e

groups_read : {from to : List Token} {xs : List ColumnName} → IsGroups from to xs → Stops (s.Word words.Group) to → Stops (s.Mark marks.Dot) to → Stops (s.Mark marks.Comma) to → by_at words.Group column_at from ≡ Some (xs, to)
groups_read (no_groups {to = to}) g m n = by_none words.Group column_at to g
groups_read (groups {from = from} {to = to} {xs = xs} a) g m n = by_goes words.Group column_at from to xs (columns_read from to xs a m n)

orders_read : {from to : List Token} {xs : List Order} → IsOrders from to xs → Stops (s.Word words.Order) to → EndsKey to → Stops (s.Mark marks.Comma) to → by_at words.Order order_at from ≡ Some (xs, to)
orders_read (no_orders {to = to}) g z n = by_none words.Order order_at to g
orders_read (orders {from = from} {to = to} {xs = xs} a) g z n = by_goes words.Order order_at from to xs (keys_read from to xs a z n)

ends_read : {ts : List Token} → IsEnd ts → ends ts ≡ true
unfolding ends
ends_read end = rw (nil_stops (s.Mark marks.Semicolon)) refl
ends_read semicolon = rw (sees (s.Mark marks.Semicolon) []) refl

query_goes : (d : ℕ) (a b c e f g k : List Token) (items : List Item) (from : List (List ℕ)) (w : Option (Filter ColumnName)) (xs : List ColumnName) (having : Option (Filter Output)) (ys : List Order) → list_at (item_at d) a ≡ Some (items, Fixed (s.Word words.From) ∷ b)
    → list_at name_at b ≡ Some (from, c) → filter_at words.Where (λ deep. column_at) (suc d) c ≡ Some (w, e) → by_at words.Group column_at e ≡ Some (xs, f) → filter_at words.Having output_at (suc d) f ≡ Some (having, g) → by_at words.Order order_at g ≡ Some (ys, k) → ends k ≡ true
    → query_at d (Fixed (s.Word words.Select) ∷ a) ≡ Some (select_of items from w xs having ys)
unfolding query_at joined_at filtered_at grouped_at kept_at ordered_at
query_goes d a b c e f g k items from w xs having ys i n p q h r z = rw (sees (s.Word words.Select) a, i, sees (s.Word words.From) b, n, p, q, h, r, z) refl

-- what the parts behind a part may begin with
module _ {e f g k : List Token} {xs : List ColumnName} {having : Option (Filter Output)} {ys : List Order} (groups_are : IsGroups e f xs) (having_is : IsHaving f g having) (orders_are : IsOrders g k ys) (last : IsEnd k) where
  stops_orders : (sign : Sign) → is_sign (s.Mark marks.Semicolon) sign ≡ false → is_sign (s.Word words.Order) sign ≡ false → Stops sign g
  stops_orders sign i j = orders_stop orders_are sign j (end_stops last sign i)

  stops_having : (sign : Sign) → is_sign (s.Mark marks.Semicolon) sign ≡ false → is_sign (s.Word words.Order) sign ≡ false → is_sign (s.Word words.Having) sign ≡ false → Stops sign f
  stops_having sign i j h = filter_stops words.Having IsOutput having_is sign h (stops_orders sign i j)

  stops_groups : (sign : Sign) → is_sign (s.Mark marks.Semicolon) sign ≡ false → is_sign (s.Word words.Order) sign ≡ false → is_sign (s.Word words.Having) sign ≡ false → is_sign (s.Word words.Group) sign ≡ false → Stops sign e
  stops_groups sign i j h l = groups_stop groups_are sign l (stops_having sign i j h)

-- what is read of a query
pub whole_read : {ts : List Token} {x : Select} → Parses ts x → (d : ℕ) → HasRoom d ts → query_at d ts ≡ Some x
whole_read (query {a = a} {b = b} {c = c} {d = e} {e = f} {f = g} {g = k} {items = items} {from = from} {condition = w} {groups = xs} {having = having} {orders = ys} one two where_is groups_are having_is orders_are last) d h =
    let within_b : HasRoom d b = (tame_list IsItem tame_item).within one d h in
    let within_c : HasRoom d c = (tame_list IsNamed tame_name).within two d within_b in
    let within_e : HasRoom d e = filter_within words.Where IsColumn tame_column where_is d within_c in
    let within_f : HasRoom d f = groups_within groups_are d within_e in
    let at_g = stops_orders groups_are having_is orders_are last in
    let at_f = stops_having groups_are having_is orders_are last in
    let at_e = stops_groups groups_are having_is orders_are last in
    let ends_where : EndsCond e = record {
      dot = at_e (s.Mark marks.Dot) (differs (s.Mark marks.Semicolon) (s.Mark marks.Dot) refl) (differs (s.Word words.Order) (s.Mark marks.Dot) refl) (differs (s.Word words.Having) (s.Mark marks.Dot) refl) (differs (s.Word words.Group) (s.Mark marks.Dot) refl);
      and = at_e (s.Word words.And) (differs (s.Mark marks.Semicolon) (s.Word words.And) refl) (differs (s.Word words.Order) (s.Word words.And) refl) (differs (s.Word words.Having) (s.Word words.And) refl) (differs (s.Word words.Group) (s.Word words.And) refl);
      or = at_e (s.Word words.Or) (differs (s.Mark marks.Semicolon) (s.Word words.Or) refl) (differs (s.Word words.Order) (s.Word words.Or) refl) (differs (s.Word words.Having) (s.Word words.Or) refl) (differs (s.Word words.Group) (s.Word words.Or) refl);
    } in
    let ends_having : EndsCond g = record {
      dot = at_g (s.Mark marks.Dot) (differs (s.Mark marks.Semicolon) (s.Mark marks.Dot) refl) (differs (s.Word words.Order) (s.Mark marks.Dot) refl);
      and = at_g (s.Word words.And) (differs (s.Mark marks.Semicolon) (s.Word words.And) refl) (differs (s.Word words.Order) (s.Word words.And) refl);
      or = at_g (s.Word words.Or) (differs (s.Mark marks.Semicolon) (s.Word words.Or) refl) (differs (s.Word words.Order) (s.Word words.Or) refl);
    } in
    let p = filter_read words.Where IsColumn tame_column begins_column (λ deep. column_at) complete_column where_is d within_c
    (at_e (s.Word words.Where) (differs (s.Mark marks.Semicolon) (s.Word words.Where) refl) (differs (s.Word words.Order) (s.Word words.Where) refl) (differs (s.Word words.Having) (s.Word words.Where) refl) (differs (s.Word words.Group) (s.Word words.Where) refl)) ends_where in
    let q = groups_read groups_are (at_f (s.Word words.Group) (differs (s.Mark marks.Semicolon) (s.Word words.Group) refl) (differs (s.Word words.Order) (s.Word words.Group) refl) (differs (s.Word words.Having) (s.Word words.Group) refl))
    (at_f (s.Mark marks.Dot) (differs (s.Mark marks.Semicolon) (s.Mark marks.Dot) refl) (differs (s.Word words.Order) (s.Mark marks.Dot) refl) (differs (s.Word words.Having) (s.Mark marks.Dot) refl))
    (at_f (s.Mark marks.Comma) (differs (s.Mark marks.Semicolon) (s.Mark marks.Comma) refl) (differs (s.Word words.Order) (s.Mark marks.Comma) refl) (differs (s.Word words.Having) (s.Mark marks.Comma) refl)) in
    let v = filter_read words.Having IsOutput tame_output begins_output output_at complete_output having_is d within_f (at_g (s.Word words.Having) (differs (s.Mark marks.Semicolon) (s.Word words.Having) refl) (differs (s.Word words.Order) (s.Word words.Having) refl)) ends_having in
    let ends_key : EndsKey k = record { asc = end_stops last (s.Word words.Asc) (differs (s.Mark marks.Semicolon) (s.Word words.Asc) refl); desc = end_stops last (s.Word words.Desc) (differs (s.Mark marks.Semicolon) (s.Word words.Desc) refl) } in
    let r = orders_read orders_are (end_stops last (s.Word words.Order) (differs (s.Mark marks.Semicolon) (s.Word words.Order) refl)) ends_key (end_stops last (s.Mark marks.Comma) (differs (s.Mark marks.Semicolon) (s.Mark marks.Comma) refl)) in
    let comma_stops = filter_stops words.Where IsColumn where_is (s.Mark marks.Comma) (differs (s.Word words.Where) (s.Mark marks.Comma) refl)
    (at_e (s.Mark marks.Comma) (differs (s.Mark marks.Semicolon) (s.Mark marks.Comma) refl) (differs (s.Word words.Order) (s.Mark marks.Comma) refl) (differs (s.Word words.Having) (s.Mark marks.Comma) refl) (differs (s.Word words.Group) (s.Mark marks.Comma) refl)) in
    query_goes d a b c e f g k items from w xs having ys (items_read d a b items one h) (names_read b c from two comma_stops) p q v r (ends_read last)

-- tokens spell one query at most
pub one_meaning : (ts : List Token) (x y : Select) → Parses ts x → Parses ts y → x ≡ y
one_meaning ts x y a b =
    let h = all_within ts (length ts) (omega arith) in
    some_is x y (sym (whole_read a (length ts) h) ∙ whole_read b (length ts) h)

pub spells_none : (ts : List Token) → HasRoom 64 ts → query_at 64 ts ≡ None → (y : Select) → Parses ts y → ⊥
spells_none ts h e y is = let f = whole_read is 64 h in absurd cc

-- where the reader of a query stops, the tokens spell none, or memory ran out
pub reads_none : (ts : List Token) (e : Stop) → HasRoom 64 ts → Fails e (query_at 64 ts) → Reads ts (Err (told e))
reads_none ts stop.Memory h e = tt
reads_none ts stop.Syntax h e = (h, spells_none ts h e)
