-- The bound query is that of the select where no refusal applies, and a select has one query at most.
use Rattle.std.proofs.Common.{◌≡◌, ℕ, zero, suc, ◌+◌, true, false, cond, Option, Some, None, List, [], ◌∷◌, ◌++◌, length, map, find, is_none, slice_get, unwrap_or, refl, sym, ap, ap₂, subst, ◌∙◌, append_assoc, length-append, arith}
use Rattle.std.specs.Bool.{⊤}
use Rattle.std.specs.List.{filter_map, cons_option, list_all, range_with_len}
use Rattle.std.specs.Option.{is_some}
use Rattle.std.proofs.lemmas.Option.{same_Some}
use Rattle.ssb_catalog.proofs.Choices.{cond-none, cond-passes}
use Rattle.ssb_catalog.specs.Shapes.{TableShape}
use Rattle.ssb_sql.specs.declared.select.Item.{Item}
use Rattle.ssb_sql.specs.declared.select.Order.{Order}
use Rattle.ssb_sql.specs.declared.select.Select.{Select}
use Rattle.ssb_trees.proofs.Turns.{same_condition}
use Rattle.ssb_trees.specs.Conditions.{Filter, operands}
use Rattle.ssb_trees.specs.Lists.{concat}
use Rattle.ssb_trees.specs.declared.operand.Operand.{Operand}
use Rattle.ssb_trees.specs.declared.operand.Operand.TheVariants as operand
use Rattle.ssb_bind.specs.Binding.{bound_items, filter_operands, is_aggregate, is_bindable_operand, is_bindable_output, operands_of, BindsHaving, origin_of}
use Rattle.ssb_bind.specs.Bound.{aggregate_of, aggregates_of, bound_aggregate, bound_where, having_aggregates, operand_aggregate, the_column}
use Rattle.ssb_bind.specs.Columns.{fit_of, table_number, the_one}
use Rattle.ssb_bind.specs.Faults.{unknown_table}
use Rattle.ssb_bind.specs.Resolved.{resolved_select}
use Rattle.ssb_bind.specs.declared.resolved.Resolved.{Resolved}
use Rattle.ssb_bind.specs.declared.resolved.ResolvedOutput.{ResolvedOutput}
use Rattle.ssb_bind.specs.declared.resolved.ResolvedOutput.TheVariants as output
use Rattle.ssb_trees.proofs.Taken.{both}
use Rattle.ssb_bind.specs.Orders.{bad_from, bound_order, fits_one, places_for}
use Rattle.ssb_bind.specs.Query.{aggregate_number, AreItems, Each, having_numbers, MeansHaving, IsItem, IsOrder, IsQueryOf, operand_number, Shows, StandsFor}
use Rattle.ssb_query.specs.Tables.{fact_place}
use Rattle.ssb_query.specs.declared.column.BoundColumn.{BoundColumn}
use Rattle.ssb_query.specs.declared.query.BoundItem.{BoundItem}
use Rattle.ssb_query.specs.declared.query.BoundOrder.{BoundOrder}
use Rattle.ssb_query.specs.declared.query.Origin.{Origin}
use Rattle.ssb_query.specs.declared.query.Origin.TheVariants as origin
use Rattle.ssb_query.specs.declared.query.QueryParts.{QueryParts}
use Rattle.ssb_trees.specs.declared.aggregate.Aggregate.{Aggregate}

-- ---- one at most

same_list : (xs ys : List ℕ) → map Some xs ≡ map Some ys → xs ≡ ys
same_list [] [] e = refl
same_list [] (y ∷ ys) e = cc
same_list (x ∷ xs) [] e = cc
same_list (x ∷ xs) (y ∷ ys) e =
    let head : x ≡ y = cc in
    let tail : map Some xs ≡ map Some ys = cc in
    ap₂ (λ z zs. z ∷ zs) head (same_list xs ys tail)

heads : (a b : ℕ) (xs ys : List ℕ) → a ∷ xs ≡ b ∷ ys → (origin.Aggregate a ≡ origin.Aggregate b) × (xs ≡ ys)
heads a b xs ys e = let head : a ≡ b = cc in let tail : xs ≡ ys = cc in (ap origin.Aggregate head, tail)

module _ (p q : QueryParts) where
  same_origin : (o : ResolvedOutput) (x y : Origin) → Shows p o x → Shows q o y → (xs ys : List ℕ) → cons_option (aggregate_number x) xs ≡ cons_option (aggregate_number y) ys → (x ≡ y) × (xs ≡ ys)
  same_origin (output.Column name group) (origin.Group k) (origin.Group l) h g xs ys e = (ap origin.Group (same_Some k l (sym h ∙ g)), e)
  same_origin (output.Column name group) (origin.Group k) (origin.Aggregate l) h g xs ys e = absurd g
  same_origin (output.Column name group) (origin.Aggregate k) y h g xs ys e = absurd h
  same_origin (output.Aggregate a) (origin.Group k) y h g xs ys e = absurd h
  same_origin (output.Aggregate a) (origin.Aggregate k) (origin.Group l) h g xs ys e = absurd g
  same_origin (output.Aggregate a) (origin.Aggregate k) (origin.Aggregate l) h g xs ys e = heads k l xs ys e

  abbrev numbers_of : List BoundItem → List ℕ
  numbers_of bs = filter_map (λ item. aggregate_number item.origin) bs

  cons_append : (o : Option ℕ) (xs ys : List ℕ) → cons_option o xs ++ ys ≡ cons_option o (xs ++ ys)
  cons_append None xs ys = refl
  cons_append (Some n) xs ys = refl

  same_items : (os : List ResolvedOutput) (items : List Item) (bs ds : List BoundItem) (xs ys : List ℕ) → AreItems p os items bs → AreItems q os items ds → numbers_of bs ++ xs ≡ numbers_of ds ++ ys → (bs ≡ ds) × (xs ≡ ys)
  same_items [] [] [] [] xs ys h g e = (refl, e)
  same_items [] [] [] (d ∷ ds) xs ys h g e = absurd g
  same_items [] [] (b ∷ bs) ds xs ys h g e = absurd h
  same_items [] (item ∷ items) bs ds xs ys h g e = absurd h
  same_items (o ∷ os) [] bs ds xs ys h g e = absurd h
  same_items (o ∷ os) (item ∷ items) [] ds xs ys h g e = absurd h
  same_items (o ∷ os) (item ∷ items) (b ∷ bs) [] xs ys h g e = absurd g
  same_items (o ∷ os) (item ∷ items) (b ∷ bs) (d ∷ ds) xs ys h g e =
      let behind = sym (cons_append (aggregate_number b.origin) (numbers_of bs) xs) ∙ e ∙ cons_append (aggregate_number d.origin) (numbers_of ds) ys in
      let both = same_origin o b.origin d.origin h.0.origin g.0.origin (numbers_of bs ++ xs) (numbers_of ds ++ ys) behind in
      let names : b.name ≡ d.name = h.0.name ∙ sym g.0.name in
      let first : b ≡ d = ap₂ (λ o n. record { origin = o; name = n }) both.0 names in
      let rest = same_items os items bs ds xs ys h.1 g.1 both.1 in
      (ap₂ (λ z zs. z ∷ zs) first rest.0, rest.1)

  same_operand : (o : Operand ResolvedOutput) (x y : Operand Origin) → StandsFor p o x → StandsFor q o y → (xs ys : List ℕ) → cons_option (operand_number x) xs ≡ cons_option (operand_number y) ys → (x ≡ y) × (xs ≡ ys)
  same_operand (operand.Column o) (operand.Column x) (operand.Column y) h g xs ys e = let r = same_origin o x y h g xs ys e in (ap operand.Column r.0, r.1)
  same_operand (operand.Column o) (operand.Column x) (operand.Literal m) h g xs ys e = absurd g
  same_operand (operand.Column o) (operand.Literal m) y h g xs ys e = absurd h
  same_operand (operand.Literal l) (operand.Column x) y h g xs ys e = absurd h
  same_operand (operand.Literal l) (operand.Literal m) (operand.Column y) h g xs ys e = absurd g
  same_operand (operand.Literal l) (operand.Literal m) (operand.Literal n) h g xs ys e = (ap operand.Literal (h ∙ sym g), e)

  same_operands : (os : List (Operand ResolvedOutput)) (bs ds : List (Operand Origin)) → Each (StandsFor p) os bs → Each (StandsFor q) os ds → filter_map operand_number bs ≡ filter_map operand_number ds → bs ≡ ds
  same_operands [] [] [] h g e = refl
  same_operands [] [] (d ∷ ds) h g e = absurd g
  same_operands [] (b ∷ bs) ds h g e = absurd h
  same_operands (o ∷ os) [] ds h g e = absurd h
  same_operands (o ∷ os) (b ∷ bs) [] h g e = absurd g
  same_operands (o ∷ os) (b ∷ bs) (d ∷ ds) h g e =
      let both = same_operand o b d h.0 g.0 (filter_map operand_number bs) (filter_map operand_number ds) e in
      ap₂ (λ z zs. z ∷ zs) both.0 (same_operands os bs ds h.1 g.1 both.1)

  same_having : (w : Option (Filter ResolvedOutput)) (a b : Option (Filter Origin)) → MeansHaving p w a → MeansHaving q w b → having_numbers a ≡ having_numbers b → a ≡ b
  same_having None None None h g e = refl
  same_having None None (Some b) h g e = absurd g
  same_having None (Some a) b h g e = absurd h
  same_having (Some w) None b h g e = absurd h
  same_having (Some w) (Some a) None h g e = absurd g
  same_having (Some w) (Some a) (Some b) h g e =
      ap Some (same_condition (Operand Origin) ⊤ (λ o. tt) (operand.Column (origin.Group 0)) a b (h.0 ∙ sym g.0) (same_operands (operands (Operand ResolvedOutput) w) (operands (Operand Origin) a) (operands (Operand Origin) b) h.1 g.1 e))

same_orders : (items : List Item) (os : List Order) (bs ds : List BoundOrder) → Each (IsOrder items) os bs → Each (IsOrder items) os ds → bs ≡ ds
same_orders items [] [] [] h g = refl
same_orders items [] [] (d ∷ ds) h g = absurd g
same_orders items [] (b ∷ bs) ds h g = absurd h
same_orders items (o ∷ os) [] ds h g = absurd h
same_orders items (o ∷ os) (b ∷ bs) [] h g = absurd g
same_orders items (o ∷ os) (b ∷ bs) (d ∷ ds) h g =
    let one : b.item ∷ [] ≡ d.item ∷ [] = sym h.0.item ∙ g.0.item in
    let item : b.item ≡ d.item = cc in
    let turn : b.descending ≡ d.descending = h.0.descending ∙ sym g.0.descending in
    let first : b ≡ d = ap₂ (λ i t. record { item = i; descending = t }) item turn in
    ap₂ (λ z zs. z ∷ zs) first (same_orders items os bs ds h.1 g.1)

-- two queries of a select, whatever it is resolved to
same_query : (c : List TableShape) (s : Select) (r : Resolved) (p q : QueryParts) → p.from ≡ q.from → IsQueryOf c s r p → IsQueryOf c s r q → p ≡ q
same_query c s r p q from h g =
    let tables : p.tables ≡ q.tables = h.tables ∙ sym g.tables in
    let fact : p.fact ≡ q.fact = same_Some p.fact q.fact (sym h.fact ∙ ap₂ fact_place tables from ∙ g.fact) in
    let condition : p.condition ≡ q.condition = h.condition ∙ sym g.condition in
    let groups : p.groups ≡ q.groups = h.groups ∙ sym g.groups in
    let aggregates : p.aggregates ≡ q.aggregates = h.aggregates ∙ sym g.aggregates in
    let numbers = h.numbers ∙ ap (λ (all : List (Aggregate BoundColumn)). range_with_len 0 (length all)) aggregates ∙ sym g.numbers in
    let items = same_items p q r.outputs s.items p.items q.items (having_numbers p.having) (having_numbers q.having) h.items g.items numbers in
    let having : p.having ≡ q.having = same_having p q r.having p.having q.having h.having g.having items.1 in
    let orders : p.orders ≡ q.orders = same_orders s.items s.orders p.orders q.orders h.orders g.orders in
    λ j. record { tables = tables j; from = from j; fact = fact j; condition = condition j; groups = groups j; having = having j; aggregates = aggregates j; items = items.0 j; orders = orders j }

pub one_query : (c : List TableShape) (s : Select) (p q : QueryParts) → IsQueryOf c s (resolved_select c p.from s) p → IsQueryOf c s (resolved_select c q.from s) q → p ≡ q
one_query c s p q h g =
    let from : p.from ≡ q.from = same_list p.from q.from (sym h.from ∙ g.from) in
    same_query c s (resolved_select c q.from s) p q from (subst (λ f. IsQueryOf c s (resolved_select c f s) p) from h) g

-- ---- the bound query

there : {X : Type 0} (o : Option X) (d : X) → is_none o ≡ false → o ≡ Some (unwrap_or o d)
there None d e = absurd cc
there (Some x) d e = refl

pub each_table : (c : List TableShape) (names : List (List ℕ)) → unknown_table c names ≡ None → map (table_number c) names ≡ map Some (map (λ name. unwrap_or (table_number c name) 0) names)
each_table c [] e = refl
each_table c (name ∷ names) e =
    let here = cond-none (is_none (table_number c name)) name (unknown_table c names) e in
    ap₂ (λ z zs. z ∷ zs) (there (table_number c name) 0 here.0) (each_table c names here.1)

at_length : {X : Type 0} (front : List X) (x : X) (back : List X) → slice_get (front ++ x ∷ back) (length front) ≡ Some x
at_length [] x back = refl
at_length (y ∷ front) x back = at_length front x back

-- the select columns from one on, of which the aggregates `front` stand before, and then HAVING
module _ (q : QueryParts) (back : List (Aggregate BoundColumn)) where
  abbrev Goes : List (Aggregate BoundColumn) → ℕ → List ResolvedOutput → List Item → Type 0
  Goes front n os items = q.aggregates ≡ front ++ (aggregates_of os ++ back) → n ≡ length front → list_all is_bindable_output os ≡ true → length items ≡ length os → AreItems q os items (bound_items n os items)

  pub each_item : (os : List ResolvedOutput) (items : List Item) (front : List (Aggregate BoundColumn)) (n : ℕ) → Goes front n os items
  each_item [] [] front n all many e l = tt
  each_item [] (item ∷ items) front n all many e l = absurd cc
  each_item (o ∷ os) [] front n all many e l = absurd cc
  each_item (o ∷ os) (item ∷ items) front n all many e l =
      let h = both (is_bindable_output o) (list_all is_bindable_output os) e in
      let r = at o h.0 (λ before m a b. each_item os items before m a b h.1 (omega (arith, l))) all in
      (record { origin = r.0; name = refl }, r.1)
    where
      behind : List (Aggregate BoundColumn)
      behind = aggregates_of os ++ back

      found : (a : Aggregate BoundColumn) → q.aggregates ≡ front ++ a ∷ behind → slice_get q.aggregates n ≡ Some a
      found a list = ap₂ slice_get list many ∙ at_length front a behind

      More : Type 0
      More = (before : List (Aggregate BoundColumn)) (m : ℕ) → q.aggregates ≡ before ++ behind → m ≡ length before → AreItems q os items (bound_items m os items)

      at : (o : ResolvedOutput) → is_bindable_output o ≡ true → More → q.aggregates ≡ front ++ (cons_option (aggregate_of o) (aggregates_of os) ++ back)
          → Shows q o (origin_of n o) × AreItems q os items (bound_items (cond (is_aggregate o) (n + 1) n) os items)
      at (output.Column name None) one more list = absurd cc
      at (output.Column name (Some k)) one more list = (refl, more front n list many)
      at (output.Aggregate a) one more list =
          let this = bound_aggregate a in
          (found this list, more (front ++ this ∷ []) (n + 1) (list ∙ sym (append_assoc front (this ∷ []) behind)) (omega (arith, many, length-append front (this ∷ []))))

-- the operands of HAVING from one on
module _ (q : QueryParts) where
  each_operand : (os : List (Operand ResolvedOutput)) (front : List (Aggregate BoundColumn)) → q.aggregates ≡ front ++ filter_map operand_aggregate os → list_all is_bindable_operand os ≡ true
      → Each (StandsFor q) os (operands_of front os)
  each_operand [] front all e = tt
  each_operand (operand.Literal l ∷ os) front all e = (refl, each_operand os front all (both (is_bindable_operand (operand.Literal l)) (list_all is_bindable_operand os) e).1)
  each_operand (operand.Column (output.Column name None) ∷ os) front all e = absurd cc
  each_operand (operand.Column (output.Column name (Some k)) ∷ os) front all e = (refl, each_operand os front all (both (is_bindable_operand (operand.Column (output.Column name (Some k)))) (list_all is_bindable_operand os) e).1)
  each_operand (operand.Column (output.Aggregate a) ∷ os) front all e =
      let one = bound_aggregate a in
      let behind = filter_map operand_aggregate os in (
        ap (λ list. slice_get list (length front)) all ∙ at_length front one behind,
        each_operand os (front ++ one ∷ []) (all ∙ sym (append_assoc front (one ∷ []) behind)) (both (is_bindable_operand (operand.Column (output.Aggregate a))) (list_all is_bindable_operand os) e).1,
      )

  pub having_is : (w : Option (Filter ResolvedOutput)) (b : Option (Filter Origin)) (front : List (Aggregate BoundColumn)) → BindsHaving front w b → q.aggregates ≡ front ++ having_aggregates w
      → list_all is_bindable_operand (filter_operands w) ≡ true → MeansHaving q w b
  having_is None None front h all e = tt
  having_is None (Some b) front h all e = absurd h
  having_is (Some w) None front h all e = absurd h
  having_is (Some w) (Some b) front h all e =
      let os = operands (Operand ResolvedOutput) w in
      (h.0, subst (Each (StandsFor q) os) (sym h.1) (each_operand os front all e))

-- the aggregates are numbered one after the other
each_number : (n : ℕ) (os : List ResolvedOutput) (items : List Item) → length items ≡ length os
    → filter_map (λ item. aggregate_number item.origin) (bound_items n os items) ≡ range_with_len n (length (aggregates_of os))
each_number n [] items l = refl
each_number n (o ∷ os) [] l = absurd cc
each_number n (o ∷ os) (item ∷ items) l = at o (λ m. each_number m os items (omega (arith, l)))
  where
    at : (o : ResolvedOutput) → ((m : ℕ) → filter_map (λ item. aggregate_number item.origin) (bound_items m os items) ≡ range_with_len m (length (aggregates_of os)))
        → cons_option (aggregate_number (origin_of n o)) (filter_map (λ item. aggregate_number item.origin) (bound_items (cond (is_aggregate o) (n + 1) n) os items))
        ≡ range_with_len n (length (cons_option (aggregate_of o) (aggregates_of os)))
    at (output.Column name group) more = more n
    at (output.Aggregate a) more = ap (λ ns. n ∷ ns) (more (n + 1))

ranges : (n m k l all : ℕ) → m ≡ n + k → all ≡ k + l → range_with_len n k ++ range_with_len m l ≡ range_with_len n all
ranges n m zero l all e h = let same : m ≡ n = omega (arith, e) in let rest : l ≡ all = omega (arith, h) in ap₂ range_with_len same rest
ranges n m (suc k) l zero e h = absurd (omega (arith, h))
ranges n m (suc k) l (suc all) e h = ap (λ ns. n ∷ ns) (ranges (n + 1) m k l all (omega (arith, e)) (omega (arith, h)))

operand_numbers : (os : List (Operand ResolvedOutput)) (front : List (Aggregate BoundColumn)) → filter_map operand_number (operands_of front os) ≡ range_with_len (length front) (length (filter_map operand_aggregate os))
operand_numbers [] front = refl
operand_numbers (operand.Literal l ∷ os) front = operand_numbers os front
operand_numbers (operand.Column (output.Column name group) ∷ os) front = operand_numbers os front
operand_numbers (operand.Column (output.Aggregate a) ∷ os) front =
    let one = bound_aggregate a in
    let longer : length (front ++ one ∷ []) ≡ length front + 1 = length-append front (one ∷ []) in
    ap (λ ns. length front ∷ ns) (operand_numbers os (front ++ one ∷ []) ∙ ap (λ n. range_with_len n (length (filter_map operand_aggregate os))) longer)

having_numbers_are : (w : Option (Filter ResolvedOutput)) (b : Option (Filter Origin)) (front : List (Aggregate BoundColumn)) → BindsHaving front w b → having_numbers b ≡ range_with_len (length front) (length (having_aggregates w))
having_numbers_are None None front h = refl
having_numbers_are None (Some b) front h = absurd h
having_numbers_are (Some w) None front h = absurd h
having_numbers_are (Some w) (Some b) front h = ap (filter_map operand_number) h.1 ∙ operand_numbers (operands (Operand ResolvedOutput) w) front

pub all_numbers : (os : List ResolvedOutput) (items : List Item) (w : Option (Filter ResolvedOutput)) (b : Option (Filter Origin)) → length items ≡ length os → BindsHaving (aggregates_of os) w b
    → filter_map (λ item. aggregate_number item.origin) (bound_items 0 os items) ++ having_numbers b ≡ range_with_len 0 (length (aggregates_of os ++ having_aggregates w))
all_numbers os items w b l h =
    let front = aggregates_of os in
    let behind = having_aggregates w in
    ap₂ (λ xs ys. xs ++ ys) (each_number 0 os items l) (having_numbers_are w b front h)
    ∙ ranges 0 (length front) (length front) (length behind) (length (front ++ behind)) (omega arith) (length-append front behind)

-- an order key that fits one select column stands for it
alone : (places : List ℕ) → fits_one (fit_of places) ≡ true → places ≡ the_one (fit_of places) 0 ∷ []
alone [] e = cc
alone (x ∷ []) e = refl
alone (x ∷ y ∷ ys) e = cc

pub each_order : (items : List Item) (number : ℕ) (os : List Order) → bad_from items number os ≡ None → Each (IsOrder items) os (map (bound_order items) os)
each_order items number [] e = tt
each_order items number (o ∷ os) e =
    let here = cond-passes (fits_one (fit_of (places_for items o.key))) number (bad_from items (number + 1) os) e in
    (record { item = alone (places_for items o.key) here.0; descending = refl }, each_order items (number + 1) os here.1)
