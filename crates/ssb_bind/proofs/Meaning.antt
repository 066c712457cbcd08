-- What is judged of the bound query is judged of the select.
use Rattle.std.proofs.Common.{◌≡◌, ℕ, zero, suc, ◌+◌, ◌<◌, ◌≤◌, inl, inr, Bool, true, false, cond, Option, Some, None, Result, Ok, Err, List, [], ◌∷◌, ◌++◌, length, map, get_or, is_none, nat_lt, unwrap_or, refl, sym, ap, ap₂, subst, ◌∙◌, arith}
use Rattle.std.proofs.lemmas.Bool.{ltb-false}
use Rattle.std.proofs.lemmas.List.{length-map}
use Rattle.std.proofs.lemmas.List.Quantifiers.{position-Some}
use Rattle.std.specs.List.{All, list_all}
use Rattle.ssb_catalog.proofs.Choices.{cond-passes}
use Rattle.ssb_catalog.specs.Catalog.{IsCatalog, is_table_named}
use Rattle.ssb_catalog.specs.Shapes.{TableShape, rules_of}
use Rattle.ssb_sql.specs.declared.select.Select.{Select}
use Rattle.ssb_trees.specs.Conditions.{Filter}
use Rattle.ssb_trees.specs.Expressions.{aggregate_columns}
use Rattle.ssb_trees.specs.Lists.{concat}
use Rattle.ssb_query.specs.Star.{IsStar, are_there, is_joined, is_there, unjoined_from}
use Rattle.ssb_query.specs.Tables.{fact_place}
use Rattle.ssb_query.specs.declared.query.Origin.{Origin}
use Rattle.ssb_query.specs.declared.query.QueryParts.{QueryParts}
use Rattle.ssb_query.specs.declared.query.TableRules.{TableRules}
use Rattle.ssb_bind.specs.Binding.{BindsHaving, BindsResolved, bound_from, is_one, IsBindable, IsBound}
use Rattle.ssb_bind.specs.Bound.{aggregates_of, bound_where, having_aggregates, the_column}
use Rattle.ssb_bind.specs.Columns.{table_number, table_numbers}
use Rattle.ssb_bind.specs.Faults.{bad_order, draft, fault_of, first_of, least_fault, name_faults, not_grouped, part_faults, query_faults, resolved_faults, Says, shape_faults, too_many, unknown_table, when, with, wrong_name}
use Rattle.ssb_bind.specs.Meaning.{BindsTo, FitsOne, Means}
use Rattle.ssb_bind.specs.Names.{column_names}
use Rattle.ssb_bind.specs.Query.{IsQueryOf}
use Rattle.ssb_bind.specs.Resolved.{output_of, resolved_select}
use Rattle.ssb_bind.specs.Rules.{rules_in}
use Rattle.ssb_bind.specs.declared.fault.BindFault.{BindFault}
use Rattle.ssb_bind.specs.declared.fault.BindFault.TheVariants as fault
use Rattle.ssb_bind.specs.declared.fault.TooMany.{TooMany}
use Rattle.ssb_bind.specs.declared.fault.TooMany.TheVariants as many
use Rattle.ssb_bind.specs.declared.fit.Wrong.TheVariants as wrong
use Rattle.ssb_bind.specs.declared.resolved.Resolved.{Resolved}
use Rattle.ssb_bind.proofs.Bindable.{all_one, bindable, each_one}
use Rattle.ssb_bind.proofs.Existing.{columns_there}
use Rattle.ssb_bind.proofs.Least.{hit, skip}
use Rattle.ssb_bind.proofs.Relation.{all_numbers, each_item, each_order, each_table, having_is}

-- where none applies, none of the list does
each_none : (fs : List (Option BindFault)) (k : ℕ) → first_of fs ≡ None → get_or fs k None ≡ None
each_none [] k e = refl
each_none (Some f ∷ fs) k e = absurd cc
each_none (None ∷ fs) zero e = refl
each_none (None ∷ fs) (suc k) e = each_none fs k e

no_detail : {A : Type 0} (f : A → BindFault) (o : Option A) → with f o ≡ None → o ≡ None
no_detail f None e = refl
no_detail f (Some x) e = absurd cc

not_so : (b : Bool) (f : BindFault) → when b f ≡ None → b ≡ false
not_so true f e = absurd cc
not_so false f e = refl

-- ---- the answer

is_fact : (found : Option ℕ) → is_none found ≡ false → found ≡ Some (unwrap_or found 0)
is_fact None e = absurd cc
is_fact (Some k) e = refl

first_behind : (fs gs : List (Option BindFault)) → first_of fs ≡ None → first_of (fs ++ gs) ≡ first_of gs
first_behind [] gs e = refl
first_behind (Some f ∷ fs) gs e = absurd cc
first_behind (None ∷ fs) gs e = first_behind fs gs e

first_within : (fs gs : List (Option BindFault)) (f : BindFault) → first_of fs ≡ Some f → first_of (fs ++ gs) ≡ Some f
first_within [] gs f e = absurd cc
first_within (Some g ∷ fs) gs f e = e
first_within (None ∷ fs) gs f e = first_within fs gs f e

rest_none : (o : Option BindFault) (os : List (Option BindFault)) → first_of (o ∷ os) ≡ None → first_of os ≡ None
rest_none None os e = e
rest_none (Some f) os e = absurd cc

-- a select without a refusal of its names can be bound
pub is_bindable : (tables : List TableRules) (from : List ℕ) (r : Resolved) (s : Select) → first_of (resolved_faults tables from r s) ≡ None → (list_all is_one (column_names r) ≡ true) × IsBindable r
is_bindable tables from r s n =
    let fs = resolved_faults tables from r s in
    let known = no_detail (λ name. fault_of wrong.Unknown name.name) (wrong_name wrong.Unknown r) (each_none fs 1 n) in
    let alone = no_detail (λ name. fault_of wrong.Ambiguous name.name) (wrong_name wrong.Ambiguous r) (each_none fs 2 n) in
    let grouped = no_detail (λ name. fault.NotGrouped name.name) (not_grouped r) (each_none fs 4 n) in
    let one = all_one (column_names r) known alone in
    (one, bindable r one grouped)

-- what it has of aggregates
pub aggregates_are : (tables : List TableRules) (from : List ℕ) (r : Resolved) (s : Select) (q : QueryParts) → IsBound tables from r s q → q.aggregates ≡ aggregates_of r.outputs ++ having_aggregates r.having
unfolding bound_from
aggregates_are tables from r s q h = ap (λ x. x.aggregates) h.parts

-- what is judged of the bound query is judged of the draft
pub of_draft : (tables : List TableRules) (from : List ℕ) (r : Resolved) (s : Select) (q : QueryParts) → IsBound tables from r s q → first_of (shape_faults q r s) ≡ first_of (shape_faults (draft tables from r) r s)
unfolding bound_from
of_draft tables from r s q h = ap (λ x. first_of (shape_faults x r s)) h.parts

module _ (c : List TableShape) (s : Select) where
  abbrev tables : List TableRules
  tables = rules_in c

  abbrev from : List ℕ
  from = table_numbers c s.from

  abbrev resolved : Resolved
  resolved = resolved_select c from s

  abbrev name_first : Option BindFault
  name_first = first_of (name_faults c tables from resolved s)

  behind_table : name_first ≡ None → first_of (resolved_faults tables from resolved s) ≡ None
  behind_table e = rest_none (with fault.UnknownTable (unknown_table c s.from)) (resolved_faults tables from resolved s) e

  outputs_are_items : length s.items ≡ length resolved.outputs
  outputs_are_items = sym (length-map s.items (λ item. output_of c from resolved.groups item.output))

  -- the bound query is that of the select, where no refusal applies
  meets : (having : Option (Filter Origin)) → (let q = bound_from tables from resolved s having in first_of (shape_faults q resolved s) ≡ None) → name_first ≡ None
      → BindsHaving (aggregates_of resolved.outputs) resolved.having having → IsQueryOf c s resolved (bound_from tables from resolved s having)
  unfolding bound_from
  meets having n names binds =
      let q : QueryParts = bound_from tables from resolved s having in
      let front = aggregates_of resolved.outputs in
      let behind = having_aggregates resolved.having in
      let known : unknown_table c s.from ≡ None = no_detail fault.UnknownTable _ (each_none (name_faults c tables from resolved s) 0 names) in
      let bindable = (is_bindable tables from resolved s (behind_table names)).1 in
      let ordered : bad_order s ≡ None = no_detail fault.BadOrderItem _ (each_none (shape_faults q resolved s) 0 n) in
      let fact : is_none (fact_place q.tables q.from) ≡ false = not_so _ _ (each_none (shape_faults q resolved s) 1 n) in
      record {
        tables = refl;
        from = each_table c s.from known;
        fact = is_fact (fact_place q.tables q.from) fact;
        condition = refl;
        groups = refl;
        aggregates = refl;
        items = each_item q behind resolved.outputs s.items [] 0 refl refl bindable.outputs outputs_are_items;
        having = having_is q resolved.having having front binds refl bindable.having;
        numbers = all_numbers resolved.outputs s.items resolved.having having outputs_are_items binds;
        orders = each_order s.items 1 s.orders ordered;
      }

  means : (q : QueryParts) → IsBound tables from resolved s q → first_of (shape_faults q resolved s) ≡ None → name_first ≡ None → Means c s q
  unfolding least_fault bound_from
  means q h n names =
      let same : q.from ≡ from = ap (λ x. x.from) h.parts in
      let none = sym (ap (λ x. first_of (shape_faults x resolved s)) h.parts) ∙ n in
      let is : IsQueryOf c s resolved q = subst (IsQueryOf c s resolved) (sym h.parts) (meets q.having none names h.having) in
      let one : All FitsOne (column_names resolved) = each_one (column_names resolved) (is_bindable tables from resolved s (behind_table names)).0 in
      record {
        each_name = subst (λ ns. All FitsOne (column_names (resolved_select c ns s))) (sym same) one;
        query = subst (λ ns. IsQueryOf c s (resolved_select c ns s) q) (sym same) is;
        no_fault = first_behind (name_faults c tables from resolved s) (shape_faults (draft tables from resolved) resolved s) names ∙ none;
      }

  -- a refusal of a name, or none and what is made of the names
  pub name_fails : (f : BindFault) → Says name_first f → Says (least_fault c s) f
  unfolding least_fault
  name_fails f (inl m) = inl m
  name_fails f (inr e) = inr (first_within (name_faults c tables from resolved s) (shape_faults (draft tables from resolved) resolved s) f e)

  -- or of a table
  pub table_fails : (f : BindFault) → Says (with fault.UnknownTable (unknown_table c s.from)) f → Says (least_fault c s) f
  table_fails f h = name_fails f (hit _ (resolved_faults tables from resolved s) f h)

  shape_fails : (f : BindFault) → name_first ≡ None → Says (first_of (shape_faults (draft tables from resolved) resolved s)) f → Says (least_fault c s) f
  unfolding least_fault
  shape_fails f names (inl m) = inl m
  shape_fails f names (inr e) = inr (first_behind (name_faults c tables from resolved s) (shape_faults (draft tables from resolved) resolved s) names ∙ e)

  pub answers : (result : Result QueryParts BindFault) → name_first ≡ None → BindsResolved tables from resolved s result → BindsTo c s result
  answers (Ok q) names h = means q h.0 h.1 names
  answers (Err f) names h = shape_fails f names h

-- a query whose parts are right, and which is judged
part_hit : (a b : Option BindFault) (os : List (Option BindFault)) (f : BindFault) → Says (first_of (a ∷ b ∷ [])) f → Says (first_of (a ∷ b ∷ os)) f
part_hit a b os f (inl m) = inl m
part_hit None None os f (inr e) = absurd cc
part_hit None (Some g) os f (inr e) = inr e
part_hit (Some g) b os f (inr e) = inr e

pub parts_fail : (tables : List TableRules) (from : List ℕ) (r : Resolved) (s : Select) (f : BindFault) → Says (first_of (part_faults tables from s)) f → Says (first_of (shape_faults (draft tables from r) r s)) f
parts_fail tables from r s f h = part_hit _ _ (query_faults (draft tables from r) r s) f h

part_skip : (a b : Option BindFault) (os : List (Option BindFault)) → first_of (a ∷ b ∷ []) ≡ None → first_of (a ∷ b ∷ os) ≡ first_of os
part_skip None None os e = refl
part_skip None (Some g) os e = absurd cc
part_skip (Some g) b os e = absurd cc

pub parts_pass : (tables : List TableRules) (from : List ℕ) (r : Resolved) (s : Select) (q : QueryParts) → IsBound tables from r s q → first_of (part_faults tables from s) ≡ None → first_of (shape_faults q r s) ≡ first_of (query_faults q r s)
unfolding bound_from
parts_pass tables from r s q h none =
    let same : first_of (part_faults q.tables q.from s) ≡ first_of (part_faults tables from s) = ap (λ x. first_of (part_faults x.tables x.from s)) h.parts in
    part_skip _ _ (query_faults q r s) (same ∙ none)

-- what is judged, of whatever is known to be the select's
module _ (c : List TableShape) (s : Select) (ts us : List TableRules) (ns ms ls : List ℕ) (r : Resolved) (tables_are : ts ≡ rules_in c) (same_tables : us ≡ ts) (from_is : ns ≡ table_numbers c s.from)
    (same_from : ms ≡ ns) (also_from : ls ≡ ns) (resolved_is : r ≡ resolved_select c ls s) (known : unknown_table c s.from ≡ None) where
  same_resolved : r ≡ resolved_select c (table_numbers c s.from) s
  same_resolved = resolved_is ∙ ap (λ xs. resolved_select c xs s) (also_from ∙ from_is)

  rest_is : first_of (resolved_faults us ms r s) ≡ name_first c s
  rest_is =
      let here = λ (o : Option BindFault) (e : o ≡ None). sym (ap (λ x. first_of (x ∷ resolved_faults (tables c s) (from c s) (resolved c s) s)) e) in
      (λ j. first_of (resolved_faults ((same_tables ∙ tables_are) j) ((same_from ∙ from_is) j) (same_resolved j) s)) ∙ here (with fault.UnknownTable (unknown_table c s.from)) (ap (with fault.UnknownTable) known)

  pub name_fails_of : (f : BindFault) → Says (first_of (resolved_faults us ms r s)) f → Says (least_fault c s) f
  name_fails_of f h = name_fails c s f (subst (λ applies. Says applies f) rest_is h)

  pub answers_of : (result : Result QueryParts BindFault) → first_of (resolved_faults us ms r s) ≡ None → BindsResolved ts ns r s result → BindsTo c s result
  answers_of result names h =
      let over_tables = subst (λ xs. BindsResolved xs ns r s result) tables_are h in
      let over_from = subst (λ xs. BindsResolved (rules_in c) xs r s result) from_is over_tables in
      answers c s result (sym rest_is ∙ names) (subst (λ x. BindsResolved (rules_in c) (table_numbers c s.from) x s result) same_resolved over_from)

-- ---- the star

below-of : (c : List TableShape) (k : ℕ) → 0 < length c → ((d : TableShape) → k < length c) → k < length c
below-of [] k some h = absurd (omega arith)
below-of (t ∷ ts) k some h = h t

number_below : (c : List TableShape) (name : List ℕ) (found : Option ℕ) → table_number c name ≡ found → 0 < length c → unwrap_or found 0 < length c
number_below c name None e some = some
number_below c name (Some k) e some = below-of c k some (λ d. (position-Some (is_table_named name) c k d e).0)

known : (c : List TableShape) (names : List (List ℕ)) → 0 < length c → All (λ n. n < length c) (table_numbers c names)
known c [] some k d below = absurd (omega arith)
known c (name ∷ names) some zero d below = number_below c name (table_number c name) refl some
known c (name ∷ names) some (suc k) d below = known c names some k d (omega arith)

not_more : (b : Bool) (x : TooMany) (r : Option TooMany) → cond b (Some x) r ≡ None → b ≡ false
not_more true x r e = absurd cc
not_more false x r e = refl

few : (r : Resolved) (s : Select) → too_many r s ≡ None → length s.from ≤ 8
few r s e = let h = ltb-false 8 (length s.from) (not_more (nat_lt 8 (length s.from)) many.Tables _ e) in omega arith

all_joined : (q : QueryParts) (names : List (List ℕ)) (from k place : ℕ) → unjoined_from q from names ≡ None → k < length names → place ≡ from + k → is_joined q place ≡ true
all_joined q [] from k place e below at = absurd (omega arith)
all_joined q (name ∷ names) from zero place e below at = let here : place ≡ from = omega arith in rw here (cond-passes (is_joined q from) name (unjoined_from q (from + 1) names) e).0
all_joined q (name ∷ names) from (suc k) place e below at = all_joined q names (from + 1) k place (cond-passes (is_joined q from) name (unjoined_from q (from + 1) names) e).1 (omega arith) (omega arith)

star_of : (c : List TableShape) (r : Resolved) (s : Select) (q : QueryParts) → IsCatalog c → q.from ≡ table_numbers c s.from → q.tables ≡ rules_in c → fact_place q.tables q.from ≡ Some q.fact → first_of (shape_faults q r s) ≡ None → are_there q ≡ true → IsStar q
star_of c r s q lawful from tables fact n there =
    let same : length q.from ≡ length s.from = rw from (length-map s.from (λ name. unwrap_or (table_number c name) 0)) in
    let count : length q.tables ≡ length c = rw tables (length-map c (λ t. record { rules = rules_of t })) in
    let limits : too_many r s ≡ None = no_detail fault.TooMany _ (each_none (shape_faults q r s) 3 n) in
    let joined : unjoined_from q 0 s.from ≡ None = no_detail fault.NotStar _ (each_none (shape_faults q r s) 2 n) in
    record {
      few = rw same (few r s limits);
      known = rw count (rw from (known c s.from lawful.some));
      fact = fact;
      joined = λ p below. all_joined q s.from 0 p p joined (rw (← same) below) (omega arith);
      there = there;
    }

numbers_are : (c : List TableShape) (names : List (List ℕ)) (ns : List ℕ) → map (table_number c) names ≡ map Some ns → ns ≡ table_numbers c names
numbers_are c [] [] e = refl
numbers_are c [] (n ∷ ns) e = cc
numbers_are c (name ∷ names) [] e = cc
numbers_are c (name ∷ names) (n ∷ ns) e =
    let first : table_number c name ≡ Some n = cc in
    let rest : map (table_number c) names ≡ map Some ns = cc in
    ap₂ (λ z zs. z ∷ zs) (sym (ap (λ found. unwrap_or found 0) first)) (numbers_are c names ns rest)

shape_none : (c : List TableShape) (tables : List TableRules) (from : List ℕ) (s : Select) (r : Resolved) (d : QueryParts) → first_of (name_faults c tables from r s ++ shape_faults d r s) ≡ None → first_of (shape_faults d r s) ≡ None
shape_none c tables from s r d e = behind (name_faults c tables from r s) e
  where
    behind : (fs : List (Option BindFault)) → first_of (fs ++ shape_faults d r s) ≡ None → first_of (shape_faults d r s) ≡ None
    behind [] e = e
    behind (Some f ∷ fs) e = absurd cc
    behind (None ∷ fs) e = behind fs e

-- no refusal applies to the query either, which has what is judged of the draft
none_of : (c : List TableShape) (s : Select) (q : QueryParts) → Means c s q → first_of (shape_faults q (resolved_select c (table_numbers c s.from) s) s) ≡ None
unfolding least_fault
none_of c s q m =
    let numbers = table_numbers c s.from in
    let r = resolved_select c numbers s in
    let from : q.from ≡ numbers = numbers_are c s.from q.from m.query.from in
    let fact : q.fact ≡ unwrap_or (fact_place (rules_in c) numbers) 0 = sym (ap (λ found. unwrap_or found 0) m.query.fact) ∙ ap₂ (λ ts ns. unwrap_or (fact_place ts ns) 0) m.query.tables from in
    let condition = m.query.condition ∙ ap (λ ns. bound_where (resolved_select c ns s).condition) from in
    let groups = m.query.groups ∙ ap (λ ns. map the_column (resolved_select c ns s).groups) from in
    let draft_of : QueryParts → QueryParts = λ d. record { tables = d.tables; from = d.from; fact = d.fact; condition = d.condition; groups = d.groups; having = q.having; aggregates = q.aggregates; items = q.items; orders = q.orders } in
    ap (λ x. first_of (shape_faults x r s)) (λ j. draft_of (record { tables = m.query.tables j; from = from j; fact = fact j; condition = condition j; groups = groups j; having = q.having; aggregates = q.aggregates; items = q.items; orders = q.orders }))
    ∙ shape_none c (rules_in c) numbers s r (draft (rules_in c) numbers r) m.no_fault

front_none : (fs gs : List (Option BindFault)) → first_of (fs ++ gs) ≡ None → first_of fs ≡ None
front_none [] gs e = refl
front_none (Some f ∷ fs) gs e = absurd cc
front_none (None ∷ fs) gs e = front_none fs gs e

-- its names can be bound
bindable_of : (c : List TableShape) (s : Select) (q : QueryParts) → Means c s q → IsBindable (resolved_select c q.from s)
unfolding least_fault
bindable_of c s q m =
    let numbers = table_numbers c s.from in
    let r = resolved_select c numbers s in
    let names = front_none (name_faults c (rules_in c) numbers r s) (shape_faults (draft (rules_in c) numbers r) r s) m.no_fault in
    let found = rest_none (with fault.UnknownTable (unknown_table c s.from)) (resolved_faults (rules_in c) numbers r s) names in
    subst (λ f. IsBindable (resolved_select c f s)) (sym (numbers_are c s.from q.from m.query.from)) (is_bindable (rules_in c) numbers r s found).1

-- the columns that it has are there
there_of : (c : List TableShape) (s : Select) (q : QueryParts) → Means c s q → are_there q ≡ true
there_of c s q m = (λ j. list_all (is_there (m.query.tables j) q.from) (m.query.groups j ++ concat (map aggregate_columns (m.query.aggregates j)))) ∙ columns_there c q.from s (bindable_of c s q m)

-- what every query keeps
pub star : (c : List TableShape) (s : Select) (q : QueryParts) → IsCatalog c → Means c s q → IsStar q
star c s q lawful m = star_of c (resolved_select c (table_numbers c s.from) s) s q lawful (numbers_are c s.from q.from m.query.from) m.query.tables m.query.fact (none_of c s q m) (there_of c s q m)
