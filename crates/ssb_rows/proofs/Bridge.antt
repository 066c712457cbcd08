-- What groups stand for is what SQL answers.
use Rattle.std.proofs.Common.{◌≡◌, ◌∙◌, ◌∷◌, [], ◌||◌, ℕ, suc, Bool, true, false, cond, is_some, List, length, map, None, Some, refl, sym, ap, ap₂, subst, true≢false, arith, inl, inr}
use Rattle.std.specs.List.{filter, list_any, All}
use Rattle.std.specs.List.Sorted.{IsPermutation}
use Rattle.std.specs.Map.{lookup}
use Rattle.std.proofs.lemmas.Bool.{cases_Bool}
use Rattle.std.proofs.lemmas.List.Sorted.{IsPermutation-map, IsPermutation-refl, IsPermutation-trans}
use Rattle.std.specs.Prelude.{Ok, Err}
use Rattle.ssb_groups.proofs.Bounds.{summary_is}
use Rattle.ssb_cells.specs.Truth.{is_true}
use Rattle.ssb_query.specs.declared.column.BoundColumn.{BoundColumn}
use Rattle.ssb_query.specs.declared.query.QueryParts.{QueryParts}
use Rattle.ssb_query.specs.declared.query.Origin.{Origin}
use Rattle.ssb_query.specs.declared.query.Origin.TheVariants as origin
use Rattle.ssb_groups.specs.Rows.{Key, key_eq, SeenRow}
use Rattle.ssb_groups.specs.Stands.{GroupMap, Stands, group, summary}
use Rattle.ssb_groups.specs.Aggregates.{totals}
use Rattle.ssb_groups.proofs.KeyFacts.{key_eq_laws}
use Rattle.ssb_rows.specs.Entries.{Entry, entry_beyond, entry_cell, entry_kept, entry_operand, entry_row, entry_rows, whole_entry, entries_by, all_entries, IsBeyondFault}
use Rattle.ssb_rows.specs.Order.{Row, IsOrdered}
use Rattle.ssb_rows.specs.Result.{bag, has_beyond, having_says, is_kept, item_cell, leaves_range, operand_cell, row_of, present, keys, AreKeyed, Answers}
use Rattle.ssb_rows.specs.declared.fault.AnswerFault.{AnswerFault}
use Rattle.ssb_rows.specs.declared.fault.AnswerFault.TheVariants as fault
use Rattle.ssb_rows.proofs.Members.{key-same, member, Apart, apart, distinct_apart, member_distinct, same_members}
use Rattle.ssb_trees.specs.declared.aggregate.Aggregate.{Aggregate}
use Rattle.ssb_trees.specs.declared.operand.Operand.{Operand}
use Rattle.ssb_trees.specs.declared.operand.Operand.TheVariants as operand

-- ---- the values of a group

cell_is : (q : QueryParts) (G : List SeenRow) (k : Key) (s : Origin) → entry_cell (k, totals q.aggregates G) s ≡ item_cell q G k s
cell_is q G k (origin.Group i) = refl
cell_is q G k (origin.Aggregate i) = refl

row_is : (q : QueryParts) (G : List SeenRow) (k : Key) → entry_row q (k, totals q.aggregates G) ≡ row_of q G k
row_is q G k = λ j. map (λ item. cell_is q G k item.origin j) q.items

operand_is : (q : QueryParts) (G : List SeenRow) (k : Key) (o : Operand Origin) → entry_operand (k, totals q.aggregates G) o ≡ operand_cell q G k o
operand_is q G k (operand.Column s) = cell_is q G k s
operand_is q G k (operand.Literal l) = refl

kept_is : (q : QueryParts) (G : List SeenRow) (k : Key) → entry_kept q (k, totals q.aggregates G) ≡ is_kept q G k
kept_is q G k = λ j. is_true (having_says (λ o. operand_is q G k o j) q.having)

-- ---- entries with the aggregates of their groups

abbrev pub AreRight : QueryParts → List SeenRow → List Entry → Type 0
AreRight q R [] = Unit {0}
AreRight q R (e ∷ es) = (e.1 ≡ totals q.aggregates (group e.0 R)) × AreRight q R es

-- the rows of keys that HAVING keeps
abbrev rows_of : QueryParts → List SeenRow → List Key → List Row
rows_of q R ks = map (λ k. row_of q (group k R) k) (filter (λ k. is_kept q (group k R) k) ks)

rows_are : (q : QueryParts) (R : List SeenRow) (es : List Entry) → AreRight q R es → entry_rows q es ≡ rows_of q R (map (λ e. e.0) es)
rows_are q R [] h = refl
rows_are q R (e ∷ es) h =
    let kept = ap (λ ts. entry_kept q (e.0, ts)) h.0 ∙ kept_is q (group e.0 R) e.0 in
    let row = ap (λ ts. entry_row q (e.0, ts)) h.0 ∙ row_is q (group e.0 R) e.0 in
    ap (λ b. map (entry_row q) (cond b (e ∷ filter (entry_kept q) es) (filter (entry_kept q) es))) kept ∙ by (is_kept q (group e.0 R) e.0) row (rows_are q R es h.1)
  where
    by : (b : Bool) → entry_row q e ≡ row_of q (group e.0 R) e.0 → entry_rows q es ≡ rows_of q R (map (λ e. e.0) es)
        → map (entry_row q) (cond b (e ∷ filter (entry_kept q) es) (filter (entry_kept q) es))
        ≡ map (λ k. row_of q (group k R) k) (cond b (e.0 ∷ filter (λ k. is_kept q (group k R) k) (map (λ e. e.0) es)) (filter (λ k. is_kept q (group k R) k) (map (λ e. e.0) es)))
    by true row rest = ap₂ (λ x xs. x ∷ xs) row rest
    by false row rest = rest

pub beyond_are : (q : QueryParts) (R : List SeenRow) (es : List Entry) → AreRight q R es → list_any entry_beyond es ≡ list_any (λ k. has_beyond q (group k R)) (map (λ e. e.0) es)
beyond_are q R [] h = refl
beyond_are q R (e ∷ es) h = ap₂ (λ x y. x || y) (ap (λ ts. entry_beyond (e.0, ts)) h.0) (beyond_are q R es h.1)

-- each entry is what is looked up at its key
abbrev Finds : List Entry → List Entry → Type 0
Finds all [] = Unit {0}
Finds all (e ∷ es) = (lookup (key_eq e.0) all ≡ Some e.1) × Finds all es

later : (e : Entry) (all es : List Entry) → member e.0 (map (λ f. f.0) es) ≡ false → Finds all es → Finds (e ∷ all) es
later e all [] n h = tt
later e all (f ∷ es) n h =
    let o = or_both (key_eq e.0 f.0) (member e.0 (map (λ g. g.0) es)) n in
    (ap (λ b. cond b (Some e.1) (lookup (key_eq f.0) all)) (key_eq_laws.symm f.0 e.0 ∙ o.0) ∙ h.0, later e all es o.1 h.1)
  where
    or_both : (a b : Bool) → (a || b) ≡ false → (a ≡ false) × (b ≡ false)
    or_both true b e = cc e
    or_both false b e = (refl, e)

finds : (es : List Entry) → Apart (map (λ e. e.0) es) → Finds es es
finds [] h = tt
finds (e ∷ es) h = (ap (λ b. cond b (Some e.1) (lookup (key_eq e.0) es)) (key_eq_laws.refl e.0), later e es es h.0 (finds es h.1))

right : (q : QueryParts) (g : GroupMap) (R : List SeenRow) (es : List Entry) → g.job.query ≡ q → ((k : Key) → lookup (key_eq k) g.entries ≡ summary g.job.query.aggregates (group k R)) → Finds g.entries es → AreRight q R es
right q g R [] w h f = tt
right q g R (e ∷ es) w h f = (summary_is g.job.query.aggregates (group e.0 R) e.1 (sym (h e.0) ∙ f.0) ∙ ap (λ (x : QueryParts). totals x.aggregates (group e.0 R)) w, right q g R es w h f.1)

pub are_right : (q : QueryParts) (g : GroupMap) (R : List SeenRow) → Stands g R → g.overflow ≡ None → g.job.query ≡ q → AreRight q R g.entries
are_right q g R s none w = right q g R g.entries w (s.exact none) (finds g.entries (apart _ s.distinct))

-- ---- keys

member_lookup : (k : Key) (es : List Entry) → member k (map (λ e. e.0) es) ≡ is_some (lookup (key_eq k) es)
member_lookup k [] = refl
member_lookup k (e ∷ es) = by (key_eq k e.0) (member_lookup k es)
  where
    by : (b : Bool) → member k (map (λ e. e.0) es) ≡ is_some (lookup (key_eq k) es) → (b || member k (map (λ e. e.0) es)) ≡ is_some (cond b (Some e.1) (lookup (key_eq k) es))
    by true h = refl
    by false h = h

member_group : (w : List (Aggregate BoundColumn)) (k : Key) (R : List SeenRow) → member k (map (λ r. r.key) R) ≡ is_some (summary w (group k R))
member_group w k [] = refl
member_group w k (r ∷ R) = by (key_eq k r.key) (member_group w k R)
  where
    by : (b : Bool) → member k (map (λ r. r.key) R) ≡ is_some (summary w (group k R)) → (b || member k (map (λ r. r.key) R)) ≡ is_some (summary w (cond b (r ∷ group k R) (group k R)))
    by true h = refl
    by false h = h

-- the keys of the entries are those of the rows
pub same_keys : (g : GroupMap) (R : List SeenRow) → Stands g R → g.overflow ≡ None
    → ((p : Key → Bool) → IsPermutation (filter p (present R)) (filter p (map (λ e. e.0) g.entries))) × ((p : Key → Bool) → list_any p (present R) ≡ list_any p (map (λ e. e.0) g.entries))
same_keys g R s none =
    same_members (present R) (map (λ e. e.0) g.entries) (distinct_apart (map (λ r. r.key) R)) (apart _ s.distinct)
    (λ k. member_distinct k (map (λ r. r.key) R) ∙ member_group g.job.query.aggregates k R ∙ sym (ap is_some (s.exact none k)) ∙ sym (member_lookup k g.entries))

-- ---- without GROUP BY

none_summary : (w : List (Aggregate BoundColumn)) (G : List SeenRow) → None ≡ summary w G → G ≡ []
none_summary w [] e = refl
none_summary w (r ∷ rs) e = cc

no_length : (k : Key) → length k ≡ 0 → k ≡ []
no_length [] e = refl
no_length (c ∷ k) e = absurd (omega arith)

empty_key : (k : Key) (R : List SeenRow) → All (λ r. length r.key ≡ 0) R → member k (map (λ r. r.key) R) ≡ true → k ≡ []
empty_key k [] h e = cc
empty_key k (r ∷ R) h e =
    elim (cases_Bool (key_eq k r.key)) [
      | inl same ↦ key-same k r.key same ∙ no_length r.key (h 0 r (omega arith))
      | inr other ↦ empty_key k R (λ i d below. h (suc i) d (omega arith)) (sym (ap (λ b. b || member k (map (λ r. r.key) R)) other) ∙ e)
    ]

-- the keys are those of these entries, which have the aggregates of their groups
record AreGroups (q : QueryParts) (R : List SeenRow) (es : List Entry) : Type 0 where
  right : AreRight q R es
  same : (p : Key → Bool) → IsPermutation (filter p (keys q.groups R)) (filter p (map (λ e. e.0) es))
  any : (p : Key → Bool) → list_any p (keys q.groups R) ≡ list_any p (map (λ e. e.0) es)

itself : (q : QueryParts) (R : List SeenRow) (es : List Entry) → AreRight q R es → keys q.groups R ≡ map (λ e. e.0) es → AreGroups q R es
itself q R es h e = record {
  right = h;
  same = λ p. subst (λ ks. IsPermutation (filter p (keys q.groups R)) (filter p ks)) e (IsPermutation-refl (filter p (keys q.groups R)));
  any = λ p. ap (list_any p) e;
}

whole_empty : (q : QueryParts) (g : GroupMap) (R : List SeenRow) → Stands g R → g.overflow ≡ None → g.job.query ≡ q → q.groups ≡ [] → g.entries ≡ [] → AreGroups q R (whole_entry q ∷ [])
whole_empty q g R s none w no_group no_entry =
    let nothing : group [] R ≡ [] = none_summary g.job.query.aggregates (group [] R) (sym (ap (lookup (key_eq [])) no_entry) ∙ s.exact none []) in
    let right : totals q.aggregates [] ≡ totals q.aggregates (group [] R) = sym (ap (totals q.aggregates) nothing) in
    itself q R _ (right, tt) (ap (λ xs. keys xs R) no_group)

only_one : (q : QueryParts) (R : List SeenRow) (e : Entry) (es : List Entry) → AreRight q R (e ∷ es) → Apart (map (λ f. f.0) (e ∷ es)) → ((k : Key) → member k (map (λ f. f.0) (e ∷ es)) ≡ true → k ≡ []) → q.groups ≡ [] → AreGroups q R (e ∷ es)
only_one q R e [] h a empty no_group = itself q R _ h (ap (λ xs. keys xs R) no_group ∙ ap (λ k. k ∷ []) (sym (empty e.0 (ap (λ b. b || false) (key_eq_laws.refl e.0)))))
only_one q R e (f ∷ es) h a empty no_group =
    let first : e.0 ≡ [] = empty e.0 (ap (λ b. b || member e.0 (map (λ g. g.0) (f ∷ es))) (key_eq_laws.refl e.0)) in
    let second : f.0 ≡ [] = empty f.0 (or_true (key_eq f.0 e.0) (key_eq f.0 f.0 || member f.0 (map (λ g. g.0) es)) (ap (λ b. b || member f.0 (map (λ g. g.0) es)) (key_eq_laws.refl f.0))) in
    let apart_two : key_eq e.0 f.0 ≡ false = or_first (key_eq e.0 f.0) (member e.0 (map (λ g. g.0) es)) a.0 in
    let same : key_eq e.0 f.0 ≡ true = ap₂ key_eq first second in
    absurd (true≢false (sym same ∙ apart_two))
  where
    or_true : (x y : Bool) → y ≡ true → (x || y) ≡ true
    or_true true y e = refl
    or_true false y e = e

    or_first : (x y : Bool) → (x || y) ≡ false → x ≡ false
    or_first true y e = cc e
    or_first false y e = refl

groups_by : (q : QueryParts) (g : GroupMap) (R : List SeenRow) → Stands g R → g.overflow ≡ None → g.job.query ≡ q → AreKeyed q R → (xs : List BoundColumn) → q.groups ≡ xs → (es : List Entry) → g.entries ≡ es → AreGroups q R (entries_by q xs es)
groups_by q g R s none w keyed [] no_group [] no_entry = whole_empty q g R s none w no_group no_entry
groups_by q g R s none w keyed [] no_group (e ∷ es) is =
    only_one q R e es (subst (AreRight q R) is (are_right q g R s none w)) (subst (λ es. Apart (map (λ f. f.0) es)) is (apart _ s.distinct))
    (λ k m. empty_key k R (λ i d below. keyed i d below ∙ ap length no_group) (member_group g.job.query.aggregates k R ∙ sym (ap is_some (s.exact none k)) ∙ sym (member_lookup k g.entries) ∙ ap (λ es. member k (map (λ f. f.0) es)) is ∙ m)) no_group
groups_by q g R s none w keyed (x ∷ xs) some es is =
    let k = same_keys g R s none in
    let these : keys q.groups R ≡ present R = ap (λ ys. keys ys R) some in
    record {
      right = subst (AreRight q R) is (are_right q g R s none w);
      same = λ p. subst (λ ks. IsPermutation (filter p ks) (filter p (map (λ e. e.0) es))) (sym these) (subst (λ fs. IsPermutation (filter p (present R)) (filter p (map (λ e. e.0) fs))) is (k.0 p));
      any = λ p. ap (list_any p) these ∙ k.1 p ∙ ap (λ fs. list_any p (map (λ e. e.0) fs)) is;
    }

-- ---- the answer

bag_of : (q : QueryParts) (R : List SeenRow) (es : List Entry) → AreGroups q R es → IsPermutation (bag q R) (entry_rows q es)
bag_of q R es h = subst (IsPermutation (bag q R)) (sym (rows_are q R es h.right)) (IsPermutation-map (λ k. row_of q (group k R) k) _ _ (h.same (λ k. is_kept q (group k R) k)))

leaves_of : (q : QueryParts) (R : List SeenRow) (es : List Entry) → AreGroups q R es → leaves_range q R ≡ list_any entry_beyond es
leaves_of q R es h = h.any (λ k. has_beyond q (group k R)) ∙ sym (beyond_are q R es h.right)

-- the rows of the entries, put in order, are the answer
pub ordered : (q : QueryParts) (g : GroupMap) (R : List SeenRow) (found rows : List Row) → Stands g R → g.overflow ≡ None → g.job.query ≡ q → AreKeyed q R
    → list_any entry_beyond (all_entries q g.entries) ≡ false → found ≡ entry_rows q (all_entries q g.entries) → IsOrdered q.orders found rows
    → Answers q R (Ok rows)
ordered q g R found rows s none w keyed fine is o =
    let h = groups_by q g R s none w keyed q.groups refl g.entries refl in (
      sym s.overflow ∙ none,
      leaves_of q R _ h ∙ fine,
      record { same = IsPermutation-trans (bag q R) found rows (subst (IsPermutation (bag q R)) (sym is) (bag_of q R _ h)) o.same; sorted = o.sorted },
    )

-- where an entry is beyond the range, that is the answer
pub refused : (q : QueryParts) (g : GroupMap) (R : List SeenRow) (f : AnswerFault) → Stands g R → g.overflow ≡ None → g.job.query ≡ q → AreKeyed q R
    → IsBeyondFault (list_any entry_beyond (all_entries q g.entries)) f → Answers q R (Err f)
refused q g R (fault.RowOverflow n) s none w keyed h = absurd h
refused q g R fault.SumOutOfRange s none w keyed h = (sym s.overflow ∙ none, leaves_of q R _ (groups_by q g R s none w keyed q.groups refl g.entries refl) ∙ h)
refused q g R fault.Memory s none w keyed h = tt
refused q g R fault.Write s none w keyed h = absurd h

pub overflowed : (q : QueryParts) (g : GroupMap) (R : List SeenRow) (n : ℕ) → Stands g R → g.overflow ≡ Some n → Answers q R (Err (fault.RowOverflow n))
overflowed q g R n s e = sym s.overflow ∙ e
