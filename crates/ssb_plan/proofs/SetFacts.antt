-- What sets of values say, by the form of the condition.
use Rattle.std.proofs.Common.{◌≡◌, ◌∙◌, ◌++◌, ◌||◌, ◌&&◌, ◌+◌, ◌<◌, ℕ, ℤ, suc, Bool, true, false, not, nat_eq, List, [], ◌∷◌, All, Some, length, get_or, map, take, refl, sym, ap, arith}
use Rattle.std.proofs.Math.Seq.{take-suc}
use Rattle.std.proofs.lemmas.Bool.{and_parts, eqb-true}
use Rattle.std.proofs.lemmas.List.{length_push, map-append}
use Rattle.std.proofs.lemmas.List.Elements.{All-cons, All-nil}
use Rattle.std.proofs.lemmas.List.Folds.{list_all-append}
use Rattle.std.proofs.lemmas.Option.{none-some}
use Rattle.std.specs.List.{list_all}
use Rattle.std.specs.declared.cmp.Ordering.{Ordering}
use Rattle.std.specs.declared.cmp.Ordering.TheVariants.{Less, Equal, Greater}
use Rattle.std.specs.Ordering.{is_eq, ordering_reverse}
use Rattle.ssb_cells.specs.Cell.{Cell, null, number, text}
use Rattle.ssb_cells.specs.Compare.{compare, meets}
use Rattle.ssb_cells.specs.Order.{cell_cmp}
use Rattle.ssb_cells.specs.Tables.{Filled}
use Rattle.ssb_cells.specs.Truth.{all_of, and, any_of, is_true, or, truth}
use Rattle.ssb_cells.specs.Truth as truths
use Rattle.ssb_cells.specs.declared.truth.Truth.{Truth}
use Rattle.ssb_cells.specs.declared.truth.Truth.TheVariants.{Unknown}
use Rattle.ssb_cells.proofs.OrderLaws.{cell_cmp-itself, cell_cmp-swap}
use Rattle.ssb_sets.specs.Joins.{all_joined}
use Rattle.ssb_sets.specs.NumberSets.{has}
use Rattle.ssb_sets.specs.declared.join.Join.{Join}
use Rattle.ssb_sets.specs.declared.join.Join.TheVariants as joins
use Rattle.ssb_sets.specs.declared.set.NumberSet.{NumberSet}
use Rattle.ssb_terms.specs.declared.literal.Literal.{Literal}
use Rattle.ssb_terms.specs.declared.literal.Literal.TheVariants as literal
use Rattle.ssb_terms.specs.declared.operator.Op.{Op}
use Rattle.ssb_terms.specs.declared.operator.Op.TheVariants as op
use Rattle.ssb_query.specs.declared.column.BoundColumn.{BoundColumn}
use Rattle.ssb_trees.proofs.Forms.{of_form, operands_of}
use Rattle.ssb_trees.specs.declared.condition.Condition.TheOpen.{Condition-F}
use Rattle.ssb_trees.specs.declared.condition.Condition.TheFolds.{map-Condition}
use Rattle.ssb_conditions.proofs.Saying.{holds_of}
use Rattle.ssb_trees.specs.Conditions.{Filter, operands, operands_layer}
use Rattle.ssb_trees.specs.Lists.{concat}
use Rattle.ssb_trees.specs.declared.operand.Operand.{Operand}
use Rattle.ssb_trees.specs.declared.operand.Operand.TheVariants as operand
use Rattle.ssb_conditions.specs.Holds.{among, holds, literal_cell, not_if, says}
use Rattle.ssb_plan.specs.Only.{IsValue}
use Rattle.ssb_conditions.specs.Rows.{RowValuation}
use Rattle.ssb_plan.specs.Sets.{AreValuesThat, Fits, Tells, encoded, flipped, is_own, turned}
use Rattle.ssb_conditions.specs.Together.{either, settling, together}
use Rattle.ssb_plan.specs.declared.sets.ValueSet.{ValueSet}
use Rattle.ssb_plan.proofs.Encodings.{not-truth, or-false, or-truth, told-true}
use Rattle.ssb_conditions.proofs.Together.{and-assoc, and-true, or-assoc}

-- ---- truths

and-truth : (a b : Bool) → and (truth a) (truth b) ≡ truth (a && b)
and-truth true b = refl
and-truth false b = refl

any-truth : (bs : List Bool) → any_of (map truth bs) ≡ truth (all_joined joins.Or bs)
any-truth [] = refl
any-truth (b ∷ bs) = ap (or (truth b)) (any-truth bs) ∙ or-truth b (all_joined joins.Or bs)

all-truth : (bs : List Bool) → all_of (map truth bs) ≡ truth (all_joined joins.And bs)
all-truth [] = refl
all-truth (b ∷ bs) = ap (and (truth b)) (all-truth bs) ∙ and-truth b (all_joined joins.And bs)

together-truth : (by : Join) (bs : List Bool) → together by (map truth bs) ≡ truth (all_joined by bs)
together-truth joins.Or = any-truth
together-truth joins.And = all-truth

map-map : {X Y Z : Type 0} (g : Y → Z) (f : X → Y) (xs : List X) → map (λ x. g (f x)) xs ≡ map g (map f xs)
map-map g f [] = refl
map-map g f (x ∷ xs) = ap (λ ys. g (f x) ∷ ys) (map-map g f xs)

or-last : (ts : List Truth) (t : Truth) → any_of (ts ++ t ∷ []) ≡ or (any_of ts) t
or-last [] t = or-false t
or-last (u ∷ ts) t = ap (or u) (or-last ts t) ∙ or-assoc u (any_of ts) t

and-last : (ts : List Truth) (t : Truth) → all_of (ts ++ t ∷ []) ≡ and (all_of ts) t
and-last [] t = and-true t
and-last (u ∷ ts) t = ap (and u) (and-last ts t) ∙ and-assoc u (all_of ts) t

last : (by : Join) (ts : List Truth) (t : Truth) → together by (ts ++ t ∷ []) ≡ either by (together by ts) t
last joins.Or = or-last
last joins.And = and-last

-- none was said yet
none-said : (by : Join) → truths.not (settling by) ≡ together by []
none-said joins.Or = refl
none-said joins.And = refl

negated-truth : (negated b : Bool) → not_if negated (truth b) ≡ truth (flipped negated b)
negated-truth true b = sym (not-truth b)
negated-truth false b = refl

-- ---- comparisons

turned-meets : (o : Op) (r : Ordering) → meets o (ordering_reverse r) ≡ meets (turned o) r
turned-meets op.Eq Less = refl
turned-meets op.Eq Equal = refl
turned-meets op.Eq Greater = refl
turned-meets op.Ne Less = refl
turned-meets op.Ne Equal = refl
turned-meets op.Ne Greater = refl
turned-meets op.Lt Less = refl
turned-meets op.Lt Equal = refl
turned-meets op.Lt Greater = refl
turned-meets op.Le Less = refl
turned-meets op.Le Equal = refl
turned-meets op.Le Greater = refl
turned-meets op.Gt Less = refl
turned-meets op.Gt Equal = refl
turned-meets op.Gt Greater = refl
turned-meets op.Ge Less = refl
turned-meets op.Ge Equal = refl
turned-meets op.Ge Greater = refl

null-second : (o : Op) (c : Cell) → compare o c null ≡ Unknown
null-second o null = refl
null-second o (number n) = refl
null-second o (text t) = refl

compare-turned : (o : Op) (a b : Cell) → compare o a b ≡ compare (turned o) b a
compare-turned o null b = sym (null-second (turned o) b)
compare-turned o (number n) null = refl
compare-turned o (text t) null = refl
compare-turned o (number n) (number m) = ap truth (ap (meets o) (cell_cmp-swap (number n) (number m)) ∙ turned-meets o (cell_cmp (number m) (number n)))
compare-turned o (number n) (text u) = ap truth (ap (meets o) (cell_cmp-swap (number n) (text u)) ∙ turned-meets o (cell_cmp (text u) (number n)))
compare-turned o (text t) (number m) = ap truth (ap (meets o) (cell_cmp-swap (text t) (number m)) ∙ turned-meets o (cell_cmp (number m) (text t)))
compare-turned o (text t) (text u) = ap truth (ap (meets o) (cell_cmp-swap (text t) (text u)) ∙ turned-meets o (cell_cmp (text u) (text t)))

compare-itself : (f : Filled) (o : Op) (c : Cell) (n : ℤ) → encoded f c ≡ Some n → compare o c c ≡ truth (meets o Equal)
compare-itself f o null n e = absurd (none-some n e)
compare-itself f o (number m) n e = ap (λ r. truth (meets o r)) (cell_cmp-itself (number m))
compare-itself f o (text t) n e = ap (λ r. truth (meets o r)) (cell_cmp-itself (text t))

-- a comparison of two literals is never Unknown
known-truth : (b : Bool) → truth b ≡ truth (is_true (truth b))
known-truth b = ap truth (sym (told-true b))

known-equal : (l m : Literal) → (b : Bool) × (compare op.Eq (literal_cell l) (literal_cell m) ≡ truth b)
known-equal (literal.Number n) (literal.Number m) = (is_eq (cell_cmp (number n) (number m)), refl)
known-equal (literal.Number n) (literal.Text t) = (false, refl)
known-equal (literal.Text u) (literal.Number m) = (false, refl)
known-equal (literal.Text u) (literal.Text t) = (is_eq (cell_cmp (text u) (text t)), refl)

known-in : (l : Literal) (ms : List Literal) → (b : Bool) × (among (literal_cell l) ms ≡ truth b)
known-in l [] = (false, refl)
known-in l (m ∷ ms) =
    let p = known-equal l m in
    let q = known-in l ms in
    (p.0 || q.0, (λ j. or (p.1 j) (q.1 j)) ∙ or-truth p.0 q.0)

pub known-among : (l : Literal) (ms : List Literal) → among (literal_cell l) ms ≡ truth (is_true (among (literal_cell l) ms))
known-among l ms = let p = known-in l ms in p.1 ∙ known-truth p.0 ∙ ap (λ t. truth (is_true t)) (sym p.1)

-- ---- operands

module _ (x : BoundColumn) where
  own-column : (y : BoundColumn) → is_own x (operand.Column y) ≡ true → operand.Column y ≡ operand.Column x
  own-column y own =
      let parts = and_parts (nat_eq y.table x.table) (nat_eq y.column x.column) (not-not (nat_eq y.table x.table && nat_eq y.column x.column) own) in
      (λ j. operand.Column (record { table = eqb-true y.table x.table parts.0 j; column = eqb-true y.column x.column parts.1 j }))
    where
      not-not : (b : Bool) → not (not b) ≡ true → b ≡ true
      not-not true e = refl
      not-not false e = e

  own-value : (v : RowValuation) (a : Operand BoundColumn) (y : BoundColumn) → is_own x a ≡ true → a ≡ operand.Column y → v a ≡ v (operand.Column x)
  own-value v a y own is = ap v (is ∙ own-column y (ap (is_own x) (sym is) ∙ own))

  -- the parts of an OR or of an AND have no other column, if it has none
  pub parts-own : (parts : List (Filter BoundColumn)) → list_all (is_own x) (concat (map (operands (Operand BoundColumn)) parts)) ≡ true → All (λ c. list_all (is_own x) (operands (Operand BoundColumn) c) ≡ true) parts
  parts-own [] own = All-nil (λ c. list_all (is_own x) (operands (Operand BoundColumn) c) ≡ true)
  parts-own (c ∷ cs) own =
      let here = operands (Operand BoundColumn) c in
      let rest = concat (map (operands (Operand BoundColumn)) cs) in
      let both = and_parts (list_all (is_own x) here) (list_all (is_own x) rest) (sym (list_all-append (is_own x) here rest) ∙ own) in
      All-cons (λ d. list_all (is_own x) (operands (Operand BoundColumn) d) ≡ true) c cs both.0 (parts-own cs both.1)

-- ---- sets

module _ (x : BoundColumn) (f : Filled) where
  pub tells-same : (g h : RowValuation → Truth) (s : ValueSet) → ((v : RowValuation) → g v ≡ h v) → Tells x f h s → Tells x f g s
  tells-same g h s same tells = record {
    nulls = λ v value at. same v ∙ tells.nulls v value at;
    values = λ v n value at fits. same v ∙ tells.values v n value at fits;
  }

  pub tells-constant : (g : RowValuation → Truth) (said : Truth) (s : ValueSet) → ((v : RowValuation) → IsValue v → g v ≡ said) → said ≡ truth (is_true said) → s.null ≡ said → ((n : ℤ) → has s.numbers n ≡ is_true said) → Tells x f g s
  tells-constant g said s same sure null_is has_is = record {
    nulls = λ v value at. same v value ∙ sym null_is;
    values = λ v n value at fits. same v value ∙ sure ∙ ap truth (sym (has_is n));
  }

  pub tells-negated : (g : RowValuation → Truth) (negated : Bool) (s r : ValueSet) → Tells x f g s → r.null ≡ not_if negated s.null → ((n : ℤ) → has r.numbers n ≡ flipped negated (has s.numbers n)) → Tells x f (λ v. not_if negated (g v)) r
  tells-negated g negated s r tells null_is has_is = record {
    nulls = λ v value at. ap (not_if negated) (tells.nulls v value at) ∙ sym null_is;
    values = λ v n value at fits. ap (not_if negated) (tells.values v n value at fits) ∙ negated-truth negated (has s.numbers n) ∙ ap truth (sym (has_is n));
  }

  pub tells-and : (g h : RowValuation → Truth) (s r : ValueSet) (t : NumberSet) (said : Truth) → Tells x f g s → Tells x f h r → said ≡ and s.null r.null → ((n : ℤ) → has t n ≡ (has s.numbers n && has r.numbers n)) → Tells x f (λ v. and (g v) (h v)) (record { null = said; numbers = t })
  tells-and g h s r t said one other said_is has_is = record {
    nulls = λ v value at. (λ j. and (one.nulls v value at j) (other.nulls v value at j)) ∙ sym said_is;
    values = λ v n value at fits. (λ j. and (one.values v n value at fits j) (other.values v n value at fits j)) ∙ and-truth (has s.numbers n) (has r.numbers n) ∙ ap truth (sym (has_is n));
  }

  pub tells-first : (o : Op) (a b : Operand BoundColumn) (y : BoundColumn) (l : Literal) (s : NumberSet) → is_own x a ≡ true → a ≡ operand.Column y → b ≡ operand.Literal l → AreValuesThat f o (literal_cell l) s → Tells x f (λ v. compare o (v a) (v b)) (record { null = Unknown; numbers = s })
  tells-first o a b y l s own is_a is_b h = record {
    nulls = λ v value at. ap (λ c. compare o c (v b)) (own-value x v a y own is_a ∙ at);
    values = λ v n value at fits. (λ j. compare o (own-value x v a y own is_a j) ((ap v is_b ∙ value l) j)) ∙ h (v (operand.Column x)) n at fits;
  }

  pub tells-second : (o : Op) (a b : Operand BoundColumn) (y : BoundColumn) (l : Literal) (s : NumberSet) → is_own x b ≡ true → b ≡ operand.Column y → a ≡ operand.Literal l → AreValuesThat f (turned o) (literal_cell l) s → Tells x f (λ v. compare o (v a) (v b)) (record { null = Unknown; numbers = s })
  tells-second o a b y l s own is_b is_a h = tells-same (λ v. compare o (v a) (v b)) (λ v. compare (turned o) (v b) (v a)) (record { null = Unknown; numbers = s }) (λ v. compare-turned o (v a) (v b)) (tells-first (turned o) b a y l s own is_b is_a h)

  pub tells-itself : (o : Op) (a b : Operand BoundColumn) (y z : BoundColumn) (s : NumberSet) → is_own x a ≡ true → is_own x b ≡ true → a ≡ operand.Column y → b ≡ operand.Column z → ((n : ℤ) → has s n ≡ is_true (truth (meets o Equal))) → Tells x f (λ v. compare o (v a) (v b)) (record { null = Unknown; numbers = s })
  tells-itself o a b y z s own_a own_b is_a is_b h = record {
    nulls = λ v value at. ap (λ c. compare o c (v b)) (own-value x v a y own_a is_a ∙ at);
    values = λ v n value at fits. (λ j. compare o (own-value x v a y own_a is_a j) (own-value x v b z own_b is_b j)) ∙ compare-itself f o (v (operand.Column x)) n at ∙ ap truth (sym (h n ∙ told-true (meets o Equal)));
  }

-- ---- several conditions

-- what their sets say of each value, and what they say of a null together
pub record TellMany (x : BoundColumn) (f : Filled) (by : Join) (cs : List (Filter BoundColumn)) (said : Truth) (sets : List NumberSet) : Type 0 where
  pub count : length cs ≡ length sets
  pub nulls : (v : RowValuation) → IsValue v → v (operand.Column x) ≡ null → together by (map (holds v) cs) ≡ said
  pub values : (v : RowValuation) (n : ℤ) → IsValue v → encoded f (v (operand.Column x)) ≡ Some n → Fits n → map (holds v) cs ≡ map (λ s. truth (has s n)) sets

module _ (x : BoundColumn) (f : Filled) (by : Join) where
  pub tell-none : (said : Truth) → said ≡ truths.not (settling by) → TellMany x f by [] said []
  tell-none said is = record {
    count = refl;
    nulls = λ v value at. sym (none-said by) ∙ sym is;
    values = λ v n value at fits. refl;
  }

  pub tell-more : (cs : List (Filter BoundColumn)) (c : Filter BoundColumn) (said whole : Truth) (sets : List NumberSet) (s : ValueSet) → TellMany x f by cs said sets → Tells x f (λ v. holds v c) s → whole ≡ either by said s.null → TellMany x f by (cs ++ c ∷ []) whole (sets ++ s.numbers ∷ [])
  tell-more cs c said whole sets s many one is = record {
    count = length_push cs c ∙ ap (λ n. n + 1) many.count ∙ sym (length_push sets s.numbers);
    nulls = λ v value at. ap (together by) (map-append (holds v) cs (c ∷ [])) ∙ last by (map (holds v) cs) (holds v c) ∙ (λ j. either by (many.nulls v value at j) (one.nulls v value at j)) ∙ sym is;
    values = λ v n value at fits. map-append (holds v) cs (c ∷ []) ∙ (λ j. many.values v n value at fits j ++ one.values v n value at fits j ∷ []) ∙ sym (map-append (λ t. truth (has t n)) sets (s.numbers ∷ []));
  }

  pub tell-together : (cs : List (Filter BoundColumn)) (said : Truth) (sets : List NumberSet) (t : NumberSet) → TellMany x f by cs said sets → ((n : ℤ) → has t n ≡ all_joined by (map (λ s. has s n) sets)) → Tells x f (λ v. together by (map (holds v) cs)) (record { null = said; numbers = t })
  tell-together cs said sets t many is = record {
    nulls = many.nulls;
    values = λ v n value at fits. ap (together by) (many.values v n value at fits ∙ map-map truth (λ s. has s n) sets) ∙ together-truth by (map (λ s. has s n) sets) ∙ ap truth (sym (is n));
  }

-- what the loop over the parts has seen
pub take-next : {X : Type 0} (xs : List X) (i : ℕ) (x : X) → i < length xs → x ≡ get_or xs i x → take (i + 1) xs ≡ take i xs ++ x ∷ []
take-next xs i x lt is = let next : i + 1 ≡ suc i = omega arith in ap (λ n. take n xs) next ∙ take-suc xs i x lt ∙ ap (λ y. take i xs ++ y ∷ []) (sym is)

-- ---- the forms of conditions

module _ (x : BoundColumn) (f : Filled) (c : Filter BoundColumn) where
  abbrev Of : Type 0
  Of = Operand BoundColumn

  -- what is told of its form is told of a condition
  pub tells-form : (form : Condition-F Of (Filter BoundColumn)) (s : ValueSet) → c ≡ of_form Of form → Tells x f (λ v. says v (map-Condition Of (Filter BoundColumn) Truth (holds v) form)) s → Tells x f (λ v. holds v c) s
  tells-form form s is = tells-same x f (λ v. holds v c) (λ v. says v (map-Condition Of (Filter BoundColumn) Truth (holds v) form)) s (λ v. holds_of v c form is)

  pub form-own : (form : Condition-F Of (Filter BoundColumn)) → c ≡ of_form Of form → list_all (is_own x) (operands Of c) ≡ true → list_all (is_own x) (operands_layer Of (map-Condition Of (Filter BoundColumn) (List Of) (operands Of) form)) ≡ true
  form-own form is own = ap (list_all (is_own x)) (sym (operands_of Of c form is)) ∙ own
