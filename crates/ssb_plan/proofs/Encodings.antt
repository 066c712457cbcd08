-- Values of a column as numbers, and the sets of those that compare so.
use Rattle.std.proofs.Common.{◌≡◌, ◌∙◌, ◌++◌, ◌||◌, ◌+◌, ◌<◌, ◌≤◌, ◌≤ℤ◌, ◌<ℤ◌, ℕ, ℤ, pos, negsuc, ltb, Bool, true, false, not, List, [], ◌∷◌, All, Option, None, Some, option_map, option_to_list, length, slice_get, ⊎_elim, refl, sym, ap, arith, true≢false, subst, drop}
use Rattle.std.proofs.Math.Bool.{beq}
use Rattle.std.proofs.lemmas.Bool.{cases_Bool, ltb-true, ltb-false}
use Rattle.std.proofs.lemmas.Int.{ints}
use Rattle.std.proofs.lemmas.List.Elements.{All-nil, All-weaker}
use Rattle.std.proofs.lemmas.List.Folds.{list_any-append}
use Rattle.std.proofs.lemmas.List.{append-nil, at_drop_all}
use Rattle.std.specs.Prelude.{IfOk, Result, Ok, Err}
use Rattle.std.proofs.lemmas.Option.{none-some, same_Some, slice_get_within}
use Rattle.std.specs.List.{list_any}
use Rattle.std.specs.declared.cmp.Ordering.{Ordering}
use Rattle.std.specs.declared.cmp.Ordering.TheVariants.{Less, Equal, Greater}
use Rattle.std.specs.Ordering.{int_cmp, int_eq, is_eq}
use Rattle.ssb_cells.specs.Cell.{Cell, null, number, text}
use Rattle.ssb_cells.specs.Codes.{code_of, texts_of}
use Rattle.ssb_cells.specs.Compare.{compare, meets}
use Rattle.ssb_cells.specs.Order.{cell_cmp}
use Rattle.ssb_cells.specs.Tables.{Filled}
use Rattle.ssb_cells.specs.Truth.{is_true, or, truth}
use Rattle.ssb_cells.specs.Truth as truths
use Rattle.ssb_cells.specs.declared.truth.Truth.{Truth}
use Rattle.ssb_cells.specs.declared.truth.Truth.TheVariants.{True, False, Unknown}
use Rattle.ssb_cells.proofs.CodeFacts.{text-of}
use Rattle.ssb_cells.proofs.OrderLaws.{cell-same, cell_cmp-itself}
use Rattle.ssb_sets.specs.NumberSets.{has, turned_at}
use Rattle.ssb_sets.specs.declared.set.NumberSet.{NumberSet}
use Rattle.ssb_terms.specs.declared.literal.Literal.{Literal}
use Rattle.ssb_terms.specs.declared.literal.Literal.TheVariants as literal
use Rattle.ssb_terms.specs.declared.operator.Op.{Op}
use Rattle.ssb_terms.specs.declared.operator.Op.TheVariants as op
use Rattle.ssb_terms.specs.declared.rule.ColType.{ColType}
use Rattle.ssb_terms.specs.declared.rule.ColType.TheVariants as kinds
use Rattle.ssb_conditions.specs.Holds.{among, literal_cell}
use Rattle.ssb_plan.specs.Sets.{AreAmong, AreTextsThat, Fits, encoded}

-- ---- truths

pub told-true : (b : Bool) → is_true (truth b) ≡ b
told-true true = refl
told-true false = refl

pub not-truth : (b : Bool) → truth (not b) ≡ truths.not (truth b)
not-truth true = refl
not-truth false = refl

pub or-truth : (a b : Bool) → or (truth a) (truth b) ≡ truth (a || b)
or-truth true b = refl
or-truth false b = refl

or-none : (b : Bool) → (b || false) ≡ b
or-none true = refl
or-none false = refl

pub or-false : (t : Truth) → or t False ≡ t
or-false True = refl
or-false False = refl
or-false Unknown = refl

-- ---- literals as numbers

-- the numbers of those literals that have one
abbrev pub encodings : Filled → List Literal → List ℤ
encodings f [] = []
encodings f (l ∷ ls) = option_to_list (encoded f (literal_cell l)) ++ encodings f ls

at-order : (o : Ordering) → is_eq o ≡ true → o ≡ Equal
at-order Less e = absurd (true≢false (sym e))
at-order Equal e = refl
at-order Greater e = absurd (true≢false (sym e))

abbrev letters_in : Cell → List ℕ
letters_in null = []
letters_in (number n) = []
letters_in (text t) = t

abbrev number_in : Cell → ℤ
number_in null = pos 0
number_in (number n) = n
number_in (text t) = pos 0

abbrev nat_in : ℤ → ℕ
nat_in (pos n) = n
nat_in (negsuc n) = 0

int-itself : (n m : ℤ) → m ≡ n → int_eq n m ≡ true
int-itself n m e = ap (int_eq n) e ∙ ap is_eq (cell_cmp-itself (number n))

int-same : (n m : ℤ) → int_eq n m ≡ true → n ≡ m
int-same n m e = ap number_in (cell-same (number n) (number m) (at-order (int_cmp n m) e))

-- a text equals another exactly where their codes are equal
module _ (values : List Cell) (letters : List ℕ) (code : ℕ) (own : code_of values letters ≡ Some code) where
  same-code : (u : List ℕ) → code_of values u ≡ Some code → letters ≡ u
  same-code u other = same_Some letters u (sym (text-of values letters code own) ∙ text-of values u code other)

  pub one-text : (u : List ℕ) → compare op.Eq (text letters) (text u) ≡ truth (list_any (λ m. int_eq (pos code) m) (option_to_list (option_map pos (code_of values u))))
  one-text u = ⊎_elim same other (cases_Bool (is_eq (cell_cmp (text letters) (text u))))
    where
      Goal : Type 0
      Goal = compare op.Eq (text letters) (text u) ≡ truth (list_any (λ m. int_eq (pos code) m) (option_to_list (option_map pos (code_of values u))))

      same : is_eq (cell_cmp (text letters) (text u)) ≡ true → Goal
      same e =
          let alike : letters ≡ u = ap letters_in (cell-same (text letters) (text u) (at-order (cell_cmp (text letters) (text u)) e)) in
          let here : code_of values u ≡ Some code = ap (code_of values) (sym alike) ∙ own in
          let itself : int_eq (pos code) (pos code) ≡ true = int-itself (pos code) (pos code) refl in
          rw (e, here, itself) refl

      other : is_eq (cell_cmp (text letters) (text u)) ≡ false → Goal
      other e = by (code_of values u) refl
        where
          by : (o : Option ℕ) → code_of values u ≡ o → Goal
          by None at = rw (e, at) refl
          by (Some k) at =
              let apart : int_eq (pos code) (pos k) ≡ false = ⊎_elim
              (λ y. let alike = same-code u (at ∙ ap Some (sym (ap nat_in (int-same (pos code) (pos k) y)))) in
              absurd (true≢false (sym (ap is_eq (cell_cmp-itself (text letters))) ∙ ap (λ w. is_eq (cell_cmp (text letters) (text w))) alike ∙ e)))
              (λ n. n) (cases_Bool (int_eq (pos code) (pos k))) in
              rw (e, at, apart) refl

-- a value with a number in a column equals a literal exactly where the literal has the same
abbrev Same : ColType → List Cell → Cell → ℤ → Literal → Type 0
Same kind values cell n l = compare op.Eq cell (literal_cell l) ≡ truth (list_any (λ m. int_eq n m) (option_to_list (encoded (record { kind = kind; values = values }) (literal_cell l))))

one-number : (values : List Cell) (n : ℤ) (l : Literal) → Same kinds.Int values (number n) n l
one-number values n (literal.Number m) = ap truth (sym (or-none (int_eq n m)))
one-number values n (literal.Text u) = refl

same-text : (values : List Cell) (t : List ℕ) (code : ℕ) (l : Literal) → code_of values t ≡ Some code → Same kinds.Text values (text t) (pos code) l
same-text values t code (literal.Number m) own = refl
same-text values t code (literal.Text u) own = one-text values t code own u

-- what has a number in a column of numbers is that number, and in a column of texts a text with that code
pub of-number : (values : List Cell) (cell : Cell) (n : ℤ) → encoded (record { kind = kinds.Int; values = values }) cell ≡ Some n → cell ≡ number n
of-number values null n e = absurd (none-some n e)
of-number values (number m) n e = ap number (same_Some m n e)
of-number values (text t) n e = absurd (none-some n e)

pub of-text : (values : List Cell) (cell : Cell) (n : ℤ) → encoded (record { kind = kinds.Text; values = values }) cell ≡ Some n → (t : List ℕ) × (k : ℕ) × (cell ≡ text t) × (n ≡ pos k) × (code_of values t ≡ Some k)
of-text values null n e = absurd (none-some n e)
of-text values (number m) n e = absurd (none-some n e)
of-text values (text t) n e = by (code_of values t) refl
  where
    by : (o : Option ℕ) → code_of values t ≡ o → (u : List ℕ) × (k : ℕ) × (text t ≡ text u) × (n ≡ pos k) × (code_of values u ≡ Some k)
    by None at = absurd (none-some n (sym (ap (option_map pos) at) ∙ e))
    by (Some k) at = (t, k, refl, sym (same_Some (pos k) n (sym (ap (option_map pos) at) ∙ e)), at)

one-literal : (kind : ColType) (values : List Cell) (cell : Cell) (n : ℤ) (l : Literal) → encoded (record { kind = kind; values = values }) cell ≡ Some n → Same kind values cell n l
one-literal kinds.Int values cell n l e = rw (of-number values cell n e) (one-number values n l)
one-literal kinds.Text values cell n l e = let p = of-text values cell n e in at p.0 p.1 p.2 p.3 p.4
  where
    at : (t : List ℕ) (k : ℕ) → cell ≡ text t → n ≡ pos k → code_of values t ≡ Some k → Same kinds.Text values cell n l
    at t k is_text is_code own = rw (is_text, is_code) (same-text values t k l own)

pub among-encoded : (f : Filled) (cell : Cell) (n : ℤ) (literals : List Literal) → encoded f cell ≡ Some n → among cell literals ≡ truth (list_any (λ m. int_eq n m) (encodings f literals))
among-encoded f cell n [] e = refl
among-encoded f cell n (l ∷ ls) e =
    let here = option_to_list (encoded f (literal_cell l)) in
    (λ j. or (one-literal f.kind f.values cell n l e j) (among-encoded f cell n ls e j)) ∙ or-truth (list_any (λ m. int_eq n m) here) (list_any (λ m. int_eq n m) (encodings f ls))
    ∙ ap truth (sym (list_any-append (λ m. int_eq n m) here (encodings f ls)))

pub are-among : (f : Filled) (literals : List Literal) (s : NumberSet) → ((n : ℤ) → Fits n → has s n ≡ list_any (λ m. int_eq n m) (encodings f literals)) → AreAmong f literals s
are-among f literals s h cell n e fits = among-encoded f cell n literals e ∙ ap truth (sym (h n fits))

-- ---- texts that compare so

-- whether an order is asked for is always known of a text and a literal
pub sure : (o : Op) (t : List ℕ) (l : Literal) → compare o (text t) (literal_cell l) ≡ truth (is_true (compare o (text t) (literal_cell l)))
sure o t (literal.Number m) = ap truth (sym (told-true (meets o (cell_cmp (text t) (number m)))))
sure o t (literal.Text u) = ap truth (sym (told-true (meets o (cell_cmp (text t) (text u)))))

-- a set that tells which of the codes below one compare so, and says the same of that one and of all above it
pub record TellsBelow (texts : List (List ℕ)) (o : Op) (other : Cell) (s : NumberSet) (said : Bool) (code : ℕ) : Type 0 where
  pub cuts : All (λ c. c ≤ℤ pos code) s.cuts.items
  pub before : (t : List ℕ) (k : ℕ) → slice_get texts k ≡ Some t → k < code → has s (pos k) ≡ is_true (compare o (text t) other)
  pub after : (n : ℤ) → pos code ≤ℤ n → has s n ≡ said

other-answer : (a b : Bool) → not (beq a b) ≡ true → a ≡ not b
other-answer true true e = absurd (true≢false (sym e))
other-answer true false e = refl
other-answer false true e = refl
other-answer false false e = absurd (true≢false (sym e))

same-answer : (a b : Bool) → not (beq a b) ≡ false → a ≡ b
same-answer true true e = refl
same-answer true false e = absurd (true≢false e)
same-answer false true e = absurd (true≢false e)
same-answer false false e = refl

turned_below : (n : ℤ) (said : Bool) (cut : ℤ) → n <ℤ cut → turned_at n said cut ≡ said
turned_below n said cut lt = grind (arith, ints)

turned_from : (n : ℤ) (said : Bool) (cut : ℤ) → cut ≤ℤ n → turned_at n said cut ≡ not said
turned_from n said cut le = grind (arith, ints)

up : (n : ℤ) (code : ℕ) → n ≤ℤ pos code → n ≤ℤ pos (code + 1)
up n code le = grind (arith, ints)

down : (n : ℤ) (code : ℕ) → pos (code + 1) ≤ℤ n → pos code ≤ℤ n
down n code le = grind (arith, ints)

below : (k code : ℕ) → k < code → pos k <ℤ pos code
below k code lt = grind (arith, ints)

itself : (code : ℕ) → pos code ≤ℤ pos code
itself code = grind (arith, ints)

module _ (texts : List (List ℕ)) (o : Op) (other : Cell) where
  pub below-none : (s : NumberSet) → s.cuts.items ≡ [] → ((n : ℤ) → has s n ≡ false) → TellsBelow texts o other s false 0
  below-none s none same = record {
    cuts = subst (All (λ c. c ≤ℤ pos 0)) (sym none) (All-nil (λ c. c ≤ℤ pos 0));
    before = λ t k at lt. absurd (omega (arith, lt));
    after = λ n le. same n;
  }

  -- of the codes below one, and of that one, what a set has
  both : (s : NumberSet) (code : ℕ) (t : List ℕ) → slice_get texts code ≡ Some t
      → ((u : List ℕ) (k : ℕ) → slice_get texts k ≡ Some u → k < code → has s (pos k) ≡ is_true (compare o (text u) other))
      → has s (pos code) ≡ is_true (compare o (text t) other)
      → (u : List ℕ) (k : ℕ) → slice_get texts k ≡ Some u → k < code + 1 → has s (pos k) ≡ is_true (compare o (text u) other)
  both s code t at before here u k there lt = ⊎_elim
      (λ less. before u k there (ltb-true k code less))
      (λ not_less.
      let same : k ≡ code = (let ge = ltb-false k code not_less in omega (arith, lt, ge)) in
      let alike : t ≡ u = same_Some t u (sym at ∙ ap (slice_get texts) (sym same) ∙ there) in
      ap (λ m. has s (pos m)) same ∙ here ∙ ap (λ v. is_true (compare o (text v) other)) alike)
      (cases_Bool (ltb k code))

  pub below-kept : (s : NumberSet) (said now : Bool) (code : ℕ) (t : List ℕ) → TellsBelow texts o other s said code → slice_get texts code ≡ Some t → now ≡ is_true (compare o (text t) other) → not (beq now said) ≡ false → TellsBelow texts o other s said (code + 1)
  below-kept s said now code t h at is same = record {
    cuts = All-weaker (λ c. c ≤ℤ pos code) (λ c. c ≤ℤ pos (code + 1)) (λ c. up c code) s.cuts.items h.cuts;
    before = both s code t at h.before (h.after (pos code) (itself code) ∙ sym (same-answer now said same) ∙ is);
    after = λ n le. h.after n (down n code le);
  }

  pub below-turned : (s r : NumberSet) (said now : Bool) (code : ℕ) (t : List ℕ) → TellsBelow texts o other s said code → slice_get texts code ≡ Some t → now ≡ is_true (compare o (text t) other) → not (beq now said) ≡ true
      → ((n : ℤ) → has r n ≡ turned_at n (has s n) (pos code)) → All (λ c. c ≤ℤ pos code) r.cuts.items → TellsBelow texts o other r now (code + 1)
  below-turned s r said now code t h at is differ says cuts = record {
    cuts = All-weaker (λ c. c ≤ℤ pos code) (λ c. c ≤ℤ pos (code + 1)) (λ c. up c code) r.cuts.items cuts;
    before = both r code t at (λ u k there lt. says (pos k) ∙ turned_below (pos k) (has s (pos k)) (pos code) (below k code lt) ∙ h.before u k there lt) (above (pos code) (itself code) ∙ is);
    after = λ n le. above n (down n code le);
  }
    where
      above : (n : ℤ) → pos code ≤ℤ n → has r n ≡ now
      above n le = says n ∙ turned_from n (has s n) (pos code) le ∙ ap not (h.after n le) ∙ sym (other-answer now said differ)

pub texts-told : (f : Filled) (o : Op) (l : Literal) (s : NumberSet) (said : Bool) (code : ℕ) → TellsBelow (texts_of f.values) o (literal_cell l) s said code → length (texts_of f.values) ≤ code → AreTextsThat f o (literal_cell l) s
texts-told f o l s said code h all t k own =
    let at = text-of f.values t k own in
    let within = slice_get_within (texts_of f.values) k t at in
    sure o t l ∙ ap truth (sym (h.before t k at (omega (arith, within, all))))

-- ---- what calls answer

pub each-ok : {X E : Type 0} (r : Result X E) {P Q : X → Type 0} → ((x : X) → P x → Q x) → IfOk r P → IfOk r Q
each-ok (Ok x) f h = f x h
each-ok (Err e) f h = tt

-- all literals were passed
pub listed-end : (f : Filled) (literals : List Literal) (items : List ℤ) (i : ℕ) → length literals ≤ i → items ++ encodings f (drop i literals) ≡ encodings f literals → items ≡ encodings f literals
listed-end f literals items i past so_far = sym (append-nil items) ∙ ap (λ xs. items ++ xs) (sym (at_drop_all (encodings f) literals i past)) ∙ so_far
