-- What becomes of a condition whose operands are taken in their turn: where the state tells of the operands that are left, and in general.
use Rattle.std.proofs.Common.{◌≡◌, List, [], ◌∷◌, ◌++◌, map, fold, refl, sym, ap, ap₂, ◌∙◌, subst, append_assoc}
use Rattle.ssb_trees.proofs.InOrder.{made, Outcome, of_layer}
use Rattle.ssb_trees.proofs.Mapping.{mapped_same, same}
use Rattle.ssb_trees.specs.Conditions.{each_in_order, in_order, in_order_layer, mapped, mapped_layer, operands, operands_layer}
use Rattle.ssb_trees.specs.Lists.{concat}
use Rattle.ssb_trees.specs.declared.condition.Condition.{Condition}
use Rattle.ssb_trees.specs.declared.condition.Condition.TheVariants as condition
use Rattle.ssb_trees.specs.declared.condition.Condition.TheOpen.{Condition-F}
use Rattle.ssb_trees.specs.declared.condition.Condition.TheFolds.{fold-roll-Condition, ind-Condition, map-Condition}
use Rattle.ssb_trees.specs.declared.condition.Condition.TheViews.{roll-Condition}

-- ---- where the state after an operand is that of the operands left

module _ (A O P S : Type 0) (g : A → O) (f : A → P) (given : S → O → P) (next : S → O → S) (at : List A → S)
    (gives : (x : A) (xs : List A) → given (at (x ∷ xs)) (g x) ≡ f x) (moves : (x : A) (xs : List A) → next (at (x ∷ xs)) (g x) ≡ at xs) where
  abbrev F : Condition O → S → Outcome O P S given next
  F = made O P S given next

  abbrev Turns : Condition A → Type 0
  Turns c = (rest : List A) → F (mapped A O g c) (at (operands A c ++ rest)) ≡ (mapped A P f c, at rest)

  abbrev Proved : Type 0
  Proved = (c : Condition A) × Turns c

  abbrev conditions : List Proved → List (Condition A)
  conditions es = map (λ e. e.0) es

  all_turn : (es : List Proved) (rest : List A)
      → each_in_order (map F (map (mapped A O g) (conditions es))) (at (concat (map (operands A) (conditions es)) ++ rest)) ≡ (map (mapped A P f) (conditions es), at rest)
  all_turn [] rest = refl
  all_turn (e ∷ es) rest =
      let behind = concat (map (operands A) (conditions es)) ++ rest in
      let first = ap (λ xs. F (mapped A O g e.0) (at xs)) (append_assoc (operands A e.0) (concat (map (operands A) (conditions es))) rest) ∙ e.1 behind in
      ap (λ (r : Condition P × S). let xs = each_in_order (map F (map (mapped A O g) (conditions es))) r.1 in (r.0 ∷ xs.0, xs.1)) first
      ∙ ap (λ (r : List (Condition P) × S). (mapped A P f e.0 ∷ r.0, r.1)) (all_turn es rest)

  -- a form of condition, by what becomes of it and of its operands
  by_layer : (x : Condition-F A (Condition A)) (y : Condition-F O (Condition O)) (rest : List A)
      → mapped_layer A O g (map-Condition A (Condition A) (Condition O) (mapped A O g) x) ≡ roll-Condition O y
      → in_order_layer O P S given next (map-Condition O (Condition O) (S → Condition P × S) F y) (at (operands_layer A (map-Condition A (Condition A) (List A) (operands A) x) ++ rest))
      ≡ (mapped_layer A P f (map-Condition A (Condition A) (Condition P) (mapped A P f) x), at rest)
      → F (mapped A O g (roll-Condition A x)) (at (operands A (roll-Condition A x) ++ rest)) ≡ (mapped A P f (roll-Condition A x), at rest)
  by_layer x y rest h core =
      ap₂ (λ c xs. F c (at (xs ++ rest))) (fold-roll-Condition A (Condition O) (mapped_layer A O g) x ∙ h) (fold-roll-Condition A (List A) (operands_layer A) x)
      ∙ of_layer O P S given next y (at (operands_layer A (map-Condition A (Condition A) (List A) (operands A) x) ++ rest))
      ∙ core
      ∙ sym (ap (λ c. (c, at rest)) (fold-roll-Condition A (Condition P) (mapped_layer A P f) x))

  second : (x y : A) (rest : List A) → given (next (at (x ∷ y ∷ rest)) (g x)) (g y) ≡ f y
  second x y rest = ap (λ s. given s (g y)) (moves x (y ∷ rest)) ∙ gives y rest

  two_on : (x y : A) (rest : List A) → next (next (at (x ∷ y ∷ rest)) (g x)) (g y) ≡ at rest
  two_on x y rest = ap (λ s. next s (g y)) (moves x (y ∷ rest)) ∙ moves y rest

  third : (x y z : A) (rest : List A) → given (next (next (at (x ∷ y ∷ z ∷ rest)) (g x)) (g y)) (g z) ≡ f z
  third x y z rest = ap (λ s. given s (g z)) (two_on x y (z ∷ rest)) ∙ gives z rest

  three_on : (x y z : A) (rest : List A) → next (next (next (at (x ∷ y ∷ z ∷ rest)) (g x)) (g y)) (g z) ≡ at rest
  three_on x y z rest = ap (λ s. next s (g z)) (two_on x y (z ∷ rest)) ∙ moves z rest

  cases : (y : Condition-F A Proved) → Turns (roll-Condition A (map-Condition A Proved (Condition A) (λ e. e.0) y))
  unfolding roll-Condition denote.Hole.Carrier.roll
  cases (Condition-F.Any es) = λ rest.
      by_layer (Condition-F.Any (conditions es)) (Condition-F.Any (map (mapped A O g) (conditions es))) rest refl (ap (λ (r : List (Condition P) × S). (condition.Any r.0, r.1)) (all_turn es rest))
  cases (Condition-F.All es) = λ rest.
      by_layer (Condition-F.All (conditions es)) (Condition-F.All (map (mapped A O g) (conditions es))) rest refl (ap (λ (r : List (Condition P) × S). (condition.All r.0, r.1)) (all_turn es rest))
  cases (Condition-F.Not e) = λ rest. by_layer (Condition-F.Not e.0) (Condition-F.Not (mapped A O g e.0)) rest refl (ap (λ (r : Condition P × S). (condition.Not r.0, r.1)) (e.1 rest))
  cases (Condition-F.Compare op a b) = λ rest.
      by_layer (Condition-F.Compare op a b) (Condition-F.Compare op (g a) (g b)) rest refl (λ j. (condition.Compare op (gives a (b ∷ rest) j) (second a b rest j), two_on a b rest j))
  cases (Condition-F.Between x a b negated) = λ rest.
      by_layer (Condition-F.Between x a b negated) (Condition-F.Between (g x) (g a) (g b) negated) rest refl
      (λ j. (condition.Between (gives x (a ∷ b ∷ rest) j) (second x a (b ∷ rest) j) (third x a b rest j) negated, three_on x a b rest j))
  cases (Condition-F.In x ls negated) = λ rest. by_layer (Condition-F.In x ls negated) (Condition-F.In (g x) ls negated) rest refl (λ j. (condition.In (gives x rest j) ls negated, moves x rest j))
  cases (Condition-F.IsNull x negated) = λ rest. by_layer (Condition-F.IsNull x negated) (Condition-F.IsNull (g x) negated) rest refl (λ j. (condition.IsNull (gives x rest j) negated, moves x rest j))

  pub turns : (c : Condition A) → Turns c
  turns = ind-Condition A Turns (λ x y is. subst (λ z. Turns (roll-Condition A z)) is (cases y))

-- where no operand changes the state, each becomes what it becomes by itself
pub whatever : (O P S : Type 0) (given : S → O → P) (s : S) (c : Condition O) → in_order O P S given (λ t o. t) c s ≡ (mapped O P (given s) c, s)
whatever O P S given s c =
    ap (λ d. in_order O P S given (λ t o. t) d s) (sym (mapped_same O c)) ∙ turns O O P S (same O) (given s) given (λ t o. t) (λ xs. s) (λ x xs. refl) (λ x xs. refl) c []

-- ---- what two conditions have in common that are the same

abbrev head_or : {P : Type 0} → P → List P → P
head_or d [] = d
head_or d (x ∷ xs) = x

abbrev tail : {P : Type 0} → List P → List P
tail [] = []
tail (x ∷ xs) = xs

-- conditions that are the same whatever stands in them, and in which the same stands, are the same
pub same_condition : (P Q : Type 0) (h : P → Q) (d : P) (a b : Condition P) → mapped P Q h a ≡ mapped P Q h b → operands P a ≡ operands P b → a ≡ b
same_condition P Q h d a b form all = sym (again a) ∙ ap₂ (λ c (xs : List P). (refilled c (xs ++ [])).0) form all ∙ again b
  where
    refilled : Condition Q → List P → Condition P × List P
    refilled = in_order Q P (List P) (λ xs q. head_or d xs) (λ xs q. tail xs)

    again : (c : Condition P) → (refilled (mapped P Q h c) (operands P c ++ [])).0 ≡ c
    again c = ap (λ r. r.0) (turns P Q P (List P) h (same P) (λ xs q. head_or d xs) (λ xs q. tail xs) (λ xs. xs) (λ x xs. refl) (λ x xs. refl) c []) ∙ mapped_same P c

-- ---- in general

-- what each makes in its turn
abbrev pub turned : {O P S : Type 0} → (S → O → P) → (S → O → S) → S → List O → List P
turned given next s [] = []
turned given next s (x ∷ xs) = given s x ∷ turned given next (next s x) xs

module _ (O P S Q : Type 0) (given : S → O → P) (next : S → O → S) (h : P → Q) (k : O → Q) (alike : (s : S) (o : O) → h (given s o) ≡ k o) where
  abbrev G : Condition O → S → Outcome O P S given next
  G = made O P S given next

  -- the condition keeps its form, its operands are what each makes in its turn, and the state is the last
  pub record Goes (c : Condition O) (s : S) : Type 0 where
    pub form : mapped P Q h (G c s).0 ≡ mapped O Q k c
    pub each : operands P (G c s).0 ≡ turned given next s (operands O c)
    pub last : (G c s).1 ≡ fold next s (operands O c)

  turned_both : (s : S) (xs ys : List O) → turned given next s (xs ++ ys) ≡ turned given next s xs ++ turned given next (fold next s xs) ys
  turned_both s [] ys = refl
  turned_both s (x ∷ xs) ys = ap (λ zs. given s x ∷ zs) (turned_both (next s x) xs ys)

  fold_both : (s : S) (xs ys : List O) → fold next s (xs ++ ys) ≡ fold next (fold next s xs) ys
  fold_both s [] ys = refl
  fold_both s (x ∷ xs) ys = fold_both (next s x) xs ys

  abbrev Known : Type 0
  Known = (c : Condition O) × ((s : S) → Goes c s)

  abbrev known : List Known → List (Condition O)
  known es = map (λ e. e.0) es

  record GoAll (es : List Known) (s : S) : Type 0 where
    form : map (mapped P Q h) (each_in_order (map G (known es)) s).0 ≡ map (mapped O Q k) (known es)
    each : concat (map (operands P) (each_in_order (map G (known es)) s).0) ≡ turned given next s (concat (map (operands O) (known es)))
    last : (each_in_order (map G (known es)) s).1 ≡ fold next s (concat (map (operands O) (known es)))

  all_go : (es : List Known) (s : S) → GoAll es s
  all_go [] s = record { form = refl; each = refl; last = refl }
  all_go (e ∷ es) s =
      let first = e.1 s in
      let rest = all_go es (G e.0 s).1 in
      let xs = operands O e.0 in
      let ys = concat (map (operands O) (known es)) in
      record {
        form = ap₂ (λ z zs. z ∷ zs) first.form rest.form;
        each = ap₂ (λ z zs. z ++ zs) first.each (rest.each ∙ ap (λ t. turned given next t ys) first.last) ∙ sym (turned_both s xs ys);
        last = rest.last ∙ ap (λ t. fold next t ys) first.last ∙ sym (fold_both s xs ys);
      }

  -- a form of condition, by what is made of it
  goes_by : (x : Condition-F O (Condition O)) (s : S) (z : Condition-F P (Condition P))
      → (in_order_layer O P S given next (map-Condition O (Condition O) (S → Condition P × S) G x) s).0 ≡ roll-Condition P z
      → mapped_layer P Q h (map-Condition P (Condition P) (Condition Q) (mapped P Q h) z) ≡ mapped_layer O Q k (map-Condition O (Condition O) (Condition Q) (mapped O Q k) x)
      → operands_layer P (map-Condition P (Condition P) (List P) (operands P) z) ≡ turned given next s (operands_layer O (map-Condition O (Condition O) (List O) (operands O) x))
      → (in_order_layer O P S given next (map-Condition O (Condition O) (S → Condition P × S) G x) s).1 ≡ fold next s (operands_layer O (map-Condition O (Condition O) (List O) (operands O) x))
      → Goes (roll-Condition O x) s
  goes_by x s z is form each last =
      let whole = of_layer O P S given next x s in
      let made_is = ap (λ r. r.0) whole ∙ is in
      let old_operands = fold-roll-Condition O (List O) (operands_layer O) x in
      record {
        form = ap (mapped P Q h) made_is ∙ fold-roll-Condition P (Condition Q) (mapped_layer P Q h) z ∙ form ∙ sym (fold-roll-Condition O (Condition Q) (mapped_layer O Q k) x);
        each = ap (operands P) made_is ∙ fold-roll-Condition P (List P) (operands_layer P) z ∙ each ∙ sym (ap (turned given next s) old_operands);
        last = ap (λ r. r.1) whole ∙ last ∙ sym (ap (fold next s) old_operands);
      }

  steps : (y : Condition-F O Known) (s : S) → Goes (roll-Condition O (map-Condition O Known (Condition O) (λ e. e.0) y)) s
  unfolding roll-Condition denote.Hole.Carrier.roll
  steps (Condition-F.Any es) s =
      let r = all_go es s in
      goes_by (Condition-F.Any (known es)) s (Condition-F.Any (each_in_order (map G (known es)) s).0) refl (ap condition.Any r.form) r.each r.last
  steps (Condition-F.All es) s =
      let r = all_go es s in
      goes_by (Condition-F.All (known es)) s (Condition-F.All (each_in_order (map G (known es)) s).0) refl (ap condition.All r.form) r.each r.last
  steps (Condition-F.Not e) s = let r = e.1 s in goes_by (Condition-F.Not e.0) s (Condition-F.Not (G e.0 s).0) refl (ap condition.Not r.form) r.each r.last
  steps (Condition-F.Compare op a b) s =
      let t = next s a in
      goes_by (Condition-F.Compare op a b) s (Condition-F.Compare op (given s a) (given t b)) refl (ap₂ (condition.Compare op) (alike s a) (alike t b)) refl refl
  steps (Condition-F.Between x a b negated) s =
      let t = next s x in
      let u = next t a in
      goes_by (Condition-F.Between x a b negated) s (Condition-F.Between (given s x) (given t a) (given u b) negated) refl (λ j. condition.Between (alike s x j) (alike t a j) (alike u b j) negated) refl refl
  steps (Condition-F.In x ls negated) s = goes_by (Condition-F.In x ls negated) s (Condition-F.In (given s x) ls negated) refl (ap (λ q. condition.In q ls negated) (alike s x)) refl refl
  steps (Condition-F.IsNull x negated) s = goes_by (Condition-F.IsNull x negated) s (Condition-F.IsNull (given s x) negated) refl (ap (λ q. condition.IsNull q negated) (alike s x)) refl refl

  pub goes : (c : Condition O) (s : S) → Goes c s
  goes = ind-Condition O (λ c. (s : S) → Goes c s) (λ x y is. subst (λ z. (s : S) → Goes (roll-Condition O z) s) is (steps y))
