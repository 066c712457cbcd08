-- What a catalog keeps, place by place: for the layers above.
use Rattle.std.proofs.Common.{◌≡◌, ◌≢◌, ◌∙◌, ◌≤◌, ℕ, Bool, true, false, List, [], ◌∷◌, length, map, get_or, inl, inr, sym, arith}
use Rattle.std.specs.List.{All, AllPairs, IsDistinct, filter}
use Rattle.std.specs.Str.{bytes_eq}
use Rattle.std.proofs.Math.ListN.{get_or-map}
use Rattle.std.proofs.lemmas.Bool.{cases_Bool, false≢true}
use Rattle.std.proofs.lemmas.Cmp.{nat_list_eq_equiv}
use Rattle.std.proofs.lemmas.List.{length-map}
use Rattle.std.proofs.lemmas.List.Elements.{All-cons, All-nil, All-weaker}
use Rattle.std.proofs.lemmas.List.Kept.{AllPairs-cons}
use Rattle.std.proofs.lemmas.Map.Keys.{apart_from_distinct}
use Rattle.ssb_catalog.specs.Shapes.{TableShape}
use Rattle.ssb_catalog.specs.Catalog.{IsCatalog, IsTable, is_fact, is_key_column}

-- elements of different names have different names at each two places
names-apart : {X : Type 0} (name : X → List ℕ) (xs : List X) → IsDistinct bytes_eq (map name xs) → AllPairs (λ x y. name x ≢ name y) xs
names-apart name xs h i j d below lt same =
    let n = length-map xs name in
    let apart = apart_from_distinct bytes_eq (map name xs) i j (name d) h below (omega arith) in
    let apart' : bytes_eq (name (get_or xs i d)) (name (get_or xs j d)) ≡ false = rw (← get_or-map name xs i d, ← get_or-map name xs j d) apart in
    let is : bytes_eq (name (get_or xs i d)) (name (get_or xs j d)) ≡ true = rw same (nat_list_eq_equiv.refl (name (get_or xs j d))) in
    false≢true (sym apart' ∙ is)

none-passes : {X : Type 0} (p : X → Bool) (xs : List X) → length (filter p xs) ≤ 0 → All (λ x. p x ≡ false) xs
none-passes p [] h = All-nil (λ x. p x ≡ false)
none-passes p (x ∷ xs) h =
    elim (cases_Bool (p x)) [
      | inl passes ↦ (let some = rw passes at h in absurd (omega arith))
      | inr fails ↦ All-cons (λ x. p x ≡ false) x xs fails (none-passes p xs (rw fails at h))
    ]

-- where one element passes at most, none that comes after one passes
one-passes : {X : Type 0} (p : X → Bool) (xs : List X) → length (filter p xs) ≤ 1 → AllPairs (λ x y. p x ≡ true → p y ≡ false) xs
one-passes p [] h = λ i j d below lt. absurd (omega arith)
one-passes p (x ∷ xs) h =
    elim (cases_Bool (p x)) [
      | inl passes ↦ (
          let rest = rw passes at h in
          let none = none-passes p xs (omega arith) in
          AllPairs-cons (λ x y. p x ≡ true → p y ≡ false) x xs (All-weaker (λ y. p y ≡ false) (λ y. p x ≡ true → p y ≡ false) (λ y e is. e) xs none) (one-passes p xs (omega arith)))
      | inr fails ↦
          AllPairs-cons (λ x y. p x ≡ true → p y ≡ false) x xs (λ k d lt is. absurd (false≢true (sym fails ∙ is))) (one-passes p xs (rw fails at h))
    ]

pub tables-apart : (ts : List TableShape) → IsCatalog ts → AllPairs (λ t u. t.name ≢ u.name) ts
tables-apart ts h = names-apart (λ t. t.name) ts h.names

pub columns-apart : (t : TableShape) → IsTable t → AllPairs (λ c e. c.name ≢ e.name) t.columns
columns-apart t h = names-apart (λ c. c.name) t.columns h.names

pub one-key : (t : TableShape) → IsTable t → AllPairs (λ c e. is_key_column c ≡ true → is_key_column e ≡ false) t.columns
one-key t h = one-passes is_key_column t.columns h.one_key

pub one-fact : (ts : List TableShape) → IsCatalog ts → AllPairs (λ t u. is_fact t ≡ true → is_fact u ≡ false) ts
one-fact ts h = one-passes is_fact ts (let n = h.one_fact in omega arith)
