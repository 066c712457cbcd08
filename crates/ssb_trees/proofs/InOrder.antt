-- Conditions whose operands are taken in their turn.
use Rattle.std.proofs.Common.{◌≡◌, ℕ, ◌+◌, ◌<◌, List, [], ◌∷◌, ◌++◌, length, get_or, drop, map, sym, ap, ap₂, ◌∙◌, append_assoc}
use Rattle.ssb_trees.proofs.Finding.{here}
use Rattle.ssb_trees.specs.Conditions.{each_in_order, in_order, in_order_layer}
use Rattle.ssb_trees.specs.declared.condition.Condition.{Condition}
use Rattle.ssb_trees.specs.declared.condition.Condition.TheVariants as condition
use Rattle.ssb_trees.specs.declared.condition.Condition.TheVariants.{rolls-Any, rolls-All}
use Rattle.ssb_trees.specs.declared.condition.Condition.TheOpen.{Condition-F}
use Rattle.ssb_trees.specs.declared.condition.Condition.TheFolds.{fold-roll-Condition, map-Condition}
use Rattle.ssb_trees.specs.declared.condition.Condition.TheViews.{roll-Condition}

module _ (O P S : Type 0) (given : S → O → P) (next : S → O → S) where
  abbrev pub Outcome : Type 0
  Outcome = Condition P × S

  abbrev pub made : Condition O → S → Outcome
  made = in_order O P S given next

  abbrev pub all_made : List (Condition O) → S → List (Condition P) × S
  all_made cs s = each_in_order (map made cs) s

  pub of_layer : (x : Condition-F O (Condition O)) (s : S) → made (roll-Condition O x) s ≡ in_order_layer O P S given next (map-Condition O (Condition O) (S → Outcome) made x) s
  of_layer x s = ap (λ make. make s) (fold-roll-Condition O (S → Outcome) (in_order_layer O P S given next) x)

  -- ---- parts that AND or OR joins

  module _ (parts : List (Condition O)) (c : Condition O) (s : S) (cs : List (Condition P)) (t : S) where
    pub any_is : c ≡ condition.Any parts → (cs ≡ (all_made parts s).0) × (t ≡ (all_made parts s).1) → (condition.Any cs ≡ (made c s).0) × (t ≡ (made c s).1)
    any_is is h =
        let whole = ap (λ x. made x s) (is ∙ sym (rolls-Any parts)) ∙ of_layer (Condition-F.Any parts) s in
        (ap condition.Any h.0 ∙ sym (ap (λ r. r.0) whole), h.1 ∙ sym (ap (λ r. r.1) whole))

    pub all_is : c ≡ condition.All parts → (cs ≡ (all_made parts s).0) × (t ≡ (all_made parts s).1) → (condition.All cs ≡ (made c s).0) × (t ≡ (made c s).1)
    all_is is h =
        let whole = ap (λ x. made x s) (is ∙ sym (rolls-All parts)) ∙ of_layer (Condition-F.All parts) s in
        (ap condition.All h.0 ∙ sym (ap (λ r. r.0) whole), h.1 ∙ sym (ap (λ r. r.1) whole))

  -- one part more: what is left makes the rest
  pub next_part : (parts : List (Condition O)) (i : ℕ) (x : Condition O) (s t : S) (front longer : List (Condition P)) (y : Condition P) (whole : List (Condition P) × S)
      → i < length parts → x ≡ get_or parts i x → (y ≡ (made x s).0) × (t ≡ (made x s).1) → longer ≡ front ++ y ∷ []
      → (front ++ (all_made (drop i parts) s).0 ≡ whole.0) × ((all_made (drop i parts) s).1 ≡ whole.1)
      → (longer ++ (all_made (drop (i + 1) parts) t).0 ≡ whole.0) × ((all_made (drop (i + 1) parts) t).1 ≡ whole.1)
  next_part parts i x s t front longer y whole below e h pushed so_far =
      let opens = ap (λ xs. all_made xs s) (here parts i x below e) in
      let rest = all_made (drop (i + 1) parts) (made x s).1 in
      let same_rest = ap (all_made (drop (i + 1) parts)) h.1 in (
        ap₂ (λ m r. m ++ r.0) (pushed ∙ ap (λ z. front ++ z ∷ []) h.0) same_rest ∙ append_assoc front ((made x s).0 ∷ []) rest.0 ∙ sym (ap (λ r. front ++ r.0) opens) ∙ so_far.0,
        ap (λ r. r.1) same_rest ∙ sym (ap (λ r. r.1) opens) ∙ so_far.1,
      )
