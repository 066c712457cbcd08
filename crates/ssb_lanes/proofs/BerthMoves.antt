-- Each step of a pass keeps the rule of its queue.
use Rattle.std.proofs.Common.{◌≡◌, ◌≢◌, ℕ, zero, suc, List, [], ◌∷◌, ◌++◌, set, sym, refl, ap, ◌∙◌, subst, inl, inr, ⊎_elim, Option, None, Some}
use mathlib.Core.Option.{some, some-injective, some-ne-none}
use lib.ListN.{get_elem?}
use Rattle.std.specs.List.{All}
use Rattle.std.proofs.lemmas.List.Elements.{All-head, All-nil, All-push, All-tail}
use Rattle.crossbeam_queue.specs.Fifo.{Pushes, Pops, Forks, Learns}
use Rattle.crossbeam_queue.proofs.Lists.{at_set, at_snoc, set_again}
use Rattle.ssb_lanes.specs.Berth.{IsKept, Ruled, known_of}
use Rattle.ssb_records.specs.declared.source.Source.{Ghosts as Source}
use Rattle.ssb_lanes.specs.declared.berth.Known.{Known}
use Rattle.ssb_lanes.specs.declared.berth.Laid.{Laid}

-- a list of one has one place
one_place : {A : Type 0} (a u v : A) (i j : ℕ) → get_elem? (a ∷ []) i ≡ some u → get_elem? (a ∷ []) j ≡ some v → i ≡ j
one_place a u v zero zero e f = refl
one_place a u v zero (suc j) e f = absurd (some-ne-none v (sym f))
one_place a u v (suc i) j e f = absurd (some-ne-none u (sym e))

one_there : {A : Type 0} (a v : A) (i : ℕ) → get_elem? (a ∷ []) i ≡ some v → v ≡ a
one_there a v zero e = sym (some-injective a v e)
one_there a v (suc i) e = absurd (some-ne-none v (sym e))

-- what a pass knows, where it knows something
value_of : {K : Type 0} → K → Option K → K
value_of d None = d
value_of d (Some k) = k

module _ {S : Type 0} (s : Source S) where
  abbrev View : Type 0
  View = Option (Known S)

  abbrev Rule : List (Laid S) → List View → Type 0
  Rule = Ruled s

  -- the one pass of a new queue knows nothing
  alone : (views : List View) (pass : ℕ) (v : View) → views ≡ None ∷ [] → get_elem? views pass ≡ some v → v ≡ None
  alone views pass v e at = one_there None v pass (ap (λ l. get_elem? l pass) (sym e) ∙ at)

  pub begins : Rule [] (None ∷ [])
  begins = inl (refl, refl)

  lays-at : (pass : ℕ) (v : View) (x : Laid S) (items : List (Laid S)) (views : List View) → v ≡ None → IsKept s x → get_elem? views pass ≡ some v → Rule items views → Rule (items ++ x ∷ []) (set views pass (Some (known_of x)))
  lays-at pass v x items views is kept at (inl n) =
      inr (record {
        known = known_of x;
        passes = λ j u e. ⊎_elim (λ (y : (j ≡ pass) × (Some (known_of x) ≡ u)). sym y.1)
            (λ (y : (j ≢ pass) × (get_elem? views j ≡ some u)). absurd (y.0 (one_place None u v j pass (ap (λ l. get_elem? l j) (sym n.1) ∙ y.1) (ap (λ l. get_elem? l pass) (sym n.1) ∙ at))))
            (at_set views pass j (Some (known_of x)) u e);
        same = subst (λ l. All (λ y. known_of y ≡ known_of x) (l ++ x ∷ [])) (sym n.0) (All-push (λ y. known_of y ≡ known_of x) [] x (All-nil _) refl);
        kept = subst (λ l. All (IsKept s) (l ++ x ∷ [])) (sym n.0) (All-push (IsKept s) [] x (All-nil _) kept);
      })
  lays-at pass v x items views is kept at (inr r) = cc (sym is ∙ r.passes pass v at)

  pub lays : (n pass : ℕ) (v : View) (x : Laid S) → v ≡ None → IsKept s x → Pushes Rule n pass v x (λ w. w ≡ Some (known_of x))
  lays n pass v x is kept items views room rule at = (Some (known_of x), lays-at pass v x items views is kept at rule, refl)

  pub new-empty : (pass : ℕ) (v : View) → v ≡ None → Learns Rule pass v (λ items. items ≡ [])
  new-empty pass v is items views (inl n) at = n.0
  new-empty pass v is items views (inr r) at = cc (sym is ∙ r.passes pass v at)

  pub takes : (pass : ℕ) (v : View) → Pops Rule pass v (λ x w. (w ≡ v) × (v ≡ Some (known_of x)) × IsKept s x)
  takes pass v x items views (inl n) at = cc n.0
  takes pass v x items views (inr r) at = (
    v,
    subst (Rule items) (sym (set_again views pass v at)) (inr (record { known = r.known; passes = r.passes; same = All-tail (λ y. known_of y ≡ r.known) x items r.same; kept = All-tail (IsKept s) x items r.kept })),
    (refl, r.passes pass v at ∙ ap Some (sym (All-head (λ y. known_of y ≡ r.known) x items r.same)), All-head (IsKept s) x items r.kept),
  )

  puts-at : (pass : ℕ) (v : View) (x : Laid S) (items : List (Laid S)) (views : List View) → v ≡ Some (known_of x) → IsKept s x → get_elem? views pass ≡ some v → Rule items views → Rule (items ++ x ∷ []) views
  unfolding value_of
  puts-at pass v x items views is kept at (inl n) = cc (sym (alone views pass v n.1 at) ∙ is)
  puts-at pass v x items views is kept at (inr r) =
      inr (record {
        known = r.known;
        passes = r.passes;
        same = All-push (λ y. known_of y ≡ r.known) items x r.same (ap (value_of r.known) (sym is ∙ r.passes pass v at));
        kept = All-push (IsKept s) items x r.kept kept;
      })

  pub puts : (n pass : ℕ) (v : View) (x : Laid S) → v ≡ Some (known_of x) → IsKept s x → Pushes Rule n pass v x (λ w. w ≡ v)
  puts n pass v x is kept items views room rule at = (v, subst (Rule (items ++ x ∷ [])) (sym (set_again views pass v at)) (puts-at pass v x items views is kept at rule), refl)

  forks-at : (pass : ℕ) (v : View) (k : Known S) (items : List (Laid S)) (views : List View) → v ≡ Some k → get_elem? views pass ≡ some v → Rule items views → Rule items (views ++ v ∷ [])
  forks-at pass v k items views is at (inl n) = cc (sym (alone views pass v n.1 at) ∙ is)
  forks-at pass v k items views is at (inr r) =
      inr (record {
        known = r.known;
        passes = λ j u e. ⊎_elim (λ y. r.passes j u y) (λ (y : v ≡ u). sym y ∙ r.passes pass v at) (at_snoc views v u j e);
        same = r.same;
        kept = r.kept;
      })

  pub forks : (pass : ℕ) (v : View) (k : Known S) → v ≡ Some k → Forks Rule pass v v v
  forks pass v k is items views rule at = subst (λ l. Rule items (l ++ v ∷ [])) (sym (set_again views pass v at)) (forks-at pass v k items views is at rule)
