-- A condition's text, by its form.
use Rattle.std.proofs.Common.{◌≡◌, ◌∙◌, ◌++◌, ◌∷◌, [], Bool, List, ℕ, Result, Ok, Err, OnOk, codes, cond, map, not, refl, sym, ap, append_assoc}
use Rattle.std.specs.Result.{is_ok}
use Rattle.ssb_trees.proofs.Forms.{of_form, rolls}
use Rattle.ssb_trees.specs.declared.condition.Condition.{Condition}
use Rattle.ssb_trees.specs.declared.condition.Condition.TheOpen.{Condition-F}
use Rattle.ssb_trees.specs.declared.condition.Condition.TheFolds.{fold-roll-Condition, map-Condition}
use Rattle.ssb_spelling.specs.Conditions.{SpeltCondition, as_negated, condition_layer, condition_spelling, condition_text, further, parted}
use Rattle.ssb_spelling.specs.Titles.{closed_unless}

condition-of : (O : Type 0) (of : O → List ℕ) (c : Condition O) (x : Condition-F O (Condition O)) → c ≡ of_form O x
    → condition_text O of c ≡ (condition_layer O of (map-Condition O (Condition O) SpeltCondition (condition_spelling O of) x)).text
condition-of O of c x is = ap (λ s. s.text) (ap (condition_spelling O of) (is ∙ rolls O x) ∙ fold-roll-Condition O SpeltCondition (condition_layer O of) x)

texts-of : (O : Type 0) (of : O → List ℕ) (parts : List (Condition O)) → map (λ (s : SpeltCondition). s.text) (map (condition_spelling O of) parts) ≡ map (condition_text O of) parts
texts-of O of [] = refl
texts-of O of (p ∷ ps) = ap (λ ts. condition_text O of p ∷ ts) (texts-of O of ps)

-- what a text is once more was pushed, where that was not refused
pub once-pushed : {A E : Type 0} (r : Result A E) (now grown same : List ℕ) → now ≡ cond (is_ok r) grown same → OnOk r (now ≡ grown)
once-pushed (Ok a) now grown same e = e
once-pushed (Err e) now grown same g = tt

-- parts in parentheses
closed : {X : Type 0} (text : X → List ℕ) (by opening closing : List ℕ) (parts rest : List X) (first : X) (s0 s1 s2 s3 s4 : List ℕ) → parts ≡ first ∷ rest
    → s1 ≡ s0 ++ opening → s2 ≡ s1 ++ text first → s3 ≡ s2 ++ further by (map text rest) → s4 ≡ s3 ++ closing → s4 ≡ s0 ++ (opening ++ (parted by (map text parts) ++ closing))
closed text by opening closing parts rest first s0 s1 s2 s3 s4 is one two three four =
    let f = further by (map text rest) in
    let t = text first in
    four ∙ ap (λ s. s ++ closing) (three ∙ ap (λ s. s ++ f) (two ∙ ap (λ s. s ++ t) one))
    ∙ append_assoc ((s0 ++ opening) ++ t) f closing ∙ append_assoc (s0 ++ opening) t (f ++ closing) ∙ append_assoc s0 opening (t ++ (f ++ closing))
    ∙ ap (λ s. s0 ++ (opening ++ s)) (sym (append_assoc t f closing)) ∙ ap (λ ps. s0 ++ (opening ++ (parted by (map text ps) ++ closing))) (sym is)

module _ (O : Type 0) (of : O → List ℕ) (c : Condition O) where
  abbrev pub text : Condition O → List ℕ
  text = condition_text O of

  pub any-grew : (parts slice rest : List (Condition O)) (first : Condition O) (s0 s1 s2 s3 s4 : List ℕ) → c ≡ of_form O (Condition-F.Any parts) → slice ≡ parts → slice ≡ first ∷ rest
      → s1 ≡ s0 ++ codes "(" → s2 ≡ s1 ++ text first → s3 ≡ s2 ++ further (codes " or ") (map text rest) → s4 ≡ s3 ++ codes ")" → s4 ≡ s0 ++ text c
  any-grew parts slice rest first s0 s1 s2 s3 s4 is same splits one two three four =
      closed text (codes " or ") (codes "(") (codes ")") parts rest first s0 s1 s2 s3 s4 (sym same ∙ splits) one two three four
      ∙ ap (λ ts. s0 ++ (codes "(" ++ (parted (codes " or ") ts ++ codes ")"))) (sym (texts-of O of parts)) ∙ ap (λ s. s0 ++ s) (sym (condition-of O of c (Condition-F.Any parts) is))

  pub all-grew : (parts slice rest : List (Condition O)) (first : Condition O) (s0 s1 s2 s3 s4 : List ℕ) → c ≡ of_form O (Condition-F.All parts) → slice ≡ parts → slice ≡ first ∷ rest
      → s1 ≡ s0 ++ codes "(" → s2 ≡ s1 ++ text first → s3 ≡ s2 ++ further (codes " and ") (map text rest) → s4 ≡ s3 ++ codes ")" → s4 ≡ s0 ++ text c
  all-grew parts slice rest first s0 s1 s2 s3 s4 is same splits one two three four =
      closed text (codes " and ") (codes "(") (codes ")") parts rest first s0 s1 s2 s3 s4 (sym same ∙ splits) one two three four
      ∙ ap (λ ts. s0 ++ (codes "(" ++ (parted (codes " and ") ts ++ codes ")"))) (sym (texts-of O of parts)) ∙ ap (λ s. s0 ++ s) (sym (condition-of O of c (Condition-F.All parts) is))

  pub not-grew : (part got : Condition O) (negation : Bool) (s0 s1 s2 : List ℕ) → c ≡ of_form O (Condition-F.Not part) → got ≡ part → negation ≡ (condition_spelling O of got).is_negation
      → s1 ≡ s0 ++ codes "not " → s2 ≡ s1 ++ closed_unless (not negation) (text got) → s2 ≡ s0 ++ text c
  not-grew part got negation s0 s1 s2 is same negated one two =
      let behind : Condition O → List ℕ = λ p. as_negated (condition_spelling O of p) in
      two ∙ ap (λ b. s1 ++ closed_unless (not b) (text got)) negated ∙ ap (λ s. s ++ behind got) one ∙ append_assoc s0 (codes "not ") (behind got) ∙ ap (λ p. s0 ++ (codes "not " ++ behind p)) same
      ∙ ap (λ s. s0 ++ s) (sym (condition-of O of c (Condition-F.Not part) is))
