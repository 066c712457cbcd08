use Rattle.std.proofs.Common.{◌≡◌, ◌∙◌, ℕ, List, [], ◌∷◌, length, sym, refl, arith}
use Rattle.std.proofs.lemmas.Bool.{eqb-true}
use Rattle.ssb_packed.proofs.FlagFacts.{all-unset, length-flags}
use Rattle.ssb_packed.proofs.nulls.Nulls.is_clear.Goals as goal

none : (xs : List ℕ) → length xs ≡ 0 → xs ≡ []
none [] e = refl
none (x ∷ xs) e = absurd (omega (arith, e))

pub returns : goal.returns
returns c = λ empty.
    let words = c.self.inside.words in
    let long = eqb-true _ _ (sym c.is_empty.ensures ∙ empty) in
    let counted = words.ok.0 in
    rw (← c.self.view_is, length-flags words.items c.self.inside.len) (all-unset words.items c.self.inside.len (none words.items (omega (arith, counted, long))))
