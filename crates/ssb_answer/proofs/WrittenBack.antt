-- What workers leave of the passes that they were lent: a list that a call wrote back whole.
use Rattle.std.proofs.Common.{◌≡◌, ◌<◌, ◌++◌, ℕ, zero, suc, List, [], ◌∷◌, arith, drop, get_or, length, subst, sym, take}
use Rattle.ssb_pipeline.specs.Pass.{PartsState, PassState}
use Rattle.ssb_pipeline.specs.Work.{IsWorked}

-- the first element of such a list is that of what was written
first-of : {A : Type 0} (old new : List A) (n : ℕ) (x : A) → length new ≡ n → 0 < n → x ≡ get_or (take n (new ++ drop (length new) old)) 0 x → get_or new 0 x ≡ x
first-of old [] n x is some at = absurd (omega (arith, is, some))
first-of old (y ∷ ys) zero x is some at = absurd (omega arith)
first-of old (y ∷ ys) (suc m) x is some at = sym at

-- the first pass is as its worker left it
pub first-worked : (parts : PartsState) (before old new : List PassState) (n : ℕ) (x : PassState) → length new ≡ n → length before ≡ n → 0 < n → x ≡ get_or (take n (new ++ drop (length new) old)) 0 x
    → (0 < length before → IsWorked parts (get_or before 0 x) (get_or new 0 x)) → IsWorked parts (get_or before 0 x) x
first-worked parts before old new n x is lent some at h = subst (λ q. IsWorked parts (get_or before 0 x) q) (first-of old new n x is some at) (h (omega (arith, lent, some)))
