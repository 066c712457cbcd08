-- What sources gave, one after the other, is a beginning of their bytes, where these are told, and all of them once each has met its end.
-- For the contracts inside this crate: the laws of `Joined` stand on it.
use Rattle.std.specs.Prelude.{◌≡◌, ◌+◌, ◌≤◌, ◌<◌, ℕ, zero, suc, List, [], ◌∷◌, ◌++◌, length, map, take, Option, None, Some, IfSome, refl}
use Rattle.std.specs.List.{All, flat_map}
use Rattle.std.specs.Fmt.{option_append}
use Rattle.std.proofs.Common.{◌∙◌, sym, ap, add-one, arith}
use Rattle.std.proofs.lemmas.List.{append-nil, take-append-le, length-take, take_all}
use Rattle.std.proofs.lemmas.List.Elements.{All-head, All-tail}
use Rattle.ssb_lanes.specs.Joined.{given_upto, all_bytes}

-- where each of two is told, what is said of both
both-told : (o p : Option (List ℕ)) (P Q R : List ℕ → Type 0) → ((w v : List ℕ) → P w → Q v → R (w ++ v)) → IfSome o P → IfSome p Q → IfSome (option_append o p) R
both-told None p P Q R h a b = tt
both-told (Some w) None P Q R h a b = tt
both-told (Some w) (Some v) P Q R h a b = h w v a b

told-any : (o : Option (List ℕ)) → IfSome o (λ _. Unit {0})
told-any None = tt
told-any (Some w) = tt

front-longer : (a w v : List ℕ) → take (length a) w ≡ a → take (length a) (w ++ v) ≡ a
front-longer a w v e =
    let long : length a ≤ length w = omega (arith, sym (length-take (length a) w) ∙ ap length e) in
    take-append-le (length a) w v long ∙ e

front-behind : (w a v : List ℕ) → take (length a) v ≡ a → take (length (w ++ a)) (w ++ v) ≡ w ++ a
front-behind [] a v e = e
front-behind (x ∷ w) a v e = ap (λ t. x ∷ t) (front-behind w a v e)

module _ {S : Type 0} (given : S → List ℕ) (ends : S → ℕ) (whole : S → Option (List ℕ)) where
  abbrev Begins : S → Type 0
  Begins s = IfSome (whole s) (λ all. take (length (given s)) all ≡ given s)

  abbrev Settles : S → Type 0
  Settles s = 0 < ends s → IfSome (whole s) (λ all. given s ≡ all)

  module _ (begins : (s : S) → Begins s) (settles : (s : S) → Settles s) where
    fronts : (sources : List S) (at : ℕ) → All (λ s. 0 < ends s) (take at sources)
        → IfSome (all_bytes (map whole sources)) (λ all. take (length (flat_map given (take (suc at) sources))) all ≡ flat_map given (take (suc at) sources))
    fronts [] at met = refl
    fronts (s ∷ ss) zero met =
        both-told (whole s) (all_bytes (map whole ss)) _ (λ v. Unit {0}) _
        (λ w v e _. rw (append-nil (given s)) (front-longer (given s) w v e)) (begins s) (told-any (all_bytes (map whole ss)))
    fronts (s ∷ ss) (suc at) met =
        both-told (whole s) (all_bytes (map whole ss)) _ _ _
        (λ w v e f. rw e (front-behind w _ v f)) (settles s (All-head (λ s. 0 < ends s) s (take at ss) met)) (fronts ss at (All-tail (λ s. 0 < ends s) s (take at ss) met))

    alls : (sources : List S) → All (λ s. 0 < ends s) sources → IfSome (all_bytes (map whole sources)) (λ all. flat_map given sources ≡ all)
    alls [] met = refl
    alls (s ∷ ss) met =
        both-told (whole s) (all_bytes (map whole ss)) (λ w. given s ≡ w) (λ v. flat_map given ss ≡ v) (λ all. given s ++ flat_map given ss ≡ all)
        (λ w v e f. rw (e, f) refl) (settles s (All-head (λ s. 0 < ends s) s ss met)) (alls ss (All-tail (λ s. 0 < ends s) s ss met))

    -- what the sources up to the one at the place gave is a beginning of all
    pub joined_begins : (sources : List S) (at : ℕ) → All (λ s. 0 < ends s) (take at sources)
        → IfSome (all_bytes (map whole sources)) (λ all. take (length (given_upto given at sources)) all ≡ given_upto given at sources)
    joined_begins sources at met = rw (add-one at) (fronts sources at met)

    -- it is all of them where the place is behind the last
    pub joined_settled : (sources : List S) (at : ℕ) → length sources ≤ at → All (λ s. 0 < ends s) (take at sources)
        → IfSome (all_bytes (map whole sources)) (λ all. given_upto given at sources ≡ all)
    joined_settled sources at over met =
        let most : take at sources ≡ sources = take_all at sources over in
        let every : take (at + 1) sources ≡ sources = take_all (at + 1) sources (omega arith) in
        rw every (alls sources (rw most at met))
