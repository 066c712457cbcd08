-- What a reader gave is a beginning of its bytes, where they are known, and all of them once its end was met.
-- For the contracts inside this crate: the laws of `In` stand on it.
use Rattle.std.specs.Prelude.{◌≡◌, ◌<◌, ℕ, List, ◌++◌, length, take, Option, None, Some, IfSome, refl}
use Rattle.std.proofs.Common.{◌∙◌, sym, ap}
use Rattle.std.proofs.lemmas.List.{append-nil, take_at}
use Rattle.std.proofs.Math.Logic.{∥∥₁_elim}
use Rattle.std.proofs.Props.{props}
use Rattle.ssb_records.specs.Giving.{Leaves}

leaves-all : (w a : Option (List ℕ)) (g : List ℕ) (n : ℕ) → 0 < n → Leaves w a g n → IfSome w (λ xs. g ≡ xs)
leaves-all None a g n more h = tt
leaves-all (Some xs) None g n more h = absurd h
leaves-all (Some xs) (Some ys) g n more h = sym (h.0 ∙ ap (λ t. g ++ t) (h.1 more) ∙ append-nil g)

one-way : (w : Option (List ℕ)) (g : List ℕ) → IsProp (IfSome w (λ xs. g ≡ xs))
one-way None g = Prim.hlevel props
one-way (Some xs) g = Prim.hlevel props

pub settles : (w a : Option (List ℕ)) (g : List ℕ) (n : ℕ) → ∥ Leaves w a g n ∥₁ → 0 < n → IfSome w (λ xs. g ≡ xs)
settles w a g n known more = ∥∥₁_elim known (one-way w g) (leaves-all w a g n more)

leaves-front : (w a : Option (List ℕ)) (g : List ℕ) (n : ℕ) → Leaves w a g n → IfSome w (λ xs. take (length g) xs ≡ g)
leaves-front None a g n h = tt
leaves-front (Some xs) None g n h = absurd h
leaves-front (Some xs) (Some ys) g n h = ap (take (length g)) h.0 ∙ take_at g ys (length g) refl

one-front : (w : Option (List ℕ)) (g : List ℕ) → IsProp (IfSome w (λ xs. take (length g) xs ≡ g))
one-front None g = Prim.hlevel props
one-front (Some xs) g = Prim.hlevel props

pub begins : (w a : Option (List ℕ)) (g : List ℕ) (n : ℕ) → ∥ Leaves w a g n ∥₁ → IfSome w (λ xs. take (length g) xs ≡ g)
begins w a g n known = ∥∥₁_elim known (one-front w g) (leaves-front w a g n)
