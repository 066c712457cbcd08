-- What a reader has left, read by read.
use Rattle.std.proofs.Common.{◌≡◌, ◌∙◌, ◌++◌, ℕ, List, [], ◌∷◌, refl, Option, Some, None, sym, ap, append_assoc, arith}
use Rattle.std.proofs.Math.Logic.{∥∥₁_map}
use Rattle.std.specs.Io.KnownBytes.{Consumes, Keeps, IsAtEnd}
use Rattle.ssb_records.specs.Giving.{Leaves}

empty-back : (xs ys : List ℕ) → [] ≡ xs ++ ys → ys ≡ []
empty-back [] ys e = sym e
empty-back (x ∷ xs) ys e = cc

pub leaves-start : (w : Option (List ℕ)) (n : ℕ) → n ≡ 0 → Leaves w w [] n
leaves-start None n z = tt
leaves-start (Some xs) n z = (refl, λ more. absurd (omega (arith, z, more)))

leaves-more : (w a b : Option (List ℕ)) (g x h : List ℕ) (n : ℕ) → Leaves w a g n → Consumes a b x → h ≡ g ++ x → Leaves w b h n
leaves-more None a b g x h n l c e = tt
leaves-more (Some s) None b g x h n l c e = absurd l
leaves-more (Some s) (Some t) None g x h n l c e = absurd c
leaves-more (Some s) (Some t) (Some u) g x h n l c e = (
  l.0 ∙ ap (λ w. g ++ w) c ∙ sym (append_assoc g x u) ∙ ap (λ w. w ++ u) (sym e),
  λ more. empty-back x u (sym (l.1 more) ∙ c),
)

leaves-over : (w a : Option (List ℕ)) (g : List ℕ) (n m : ℕ) → Leaves w a g n → IsAtEnd a → Leaves w a g m
leaves-over None a g n m l e = tt
leaves-over (Some s) None g n m l e = absurd l
leaves-over (Some s) (Some t) g n m l e = (l.0, λ _. e)

leaves-kept : (w a b : Option (List ℕ)) (g : List ℕ) (n : ℕ) → Leaves w a g n → Keeps a b → Leaves w b g n
leaves-kept None a b g n l k = tt
leaves-kept (Some s) None b g n l k = absurd l
leaves-kept (Some s) (Some t) None g n l k = absurd k
leaves-kept (Some s) (Some t) (Some u) g n l k = (l.0 ∙ ap (λ w. g ++ w) (sym k), λ more. k ∙ l.1 more)

-- what a reader leaves once it consumed more, where no more is known of it than that it holds
pub known-more : (w a b : Option (List ℕ)) (g x h : List ℕ) (n : ℕ) → ∥ Leaves w a g n ∥₁ → Consumes a b x → h ≡ g ++ x → ∥ Leaves w b h n ∥₁
known-more w a b g x h n k c e = ∥∥₁_map k (λ l. leaves-more w a b g x h n l c e)

pub known-over : (w a : Option (List ℕ)) (g : List ℕ) (n m : ℕ) → ∥ Leaves w a g n ∥₁ → IsAtEnd a → ∥ Leaves w a g m ∥₁
known-over w a g n m k e = ∥∥₁_map k (λ l. leaves-over w a g n m l e)

pub known-kept : (w a b : Option (List ℕ)) (g : List ℕ) (n : ℕ) → ∥ Leaves w a g n ∥₁ → Keeps a b → ∥ Leaves w b g n ∥₁
known-kept w a b g n k e = ∥∥₁_map k (λ l. leaves-kept w a b g n l e)
