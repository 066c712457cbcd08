-- Chains of one thing, and of more.
use Rattle.std.proofs.Common.{◌≡◌, List, [], ◌∷◌, length, Some, refl, sym, ap, ◌∙◌}
use Rattle.std.specs.Prelude.{slice_get}
use Rattle.ssb_trees.specs.declared.expr.Expr.TheVariants as e
use Rattle.ssb_tokens.specs.declared.token.Sign.{Sign}
use Rattle.ssb_tokens.specs.declared.token.Token.{Token}
use Rattle.ssb_sql.specs.Expressions.{sum_of}
use Rattle.ssb_sql.specs.Forms.{chain_of}
use Rattle.ssb_sql.specs.Steps.{Parser, chained_at, made_at}
use Rattle.ssb_trees.specs.declared.expr.Step.{Step}
use Rattle.ssb_sql.specs.declared.named.ColumnName.{ColumnName}
use Rattle.ssb_trees.specs.declared.expr.Expr.{Expr}

pub one : {A : Type 0} (make : List A → A) (all : List A) (x : A) → slice_get all 0 ≡ Some x → length all ≡ 1 → x ≡ chain_of make all
unfolding chain_of
one make [] x e n = absurd cc
one make (y ∷ []) x e n = cc
one make (y ∷ z ∷ zs) x e n = absurd cc

pub many : {A : Type 0} (make : List A → A) (all : List A) → (length all ≡ 1 → ⊥) → make all ≡ chain_of make all
unfolding chain_of
many make [] n = refl
many make (y ∷ []) n = absurd (n refl)
many make (y ∷ z ∷ zs) n = refl

-- what is made of a chain that was read
pub made_one : {A : Type 0} (make : List A → A) (sign : Sign) (p : Parser A) (ts rest : List Token) (all : List A) (x : A) → chained_at sign p ts ≡ Some (all, rest) → slice_get all 0 ≡ Some x → length all ≡ 1
    → made_at make sign p ts ≡ Some (x, rest)
made_one make sign p ts rest all x read first alone = rw read (ap (λ y. Some (y, rest)) (sym (one make all x first alone)))

pub made_many : {A : Type 0} (make : List A → A) (sign : Sign) (p : Parser A) (ts rest : List Token) (all : List A) (x : A) → chained_at sign p ts ≡ Some (all, rest) → (length all ≡ 1 → ⊥) → x ≡ make all
    → made_at make sign p ts ≡ Some (x, rest)
made_many make sign p ts rest all x read several is = rw read (ap (λ y. Some (y, rest)) (sym (is ∙ many make all several)))

pub sum_one : (x : Expr ColumnName) (all : List (Step ColumnName)) → length all ≡ 0 → x ≡ sum_of x all
unfolding sum_of
sum_one x [] n = refl
sum_one x (y ∷ ys) n = absurd cc

pub sum_many : (x : Expr ColumnName) (all : List (Step ColumnName)) → (length all ≡ 0 → ⊥) → e.Chain x all ≡ sum_of x all
unfolding sum_of
sum_many x [] n = absurd (n refl)
sum_many x (y ∷ ys) n = refl
