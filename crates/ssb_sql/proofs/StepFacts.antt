-- What reading steps say.
use Rattle.std.proofs.Common.{◌≡◌, suc, ◌<◌, Bool, true, false, cond, List, [], ◌∷◌, length, Option, Some, None, refl, ap, ◌∙◌, arith, ◌⊎◌, inl, inr}
use denote.Enum.Bare.{same_true, true_same}
use Rattle.ssb_tokens.specs.declared.token.Token.{Token}
use Rattle.ssb_tokens.specs.declared.token.Token.TheVariants.{Fixed, Name, Number, Text}
use Rattle.ssb_tokens.specs.declared.token.Sign.{Sign}
use Rattle.ssb_terms.specs.contracts.keyword.Keyword as words
use Rattle.ssb_tokens.specs.contracts.token.Mark as marks
use Rattle.ssb_tokens.specs.declared.token.Sign.TheVariants as s
use Rattle.ssb_sql.specs.Steps.{choose, is_same, is_sign, is_fixed, after}

pub some_is : {A : Type 0} (x y : A) → Some x ≡ Some y → x ≡ y
some_is x y e = cc

pub none_some : {A : Type 0} (x : A) → None ≡ Some x → ⊥
none_some x e = cc

-- what a choice took
pub choose_some : {A B : Type 0} (r : Option A) (f : A → B) (g y : B) → choose r f g ≡ y → ((x : A) × (r ≡ Some x) × (f x ≡ y)) ⊎ ((r ≡ None) × (g ≡ y))
choose_some None f g y e = inr (refl, e)
choose_some (Some x) f g y e = inl (x, refl, e)

pub if_some : {B : Type 0} (b : Bool) (f g y : B) → cond b f g ≡ y → ((b ≡ true) × (f ≡ y)) ⊎ ((b ≡ false) × (g ≡ y))
if_some true f g y e = inl (refl, e)
if_some false f g y e = inr (refl, e)

pub cases_of : {A : Type 0} (o : Option A) → (o ≡ None) ⊎ ((x : A) × (o ≡ Some x))
cases_of None = inl refl
cases_of (Some x) = inr (x, refl)

same_sign : (a b : Sign) → is_sign a b ≡ true → a ≡ b
unfolding is_sign
same_sign (s.Word a) (s.Word b) e = ap (λ x. s.Word x) (same_true words.the_type tt a b e)
same_sign (s.Mark a) (s.Mark b) e = ap (λ x. s.Mark x) (same_true marks.the_type tt a b e)
same_sign (s.Word a) (s.Mark b) e = absurd cc
same_sign (s.Mark a) (s.Word b) e = absurd cc

pub guard_some : {A : Type 0} (b : Bool) (x y : A) → cond b (Some x) None ≡ Some y → (b ≡ true) × (x ≡ y)
guard_some true x y e = (refl, cc)
guard_some false x y e = absurd cc

pub after_is : (sign : Sign) (ts rest : List Token) → after sign ts ≡ Some rest → ts ≡ Fixed sign ∷ rest
unfolding after is_fixed
after_is sign [] rest e = absurd cc
after_is sign (Fixed found ∷ ts) rest e =
    let g = guard_some (is_sign found sign) ts rest e in
    let same = same_sign found sign g.0 in
    ap (λ x. Fixed x ∷ ts) same ∙ ap (λ x. Fixed sign ∷ x) g.1
after_is sign (Name n ∷ ts) rest e = absurd cc
after_is sign (Number n ∷ ts) rest e = absurd cc
after_is sign (Text t ∷ ts) rest e = absurd cc

-- two signs in a row
pub two_are : (a b : Sign) (ts mid rest : List Token) → after a ts ≡ Some mid → after b mid ≡ Some rest → ts ≡ Fixed a ∷ Fixed b ∷ rest
two_are a b ts mid rest e f = after_is a ts mid e ∙ ap (λ z. Fixed a ∷ z) (after_is b mid rest f)

-- what follows is shorter
pub after_shorter : (sign : Sign) (ts rest : List Token) → after sign ts ≡ Some rest → length rest < length ts
after_shorter sign ts rest e = let n : length ts ≡ suc (length rest) = ap length (after_is sign ts rest e) in omega arith

same_is : (sign : Sign) → is_sign sign sign ≡ true
unfolding is_sign
same_is (s.Word a) = true_same words.the_type a a refl
same_is (s.Mark a) = true_same marks.the_type a a refl

pub sees : (sign : Sign) (ts : List Token) → after sign (Fixed sign ∷ ts) ≡ Some ts
unfolding after is_fixed
sees sign ts = ap (λ b. cond b (Some ts) None) (same_is sign)

-- what comes next is not the sign
abbrev pub Stops : Sign → List Token → Type 0
Stops sign to = after sign to ≡ None

pub differs : (a b : Sign) → is_same a b ≡ false → is_sign a b ≡ false
unfolding is_sign
differs a b e = e

pub stops : (found sign : Sign) (ts : List Token) → is_sign found sign ≡ false → Stops sign (Fixed found ∷ ts)
unfolding after is_fixed
stops found sign ts e = ap (λ b. cond b (Some ts) None) e
