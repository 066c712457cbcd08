-- What readers and relations share: sound, shorter, and chains.
use Rattle.std.proofs.Common.{◌≡◌, ℕ, zero, suc, ◌<◌, ◌≤◌, List, [], ◌∷◌, ◌++◌, length, Option, Some, None, cond, nat_lt, refl, sym, ap, subst, ◌∙◌, arith, inl, inr, ltb-true, lt-ltb}
use Rattle.ssb_tokens.specs.declared.token.Token.{Token}
use Rattle.ssb_tokens.specs.declared.token.Token.TheVariants.{Fixed}
use Rattle.ssb_tokens.specs.declared.token.Sign.{Sign}
use Rattle.ssb_tokens.specs.declared.token.Mark.TheVariants as marks
use Rattle.ssb_tokens.specs.declared.token.Sign.TheVariants as s
use Rattle.ssb_sql.specs.Forms.{Spelling, IsMore, IsList}
use Rattle.ssb_sql.specs.Forms.IsMore.{no_more, comma}
use Rattle.ssb_sql.specs.Forms.IsList.{list}
use Rattle.ssb_sql.specs.Room.{HasRoom}
use Rattle.ssb_tokens.specs.Reading.{◌>>=◌}
use Rattle.ssb_sql.specs.Steps.{Parser, after, turn_at, chain_at, with_front, more_at, chained_at, list_at, closed_at, enclosed_at, nonempty_at, Shrinks}
use Rattle.ssb_tokens.proofs.ReadingFacts.{bind_some}
use Rattle.ssb_sql.proofs.StepFacts.{some_is, choose_some, guard_some, cases_of, after_is, after_shorter, Stops, sees}

-- what p reads is in R
pub record Sound {A : Type 0} (p : Parser A) (R : Spelling A) : Type 0 where
  pub by : (ts : List Token) (x : A × List Token) → p ts ≡ Some x → R ts x.1 x.0

-- what R spells is not empty
pub record Shorter {A : Type 0} (R : Spelling A) : Type 0 where
  pub by : {from to : List Token} {x : A} → R from to x → length to < length from

-- what R spells is not empty, and leaves the open parentheses as they were
pub record Tame {A : Type 0} (R : Spelling A) : Type 0 where
  pub shorter : {from to : List Token} {x : A} → R from to x → length to < length from
  pub within : {from to : List Token} {x : A} → R from to x → (d : ℕ) → HasRoom d from → HasRoom d to

pub tame_shorter : {A : Type 0} (R : Spelling A) → Tame R → Shorter R
tame_shorter R t = record { by = λ h. t.shorter h }

-- some tokens went by, and the open parentheses are as they were
pub record Went (from to : List Token) : Type 0 where
  pub shorter : length to < length from
  pub within : (d : ℕ) → HasRoom d from → HasRoom d to

pub went : {A : Type 0} (R : Spelling A) → Tame R → {from to : List Token} {x : A} → R from to x → Went from to
went R t h = record { shorter = t.shorter h; within = λ d w. t.within h d w }

pub tame : {A : Type 0} (R : Spelling A) → ((from to : List Token) (x : A) → R from to x → Went from to) → Tame R
tame R f = record { shorter = λ h. (f _ _ _ h).shorter; within = λ h d w. (f _ _ _ h).within d w }

-- p reads what R spells, where F holds of what follows
pub record Complete {A : Type 0} (p : Parser A) (R : Spelling A) (d : ℕ) (F : List Token → Type 0) : Type 0 where
  pub by : {from to : List Token} {x : A} → R from to x → HasRoom d from → F to → p from ≡ Some (x, to)

-- what p reads, where that is one token at least
pub nonempty_some : {A : Type 0} (p : Parser A) (ts : List Token) (x : A × List Token) → nonempty_at p ts ≡ Some x → (p ts ≡ Some x) × (length x.1 < length ts)
unfolding nonempty_at
nonempty_some {A = A} p ts x e =
    let f = bind_some (p ts) (λ y. cond (nat_lt (length y.1) (length ts)) (Some y) None) x e in
    let g = guard_some (nat_lt (length f.0.1) (length ts)) f.0 x f.2 in
    (f.1 ∙ ap (λ y. Some y) g.1, subst (λ (y : A × List Token). length y.1 < length ts) g.1 (ltb-true (length f.0.1) (length ts) g.0))

pub nonempty_read : {A : Type 0} (p : Parser A) (ts : List Token) (x : A × List Token) → p ts ≡ Some x → length x.1 < length ts → nonempty_at p ts ≡ Some x
unfolding nonempty_at
nonempty_read p ts x e lt = rw (e, lt-ltb (length x.1) (length ts) lt) refl

nonempty_none : {A : Type 0} (p : Parser A) (ts : List Token) → p ts ≡ None → nonempty_at p ts ≡ None
unfolding nonempty_at
nonempty_none p ts e = rw e refl

pub sound_nonempty : {A : Type 0} (p : Parser A) (R : Spelling A) → Sound p R → Sound (nonempty_at p) R
sound_nonempty p R h = record { by = λ ts x e. h.by ts x (nonempty_some p ts x e).0 }

pub nonempty_is : {A : Type 0} (p : Parser A) (R : Spelling A) → Sound p R → Tame R → (ts : List Token) → nonempty_at p ts ≡ p ts
nonempty_is p R h t ts =
    elim (cases_of (p ts)) as (λ _. nonempty_at p ts ≡ p ts) [
      | inl e ↦ nonempty_none p ts e ∙ sym e
      | inr f ↦ nonempty_read p ts f.0 f.1 (t.shorter (h.by ts f.0 f.1)) ∙ sym f.1
    ]

-- a spelling of one thing is a spelling of the same thing
pub spells : {A : Type 0} (R : Spelling A) (ts to : List Token) (y : A) (x : A × List Token) → R ts to y → Some (y, to) ≡ Some x → R ts x.1 x.0
spells R ts to y x h e = subst (λ z. R ts z.1 z.0) (some_is (y, to) x e) h

pub starts : {A : Type 0} (R : Spelling A) (ts us to : List Token) (x : A) → ts ≡ us → R us to x → R ts to x
starts R ts us to x e h = subst (λ vs. R vs to x) (sym e) h

pub begins : {A : Type 0} (R : Spelling A) (sign : Sign) (ts rest to : List Token) (x : A) → after sign ts ≡ Some rest → R (Fixed sign ∷ rest) to x → R ts to x
begins R sign ts rest to x a h = subst (λ us. R us to x) (sym (after_is sign ts rest a)) h

pub followed : {A : Type 0} (R : Spelling A) (sign : Sign) (ts mid rest : List Token) (x : A) → after sign mid ≡ Some rest → R ts mid x → R ts (Fixed sign ∷ rest) x
followed R sign ts mid rest x a h = subst (λ us. R ts us x) (after_is sign mid rest a) h

nil_stops : (sign : Sign) → after sign [] ≡ None
unfolding after
nil_stops sign = refl

pub shrinks_by : {A : Type 0} (sign : Sign) (p : Parser A) (R : Spelling A) → Sound p R → Shorter R → Shrinks (after sign) p
shrinks_by sign p R h r = record {
  nil = nil_stops sign;
  by = λ ts l x a e. let lt = after_shorter sign ts l a in let m = r.by (h.by l x e) in omega arith;
}

pub shrinks : {A : Type 0} (sign : Sign) (p : Parser A) (R : Spelling A) → Sound p R → Tame R → Shrinks (after sign) p
shrinks sign p R h t = shrinks_by sign p R h (tame_shorter R t)

-- what stands before a `)`, and what stands in parentheses
pub sound_closed : {A : Type 0} (p : Parser A) (R : Spelling A) → Sound p R → (ts : List Token) (x : A × List Token) → closed_at p ts ≡ Some x → R ts (Fixed (s.Mark marks.Close) ∷ x.1) x.0
unfolding closed_at
sound_closed p R h ts x e =
    let f = bind_some (p ts) (λ y. after (s.Mark marks.Close) y.1 >>= λ to. Some (y.0, to)) x e in
    let g = bind_some (after (s.Mark marks.Close) f.0.1) (λ to. Some (f.0.0, to)) x f.2 in
    subst (λ y. R ts (Fixed (s.Mark marks.Close) ∷ y.1) y.0) (some_is (f.0.0, g.0) x g.2) (followed R (s.Mark marks.Close) ts f.0.1 g.0 f.0.0 g.1 (h.by ts f.0 f.1))

pub closed_read : {A : Type 0} (p : Parser A) (ts to : List Token) (x : A) → p ts ≡ Some (x, Fixed (s.Mark marks.Close) ∷ to) → closed_at p ts ≡ Some (x, to)
unfolding closed_at
closed_read p ts to x e = rw (e, sees (s.Mark marks.Close) to) refl

-- what is read in parentheses, and what is read without them
pub sound_enclosed : {A : Type 0} (p bare : Parser A) (R Q : Spelling A) → Sound p R → ((ts : List Token) (x : A × List Token) → bare ts ≡ Some x → Q ts x.1 x.0)
    → ((from to : List Token) (x : A) → R from (Fixed (s.Mark marks.Close) ∷ to) x → Q (Fixed (s.Mark marks.Open) ∷ from) to x)
    → (ts : List Token) (x : A × List Token) → enclosed_at p bare ts ≡ Some x → Q ts x.1 x.0
unfolding enclosed_at
sound_enclosed p bare R Q h plain parens ts x e =
    elim (choose_some (after (s.Mark marks.Open) ts) _ _ (Some x) e) as (λ _. Q ts x.1 x.0) [
      | inl g ↦ begins Q (s.Mark marks.Open) ts g.0 x.1 x.0 g.1 (parens g.0 x.1 x.0 (sound_closed p R h g.0 x g.2))
      | inr g ↦ plain ts x g.1
    ]

pub parens_read : {A : Type 0} (p bare : Parser A) (ts to : List Token) (x : A) → p ts ≡ Some (x, Fixed (s.Mark marks.Close) ∷ to) → enclosed_at p bare (Fixed (s.Mark marks.Open) ∷ ts) ≡ Some (x, to)
unfolding enclosed_at
parens_read p bare ts to x e = rw (sees (s.Mark marks.Open) ts) (closed_read p ts to x e)

pub open_read : {A : Type 0} (p bare : Parser A) (ts : List Token) (r : Option (A × List Token)) → Stops (s.Mark marks.Open) ts → bare ts ≡ r → enclosed_at p bare ts ≡ r
unfolding enclosed_at
open_read p bare ts r h e = rw h e

-- a chain is none or more pieces
pub record IsChain {A L : Type 0} (link : List Token → Option L) (piece : L → Option (A × List Token)) (S : List Token → List Token → List A → Type 0) : Type 0 where
  pub none : (to : List Token) → S to to []
  pub more : (ts to : List Token) (l : L) (x : A × List Token) (xs : List A) → link ts ≡ Some l → piece l ≡ Some x → S x.1 to xs → S ts to (x.0 ∷ xs)

pub is_chain : {A : Type 0} (sign : Sign) (p : Parser A) (R : Spelling A) (S : Spelling (List A)) → Sound p R → ((to : List Token) → S to to [])
    → ((from mid to : List Token) (x : A) (xs : List A) → R from mid x → S mid to xs → S (Fixed sign ∷ from) to (x ∷ xs)) → IsChain (after sign) p S
is_chain sign p R S h none more = record {
  none = none;
  more = λ ts to l x xs a e m. begins S sign ts l to (x.0 ∷ xs) a (more l x.1 to x.0 xs (h.by l x e) m);
}

module _ {A L : Type 0} (link : List Token → Option L) (piece : L → Option (A × List Token)) (S : List Token → List Token → List A → Type 0) (chain : IsChain link piece S) where
  sound_turn : (n : ℕ) (ts : List Token) (xs : List A × List Token) (o : Option L) → link ts ≡ o
      → ((us : List Token) (ys : List A × List Token) → chain_at link piece n us ≡ Some ys → S us ys.1 ys.0)
      → turn_at piece (chain_at link piece n) ts o ≡ Some xs → S ts xs.1 xs.0
  sound_turn n ts xs None a rest e = spells S ts ts [] xs (chain.none ts) e
  sound_turn n ts xs (Some l) a rest e =
      let f = bind_some (piece l) (λ x. chain_at link piece n x.1 >>= λ ys. Some (x.0 ∷ ys.0, ys.1)) xs e in
      let g = bind_some (chain_at link piece n f.0.1) (λ ys. Some (f.0.0 ∷ ys.0, ys.1)) xs f.2 in
      spells S ts g.0.1 (f.0.0 ∷ g.0.0) xs (chain.more ts g.0.1 l f.0 g.0.0 a f.1 (rest f.0.1 g.0 g.1)) g.2

  sound_chain : (n : ℕ) (ts : List Token) (xs : List A × List Token) → chain_at link piece n ts ≡ Some xs → S ts xs.1 xs.0
  unfolding chain_at
  sound_chain zero ts xs e = spells S ts ts [] xs (chain.none ts) e
  sound_chain (suc n) ts xs e = sound_turn n ts xs (link ts) refl (sound_chain n) e

  pub sound_more : (front : List A) (ts : List Token) (xs : List A × List Token) → more_at link piece front ts ≡ Some xs → (ys : List A) × S ts xs.1 ys × (front ++ ys ≡ xs.0)
  unfolding more_at
  sound_more front ts xs e =
      let f = bind_some (chain_at link piece (length ts) ts) (λ y. Some (front ++ y.0, y.1)) xs e in
      let same = some_is (front ++ f.0.0, f.0.1) xs f.2 in
      (f.0.0, subst (λ (to : List Token). S ts to f.0.0) (ap (λ z. z.1) same) (sound_chain (length ts) ts f.0 f.1), ap (λ z. z.0) same)

-- one thing, and the rest of the chain
pub record Chained {A : Type 0} (R : Spelling A) (S : Spelling (List A)) (from to : List Token) (xs : List A) : Type 0 where
  pub first : A
  pub others : List A
  pub mid : List Token
  pub one : R from mid first
  pub more : S mid to others
  pub all : first ∷ others ≡ xs

pub sound_chained : {A : Type 0} (sign : Sign) (p : Parser A) (R : Spelling A) (S : Spelling (List A)) → Sound p R → IsChain (after sign) p S
    → (ts : List Token) (xs : List A × List Token) → chained_at sign p ts ≡ Some xs → Chained R S ts xs.1 xs.0
unfolding chained_at
sound_chained sign p R S h chain ts xs e =
    let f = bind_some (p ts) (λ x. more_at (after sign) p (x.0 ∷ []) x.1) xs e in
    let g = sound_more (after sign) p S chain (f.0.0 ∷ []) f.0.1 xs f.2 in
    record { first = f.0.0; others = g.0; mid = f.0.1; one = h.by ts f.0 f.1; more = g.1; all = g.2 }

-- what is made of a chain
pub made_sound : {A : Type 0} (sign : Sign) (p : Parser A) (R : Spelling A) (S : Spelling (List A)) (Q : Spelling A) (make : List A → A) → Sound p R → IsChain (after sign) p S
    → ((from mid to : List Token) (x : A) (xs : List A) → R from mid x → S mid to xs → Q from to (make (x ∷ xs)))
    → (ts : List Token) (y : A × List Token) → (chained_at sign p ts >>= λ xs. Some (make xs.0, xs.1)) ≡ Some y → Q ts y.1 y.0
made_sound sign p R S Q make h chain build ts y e =
    let g = bind_some (chained_at sign p ts) (λ xs. Some (make xs.0, xs.1)) y e in
    let m = sound_chained sign p R S h chain ts g.0 g.1 in
    spells Q ts g.0.1 (make g.0.0) y (subst (λ xs. Q ts g.0.1 (make xs)) m.all (build ts m.mid g.0.1 m.first m.others m.one m.more)) g.2

module _ {A : Type 0} (p : Parser A) (R : Spelling A) (h : Sound p R) where
  commas : IsChain (after (s.Mark marks.Comma)) p (IsMore R)
  commas = is_chain (s.Mark marks.Comma) p R (IsMore R) h (λ to. no_more) (λ from mid to x xs a m. comma a m)

  pub sound_list : Sound (list_at p) (IsList R)
  sound_list = record {
    by = λ ts xs e.
        let m = sound_chained (s.Mark marks.Comma) p R (IsMore R) h commas ts xs e in
        subst (λ ys. IsList R ts xs.1 ys) m.all (list m.one m.more);
  }

module _ {A : Type 0} (R : Spelling A) (t : Tame R) where
  more_shorter : {from to : List Token} {xs : List A} → IsMore R from to xs → length to ≤ length from
  more_shorter no_more = omega arith
  more_shorter (comma a b) = let p = t.shorter a in let q = more_shorter b in omega arith

  more_within : {from to : List Token} {xs : List A} → IsMore R from to xs → (d : ℕ) → HasRoom d from → HasRoom d to
  more_within no_more d h = h
  more_within (comma a b) d h = more_within b d (t.within a d h)

  list_shorter : {from to : List Token} {xs : List A} → IsList R from to xs → length to < length from
  list_shorter (list a b) = let p = t.shorter a in let q = more_shorter b in omega arith

  list_within : {from to : List Token} {xs : List A} → IsList R from to xs → (d : ℕ) → HasRoom d from → HasRoom d to
  list_within (list a b) d h = more_within b d (t.within a d h)

  pub tame_list : Tame (IsList R)
  tame_list = record { shorter = λ h. list_shorter h; within = λ h d w. list_within h d w }

-- what a chain reads where its parts are read
module _ {A L : Type 0} (link : List Token → Option L) (piece : L → Option (A × List Token)) where
  pub turn_done : (n : ℕ) (to : List Token) → link to ≡ None → chain_at link piece n to ≡ Some ([], to)
  unfolding chain_at
  turn_done zero to h = refl
  turn_done (suc n) to h = ap (turn_at piece (chain_at link piece n) to) h

  pub turn_goes : (n : ℕ) (ts mid to : List Token) (l : L) (x : A) (xs : List A) → link ts ≡ Some l → piece l ≡ Some (x, mid) → chain_at link piece n mid ≡ Some (xs, to) → chain_at link piece (suc n) ts ≡ Some (x ∷ xs, to)
  unfolding chain_at
  turn_goes n ts mid to l x xs a e f =
      ap (turn_at piece (chain_at link piece n) ts) a ∙ ap (λ o. o >>= λ y. chain_at link piece n y.1 >>= λ ys. Some (y.0 ∷ ys.0, ys.1)) e ∙ ap (λ o. o >>= λ ys. Some (x ∷ ys.0, ys.1)) f

  pub more_goes : (front xs : List A) (ts to : List Token) → chain_at link piece (length ts) ts ≡ Some (xs, to) → more_at link piece front ts ≡ Some (front ++ xs, to)
  unfolding more_at
  more_goes front xs ts to e = ap (with_front front) e

-- one more piece behind its sign
pub sign_goes : {A : Type 0} (sign : Sign) (p : Parser A) (n : ℕ) (from mid to : List Token) (x : A) (xs : List A) → p from ≡ Some (x, mid) → chain_at (after sign) p n mid ≡ Some (xs, to) → chain_at (after sign) p (suc n) (Fixed sign ∷ from) ≡ Some (x ∷ xs, to)
sign_goes sign p n from mid to x xs e f = turn_goes (after sign) p n (Fixed sign ∷ from) mid to from x xs (sees sign from) e f

-- what may follow each member of a list
pub record GoesOn (F : List Token → Type 0) : Type 0 where
  pub comma : (ts : List Token) → F (Fixed (s.Mark marks.Comma) ∷ ts)

module _ {A : Type 0} (p : Parser A) (R : Spelling A) (t : Tame R) (d : ℕ) (F : List Token → Type 0) (g : GoesOn F) (h : Complete p R d F) where
  more_ends : {from to : List Token} {xs : List A} → IsMore R from to xs → F to → F from
  more_ends no_more f = f
  more_ends (comma {from = from} a b) f = g.comma from

  more_read : {from to : List Token} {xs : List A} → IsMore R from to xs → (k : ℕ) → HasRoom d from → length from ≤ k → F to → Stops (s.Mark marks.Comma) to → chain_at (after (s.Mark marks.Comma)) p k from ≡ Some (xs, to)
  more_read (no_more {to = to}) k w l f n = turn_done (after (s.Mark marks.Comma)) p k to n
  more_read (comma a b) zero w l f n = absurd (omega arith)
  more_read (comma {from = from} {mid = mid} {to = to} {x = x} {xs = xs} a b) (suc k) w l f n =
      let lt = t.shorter a in
      sign_goes (s.Mark marks.Comma) p k from mid to x xs (h.by a w (more_ends b f)) (more_read b k (t.within a d w) (omega arith) f n)

  pub list_read : {from to : List Token} {xs : List A} → IsList R from to xs → HasRoom d from → F to → Stops (s.Mark marks.Comma) to → list_at p from ≡ Some (xs, to)
  unfolding chained_at
  list_read (list {from = from} {mid = mid} {to = to} {x = x} {xs = xs} a b) w f n =
      ap (λ o. o >>= λ y. more_at (after (s.Mark marks.Comma)) p (y.0 ∷ []) y.1) (h.by a w (more_ends b f)) ∙ more_goes (after (s.Mark marks.Comma)) p (x ∷ []) xs mid to (more_read b (length mid) (t.within a d w) (omega arith) f n)
