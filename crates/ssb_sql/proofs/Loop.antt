-- Reading a chain by a loop.
use Rattle.std.proofs.Common.{◌≡◌, ℕ, zero, suc, ◌<◌, ◌≤◌, List, [], ◌∷◌, ◌++◌, length, Option, Some, None, refl, sym, ap, ◌∙◌, append_assoc, arith}
use Rattle.std.proofs.lemmas.List.{append-nil}
use Rattle.ssb_tokens.specs.declared.token.Sign.{Sign}
use Rattle.ssb_tokens.specs.declared.token.Token.{Token}
use Rattle.ssb_tokens.specs.declared.stop.Stop.{Stop}
use Rattle.ssb_tokens.specs.declared.stop.Stop.TheVariants as stop
use Rattle.ssb_tokens.specs.Reading.{Fails, ◌>>=◌}
use Rattle.ssb_sql.specs.Steps.{Parser, after, turn_at, chain_at, with_front, more_at, chained_at, Shrinks}

-- one thing in front
abbrev put : {A : Type 0} → A → Option (List A × List Token) → Option (List A × List Token)
put y read = read >>= λ xs. Some (y ∷ xs.0, xs.1)

regroup : {A : Type 0} (front : List A) (y : A) (read : Option (List A × List Token)) → with_front front (put y read) ≡ with_front (front ++ y ∷ []) read
regroup front y None = refl
regroup front y (Some x) = ap (λ l. Some (l, x.1)) (sym (append_assoc front (y ∷ []) x.0))

-- one thing, and more
abbrev joined : {A : Type 0} → Option (A × List Token) → Parser (List A) → Option (List A × List Token)
joined o f = o >>= λ x. put x.0 (f x.1)

-- the first piece
pub first_goes : {A : Type 0} (sign : Sign) (p : Parser A) (ts end : List Token) (x : A) → p ts ≡ Some (x, end) → more_at (after sign) p (x ∷ []) end ≡ chained_at sign p ts
unfolding chained_at
first_goes sign p ts end x e = rw e refl

-- nothing is made of what was not read
pub bind_fails : {A B : Type 0} (e : Stop) (read : Option A) (f : A → Option B) → Fails e read → Fails e (read >>= f)
bind_fails stop.Memory read f h = tt
bind_fails stop.Syntax read f h = rw h refl

pub first_fails : {A : Type 0} (sign : Sign) (p : Parser A) (e : Stop) (ts : List Token) → Fails e (p ts) → Fails e (chained_at sign p ts)
unfolding chained_at
first_fails sign p e ts f = bind_fails e (p ts) (λ x. more_at (after sign) p (x.0 ∷ []) x.1) f

module _ {A L : Type 0} (link : List Token → Option L) (piece : L → Option (A × List Token)) (h : Shrinks link piece) where
  same_read : (o : Option (A × List Token)) (f g : Parser (List A)) → ((x : A × List Token) → o ≡ Some x → f x.1 ≡ g x.1) → joined o f ≡ joined o g
  same_read None f g e = refl
  same_read (Some x) f g e = ap (put x.0) (e x refl)

  same_turn : (ts : List Token) (o : Option L) (f g : Parser (List A)) → link ts ≡ o → ((us : List Token) → length us < length ts → f us ≡ g us) → turn_at piece f ts o ≡ turn_at piece g ts o
  same_turn ts None f g a e = refl
  same_turn ts (Some l) f g a e = same_read (piece l) f g (λ x q. e x.1 (h.by ts l x a q))

  nil_turn : (f : Parser (List A)) → turn_at piece f [] (link []) ≡ Some ([], [])
  nil_turn f = ap (turn_at piece f []) h.nil

  -- enough turns are enough
  same_chain : (m n : ℕ) (ts : List Token) → length ts ≤ m → length ts ≤ n → chain_at link piece m ts ≡ chain_at link piece n ts
  unfolding chain_at
  same_chain zero zero ts a b = refl
  same_chain zero (suc n) [] a b = sym (nil_turn (chain_at link piece n))
  same_chain zero (suc n) (t ∷ ts) a b = absurd (omega arith)
  same_chain (suc m) zero [] a b = nil_turn (chain_at link piece m)
  same_chain (suc m) zero (t ∷ ts) a b = absurd (omega arith)
  same_chain (suc m) (suc n) ts a b = same_turn ts (link ts) (chain_at link piece m) (chain_at link piece n) refl (λ us lt. same_chain m n us (omega arith) (omega arith))

  -- one more turn
  step_is : (k : ℕ) (ts : List Token) (l : L) (o : Option (A × List Token)) → link ts ≡ Some l → piece l ≡ o → chain_at link piece (suc k) ts ≡ joined o (chain_at link piece k)
  unfolding chain_at
  step_is k ts l o a e = ap (turn_at piece (chain_at link piece k) ts) a ∙ ap (λ q. joined q (chain_at link piece k)) e

  whole_is : (ts : List Token) (l : L) (o : Option (A × List Token)) → link ts ≡ Some l → piece l ≡ o → chain_at link piece (length ts) ts ≡ joined o (chain_at link piece (length ts))
  whole_is ts l o a e = same_chain (length ts) (suc (length ts)) ts (omega arith) (omega arith) ∙ step_is (length ts) ts l o a e

  pub goes_on : (front : List A) (ts end : List Token) (l : L) (y : A) (total : Option (List A × List Token)) → link ts ≡ Some l → piece l ≡ Some (y, end)
      → more_at link piece front ts ≡ total → more_at link piece (front ++ y ∷ []) end ≡ total
  unfolding more_at
  goes_on front ts end l y total a e so_far =
      let lt : length end < length ts = h.by ts l (y, end) a e in
      let one : chain_at link piece (length ts) ts ≡ put y (chain_at link piece (length end) end)
      = whole_is ts l (Some (y, end)) a e ∙ ap (put y) (same_chain (length ts) (length end) end (omega arith) (omega arith)) in
      sym (regroup front y (chain_at link piece (length end) end)) ∙ ap (with_front front) (sym one) ∙ so_far

  fails : (front : List A) (ts : List Token) (l : L) (total : Option (List A × List Token)) → link ts ≡ Some l → piece l ≡ None
      → more_at link piece front ts ≡ total → total ≡ None
  unfolding more_at
  fails front ts l total a e so_far = sym so_far ∙ ap (with_front front) (whole_is ts l None a e)

  done_at : (k : ℕ) (ts : List Token) → link ts ≡ None → chain_at link piece k ts ≡ Some ([], ts)
  unfolding chain_at
  done_at zero ts a = refl
  done_at (suc k) ts a = ap (turn_at piece (chain_at link piece k) ts) a

  pub is_done : (front : List A) (ts : List Token) (total : Option (List A × List Token)) → link ts ≡ None
      → more_at link piece front ts ≡ total → total ≡ Some (front, ts)
  unfolding more_at
  is_done front ts total a so_far = sym so_far ∙ ap (with_front front) (done_at (length ts) ts a) ∙ ap (λ l. Some (l, ts)) (append-nil front)

  pub turn_fails : (e : Stop) (front : List A) (ts : List Token) (l : L) (total : Option (List A × List Token)) → link ts ≡ Some l → Fails e (piece l)
      → more_at link piece front ts ≡ total → Fails e total
  turn_fails stop.Memory front ts l total a f so_far = tt
  turn_fails stop.Syntax front ts l total a f so_far = fails front ts l total a f so_far

  pub shorter_by : (ts end : List Token) (l : L) (y : A) → link ts ≡ Some l → piece l ≡ Some (y, end) → length end < length ts
  shorter_by ts end l y a e = h.by ts l (y, end) a e
