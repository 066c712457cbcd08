-- How far a write of a text has come.
use Rattle.std.proofs.Common.{◌≡◌, ◌∙◌, ◌++◌, ◌∷◌, ◌<◌, ◌+◌, ◌==◌, [], ℕ, List, Option, zero, suc, true, false, length, take, drop, refl, sym, ap, subst, arith, append_assoc, length-append, rules}
use Rattle.std.proofs.lemmas.List.{append-nil, take-append-drop}
use Rattle.std.proofs.lemmas.Bool.Decides.{nat_tests}
use Rattle.std.proofs.lemmas.Grind.{common_steps}
use Rattle.std.proofs.KnownBytes.{Appends-nil, Appends-trans}
use Rattle.std.specs.Io.KnownBytes.{Appends}
use Rattle.ssb_rows.specs.Taking.{GrewAlike, IsBeginning, refusals}
use Rattle.ssb_rows.specs.Writing.{IsPut}

-- these bytes are taken, and those are left
pub record Written (old new gone rest text : List ℕ) (failed_old failed_new : ℕ) : Type 0 where
  pub split : text ≡ gone ++ rest
  pub taken : new ≡ old ++ gone
  pub clean : failed_new ≡ failed_old

pub written-start : (old text : List ℕ) (failed : ℕ) → Written old old [] text text failed failed
written-start old text failed = record { split = refl; taken = search (rules, common_steps); clean = refl }

pub written-more : (old now next gone rest text : List ℕ) (n f g h : ℕ) → 0 < n → Written old now gone rest text f g → next ≡ now ++ take n rest → h ≡ g + refusals n rest → Written old next (gone ++ take n rest) (drop n rest) text f h
written-more old now next gone rest text n f g h pos w e k = record {
  split = w.split ∙ ap (λ t. gone ++ t) (sym (take-append-drop n rest)) ∙ sym (append_assoc gone (take n rest) (drop n rest));
  taken = e ∙ ap (λ t. t ++ take n rest) w.taken ∙ append_assoc old gone (take n rest);
  clean = let c = w.clean in grind (arith, nat_tests, k, c);
}

-- one failure more, where none of some bytes was taken
pub failed-once : {A : Type 0} (old new : List A) (x : A) (n : ℕ) (bytes : List ℕ) → new ≡ old ++ x ∷ [] → n ≡ 0 → (length bytes == 0) ≡ false → length new ≡ length old + refusals n bytes
failed-once old new x n bytes e z some = let l = ap length e ∙ length-append old (x ∷ []) in grind (arith, nat_tests, l, z, some)

-- no failure more, where some were taken or there were none
pub failed-not : (f g n : ℕ) (bytes : List ℕ) → g ≡ f → (n ≡ 0 → (length bytes == 0) ≡ true) → g ≡ f + refusals n bytes
failed-not f g zero bytes k none = let e = none refl in grind (arith, nat_tests, k, e)
failed-not f g (suc n) bytes k none = grind (arith, nat_tests, k)

-- one more write of what is left, which is a slice of the text
pub written-slice : (old now next gone rest left text : List ℕ) (n f g h : ℕ) → 0 < n → Written old now gone rest text f g → next ≡ now ++ take n rest → h ≡ g + refusals n rest → left ≡ drop n rest → Written old next (gone ++ take n rest) left text f h
written-slice old now next gone rest left text n f g h pos w e k s = subst (λ l. Written old next (gone ++ take n rest) l text f h) (sym s) (written-more old now next gone rest text n f g h pos w e k)

pub written-all : (old now gone text : List ℕ) (f g : ℕ) → Written old now gone [] text f g → now ≡ old ++ text
written-all old now gone text f g w = w.taken ∙ ap (λ t. old ++ t) (sym (append-nil gone) ∙ sym w.split)

pub written-some : (old now next gone rest text : List ℕ) (f g : ℕ) → Written old now gone rest text f g → next ≡ now → IsBeginning old next text
written-some old now next gone rest text f g w e = record { gone = gone; left = rest; split = w.split; taken = e ∙ w.taken }

-- a beginning of the front is one of the whole
pub begins-front : (old new front back : List ℕ) → IsBeginning old new front → IsBeginning old new (front ++ back)
begins-front old new front back b = record { gone = b.gone; left = b.left ++ back; split = ap (λ t. t ++ back) b.split ∙ append_assoc b.gone b.left back; taken = b.taken }

-- one put after another
pub puts-more : (a b c p x q y r : List ℕ) → IsPut a b (p ++ x) q → IsPut b c (q ++ y) r → IsPut a c (p ++ (x ++ y)) r
puts-more a b c p x q y r f g = record {
  gone = f.gone ++ g.gone;
  split = sym (append_assoc p x y) ∙ ap (λ t. t ++ y) f.split ∙ append_assoc f.gone q y ∙ ap (λ t. f.gone ++ t) g.split ∙ sym (append_assoc f.gone g.gone r);
  taken = g.taken ∙ ap (λ t. t ++ g.gone) f.taken ∙ append_assoc a f.gone g.gone;
}

-- a put, and then a failure
pub puts-began : (a b c p x q y : List ℕ) → IsPut a b (p ++ x) q → IsBeginning b c (q ++ y) → IsBeginning a c (p ++ (x ++ y))
puts-began a b c p x q y f g = record {
  gone = f.gone ++ g.gone;
  left = g.left;
  split = sym (append_assoc p x y) ∙ ap (λ t. t ++ y) f.split ∙ append_assoc f.gone q y ∙ ap (λ t. f.gone ++ t) g.split ∙ sym (append_assoc f.gone g.gone g.left);
  taken = g.taken ∙ ap (λ t. t ++ g.gone) f.taken ∙ append_assoc a f.gone g.gone;
}

-- a failure in the front
pub begins-more : (a c p x y : List ℕ) → IsBeginning a c (p ++ x) → IsBeginning a c (p ++ (x ++ y))
begins-more a c p x y b = record { gone = b.gone; left = b.left ++ y; split = sym (append_assoc p x y) ∙ ap (λ t. t ++ y) b.split ∙ append_assoc b.gone b.left y; taken = b.taken }

-- all is written once nothing waits
pub puts-end : (a b c t q : List ℕ) → IsPut a b t q → c ≡ b ++ q → c ≡ a ++ t
puts-end a b c t q f e = e ∙ ap (λ u. u ++ q) f.taken ∙ append_assoc a f.gone q ∙ ap (λ u. a ++ u) (sym f.split)

pub puts-end_began : (a b c t q : List ℕ) → IsPut a b t q → IsBeginning b c q → IsBeginning a c t
puts-end_began a b c t q f g = record {
  gone = f.gone ++ g.gone;
  left = g.left;
  split = f.split ∙ ap (λ u. f.gone ++ u) g.split ∙ sym (append_assoc f.gone g.gone g.left);
  taken = g.taken ∙ ap (λ u. u ++ g.gone) f.taken ∙ append_assoc a f.gone g.gone;
}

-- nothing taken, and nothing more held
pub grew-none : (t : List ℕ) (c : Option (List ℕ)) → GrewAlike t t c c
grew-none t c = record { gone = []; taken = sym (append-nil t); contents = Appends-nil c }

-- one growth after another
pub grew-both : (t u v : List ℕ) (a b c : Option (List ℕ)) → GrewAlike t u a b → GrewAlike u v b c → GrewAlike t v a c
grew-both t u v a b c g h = record {
  gone = g.gone ++ h.gone;
  taken = h.taken ∙ ap (λ l. l ++ h.gone) g.taken ∙ append_assoc t g.gone h.gone;
  contents = Appends-trans a b c g.gone h.gone g.contents h.contents;
}

-- a growth, and then a write
pub grew-more : (t u v x : List ℕ) (a b c : Option (List ℕ)) → GrewAlike t u a b → v ≡ u ++ x → Appends b c x → GrewAlike t v a c
grew-more t u v x a b c g e h = grew-both t u v a b c g (record { gone = x; taken = e; contents = h })
