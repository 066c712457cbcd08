-- One put after another.
use Rattle.std.proofs.Common.{◌≡◌, ◌∙◌, ◌++◌, ◌∷◌, ◌<◌, [], ℕ, List, Option, refl, sym, ap, map, subst, arith, append_assoc, Result, Ok, Err, OnOk, OnErr}
use Rattle.std.proofs.lemmas.List.{append-nil}
use Rattle.std.specs.List.{join_with_byte}
use Rattle.ssb_rows.specs.Taking.{GrewAlike, IsBeginning}
use Rattle.ssb_rows.specs.Writing.{IsPut, barred, Desk, Puts, Breaks, Writes, desk}
use Rattle.ssb_rows.proofs.Written.{begins-front, grew-none, grew-both, puts-more, puts-began, begins-more, puts-end, puts-end_began}
use Rattle.ssb_rows.specs.Text.{cell_text, line, text_of}
use Rattle.ssb_rows.specs.Order.{Row}
use Rattle.ssb_cells.specs.Cell.{Cell}

-- the text so far is put, and this is left of it
pub record Going (old now : Desk) (text left : List ℕ) : Type 0 where
  pub done : List ℕ
  pub split : text ≡ done ++ left
  pub puts : Puts old now done

pub nothing-put : (d : Desk) → Puts d d []
nothing-put d = record { put = record { gone = []; split = append-nil d.waits; taken = sym (append-nil d.taken) }; clean = refl; grew = grew-none d.taken d.contents }

pub puts-both : (a b c : Desk) (x y : List ℕ) → Puts a b x → Puts b c y → Puts a c (x ++ y)
puts-both a b c x y p q = record { put = puts-more a.taken b.taken c.taken a.waits x b.waits y c.waits p.put q.put; clean = q.clean ∙ p.clean; grew = grew-both _ _ _ _ _ _ p.grew q.grew }

pub puts-then-breaks : (a b c : Desk) (x y : List ℕ) → Puts a b x → Breaks b c y → Breaks a c (x ++ y)
puts-then-breaks a b c x y p q = record { began = puts-began a.taken b.taken c.taken a.waits x b.waits y p.put q.began; failed = let e = p.clean in let h = q.failed in omega (arith, e, h); grew = grew-both _ _ _ _ _ _ p.grew q.grew }

pub breaks-front : (a c : Desk) (x y : List ℕ) → Breaks a c x → Breaks a c (x ++ y)
breaks-front a c x y q = record { began = begins-more a.taken c.taken a.waits x y q.began; failed = q.failed; grew = q.grew }

-- bytes kept in the page
pub puts-kept : (t w : List ℕ) (f : ℕ) (k : Option (List ℕ)) (x kept : List ℕ) → kept ≡ w ++ x → Puts (desk t w f k) (desk t kept f k) x
puts-kept t w f k x kept e = record { put = record { gone = []; split = sym e; taken = sym (append-nil t) }; clean = refl; grew = grew-none t k }

-- all that waited went out
pub puts-flushed : (t w t2 empty : List ℕ) (f f2 : ℕ) (k k2 : Option (List ℕ)) → t2 ≡ t ++ w → empty ≡ [] → f2 ≡ f → GrewAlike t t2 k k2 → Puts (desk t w f k) (desk t2 empty f2 k2) []
puts-flushed t w t2 empty f f2 k k2 wrote e clean grew = record { put = record { gone = w; split = ap (λ q. w ++ q) (sym e); taken = wrote }; clean = clean; grew = grew }

-- what waited went out in part
pub breaks-flushed : (t w t2 w2 x : List ℕ) (f f2 : ℕ) (k k2 : Option (List ℕ)) → IsBeginning t t2 w → f < f2 → GrewAlike t t2 k k2 → Breaks (desk t w f k) (desk t2 w2 f2 k2) x
breaks-flushed t w t2 w2 x f f2 k k2 began failed grew = record { began = begins-front t t2 w x began; failed = failed; grew = grew }

-- bytes written past an empty page
pub writes-past : {E : Type 0} (r : Result (Unit {0}) E) (t t2 empty x : List ℕ) (f f2 : ℕ) (k k2 : Option (List ℕ)) → empty ≡ [] → OnOk r (t2 ≡ t ++ x) → OnOk r (f2 ≡ f) → OnErr r (f < f2) → OnErr r (IsBeginning t t2 x) → GrewAlike t t2 k k2
    → Writes r (desk t empty f k) (desk t2 empty f2 k2) x
writes-past (Ok u) t t2 empty x f f2 k k2 e wrote clean failed began grew = record { put = record { gone = x; split = ap (λ q. q ++ x) e ∙ sym (append-nil x) ∙ ap (λ q. x ++ q) (sym e); taken = wrote }; clean = clean; grew = grew }
writes-past (Err s) t t2 empty x f f2 k k2 e wrote clean failed began grew = record { began = subst (λ q. IsBeginning t t2 (q ++ x)) (sym e) began; failed = failed; grew = grew }

pub going-start : (d : Desk) (text : List ℕ) → Going d d text text
going-start d text = record { done = []; split = refl; puts = nothing-put d }

pub going-more : (a b c : Desk) (text x left : List ℕ) → Going a b text (x ++ left) → Puts b c x → Going a c text left
going-more a b c text x left w p = record { done = w.done ++ x; split = w.split ∙ sym (append_assoc w.done x left); puts = puts-both a b c w.done x w.puts p }

pub going-breaks : (a b c : Desk) (text x left : List ℕ) → Going a b text (x ++ left) → Breaks b c x → Breaks a c text
going-breaks a b c text x left w q = subst (Breaks a c) (sym w.split) (puts-then-breaks a b c w.done (x ++ left) w.puts (breaks-front b c x left q))

pub going-end : (a b : Desk) (text : List ℕ) → Going a b text [] → Puts a b text
going-end a b text w = subst (Puts a b) (sym (w.split ∙ append-nil w.done)) w.puts

-- fields joined by bars
pub joined : (x : List ℕ) (xs : List (List ℕ)) → join_with_byte 124 (x ∷ xs) ≡ x ++ barred xs
joined x [] = sym (append-nil x)
joined x (y ∷ ys) = ap (λ t. x ++ (124 ∷ t)) (joined y ys)

-- the front of what is left
pub field-on : (a b : Desk) (text : List ℕ) (rest fs : Row) (f : Cell) → Going a b text (barred (map cell_text rest)) → rest ≡ f ∷ fs → Going a b text ((124 ∷ []) ++ (cell_text f ++ barred (map cell_text fs)))
field-on a b text rest fs f w e = subst (λ r. Going a b text (barred (map cell_text r))) e w

pub row-on : (a b : Desk) (text : List ℕ) (rest rs : List Row) (r : Row) → Going a b text (text_of rest) → rest ≡ r ∷ rs → Going a b text (line r ++ text_of rs)
row-on a b text rest rs r w e = subst (λ q. Going a b text (text_of q)) e w

pub fields-are : (fields fs : Row) (f : Cell) → fields ≡ f ∷ fs → join_with_byte 124 (map cell_text fields) ≡ cell_text f ++ barred (map cell_text fs)
fields-are fields fs f e = ap (λ q. join_with_byte 124 (map cell_text q)) e ∙ joined (cell_text f) (map cell_text fs)

pub no-fields : (d : Desk) (fields : Row) → fields ≡ [] → Puts d d (join_with_byte 124 (map cell_text fields))
no-fields d fields e = subst (λ q. Puts d d (join_with_byte 124 (map cell_text q))) (sym e) (nothing-put d)

pub writes-after : {E : Type 0} (r : Result (Unit {0}) E) (a b c : Desk) (x y : List ℕ) → Puts a b x → Writes r b c y → Writes r a c (x ++ y)
writes-after (Ok u) a b c x y p w = puts-both a b c x y p w
writes-after (Err e) a b c x y p w = puts-then-breaks a b c x y p w

-- what went out from an empty page is a beginning of the text
pub ends_began : (a b c t q w : List ℕ) → w ≡ [] → IsPut a b (w ++ t) q → IsBeginning b c q → IsBeginning a c t
ends_began a b c t q w e f g = puts-end_began a b c t q (subst (λ v. IsPut a b (v ++ t) q) e f) g

pub ends : (a b c t q w : List ℕ) → w ≡ [] → IsPut a b (w ++ t) q → c ≡ b ++ q → c ≡ a ++ t
ends a b c t q w e f g = puts-end a b c t q (subst (λ v. IsPut a b (v ++ t) q) e f) g

pub fails_began : (a b t w : List ℕ) → w ≡ [] → IsBeginning a b (w ++ t) → IsBeginning a b t
fails_began a b t w e f = subst (λ v. IsBeginning a b (v ++ t)) e f

pub breaks-line : (a c : Desk) (fields : Row) → Breaks a c (join_with_byte 124 (map cell_text fields)) → Breaks a c (line fields)
breaks-line a c fields b = breaks-front a c _ _ b

pub writes-line : {E : Type 0} (r : Result (Unit {0}) E) (a b c : Desk) (fields : Row) → Puts a b (join_with_byte 124 (map cell_text fields)) → Writes r b c (10 ∷ []) → Writes r a c (line fields)
writes-line r a b c fields p w = writes-after r a b c _ _ p w
