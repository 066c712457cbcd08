-- What the different texts of a list of values are, and the places of each.
use Rattle.std.proofs.Common.{◌≡◌, ◌∙◌, ◌++◌, ◌||◌, ◌+◌, ◌≤◌, ◌<◌, ◌↔◌, ◌⊎◌, inl, inr, ⊎_elim, ℕ, zero, suc, nat_lt, Bool, true, false, not, bytes_eq, List, [], ◌∷◌, Option, None, Some, is_some, option_map, Contains, length, get_or, slice_get, position, fold, cond, refl, sym, ap, arith, length-append, true≢false}
use Rattle.std.specs.Cmp.Lexicographic.{bytes_decides, nat_list_eq_equiv}
use Rattle.std.specs.List.{list_any, position_or_len, IsDistinct}
use Rattle.std.proofs.lemmas.Bool.{or_cases, ltb-true, ltb-false, lt-ltb}
use Rattle.std.proofs.lemmas.List.{get_or_push, get_or_append_left}
use Rattle.std.proofs.lemmas.List.Folds.{list_any-append, list_any_at}
use Rattle.std.proofs.lemmas.List.Quantifiers.{position-Some}
use Rattle.std.proofs.lemmas.List.Sums.{position_or_len_is, passes_at_first, prefix_len-le-length}
use Rattle.std.proofs.lemmas.Map.Keys.{IsDistinct-push, apart_from_distinct}
use Rattle.std.proofs.lemmas.Option.{get_or_from_slice_get, none-some, same_Some, slice_get-get_or, slice_get_within}
use Rattle.ssb_cells.specs.Cell.{Cell, null, number, text}
use Rattle.ssb_cells.specs.Codes.{with_text, texts_of, code_of, cell_code, code_at}

-- one value more
pub texts-more : (values : List Cell) (c : Cell) → texts_of (values ++ c ∷ []) ≡ with_text (texts_of values) c
texts-more values c = more [] values
  where
    more : (texts : List (List ℕ)) (values : List Cell) → fold with_text texts (values ++ c ∷ []) ≡ with_text (fold with_text texts values) c
    more texts [] = refl
    more texts (v ∷ values) = more (with_text texts v) values

-- where a text is among the others, they stay
pub with-known : (texts : List (List ℕ)) (t : List ℕ) → list_any (bytes_eq t) texts ≡ true → with_text texts (text t) ≡ texts
with-known texts t known = rw known refl

pub with-new : (texts : List (List ℕ)) (t : List ℕ) → list_any (bytes_eq t) texts ≡ false → with_text texts (text t) ≡ texts ++ t ∷ []
with-new texts t new = rw new refl

-- at most one text for each value
pub length-with : (texts : List (List ℕ)) (c : Cell) → length (with_text texts c) ≤ length texts + 1
length-with texts null = omega arith
length-with texts (number n) = omega arith
length-with texts (text t) = by (list_any (bytes_eq t) texts) refl
  where
    by : (b : Bool) → list_any (bytes_eq t) texts ≡ b → length (with_text texts (text t)) ≤ length texts + 1
    by true e = rw (with-known texts t e) (omega arith)
    by false e = let n = length-append texts (t ∷ []) in rw (with-new texts t e) (omega arith)

pub length-fold : (texts : List (List ℕ)) (values : List Cell) → length (fold with_text texts values) ≤ length texts + length values
length-fold texts [] = omega arith
length-fold texts (v ∷ values) = let one = length-with texts v in let rest = length-fold (with_text texts v) values in omega (arith, one, rest)

pub length-texts : (values : List Cell) → length (texts_of values) ≤ length values
length-texts values = let n = length-fold [] values in omega (arith, n)

pub same : (a b : List ℕ) → bytes_eq a b ≡ true → a ≡ b
same a b e = (bytes_decides a b).0 e

-- a list has a text exactly where its first place is in the list
pub place-any : {X : Type 0} (p : X → Bool) (xs : List X) → list_any p xs ≡ nat_lt (position_or_len p xs) (length xs)
place-any p [] = refl
place-any p (x ∷ xs) = next (p x) (list_any p xs) (position_or_len p xs) (length xs) (place-any p xs)
  where
    next : (b a : Bool) (n len : ℕ) → a ≡ nat_lt n len → (b || a) ≡ nat_lt (cond (not b) (1 + n) 0) (suc len)
    next true a n len e = grind arith
    next false a n len e = grind (arith, e)

pub found-any : {X : Type 0} (p : X → Bool) (xs : List X) → is_some (position p xs) ≡ list_any p xs
found-any p xs = some (nat_lt (position_or_len p xs) (length xs)) ∙ sym (place-any p xs)
  where
    some : (b : Bool) → is_some (cond b (Some (position_or_len p xs)) None) ≡ b
    some true = refl
    some false = refl

-- where no text is found, the place is behind the last
pub place-new : (texts : List (List ℕ)) (t : List ℕ) → list_any (bytes_eq t) texts ≡ false → position_or_len (bytes_eq t) texts ≡ length texts
place-new texts t new =
    let le = prefix_len-le-length (λ x. not (bytes_eq t x)) texts in
    let ge = ltb-false _ _ (sym (place-any (bytes_eq t) texts) ∙ new) in
    omega (arith, le, ge)

-- and else the text is there
pub place-known : (texts : List (List ℕ)) (t : List ℕ) → list_any (bytes_eq t) texts ≡ true → (position_or_len (bytes_eq t) texts < length texts) × (get_or texts (position_or_len (bytes_eq t) texts) [] ≡ t)
place-known texts t known =
    let lt : position_or_len (bytes_eq t) texts < length texts = ltb-true _ _ (sym (place-any (bytes_eq t) texts) ∙ known) in
    (lt, sym (same t _ (passes_at_first (bytes_eq t) texts [] lt)))

-- with one text more, it has its code
pub own-code : (texts : List (List ℕ)) (t : List ℕ) → (position_or_len (bytes_eq t) texts < length (with_text texts (text t))) × (get_or (with_text texts (text t)) (position_or_len (bytes_eq t) texts) [] ≡ t)
own-code texts t = by (list_any (bytes_eq t) texts) refl
  where
    by : (b : Bool) → list_any (bytes_eq t) texts ≡ b → (position_or_len (bytes_eq t) texts < length (with_text texts (text t))) × (get_or (with_text texts (text t)) (position_or_len (bytes_eq t) texts) [] ≡ t)
    by true e = rw (with-known texts t e) (place-known texts t e)
    by false e = let n = length-append texts (t ∷ []) in rw (with-new texts t e, place-new texts t e) (omega (arith, n), get_or_push texts t [] (length texts) refl)

-- and the others keep theirs
pub kept-code : (texts : List (List ℕ)) (c : Cell) (code : ℕ) → code < length texts → (code < length (with_text texts c)) × (get_or (with_text texts c) code [] ≡ get_or texts code [])
kept-code texts null code lt = (lt, refl)
kept-code texts (number n) code lt = (lt, refl)
kept-code texts (text t) code lt = by (list_any (bytes_eq t) texts) refl
  where
    by : (b : Bool) → list_any (bytes_eq t) texts ≡ b → (code < length (with_text texts (text t))) × (get_or (with_text texts (text t)) code [] ≡ get_or texts code [])
    by true e = rw (with-known texts t e) (lt, refl)
    by false e = let n = length-append texts (t ∷ []) in rw (with-new texts t e) (omega (arith, n, lt), get_or_append_left texts (t ∷ []) [] code lt)

-- the texts are all different
pub distinct-with : (texts : List (List ℕ)) (c : Cell) → IsDistinct bytes_eq texts → IsDistinct bytes_eq (with_text texts c)
distinct-with texts null d = d
distinct-with texts (number n) d = d
distinct-with texts (text t) d = by (list_any (bytes_eq t) texts) refl
  where
    by : (b : Bool) → list_any (bytes_eq t) texts ≡ b → IsDistinct bytes_eq (with_text texts (text t))
    by true e = rw (with-known texts t e) d
    by false e = rw (with-new texts t e) (IsDistinct-push nat_list_eq_equiv texts t d e)

pub no-text : IsDistinct bytes_eq []
unfolding IsDistinct
no-text = tt

distinct-texts : (values : List Cell) → IsDistinct bytes_eq (texts_of values)
distinct-texts values = more [] values no-text
  where
    more : (texts : List (List ℕ)) (values : List Cell) → IsDistinct bytes_eq texts → IsDistinct bytes_eq (fold with_text texts values)
    more texts [] d = d
    more texts (v ∷ values) d = more (with_text texts v) values (distinct-with texts v d)

-- so each is found at its own place
pub own-place-of : (texts : List (List ℕ)) (t : List ℕ) (code : ℕ) → IsDistinct bytes_eq texts → slice_get texts code ≡ Some t → position (bytes_eq t) texts ≡ Some code
own-place-of texts t code d there =
    let lt = slice_get_within texts code t there in
    let is = get_or_from_slice_get texts code t [] there in
    let at : position_or_len (bytes_eq t) texts ≡ code =
    position_or_len_is (bytes_eq t) texts code [] (omega (arith, lt)) (λ k below. rw is at (nat_list_eq_equiv.symm (get_or texts code []) _ ∙ apart_from_distinct bytes_eq texts k code [] d below lt)) (λ _. rw is (nat_list_eq_equiv.refl t)) in
    rw at (ap (λ b. cond b (Some code) None) (lt-ltb code (length texts) lt))

pub code-of : (values : List Cell) (code : ℕ) → code < length (texts_of values) → code_of values (get_or (texts_of values) code []) ≡ Some code
code-of values code lt =
    let texts = texts_of values in
    let t = get_or texts code [] in
    let d = distinct-texts values in
    let at : position_or_len (bytes_eq t) texts ≡ code = position_or_len_is (bytes_eq t) texts code [] (omega arith) (λ k below. nat_list_eq_equiv.symm t _ ∙ apart_from_distinct bytes_eq texts k code [] d below lt) (λ _. nat_list_eq_equiv.refl t) in
    (rw at (ap (λ b. cond b (Some code) None) (lt-ltb code (length texts) lt)))

-- and a code finds the text that has it
pub text-of : (values : List Cell) (t : List ℕ) (code : ℕ) → code_of values t ≡ Some code → slice_get (texts_of values) code ≡ Some t
text-of values t code e =
    let p = position-Some (bytes_eq t) (texts_of values) code t e in
    slice_get-get_or (texts_of values) code t p.0 ∙ ap Some (sym (same t _ p.1))

-- the law of codes
text-at : (values : List Cell) (c : Option Cell) (code : ℕ) → cell_code values c ≡ Some code → option_map text (slice_get (texts_of values) code) ≡ c
text-at values None code e = absurd (none-some code e)
text-at values (Some null) code e = absurd (none-some code e)
text-at values (Some (number n)) code e = absurd (none-some code e)
text-at values (Some (text t)) code e = ap (option_map text) (text-of values t code e)

pub codes-tell : (values : List Cell) (i j a b : ℕ) → code_at values i ≡ Some a → code_at values j ≡ Some b → (a ≡ b) ↔ (slice_get values i ≡ slice_get values j)
codes-tell values i j a b at_i at_j = (
  λ e. sym (text-at values _ a at_i) ∙ ap (λ c. option_map text (slice_get (texts_of values) c)) e ∙ text-at values _ b at_j,
  λ e. same_Some a b (sym at_i ∙ ap (cell_code values) e ∙ at_j),
)

single : (b : Bool) → (b || false) ≡ true → b ≡ true
single true e = refl
single false e = e

-- a text is among the texts exactly where some row has it
any-from : (texts : List (List ℕ)) (c : Cell) (t : List ℕ) → list_any (bytes_eq t) (with_text texts c) ≡ true → (list_any (bytes_eq t) texts ≡ true) ⊎ (c ≡ text t)
any-from texts null t e = inl e
any-from texts (number n) t e = inl e
any-from texts (text u) t e = by (list_any (bytes_eq u) texts) refl
  where
    by : (b : Bool) → list_any (bytes_eq u) texts ≡ b → (list_any (bytes_eq t) texts ≡ true) ⊎ (text u ≡ text t)
    by true h = inl (ap (list_any (bytes_eq t)) (sym (with-known texts u h)) ∙ e)
    by false h = ⊎_elim inl (λ last. inr (ap text (sym (same t u (single (bytes_eq t u) last)))))
        (or_cases (list_any (bytes_eq t) texts) _ (sym (list_any-append (bytes_eq t) texts (u ∷ [])) ∙ ap (list_any (bytes_eq t)) (sym (with-new texts u h)) ∙ e))

pub any-kept : (texts : List (List ℕ)) (c : Cell) (t : List ℕ) → list_any (bytes_eq t) texts ≡ true → list_any (bytes_eq t) (with_text texts c) ≡ true
any-kept texts null t e = e
any-kept texts (number n) t e = e
any-kept texts (text u) t e = by (list_any (bytes_eq u) texts) refl
  where
    by : (b : Bool) → list_any (bytes_eq u) texts ≡ b → list_any (bytes_eq t) (with_text texts (text u)) ≡ true
    by true h = rw (with-known texts u h) e
    by false h = rw (with-new texts u h) (list_any-append (bytes_eq t) texts (u ∷ []) ∙ ap (λ b. b || list_any (bytes_eq t) (u ∷ [])) e)

pub any-own : (texts : List (List ℕ)) (t : List ℕ) → list_any (bytes_eq t) (with_text texts (text t)) ≡ true
any-own texts t = let p = own-code texts t in list_any_at (bytes_eq t) (with_text texts (text t)) (position_or_len (bytes_eq t) texts) [] p.0 (ap (bytes_eq t) p.1 ∙ nat_list_eq_equiv.refl t)

pub stays : (t : List ℕ) (texts : List (List ℕ)) (values : List Cell) → list_any (bytes_eq t) texts ≡ true → list_any (bytes_eq t) (fold with_text texts values) ≡ true
stays t texts [] e = e
stays t texts (v ∷ values) e = stays t (with_text texts v) values (any-kept texts v t e)

pub among : (values : List Cell) (t : List ℕ) → (list_any (bytes_eq t) (texts_of values) ≡ true) ↔ Contains values (text t)
among values t = (λ e. ⊎_elim (λ none. absurd (true≢false (sym none))) (λ c. c) (from [] values e), to [] values)
  where
    from : (texts : List (List ℕ)) (values : List Cell) → list_any (bytes_eq t) (fold with_text texts values) ≡ true → (list_any (bytes_eq t) texts ≡ true) ⊎ Contains values (text t)
    from texts [] e = inl e
    from texts (v ∷ values) e = ⊎_elim (λ more. ⊎_elim inl (λ at. inr (0, omega arith, at)) (any-from texts v t more)) (λ c. inr (suc c.0, omega arith, c.2)) (from (with_text texts v) values e)

    to : (texts : List (List ℕ)) (values : List Cell) → Contains values (text t) → list_any (bytes_eq t) (fold with_text texts values) ≡ true
    to texts [] (k, lt, e) = absurd (omega arith)
    to texts (v ∷ values) (zero, lt, e) = stays t (with_text texts v) values (ap (λ c. list_any (bytes_eq t) (with_text texts c)) e ∙ any-own texts t)
    to texts (v ∷ values) (suc k, lt, e) = to (with_text texts v) values (k, omega arith, e)
