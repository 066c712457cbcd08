-- Steps of the loops over bytes.
use Rattle.std.proofs.Common.{◌≡◌, ℕ, suc, ◌+◌, ◌*◌, ◌-◌, ◌<◌, ◌≤◌, Bool, true, false, cond, List, [], ◌∷◌, ◌++◌, length, take, Option, Some, None, refl, sym, ap, subst, ◌∙◌, arith, min, append_assoc, length-append, inl, inr}
use Rattle.std.specs.Prelude.{◌&&◌}
use Rattle.std.specs.Char.{is_ascii_digit}
use Rattle.std.proofs.lemmas.Bool.{cases_lt}
use Rattle.std.proofs.lemmas.List.{append-nil, take_at}
use Rattle.ssb_tokens.specs.Tokens.{begins, goes_on, is_blank, is_dash, is_quote, value_from}
use Rattle.ssb_tokens.specs.Reading.{◌>>=◌}
use Rattle.ssb_tokens.specs.Scanning.{closing_at, first, first_if, past, piece_at, put, run, skip, skip_step, text_at}

abbrev some_of : {A : Type 0} → A → Option A
some_of x = Some x

some_pair : (x y : ℕ × List ℕ) → some_of x ≡ some_of y → x ≡ y
some_pair x y e = cc

some_bool : (x y : Bool) → some_of x ≡ some_of y → x ≡ y
some_bool x y e = cc

pub first_is : (bs us : List ℕ) (b : ℕ) → first bs ≡ Some (b, us) → bs ≡ b ∷ us
first_is [] us b e = absurd cc
first_is (c ∷ bs) us b e = ap (λ (x : ℕ × List ℕ). x.0 ∷ x.1) (some_pair (c, bs) (b, us) e)

if_some : (p : ℕ → Bool) (c : ℕ) (q : Bool) (bs : List ℕ) (x : ℕ × List ℕ) → p c ≡ q → cond q (Some (c, bs)) None ≡ Some x → (p c ≡ true) × ((c, bs) ≡ x)
if_some p c true bs x h e = (h, some_pair (c, bs) x e)
if_some p c false bs x h e = absurd cc

if_none : (p : ℕ → Bool) (c : ℕ) (q : Bool) (bs : List ℕ) → p c ≡ q → cond q (some_of {A = ℕ × List ℕ} (c, bs)) None ≡ None → p c ≡ false
if_none p c true bs h e = absurd cc
if_none p c false bs h e = h

-- ---- runs

pub run_more : (p : ℕ → Bool) (b : ℕ) (bs : List ℕ) → p b ≡ true → run p (b ∷ bs) ≡ b ∷ run p bs
unfolding run
run_more p b bs h = ap (λ q. cond q (b ∷ run p bs) []) h

pub past_more : (p : ℕ → Bool) (b : ℕ) (bs : List ℕ) → p b ≡ true → past p (b ∷ bs) ≡ past p bs
unfolding past
past_more p b bs h = ap (λ q. cond q (past p bs) (b ∷ bs)) h

pub run_past : (p : ℕ → Bool) (bs : List ℕ) → run p bs ++ past p bs ≡ bs
unfolding run past
run_past p [] = refl
run_past p (b ∷ bs) = both_step (p b) (run_past p bs)
  where
    both_step : (q : Bool) → run p bs ++ past p bs ≡ bs → cond q (b ∷ run p bs) [] ++ cond q (past p bs) (b ∷ bs) ≡ b ∷ bs
    both_step true h = ap (λ l. b ∷ l) h
    both_step false h = refl

pub past_le : (p : ℕ → Bool) (bs : List ℕ) → length (past p bs) ≤ length bs
past_le p bs = omega (arith, ap length (run_past p bs), length-append (run p bs) (past p bs))

-- the run is what stands before the rest
pub run_taken : (p : ℕ → Bool) (bs : List ℕ) → take (length bs - length (past p bs)) bs ≡ run p bs
run_taken p bs =
    let len : length bs - length (past p bs) ≡ length (run p bs) = omega (arith, ap length (run_past p bs), length-append (run p bs) (past p bs)) in
    ap (λ n. take n bs) len ∙ ap (take (length (run p bs))) (sym (run_past p bs)) ∙ take_at (run p bs) (past p bs) (length (run p bs)) refl

pub record Takes (p : ℕ → Bool) (bs us : List ℕ) (b : ℕ) : Type 0 where
  pub run : run p bs ≡ b ∷ run p us
  pub past : past p bs ≡ past p us
  pub shorter : length us < length bs

takes_at : (p : ℕ → Bool) (c : ℕ) (bs : List ℕ) → p c ≡ true → Takes p (c ∷ bs) bs c
takes_at p c bs h = record { run = run_more p c bs h; past = past_more p c bs h; shorter = omega arith }

pub takes : (p : ℕ → Bool) (bs us : List ℕ) (b : ℕ) → first_if p bs ≡ Some (b, us) → Takes p bs us b
takes p [] us b e = absurd cc
takes p (c ∷ bs) us b e =
    let f = if_some p c (p c) bs (b, us) refl e in
    subst (λ (x : ℕ × List ℕ). Takes p (c ∷ bs) x.1 x.0) f.1 (takes_at p c bs f.0)

pub record Ends (p : ℕ → Bool) (bs : List ℕ) : Type 0 where
  pub run : run p bs ≡ []
  pub past : past p bs ≡ bs

pub ends : (p : ℕ → Bool) (bs : List ℕ) → first_if p bs ≡ None → Ends p bs
unfolding run past
ends p [] e = record { run = refl; past = refl }
ends p (c ∷ bs) e = let h = if_none p c (p c) bs refl e in record { run = ap (λ q. cond q (c ∷ run p bs) []) h; past = ap (λ q. cond q (past p bs) (c ∷ bs)) h }

-- ---- numbers

value_rises : (n : ℕ) (ds : List ℕ) → n ≤ value_from n ds
value_rises n [] = omega arith
value_rises n (d ∷ ds) = let h = value_rises (10 * n + (d - 48)) ds in omega arith

-- a limit may be applied at each step
capped : (n limit : ℕ) (ds : List ℕ) → min (value_from (min n limit) ds) limit ≡ min (value_from n ds) limit
capped n limit ds =
    let a = value_rises (min n limit) ds in
    let b = value_rises n ds in
    elim (cases_lt n limit) [
      | inl lt ↦ (let same : min n limit ≡ n = omega arith in ap (λ k. min (value_from k ds) limit) same)
      | inr le ↦ omega arith
    ]

pub number_goes : (value d limit : ℕ) (bs us : List ℕ) (b total : ℕ) → d ≡ b - 48 → Takes is_ascii_digit bs us b → min (value_from value (run is_ascii_digit bs)) limit ≡ total
    → min (value_from (min (10 * value + d) limit) (run is_ascii_digit us)) limit ≡ total
number_goes value d limit bs us b total h t e =
    capped (10 * value + d) limit (run is_ascii_digit us)
    ∙ ap (λ k. min (value_from (10 * value + k) (run is_ascii_digit us)) limit) h
    ∙ ap (λ r. min (value_from value r) limit) (sym t.run)
    ∙ e

pub number_ends : (value limit : ℕ) (bs : List ℕ) (total : ℕ) → value ≤ limit → Ends is_ascii_digit bs → min (value_from value (run is_ascii_digit bs)) limit ≡ total → value ≡ total
number_ends value limit bs total le t e =
    let same : value ≡ min value limit = omega arith in
    same ∙ ap (λ r. min (value_from value r) limit) (sym t.run) ∙ e

-- ---- separators

skip_note : (b : ℕ) (bs : List ℕ) (q : Bool) → cond q (skip true bs) (skip false bs) ≡ skip q bs
skip_note b bs true = refl
skip_note b bs false = refl

skip_dashes : (b : ℕ) (bs : List ℕ) (q r : Bool) → cond q (Some true) None ≡ Some r → cond q (skip true bs) (b ∷ bs) ≡ skip r bs
skip_dashes b bs true r e = ap (λ k. skip k bs) (some_bool true r e)
skip_dashes b bs false r e = absurd cc

skip_separates : (b : ℕ) (bs : List ℕ) (q s r : Bool) → cond q (Some false) (cond s (Some true) None) ≡ Some r → cond q (skip false bs) (cond s (skip true bs) (b ∷ bs)) ≡ skip r bs
skip_separates b bs true s r e = ap (λ k. skip k bs) (some_bool false r e)
skip_separates b bs false s r e = skip_dashes b bs s r e

skip_goes : (q : Bool) (b : ℕ) (bs : List ℕ) (r : Bool) → skip_step q b bs ≡ Some r → skip q (b ∷ bs) ≡ skip r bs
unfolding skip skip_step
skip_goes true b bs r e = skip_note b bs (goes_on b) ∙ ap (λ k. skip k bs) (some_bool (goes_on b) r e)
skip_goes false b bs r e = skip_separates b bs (is_blank b) (is_dash b && begins is_dash bs) r e

stop_dashes : (b : ℕ) (bs : List ℕ) (q : Bool) → cond q (some_of true) None ≡ None → cond q (skip true bs) (b ∷ bs) ≡ b ∷ bs
stop_dashes b bs true e = absurd cc
stop_dashes b bs false e = refl

stop_separates : (b : ℕ) (bs : List ℕ) (q s : Bool) → cond q (some_of false) (cond s (some_of true) None) ≡ None → cond q (skip false bs) (cond s (skip true bs) (b ∷ bs)) ≡ b ∷ bs
stop_separates b bs true s e = absurd cc
stop_separates b bs false s e = stop_dashes b bs s e

skip_stops : (q : Bool) (b : ℕ) (bs : List ℕ) → skip_step q b bs ≡ None → skip q (b ∷ bs) ≡ b ∷ bs
unfolding skip skip_step
skip_stops true b bs e = absurd cc
skip_stops false b bs e = stop_separates b bs (is_blank b) (is_dash b && begins is_dash bs) e

skip_nil : (q : Bool) → skip q [] ≡ []
unfolding skip
skip_nil true = refl
skip_nil false = refl

pub comment_goes : (q r : Bool) (bs us total : List ℕ) (b : ℕ) → first bs ≡ Some (b, us) → skip_step q b us ≡ Some r → skip q bs ≡ total → skip r us ≡ total
comment_goes q r bs us total b f e h = sym (skip_goes q b us r e) ∙ ap (skip q) (sym (first_is bs us b f)) ∙ h

pub comment_stops : (q : Bool) (bs us total : List ℕ) (b : ℕ) → first bs ≡ Some (b, us) → skip_step q b us ≡ None → skip q bs ≡ total → bs ≡ total
comment_stops q bs us total b f e h = first_is bs us b f ∙ sym (skip_stops q b us e) ∙ ap (skip q) (sym (first_is bs us b f)) ∙ h

first_none : (bs : List ℕ) → first bs ≡ None → bs ≡ []
first_none [] e = refl
first_none (b ∷ bs) e = absurd cc

pub comment_ends : (q : Bool) (bs total : List ℕ) → first bs ≡ None → skip q bs ≡ total → bs ≡ total
comment_ends q bs total f h = let e = first_none bs f in e ∙ sym (skip_nil q) ∙ ap (skip q) (sym e) ∙ h

-- ---- texts

-- what was read before, and what is still read
abbrev pub with_front : List ℕ → Option (List ℕ × List ℕ) → Option (List ℕ × List ℕ)
with_front front read = read >>= λ x. Some (front ++ x.0, x.1)

abbrev text_by : Option (Option ℕ × List ℕ) → Option (List ℕ × List ℕ)
text_by None = None
text_by (Some x) = elim x.0 [ None ↦ Some ([], x.1) | Some b ↦ put b (text_at false x.1) ]

text_closing : (bs : List ℕ) → text_at true bs ≡ text_by (closing_at bs)
unfolding text_at
text_closing [] = refl
text_closing (b ∷ bs) = by_test (is_quote b)
  where
    by_test : (q : Bool) → cond q (put b (text_at false bs)) (Some ([], b ∷ bs)) ≡ text_by (cond q (Some (Some b, bs)) (Some (None, b ∷ bs)))
    by_test true = refl
    by_test false = refl

text_piece : (bs : List ℕ) → text_at false bs ≡ text_by (piece_at bs)
unfolding text_at piece_at
text_piece [] = refl
text_piece (b ∷ bs) = by_test (is_quote b)
  where
    by_test : (q : Bool) → cond q (text_at true bs) (put b (text_at false bs)) ≡ text_by (cond q (closing_at bs) (Some (Some b, bs)))
    by_test true = text_closing bs
    by_test false = refl

regroup : (front : List ℕ) (b : ℕ) (read : Option (List ℕ × List ℕ)) → with_front front (put b read) ≡ with_front (front ++ b ∷ []) read
regroup front b None = refl
regroup front b (Some x) = ap (λ l. Some (l, x.1)) (sym (append_assoc front (b ∷ []) x.0))

pub text_goes : (front bs us : List ℕ) (b : ℕ) (total : Option (List ℕ × List ℕ)) → piece_at bs ≡ Some (Some b, us) → with_front front (text_at false bs) ≡ total → with_front (front ++ b ∷ []) (text_at false us) ≡ total
text_goes front bs us b total e h = sym (regroup front b (text_at false us)) ∙ ap (λ o. with_front front (text_by o)) (sym e) ∙ ap (with_front front) (sym (text_piece bs)) ∙ h

pub text_ends : (front bs us : List ℕ) (total : Option (List ℕ × List ℕ)) → piece_at bs ≡ Some (None, us) → with_front front (text_at false bs) ≡ total → total ≡ Some (front, us)
text_ends front bs us total e h = sym h ∙ ap (with_front front) (text_piece bs) ∙ ap (λ o. with_front front (text_by o)) e ∙ ap (λ l. Some (l, us)) (append-nil front)

pub text_breaks : (front bs : List ℕ) (total : Option (List ℕ × List ℕ)) → piece_at bs ≡ None → with_front front (text_at false bs) ≡ total → total ≡ None
text_breaks front bs total e h = sym h ∙ ap (with_front front) (text_piece bs) ∙ ap (λ o. with_front front (text_by o)) e

pub text_begins : (read : Option (List ℕ × List ℕ)) → with_front [] read ≡ read
text_begins None = refl
text_begins (Some x) = refl

abbrev pair : Option ℕ → List ℕ → Option ℕ × List ℕ
pair o bs = (o, bs)

closing_shorter : (bs : List ℕ) (x : Option ℕ × List ℕ) → closing_at bs ≡ Some x → length x.1 ≤ length bs
closing_shorter [] x e = let f : pair None [] ≡ x = cc in let g = ap (λ (y : Option ℕ × List ℕ). length y.1) f in omega arith
closing_shorter (b ∷ bs) x e = by_test (is_quote b) e
  where
    by_test : (q : Bool) → cond q (some_of {A = Option ℕ × List ℕ} (Some b, bs)) (some_of {A = Option ℕ × List ℕ} (None, b ∷ bs)) ≡ Some x → length x.1 ≤ suc (length bs)
    by_test true f = let h : pair (Some b) bs ≡ x = cc in let g = ap (λ (y : Option ℕ × List ℕ). length y.1) h in omega arith
    by_test false f = let h : pair None (b ∷ bs) ≡ x = cc in let g = ap (λ (y : Option ℕ × List ℕ). length y.1) h in omega arith

pub piece_shorter : (bs : List ℕ) (x : Option ℕ × List ℕ) → piece_at bs ≡ Some x → length x.1 < length bs
unfolding piece_at
piece_shorter [] x e = absurd cc
piece_shorter (b ∷ bs) x e = by_test (is_quote b) e
  where
    by_test : (q : Bool) → cond q (closing_at bs) (some_of {A = Option ℕ × List ℕ} (Some b, bs)) ≡ Some x → length x.1 < suc (length bs)
    by_test true f = let h = closing_shorter bs x f in omega arith
    by_test false f = let h : pair (Some b) bs ≡ x = cc in let g = ap (λ (y : Option ℕ × List ℕ). length y.1) h in omega arith
