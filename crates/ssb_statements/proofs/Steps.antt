-- What becomes of the statements ahead where one byte more is taken.
use Rattle.std.proofs.Common.{◌≡◌, ◌∙◌, ◌≢◌, ℕ, zero, suc, ◌+◌, ◌≤◌, Bool, true, false, List, [], ◌∷◌, ◌++◌, length, take, drop, min, set, refl, sym, ap, subst, arith, length-append, inl, inr}
use Rattle.std.proofs.lemmas.Bool.{cases_lt, ne_eqb}
use Rattle.std.proofs.lemmas.List.{take_all, take_more_set, take-append-le}
use Rattle.ssb_tokens.specs.Tokens.{is_blank, is_dash, is_quote}
use Rattle.ssb_tokens.specs.Statements.{plain, literal, comment, if_any, in_plain, is_end, statements_from, statements_of, within}
use Rattle.ssb_statements.specs.Bytes.{has_any}
use Rattle.ssb_statements.specs.Cutting.{IsTaken, cut, cut_from}
use Rattle.ssb_statements.specs.declared.boundary.Boundary.{Boundary}
use Rattle.ssb_statements.specs.declared.boundary.Place.{Place}
use Rattle.ssb_statements.specs.declared.boundary.Taken.{Taken}
use Rattle.ssb_statements.specs.declared.boundary.Place.TheVariants.{Plain, Dash, Literal, Comment}

-- ---- the bytes so far

-- whether there are bytes so far
pub none-begun : (b : Bool) (xs : List ℕ) → b ≡ has_any xs → b ≡ false → xs ≡ []
none-begun b [] e z = refl
none-begun b (x ∷ xs) e z = cc

pub some-within : (b : Bool) (byte : ℕ) (xs : List ℕ) → b ≡ has_any xs → b ≡ true → within xs byte ≡ xs ++ byte ∷ []
some-within b byte [] e z = cc
some-within b byte (x ∷ xs) e z = refl

pub any-put : (xs : List ℕ) (b : ℕ) → true ≡ has_any (xs ++ b ∷ [])
any-put [] b = refl
any-put (x ∷ xs) b = refl

pub if_any-put : (xs : List ℕ) (b : ℕ) → if_any (xs ++ b ∷ []) ≡ (xs ++ b ∷ []) ∷ []
if_any-put [] b = refl
if_any-put (x ∷ xs) b = refl

-- the room keeps the first bytes
pub kept-more : (limit n b : ℕ) (text xs : List ℕ) → length text ≡ limit → n ≡ min (length xs) (limit + 1) → take n text ≡ take limit xs
    → take (min (n + 1) (limit + 1)) (set text n b) ≡ take limit (xs ++ b ∷ [])
kept-more limit n b text xs len count kept = elim (cases_lt (length xs) limit) [
  | inl lt ↦ (let same : n ≡ length xs = omega arith in
      let next : min (n + 1) (limit + 1) ≡ n + 1 = omega arith in
      let all : length (xs ++ b ∷ []) ≤ limit = omega (arith, length-append xs (b ∷ [])) in
      ap (λ k. take k (set text n b)) next ∙ take_more_set text n b (omega arith) ∙ ap (λ t. t ++ b ∷ []) (kept ∙ take_all limit xs (omega arith)) ∙ sym (take_all limit (xs ++ b ∷ []) all))
  | inr le ↦ (let far : limit ≤ n = omega arith in
      ap (λ t. take (min (n + 1) (limit + 1)) t) (set-past text n b (omega arith))
      ∙ take_all (min (n + 1) (limit + 1)) text (omega arith) ∙ sym (take_all n text (omega arith)) ∙ kept ∙ sym (take-append-le limit xs (b ∷ []) le))
]
  where
    set-past : (l : List ℕ) (i a : ℕ) → length l ≤ i → set l i a ≡ l
    set-past [] i a le = refl
    set-past (x ∷ l) zero a le = absurd (omega arith)
    set-past (x ∷ l) (suc i) a le = ap (λ t. x ∷ t) (set-past l i a (omega arith))

-- ---- one byte more

tests-end : (b : ℕ) → b ≢ 59 → is_end b ≡ false
tests-end b n = ne_eqb b 59 n

tests-quote : (b : ℕ) → b ≢ 39 → is_quote b ≡ false
tests-quote b n = ne_eqb b 39 n

tests-dash : (b : ℕ) → b ≢ 45 → is_dash b ≡ false
tests-dash b n = ne_eqb b 45 n

plain-other : (so_far bs : List ℕ) (b : ℕ) → is_end b ≡ false → is_quote b ≡ false → is_dash b ≡ false → statements_from plain so_far (b ∷ bs) ≡ statements_from plain (in_plain so_far b) bs
unfolding statements_from
plain-other so_far bs b e q d = rw (e, q, d) refl

pub blank-goes : (p : Place) (b : ℕ) (xs ys : List ℕ) → p ≡ Plain → b ≢ 59 → b ≢ 39 → b ≢ 45 → is_blank b ≡ true → ys ≡ within xs b → (more : List ℕ) → cut_from p xs (b ∷ more) ≡ statements_from plain ys more
blank-goes p b xs ys e n q d t y more =
    let is : in_plain xs b ≡ within xs b = rw t refl in
    ap (λ k. cut_from k xs (b ∷ more)) e ∙ plain-other xs more b (tests-end b n) (tests-quote b q) (tests-dash b d) ∙ ap (λ k. statements_from plain k more) (is ∙ sym y)

pub other-goes : (p : Place) (b : ℕ) (xs ys : List ℕ) → p ≡ Plain → b ≢ 59 → b ≢ 39 → b ≢ 45 → is_blank b ≡ false → ys ≡ xs ++ b ∷ [] → (more : List ℕ) → cut_from p xs (b ∷ more) ≡ statements_from plain ys more
other-goes p b xs ys e n q d t y more =
    let is : in_plain xs b ≡ xs ++ b ∷ [] = rw t refl in
    ap (λ k. cut_from k xs (b ∷ more)) e ∙ plain-other xs more b (tests-end b n) (tests-quote b q) (tests-dash b d) ∙ ap (λ k. statements_from plain k more) (is ∙ sym y)

pub quote-goes : (p : Place) (b : ℕ) (xs ys : List ℕ) → p ≡ Plain → b ≡ 39 → ys ≡ xs ++ b ∷ [] → (more : List ℕ) → cut_from p xs (b ∷ more) ≡ statements_from literal ys more
unfolding statements_from
quote-goes p b xs ys e is y more = rw (e, y, is) refl

-- a `;` where no statement has begun, and the one that ends a statement
pub no-end : (p : Place) (xs : List ℕ) → p ≡ Plain → xs ≡ [] → (more : List ℕ) → cut_from p xs (59 ∷ more) ≡ cut_from p xs more
unfolding statements_from
no-end p xs e z more = rw (e, z) refl

pub has-end : (p : Place) (xs ys : List ℕ) → p ≡ Plain → within xs 59 ≡ ys → ys ≡ xs ++ 59 ∷ [] → (more : List ℕ) → cut_from p xs (59 ∷ more) ≡ ys ∷ statements_of more
unfolding statements_from
has-end p xs ys e w y more = rw (e, w) (ap (λ t. t ++ statements_of more) (ap if_any y ∙ if_any-put xs 59 ∙ ap (λ t. t ∷ []) (sym y)))

-- behind a `-`
pub dashes-go : (p : Place) (b : ℕ) (xs ys zs : List ℕ) → p ≡ Dash → b ≡ 45 → ys ≡ within xs 45 → zs ≡ within ys 45 → (more : List ℕ) → cut_from p xs (b ∷ more) ≡ statements_from comment zs more
unfolding statements_from
dashes-go p b xs ys zs e is y z more = rw (e, is, z, y) refl

pub dash-goes : (p : Place) (b : ℕ) (xs ys : List ℕ) → p ≡ Dash → b ≢ 45 → ys ≡ xs ++ 45 ∷ [] → (more : List ℕ) → cut_from p xs (b ∷ more) ≡ statements_from plain ys (b ∷ more)
unfolding statements_from
dash-goes p b xs ys e n y more = rw (e, y, tests-dash b n) refl

-- in a text literal, and in a comment
pub literal-ends : (p : Place) (b : ℕ) (xs ys : List ℕ) → p ≡ Literal → b ≡ 39 → ys ≡ xs ++ b ∷ [] → (more : List ℕ) → cut_from p xs (b ∷ more) ≡ statements_from plain ys more
unfolding statements_from
literal-ends p b xs ys e is y more = rw (e, y, is) refl

pub literal-goes : (p q : Place) (b : ℕ) (xs ys : List ℕ) → p ≡ Literal → q ≡ p → b ≢ 39 → ys ≡ xs ++ b ∷ [] → (more : List ℕ) → cut_from p xs (b ∷ more) ≡ cut_from q ys more
unfolding statements_from
literal-goes p q b xs ys e f n y more = rw (f, e, y, tests-quote b n) refl

pub comment-ends : (p : Place) (b : ℕ) (xs ys : List ℕ) → p ≡ Comment → b ≡ 10 → ys ≡ within xs b → (more : List ℕ) → cut_from p xs (b ∷ more) ≡ statements_from plain ys more
unfolding statements_from
comment-ends p b xs ys e is y more = rw (e, y, is) refl

pub comment-goes : (p q : Place) (b : ℕ) (xs ys : List ℕ) → p ≡ Comment → q ≡ p → b ≢ 10 → ys ≡ within xs b → (more : List ℕ) → cut_from p xs (b ∷ more) ≡ cut_from q ys more
unfolding statements_from
comment-goes p q b xs ys e f n y more = rw (f, e, y, ne_eqb b 10 n) refl

-- where no byte follows
pub dash-ends : (p : Place) (xs ys : List ℕ) → p ≡ Dash → ys ≡ xs ++ 45 ∷ [] → cut_from p xs [] ≡ if_any ys
unfolding statements_from
dash-ends p xs ys e y = rw (e, y) refl

pub place-ends : (p : Place) (xs : List ℕ) → (p ≡ Dash → ⊥) → cut_from p xs [] ≡ if_any xs
unfolding statements_from
place-ends Plain xs n = refl
place-ends Dash xs n = absurd (n refl)
place-ends Literal xs n = refl
place-ends Comment xs n = refl

-- ---- bytes on bytes

-- a byte with which no statement ends
pub goes-by : (t : Taken) (old : Boundary) (b : ℕ) (new : Boundary) (byte : Bool) → t ≡ record { dash = false; byte = byte; ends = false } → ((more : List ℕ) → cut old (b ∷ more) ≡ cut new more) → IsTaken t.ends old b new
goes-by t old b new byte is same = subst (λ (u : Taken). IsTaken u.ends old b new) (sym is) (record { same = same })

pub taken-from : (r : Bool) (old mid : Boundary) (b : ℕ) (new : Boundary) → ((more : List ℕ) → cut old (b ∷ more) ≡ cut mid (b ∷ more)) → IsTaken r mid b new → IsTaken r old b new
taken-from false old mid b new e t = record { same = λ more. e more ∙ t.same more }
taken-from true old mid b new e t = record { next = λ more. e more ∙ t.next more }

-- the bytes from this place on were not taken
pub record StandsAt (i : ℕ) (old : Boundary) (bytes : List ℕ) (now : Boundary) : Type 0 where
  pub same : (more : List ℕ) → cut old (bytes ++ more) ≡ cut now (drop i bytes ++ more)
