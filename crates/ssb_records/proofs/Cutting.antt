-- Pieces of a list that is read into its middle and cut.
use Rattle.std.proofs.Common.{◌≡◌, ◌∙◌, ◌++◌, ◌<◌, ◌≤◌, ◌+◌, ◌-◌, ◌==◌, ℕ, List, [], ◌∷◌, length, take, drop, slice_index, get_or, slice_set, true, nat_lt, refl, sym, ap, append_assoc, arith, rules, length-drop}
use Rattle.std.proofs.Math.Seq.{take-add}
use Rattle.std.proofs.lemmas.List.{set_at, drop_more, get_or-append_right, get_or-drop, take_at, drop_at, take-append-le, take-append-drop, take-take, take_more, length-take-le}
use Rattle.std.proofs.lemmas.Grind.{common_steps}
use Rattle.ssb_records.specs.Giving.{ends_at}

pub slid-more : (b s : List ℕ) (i from : ℕ) → from + i < length s → b ≡ take i (drop from s) ++ drop i s
    → slice_set b i (slice_index b (from + i)) ≡ take (i + 1) (drop from s) ++ drop (i + 1) s
slid-more b s i from h e =
    let front : List ℕ = take i (drop from s) in
    let far : i < length (drop from s) = omega (arith, length-drop from s) in
    let long : length front ≡ i = length-take-le i (drop from s) (omega arith) in
    let there : i < length s = omega arith in
    let split : b ≡ front ++ get_or s i 0 ∷ drop (i + 1) s = e ∙ ap (λ w. front ++ w) (drop_more s i 0 there) in
    let place : i + (from + i - i) ≡ from + i = omega arith in
    let value : slice_index b (from + i) ≡ get_or (drop from s) i 0 =
    ap (λ w. get_or w (from + i) 0) e ∙ get_or-append_right front (drop i s) i (from + i) 0 long (omega arith)
    ∙ get_or-drop i s (from + i - i) 0 ∙ ap (λ k. get_or s k 0) place ∙ sym (get_or-drop from s i 0) in
    ap (λ w. slice_set w i (slice_index b (from + i))) split
    ∙ set_at front (get_or s i 0) (drop (i + 1) s) (slice_index b (from + i)) i long
    ∙ ap (λ x. front ++ x ∷ drop (i + 1) s) value
    ∙ sym (ap (λ w. w ++ drop (i + 1) s) (take_more (drop from s) i 0 far) ∙ append_assoc front (get_or (drop from s) i 0 ∷ []) (drop (i + 1) s))

pub slid : (b s : List ℕ) (i from n : ℕ) → i ≡ n → from + n ≤ length s → b ≡ take i (drop from s) ++ drop i s → take n b ≡ take n (drop from s)
slid b s i from n e h is =
    let there : n ≤ length (drop from s) = omega (arith, length-drop from s) in
    ap (take n) (is ∙ ap (λ j. take j (drop from s) ++ drop j s) e) ∙ take_at (take n (drop from s)) (drop n s) n (length-take-le n (drop from s) there)

pub read-on : (b room post now done given later : List ℕ) (c f n : ℕ) → c ≡ 0 → f ≤ length b → n ≤ length room → given ≡ done ++ drop c (take f b) → later ≡ given ++ take n room
    → now ≡ take f b ++ (room ++ post) → later ≡ done ++ drop c (take (f + n) now)
read-on b room post now done given later c f n z inside fits told more is =
    let long : length (take f b) ≡ f = length-take-le f b inside in
    let t : take (f + n) (take f b ++ (room ++ post)) ≡ take f b ++ take n room =
    take-add f n (take f b ++ (room ++ post))
    ∙ ap (λ w. w ++ take n (drop f (take f b ++ (room ++ post)))) (take_at (take f b) (room ++ post) f long)
    ∙ ap (λ w. take f b ++ take n w) (drop_at (take f b) (room ++ post) f long)
    ∙ ap (λ w. take f b ++ w) (take-append-le n room post fits) in
    rw (z, is, t) (more ∙ ap (λ w. w ++ take n room) (rw z at told) ∙ append_assoc done (take f b) (take n room))

pub cut-at : (b : List ℕ) (c end f : ℕ) → c ≡ 0 → end ≤ f → drop c (take f b) ≡ take end b ++ drop end (take f b)
cut-at b c end f z l = rw z (sym (take-append-drop end (take f b)) ∙ ap (λ w. w ++ drop end (take f b)) (take-take end f b l))

-- what a read adds to what a source gave, behind the bytes given before
pub read-since : (b room post now base done given later : List ℕ) (c f n : ℕ) → c ≡ 0 → f ≤ length b → n ≤ length room → given ≡ base ++ (done ++ drop c (take f b)) → later ≡ given ++ take n room
    → now ≡ take f b ++ (room ++ post) → later ≡ base ++ (done ++ drop c (take (f + n) now))
read-since b room post now base done given later c f n z inside fits told more is =
    read-on b room post now (base ++ done) given later c f n z inside fits (told ∙ sym (append_assoc base done (drop c (take f b)))) more is ∙ append_assoc base done (drop c (take (f + n) now))

pub ended-more : (n : ℕ) (room : List ℕ) (a b base : ℕ) → (n == 0) ≡ true → 0 < length room → base ≤ b → a ≡ b + ends_at n room → base < a
ended-more n room a b base e l le h =
    let more : nat_lt 0 (length room) ≡ true = search (rules, common_steps) in
    let one : ends_at n room ≡ 1 = rw (e, more) refl in
    omega arith
