-- A text's bytes are UTF-8 where the whole is.
use Rattle.std.proofs.Common.{◌≡◌, ℕ, zero, suc, ◌+◌, ◌<◌, Bool, true, false, cond, List, [], ◌∷◌, ◌++◌, length, get_or, drop, refl, sym, ap, subst, ◌∙◌, arith, lit<, length-append, append_assoc}
use Rattle.std.specs.Str.{IsUtf8, IsCharBoundary, IsAscii}
use Rattle.std.proofs.lemmas.Str.{IsUtf8-append, IsUtf8-from_ascii, IsUtf8-take, IsUtf8-drop, IsCharBoundary-after_ascii, IsCharBoundary-at_seam}
use Rattle.std.proofs.lemmas.List.{append-nil, take_at, drop_at}
use Rattle.std.proofs.Math.Seq.{get_or-append_seam}
use Rattle.std.proofs.lemmas.Bool.{eqb-true}
use Rattle.ssb_tokens.specs.Tokens.{doubled, is_quote}
use Rattle.ssb_tokens.specs.Scanning.{CutsAtQuotes}

ascii : IsAscii (39 ∷ [])
ascii zero = lit< tt
ascii (suc i) = lit< tt

quote_utf8 : IsUtf8 (39 ∷ [])
quote_utf8 = IsUtf8-from_ascii (39 ∷ []) ascii

behind_quote : (xs ys : List ℕ) → IsUtf8 (xs ++ 39 ∷ ys) → IsUtf8 ys
behind_quote xs ys u =
    let bs = xs ++ 39 ∷ ys in
    let same : bs ≡ (xs ++ 39 ∷ []) ++ ys = sym (append_assoc xs (39 ∷ []) ys) in
    let len : length (xs ++ 39 ∷ []) ≡ length xs + 1 = omega (arith, length-append xs (39 ∷ [])) in
    let at : get_or bs (length xs) 0 ≡ 39 = get_or-append_seam xs 39 ys 0 in
    let inside : length xs < length bs = omega (arith, length-append xs (39 ∷ ys)) in
    let edge : IsCharBoundary bs (length xs + 1) = IsCharBoundary-after_ascii bs (length xs) u inside (omega arith) in
    let e : drop (length xs + 1) bs ≡ ys = ap (drop (length xs + 1)) same ∙ drop_at (xs ++ 39 ∷ []) ys (length xs + 1) len in
    subst IsUtf8 e (IsUtf8-drop bs (length xs + 1) u edge)

before_quote : (xs ys : List ℕ) → IsUtf8 (xs ++ 39 ∷ ys) → IsUtf8 xs
before_quote xs ys u =
    let bs = xs ++ 39 ∷ ys in
    let tail : IsUtf8 (39 ∷ ys) = IsUtf8-append (39 ∷ []) ys quote_utf8 (behind_quote xs ys u) in
    subst IsUtf8 (take_at xs (39 ∷ ys) (length xs) refl) (IsUtf8-take bs (length xs) u (IsCharBoundary-at_seam bs xs (39 ∷ ys) refl tail))

-- w are bytes of the text that were seen already
pub text_utf8 : (w t rest : List ℕ) → IsUtf8 (w ++ (doubled t ++ 39 ∷ rest)) → IsUtf8 (w ++ t)
text_utf8 w [] rest u = subst IsUtf8 (sym (append-nil w)) (before_quote w rest u)
text_utf8 w (b ∷ t) rest u = by_test (is_quote b) refl (text_utf8 [] t rest) (text_utf8 (w ++ b ∷ []) t rest) u
  where
    by_test : (q : Bool) → is_quote b ≡ q → (IsUtf8 (doubled t ++ 39 ∷ rest) → IsUtf8 t) → (IsUtf8 ((w ++ b ∷ []) ++ (doubled t ++ 39 ∷ rest)) → IsUtf8 ((w ++ b ∷ []) ++ t))
        → IsUtf8 (w ++ (cond q (b ∷ b ∷ doubled t) (b ∷ doubled t) ++ 39 ∷ rest)) → IsUtf8 (w ++ b ∷ t)
    by_test true e f g v =
        let is : b ≡ 39 = eqb-true b 39 e in
        let two : IsUtf8 (w ++ 39 ∷ 39 ∷ (doubled t ++ 39 ∷ rest)) = subst (λ c. IsUtf8 (w ++ c ∷ c ∷ (doubled t ++ 39 ∷ rest))) is v in
        let first = before_quote w (39 ∷ (doubled t ++ 39 ∷ rest)) two in
        let last = f (behind_quote [] (doubled t ++ 39 ∷ rest) (behind_quote w (39 ∷ (doubled t ++ 39 ∷ rest)) two)) in
        subst (λ c. IsUtf8 (w ++ c ∷ t)) (sym is) (IsUtf8-append w (39 ∷ t) first (IsUtf8-append (39 ∷ []) t quote_utf8 last))
    by_test false e f g v = subst IsUtf8 (append_assoc w (b ∷ []) t) (g (subst IsUtf8 (sym (append_assoc w (b ∷ []) (doubled t ++ 39 ∷ rest))) v))

pub literal_utf8 : (t rest : List ℕ) → IsUtf8 (doubled t ++ 39 ∷ rest) → IsUtf8 t
literal_utf8 t rest u = text_utf8 [] t rest u

-- a UTF-8 text can be cut behind each quote, and so can its rests
pub cuts : (text front bytes : List ℕ) → IsUtf8 text → text ≡ front ++ bytes → CutsAtQuotes bytes
cuts text front bytes u e = record {
  behind = λ xs ys f.
      let whole : text ≡ (front ++ xs) ++ 39 ∷ ys = e ∙ ap (λ l. front ++ l) f ∙ sym (append_assoc front xs (39 ∷ ys)) in
      behind_quote (front ++ xs) ys (subst IsUtf8 whole u);
}
