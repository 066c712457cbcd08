-- Reading one token after the other, as a loop does.
use Rattle.std.proofs.Common.{◌≡◌, ℕ, suc, ◌<◌, Bool, true, false, cond, List, [], ◌∷◌, ◌++◌, length, Option, Some, None, refl, sym, ap, subst, ◌∙◌, arith, length-append, append_assoc}
use Rattle.std.specs.Prelude.{not, ◌&&◌, ◌==◌}
use Rattle.std.specs.Str.{IsUtf8, str_to_ascii_lowercase}
use Rattle.std.proofs.lemmas.Bool.{and_parts, eqb-true}
use Rattle.std.proofs.lemmas.List.{append-nil, nil_from_length}
use Rattle.ssb_terms.specs.Names.{is_reserved, is_word}
use Rattle.ssb_tokens.specs.declared.stop.Stop.{Stop}
use Rattle.ssb_tokens.specs.declared.stop.Stop.TheVariants as stop
use Rattle.ssb_tokens.specs.declared.token.Sign.TheVariants as s
use Rattle.ssb_tokens.specs.declared.token.Token.{Token}
use Rattle.ssb_tokens.specs.declared.token.Token.TheVariants.{Fixed, Name, Number, Text}
use Rattle.ssb_tokens.specs.Tokens.{IsTokens, begins, doubled, goes_on, is_blank, is_dash, value_of}
use Rattle.ssb_tokens.specs.Tokens.IsTokens.{end_of_text, blank, comment, reserved, name, number, text, mark}
use Rattle.ssb_tokens.specs.Reading.{Fails, ◌>>=◌}
use Rattle.ssb_tokens.specs.Scanning.{CutsAtQuotes, lex, lex_turn, skip, token_at}
use Rattle.ssb_tokens.specs.Lexes.{HasNoTokens}
use Rattle.ssb_tokens.proofs.TextUtf8.{cuts}
use Rattle.ssb_tokens.proofs.TokenComplete.{lexes, mark_spelled, mark_stays, number_stays, skip_blank, skip_comment, skip_stays, word_stays}
use Rattle.ssb_tokens.proofs.ReadingFacts.{bind_some}
use Rattle.ssb_tokens.proofs.TokenSound.{Goes, IsBare, TokenAndRest, bare, goes, lex_sound, skips, some_list, some_token}

abbrev some_of : {A : Type 0} → A → Option A
some_of x = Some x

pub one_list : (bytes : List ℕ) (ts us : List Token) → IsTokens bytes ts → IsTokens bytes us → ts ≡ us
one_list bytes ts us a b =
    let lt : length bytes < suc (length bytes) = omega arith in
    some_list ts us (sym (lexes a (suc (length bytes)) lt) ∙ lexes b (suc (length bytes)) lt)

-- ---- separators

to_skip : {bs : List ℕ} {ts : List Token} → IsTokens bs ts → IsTokens (skip false bs) ts
unfolding skip
to_skip end_of_text = end_of_text
to_skip (blank {b = b} {rest = rest} {ts = ts} h a) = subst (λ l. IsTokens l ts) (sym (skip_blank b rest h)) (to_skip a)
to_skip (comment note rest {ts = ts} e s a) = subst (λ l. IsTokens l ts) (sym (skip_comment note rest e s)) (to_skip a)
to_skip (reserved [] rest x w e s a) = absurd cc
to_skip (reserved (b ∷ bs) rest x {ts = ts} w e stops a) = subst (λ l. IsTokens l (Fixed (s.Word x) ∷ ts)) (sym (word_stays b bs rest w)) (reserved (b ∷ bs) rest x w e stops a)
to_skip (name [] rest w s a) = absurd cc
to_skip (name (b ∷ bs) rest {ts = ts} w s a) =
    let word = (and_parts (is_word (b ∷ bs)) (not (is_reserved (b ∷ bs))) w).0 in
    subst (λ l. IsTokens l (Name (str_to_ascii_lowercase (b ∷ bs)) ∷ ts)) (sym (word_stays b bs rest word)) (name (b ∷ bs) rest w s a)
to_skip (number [] rest w s v a) = absurd cc
to_skip (number (b ∷ bs) rest {ts = ts} w s v a) = subst (λ l. IsTokens l (Number (value_of (b ∷ bs)) ∷ ts)) (sym (number_stays b bs rest w)) (number (b ∷ bs) rest w s v a)
to_skip (text t rest {ts = ts} s a) = subst (λ l. IsTokens l (Text t ∷ ts)) (sym (skip_stays 39 (doubled t ++ 39 ∷ rest) refl refl)) (text t rest s a)
to_skip (mark x rest {ts = ts} h a) =
    subst (λ l. IsTokens l (Fixed (s.Mark x) ∷ ts)) (mark_spelled x rest ∙ sym (mark_stays x rest h) ∙ ap (skip false) (sym (mark_spelled x rest))) (mark x rest h a)

still_if : (q : Bool) (xs ys : List ℕ) → skip false xs ≡ xs → (q ≡ false → skip false ys ≡ ys) → skip false (cond q xs ys) ≡ cond q xs ys
still_if true xs ys a b = a
still_if false xs ys a b = b refl

still : (q : Bool) (bs : List ℕ) → skip false (skip q bs) ≡ skip q bs
unfolding skip
still true [] = refl
still true (b ∷ bs) = still_if (goes_on b) (skip true bs) (skip false bs) (still true bs) (λ _. still false bs)
still false [] = refl
still false (b ∷ bs) = still_if (is_blank b) (skip false bs) (cond (is_dash b && begins is_dash bs) (skip true bs) (b ∷ bs)) (still false bs)
    (λ h. still_if (is_dash b && begins is_dash bs) (skip true bs) (b ∷ bs) (still true bs) (λ g. skip_stays b bs h g))

-- the rest stands at the end of the bytes
record EndsIn (bytes rest : List ℕ) : Type 0 where
  front : List ℕ
  whole : bytes ≡ front ++ rest

ends_more : (b : ℕ) (bs rest : List ℕ) → EndsIn bs rest → EndsIn (b ∷ bs) rest
ends_more b bs rest h = record { front = b ∷ h.front; whole = ap (λ l. b ∷ l) h.whole }

ends_all : (bs : List ℕ) → EndsIn bs bs
ends_all bs = record { front = []; whole = refl }

ends_if : (q : Bool) (bs xs ys : List ℕ) → EndsIn bs xs → EndsIn bs ys → EndsIn bs (cond q xs ys)
ends_if true bs xs ys f g = f
ends_if false bs xs ys f g = g

skip_ends : (q : Bool) (bs : List ℕ) → EndsIn bs (skip q bs)
unfolding skip
skip_ends true [] = ends_all []
skip_ends true (b ∷ bs) = ends_if (goes_on b) (b ∷ bs) (skip true bs) (skip false bs) (ends_more b bs _ (skip_ends true bs)) (ends_more b bs _ (skip_ends false bs))
skip_ends false [] = ends_all []
skip_ends false (b ∷ bs) = ends_if (is_blank b) (b ∷ bs) (skip false bs) (cond (is_dash b && begins is_dash bs) (skip true bs) (b ∷ bs)) (ends_more b bs _ (skip_ends false bs))
    (ends_if (is_dash b && begins is_dash bs) (b ∷ bs) (skip true bs) (b ∷ bs) (ends_more b bs _ (skip_ends true bs)) (ends_all (b ∷ bs)))

-- ---- the loop

-- the bytes are these tokens and what the rest spells
pub record Split (bytes rest : List ℕ) (tokens : List Token) : Type 0 where
  pub front : List ℕ
  pub whole : bytes ≡ front ++ rest
  pub still : skip false rest ≡ rest
  pub sound : (us : List Token) → IsTokens rest us → IsTokens bytes (tokens ++ us)
  pub complete : (ts : List Token) → IsTokens bytes ts → (us : List Token) × (ts ≡ tokens ++ us) × IsTokens rest us

pub split_begins : (bytes : List ℕ) → Split bytes (skip false bytes) []
split_begins bytes =
    let e = skip_ends false bytes in
    record { front = e.front; whole = e.whole; still = still false bytes; sound = λ us h. skips false bytes us h; complete = λ ts h. (ts, refl, to_skip h) }

pub split_cuts : (bytes rest : List ℕ) (tokens : List Token) → IsUtf8 bytes → Split bytes rest tokens → CutsAtQuotes rest
split_cuts bytes rest tokens u h = cuts bytes h.front rest u h.whole

goes_here : (bytes : List ℕ) (b : ℕ) (bs after : List ℕ) (tokens : List Token) (t : Token) → token_at (b ∷ bs) ≡ Some (t, after) → Split bytes (b ∷ bs) tokens → Goes b bs (t, after)
goes_here bytes b bs after tokens t e h = goes b bs (t, after) (subst IsBare h.still (bare false (b ∷ bs))) e

pub turn_shorter : (bytes rest after : List ℕ) (tokens : List Token) (t : Token) → token_at rest ≡ Some (t, after) → Split bytes rest tokens → length (skip false after) < length rest
turn_shorter bytes [] after tokens t e h = absurd cc
turn_shorter bytes (b ∷ bs) after tokens t e h =
    let g = goes_here bytes b bs after tokens t e h in
    let f = skip_ends false after in
    omega (arith, ap length g.whole, ap length f.whole, length-append g.front after, length-append f.front (skip false after))

-- what a rest that is no separator spells
record Turns (rest after : List ℕ) (t : Token) (us : List Token) : Type 0 where
  tail : List Token
  whole : us ≡ t ∷ tail
  is : IsTokens after tail

turn_is : (n b : ℕ) (bs : List ℕ) (us : List Token) → skip false (b ∷ bs) ≡ b ∷ bs → lex (suc n) (b ∷ bs) ≡ Some us → lex_turn (lex n) (b ∷ bs) ≡ Some us
unfolding lex
turn_is n b bs us s e = ap (lex_turn (lex n)) (sym s) ∙ e

turns : (b : ℕ) (bs after : List ℕ) (t : Token) (us : List Token) → skip false (b ∷ bs) ≡ b ∷ bs → token_at (b ∷ bs) ≡ Some (t, after) → IsTokens (b ∷ bs) us → Turns (b ∷ bs) after t us
turns b bs after t us s e h =
    let n = suc (length bs) in
    let f = turn_is n b bs us s (lexes h (suc n) (omega arith)) in
    let g = bind_some (token_at (b ∷ bs)) (λ x. lex n x.1 >>= λ ts. some_of (x.0 ∷ ts)) us f in
    let same : (t, after) ≡ g.0 = some_token (t, after) g.0 (sym e ∙ g.1) in
    let i = bind_some (lex n g.0.1) (λ ts. some_of (g.0.0 ∷ ts)) us g.2 in
    record {
      tail = i.0;
      whole = sym (some_list (g.0.0 ∷ i.0) us i.2) ∙ ap (λ (x : TokenAndRest). x.0 ∷ i.0) (sym same);
      is = subst (λ (x : TokenAndRest). IsTokens x.1 i.0) (sym same) (lex_sound n g.0.1 i.0 i.1);
    }

pub split_goes : (bytes rest after : List ℕ) (tokens : List Token) (t : Token) → token_at rest ≡ Some (t, after) → Split bytes rest tokens → Split bytes (skip false after) (tokens ++ t ∷ [])
split_goes bytes [] after tokens t e h = absurd cc
split_goes bytes (b ∷ bs) after tokens t e h =
    let g = goes_here bytes b bs after tokens t e h in
    let f = skip_ends false after in
    record {
      front = h.front ++ b ∷ (g.front ++ f.front);
      whole = h.whole ∙ ap (λ l. h.front ++ b ∷ l) (g.whole ∙ ap (λ l. g.front ++ l) f.whole ∙ sym (append_assoc g.front f.front (skip false after)))
          ∙ sym (append_assoc h.front (b ∷ (g.front ++ f.front)) (skip false after));
      still = still false after;
      sound = λ us is. subst (IsTokens bytes) (sym (append_assoc tokens (t ∷ []) us)) (h.sound (t ∷ us) (g.by us (skips false after us is)));
      complete = λ ts is. let c = h.complete ts is in let w = turns b bs after t c.0 h.still e c.2 in
          (w.tail, c.1 ∙ ap (λ l. tokens ++ l) w.whole ∙ sym (append_assoc tokens (t ∷ []) w.tail), to_skip w.is);
    }

none_at : (b : ℕ) (bs : List ℕ) (us : List Token) → skip false (b ∷ bs) ≡ b ∷ bs → token_at (b ∷ bs) ≡ None → IsTokens (b ∷ bs) us → ⊥
none_at b bs us s e h =
    let n = suc (length bs) in
    let f = turn_is n b bs us s (lexes h (suc n) (omega arith)) in
    let g = bind_some (token_at (b ∷ bs)) (λ x. lex n x.1 >>= λ ts. some_of (x.0 ∷ ts)) us f in
    let no : None ≡ some_of g.0 = sym e ∙ g.1 in
    absurd cc

pub split_fails : (e : Stop) (bytes rest : List ℕ) (tokens : List Token) → (rest ≡ [] → ⊥) → Fails e (token_at rest) → Split bytes rest tokens → HasNoTokens e bytes
split_fails stop.Memory bytes rest tokens n e h = tt
split_fails stop.Syntax bytes [] tokens n e h = absurd (n refl)
split_fails stop.Syntax bytes (b ∷ bs) tokens n e h = λ ts is. let c = h.complete ts is in none_at b bs c.0 h.still e c.2

pub split_ends : (bytes rest : List ℕ) (tokens : List Token) → rest ≡ [] → Split bytes rest tokens → IsTokens bytes tokens
split_ends bytes rest tokens e h = subst (IsTokens bytes) (append-nil tokens) (h.sound [] (subst (λ l. IsTokens l []) (sym e) end_of_text))

pub nil_is : (rest : List ℕ) → true ≡ (length rest == 0) → rest ≡ []
nil_is rest e = nil_from_length rest (eqb-true _ _ (sym e))

pub not_nil : (rest : List ℕ) → false ≡ (length rest == 0) → rest ≡ [] → ⊥
not_nil [] e n = absurd cc
not_nil (b ∷ rest) e n = absurd cc
