-- A text is cut where its tokens are.
use Rattle.std.proofs.Common.{◌≡◌, ℕ, Bool, true, false, cond, List, [], ◌∷◌, ◌++◌, refl, sym, ap, subst, ◌∙◌, arith, append_assoc}
use Rattle.std.specs.Prelude.{◌&&◌, not}
use Rattle.std.specs.Char.{is_ascii_digit}
use Rattle.std.specs.List.{AllZip, list_all}
use Rattle.std.specs.Str.{str_to_ascii_lowercase}
use Rattle.std.proofs.lemmas.Bool.{and_left, and_parts, cond-false, cond-true, eqb-true}
use Rattle.std.proofs.lemmas.Bool.Decides.{nat_tests}
use Rattle.std.proofs.lemmas.List.{append-nil}
use Rattle.ssb_terms.specs.Names.{is_reserved, is_word, is_word_byte}
use Rattle.ssb_tokens.specs.declared.token.Mark.{Mark}
use Rattle.ssb_tokens.specs.declared.token.Mark.TheVariants as marks
use Rattle.ssb_tokens.specs.declared.token.Sign.TheVariants as s
use Rattle.ssb_tokens.specs.declared.token.Token.{Token}
use Rattle.ssb_tokens.specs.declared.token.Token.TheVariants.{Fixed, Name, Number, Text}
use Rattle.ssb_tokens.specs.StatementLaws.{is_semicolon, token_statements, token_statements_from}
use Rattle.ssb_tokens.specs.Statements.{if_any, is_end, statements_from, statements_of, within}
use Rattle.ssb_tokens.specs.Statements.Place.{plain, literal, comment as in_comment}
use Rattle.ssb_tokens.specs.Tokens.{Each, IsLongest, IsTokens, Stops, begins, doubled, goes_on, is_blank, is_dash, is_numeral, is_quote, mark_text, value_of}
use Rattle.ssb_tokens.specs.Tokens.IsTokens.{end_of_text, blank, comment, reserved, name, number, text, mark}
use Rattle.ssb_tokens.proofs.TokenComplete.{word_each}
use Rattle.ssb_tokens.proofs.TokenSound.{line_end_blank}

-- ---- bytes that cut nothing

-- neither `;`, nor a quote, a dash or a separator
record IsOrdinary (b : ℕ) : Type 0 where
  end : is_end b ≡ false
  quote : is_quote b ≡ false
  dash : is_dash b ≡ false
  blank : is_blank b ≡ false

word_ordinary : (b : ℕ) → is_word_byte b ≡ true → IsOrdinary b
word_ordinary b h = record { end = grind (arith, nat_tests); quote = grind (arith, nat_tests); dash = grind (arith, nat_tests); blank = grind (arith, nat_tests) }

digit_ordinary : (b : ℕ) → is_ascii_digit b ≡ true → IsOrdinary b
digit_ordinary b h = record { end = grind (arith, nat_tests); quote = grind (arith, nat_tests); dash = grind (arith, nat_tests); blank = grind (arith, nat_tests) }

ordinary_goes : (so_far : List ℕ) (b : ℕ) (bs : List ℕ) → IsOrdinary b → statements_from plain so_far (b ∷ bs) ≡ statements_from plain (so_far ++ b ∷ []) bs
unfolding statements_from
ordinary_goes so_far b bs h =
    cond-false (is_end b) _ _ h.end
    ∙ cond-false (is_quote b) _ _ h.quote
    ∙ cond-false (is_dash b && begins is_dash bs) _ _ (and_left (is_dash b) (begins is_dash bs) h.dash)
    ∙ ap (λ l. statements_from plain l bs) (cond-false (is_blank b) (within so_far b) (so_far ++ b ∷ []) h.blank)

each_goes : (p : ℕ → Bool) → ((b : ℕ) → p b ≡ true → IsOrdinary b) → (so_far bs rest : List ℕ) → Each p bs → statements_from plain so_far (bs ++ rest) ≡ statements_from plain (so_far ++ bs) rest
each_goes p f so_far [] rest h = ap (λ l. statements_from plain l rest) (sym (append-nil so_far))
each_goes p f so_far (b ∷ bs) rest h =
    let two = and_parts (p b) (list_all p bs) h in
    ordinary_goes so_far b (bs ++ rest) (f b two.0) ∙ each_goes p f (so_far ++ b ∷ []) bs rest two.1 ∙ ap (λ l. statements_from plain l rest) (append_assoc so_far (b ∷ []) bs)

-- ---- text literals

-- up to the quote that closes a text, these bytes are passed
Passes : List ℕ → List ℕ → List ℕ → Type 0
Passes so_far bs rest = statements_from literal so_far (bs ++ 39 ∷ rest) ≡ statements_from plain (so_far ++ (bs ++ 39 ∷ [])) rest

passes_twice : (bs so_far rest : List ℕ) → Passes ((so_far ++ 39 ∷ []) ++ 39 ∷ []) bs rest → Passes so_far (39 ∷ 39 ∷ bs) rest
unfolding statements_from Passes
passes_twice bs so_far rest h =
    h ∙ ap (λ l. statements_from plain l rest) (append_assoc (so_far ++ 39 ∷ []) (39 ∷ []) (bs ++ 39 ∷ []) ∙ append_assoc so_far (39 ∷ []) (39 ∷ (bs ++ 39 ∷ [])))

passes_once : (b : ℕ) (bs so_far rest : List ℕ) → is_quote b ≡ false → Passes (so_far ++ b ∷ []) bs rest → Passes so_far (b ∷ bs) rest
unfolding statements_from Passes
passes_once b bs so_far rest e h =
    ap (λ q. statements_from (cond q plain literal) (so_far ++ b ∷ []) (bs ++ 39 ∷ rest)) e
    ∙ h
    ∙ ap (λ l. statements_from plain l rest) (append_assoc so_far (b ∷ []) (bs ++ 39 ∷ []))

passes_by : (b : ℕ) (bs so_far rest : List ℕ) (q : Bool) → is_quote b ≡ q → ((front : List ℕ) → Passes front bs rest) → Passes so_far (cond q (b ∷ b ∷ bs) (b ∷ bs)) rest
passes_by b bs so_far rest true e h = subst (λ c. Passes so_far (c ∷ c ∷ bs) rest) (sym (eqb-true b 39 e)) (passes_twice bs so_far rest (h _))
passes_by b bs so_far rest false e h = passes_once b bs so_far rest e (h _)

literal_goes : (t so_far rest : List ℕ) → Passes so_far (doubled t) rest
unfolding statements_from Passes
literal_goes [] so_far rest = refl
literal_goes (b ∷ t) so_far rest = passes_by b (doubled t) so_far rest (is_quote b) refl (λ front. literal_goes t front rest)

-- how a text is written
abbrev literal_of : List ℕ → List ℕ
literal_of t = 39 ∷ (doubled t ++ 39 ∷ [])

literal_spelled : (t rest : List ℕ) → literal_of t ++ rest ≡ 39 ∷ (doubled t ++ 39 ∷ rest)
literal_spelled t rest = ap (λ l. 39 ∷ l) (append_assoc (doubled t) (39 ∷ []) rest)

text_goes : (t so_far rest : List ℕ) → statements_from plain so_far (39 ∷ (doubled t ++ 39 ∷ rest)) ≡ statements_from plain (so_far ++ literal_of t) rest
unfolding statements_from Passes
text_goes t so_far rest = literal_goes t (so_far ++ 39 ∷ []) rest ∙ ap (λ l. statements_from plain l rest) (append_assoc so_far (39 ∷ []) (doubled t ++ 39 ∷ []))

-- ---- separators

-- some bytes more of a statement that has begun
abbrev behind : List ℕ → List ℕ → List ℕ
behind [] more = []
behind (c ∷ cs) more = (c ∷ cs) ++ more

behind_none : (so_far : List ℕ) → behind so_far [] ≡ so_far
behind_none [] = refl
behind_none (c ∷ cs) = append-nil (c ∷ cs)

behind_one : (so_far : List ℕ) (b : ℕ) → within so_far b ≡ behind so_far (b ∷ [])
behind_one [] b = refl
behind_one (c ∷ cs) b = refl

behind_more : (so_far : List ℕ) (b : ℕ) (bs : List ℕ) → behind (within so_far b) bs ≡ behind so_far (b ∷ bs)
behind_more [] b bs = refl
behind_more (c ∷ cs) b bs = append_assoc (c ∷ cs) (b ∷ []) bs

-- a separator's byte
record IsApart (b : ℕ) : Type 0 where
  end : is_end b ≡ false
  quote : is_quote b ≡ false
  dash : is_dash b ≡ false

blank_apart : (b : ℕ) → is_blank b ≡ true → IsApart b
blank_apart b h = record { end = grind (arith, nat_tests); quote = grind (arith, nat_tests); dash = grind (arith, nat_tests) }

within_goes : (so_far : List ℕ) (b : ℕ) (bs : List ℕ) → is_blank b ≡ true → statements_from plain so_far (b ∷ bs) ≡ statements_from plain (within so_far b) bs
unfolding statements_from
within_goes so_far b bs e =
    let h = blank_apart b e in
    cond-false (is_end b) _ _ h.end
    ∙ cond-false (is_quote b) _ _ h.quote
    ∙ cond-false (is_dash b && begins is_dash bs) _ _ (and_left (is_dash b) (begins is_dash bs) h.dash)
    ∙ ap (λ l. statements_from plain l bs) (cond-true (is_blank b) (within so_far b) (so_far ++ b ∷ []) e)

blank_goes : (so_far : List ℕ) (b : ℕ) (bs : List ℕ) → is_blank b ≡ true → statements_from plain so_far (b ∷ bs) ≡ statements_from plain (behind so_far (b ∷ [])) bs
blank_goes so_far b bs e = within_goes so_far b bs e ∙ ap (λ l. statements_from plain l bs) (behind_one so_far b)

note_goes : (note so_far rest : List ℕ) → Each goes_on note → Stops goes_on rest → statements_from in_comment so_far (note ++ rest) ≡ statements_from plain (behind so_far note) rest
unfolding statements_from
note_goes [] so_far [] e s = ap if_any (sym (behind_none so_far))
note_goes [] so_far (b ∷ rest) e s =
    ap (λ q. statements_from (cond q in_comment plain) (within so_far b) rest) s
    ∙ sym (within_goes so_far b rest (line_end_blank b s))
    ∙ ap (λ l. statements_from plain l (b ∷ rest)) (sym (behind_none so_far))
note_goes (b ∷ note) so_far rest e s =
    let two = and_parts (goes_on b) (list_all goes_on note) e in
    ap (λ q. statements_from (cond q in_comment plain) (within so_far b) (note ++ rest)) two.0
    ∙ note_goes note (within so_far b) rest two.1 s
    ∙ ap (λ l. statements_from plain l rest) (behind_more so_far b note)

comment_goes : (note so_far rest : List ℕ) → Each goes_on note → Stops goes_on rest → statements_from plain so_far (45 ∷ 45 ∷ (note ++ rest)) ≡ statements_from plain (behind so_far (45 ∷ 45 ∷ note)) rest
unfolding statements_from
comment_goes note so_far rest e s =
    note_goes note (within (within so_far 45) 45) rest e s
    ∙ ap (λ l. statements_from plain l rest) (behind_more (within so_far 45) 45 note ∙ behind_more so_far 45 (45 ∷ note))

-- ---- marks

mark_goes : (x : Mark) (so_far rest : List ℕ) → IsLongest x rest → is_semicolon (Fixed (s.Mark x)) ≡ false → statements_from plain so_far (mark_text x ++ rest) ≡ statements_from plain (so_far ++ mark_text x) rest
unfolding statements_from
mark_goes marks.Semicolon so_far rest h n = absurd cc
mark_goes marks.Minus so_far rest h n = ap (λ q. cond q (statements_from in_comment (within so_far 45) rest) (statements_from plain (so_far ++ 45 ∷ []) rest)) h
mark_goes marks.NotEqual so_far rest h n = ap (λ l. statements_from plain l rest) (append_assoc so_far (60 ∷ []) (62 ∷ []))
mark_goes marks.LessEqual so_far rest h n = ap (λ l. statements_from plain l rest) (append_assoc so_far (60 ∷ []) (61 ∷ []))
mark_goes marks.GreaterEqual so_far rest h n = ap (λ l. statements_from plain l rest) (append_assoc so_far (62 ∷ []) (61 ∷ []))
mark_goes _ so_far rest h n = refl

-- ---- the statement that is being read

abbrev IsFull : List ℕ → Type 0
IsFull [] = ⊥
IsFull (b ∷ bs) = Unit {0}

-- a statement has bytes where it has tokens
abbrev AreBoth : List ℕ → List Token → Type 0
AreBoth [] [] = Unit {0}
AreBoth [] (u ∷ us) = ⊥
AreBoth (c ∷ cs) [] = ⊥
AreBoth (c ∷ cs) (u ∷ us) = Unit {0}

both_more : (so_far word : List ℕ) (us : List Token) (t : Token) → IsFull word → AreBoth (so_far ++ word) (us ++ t ∷ [])
both_more [] [] us t f = absurd f
both_more [] (b ∷ bs) [] t f = tt
both_more [] (b ∷ bs) (u ∷ us) t f = tt
both_more (c ∷ cs) word [] t f = tt
both_more (c ∷ cs) word (u ∷ us) t f = tt

both_behind : (so_far bytes : List ℕ) (us : List Token) → AreBoth so_far us → AreBoth (behind so_far bytes) us
both_behind [] bytes us h = h
both_behind (c ∷ cs) bytes us h = elim us as (λ ts. AreBoth (c ∷ cs) ts → AreBoth ((c ∷ cs) ++ bytes) ts) [ [] ↦ λ no. no | u ∷ us ↦ λ _. tt ] h

-- two texts begin with the same byte
abbrev Alike : List ℕ → List ℕ → Type 0
Alike r rest = (p : ℕ → Bool) → begins p r ≡ begins p rest

alike : (word r rest : List ℕ) → IsFull word → Alike (word ++ r) (word ++ rest)
alike [] r rest f = absurd f
alike (b ∷ bs) r rest f = λ p. refl

-- a statement so far: whatever begins as the rest does, goes on with it
record Front (so_far : List ℕ) (us : List Token) (rest : List ℕ) : Type 0 where
  by : (r : List ℕ) (vs : List Token) → Alike r rest → IsTokens r vs → IsTokens (so_far ++ r) (us ++ vs)

-- one token more
front_token : (so_far word rest : List ℕ) (us : List Token) (t : Token) → IsFull word → Front so_far us (word ++ rest)
    → ((r : List ℕ) (vs : List Token) → Alike r rest → IsTokens r vs → IsTokens (word ++ r) (t ∷ vs)) → Front (so_far ++ word) (us ++ t ∷ []) rest
front_token so_far word rest us t f h more = record {
  by = λ r vs a is.
      subst (λ l. IsTokens l ((us ++ t ∷ []) ++ vs)) (sym (append_assoc so_far word r))
      (subst (IsTokens (so_far ++ (word ++ r))) (sym (append_assoc us (t ∷ []) vs)) (h.by (word ++ r) (t ∷ vs) (alike word r rest f) (more r vs a is)));
}

-- separators
front_behind : (so_far bytes rest : List ℕ) (us : List Token) → IsFull bytes → AreBoth so_far us → Front so_far us (bytes ++ rest)
    → ((r : List ℕ) (vs : List Token) → Alike r rest → IsTokens r vs → IsTokens (bytes ++ r) vs) → Front (behind so_far bytes) us rest
front_behind [] bytes rest [] f b h more = record { by = λ r vs a is. is }
front_behind [] bytes rest (u ∷ us) f b h more = absurd b
front_behind (c ∷ cs) bytes rest us f b h more = record {
  by = λ r vs a is. subst (λ l. IsTokens l (us ++ vs)) (sym (append_assoc (c ∷ cs) bytes r)) (h.by (bytes ++ r) vs (alike bytes r rest f) (more r vs a is));
}

-- ---- statements

-- the statements of the rest are cut where its tokens are
record Cuts (rest : List ℕ) (ts : List Token) : Type 0 where
  by : (so_far : List ℕ) (us : List Token) → AreBoth so_far us → Front so_far us rest → AllZip IsTokens (statements_from plain so_far rest) (token_statements_from us ts)

-- at the end of the text
last_cut : (so_far : List ℕ) (us : List Token) → AreBoth so_far us → IsTokens so_far us → AllZip IsTokens (if_any so_far) (if_any us)
last_cut [] [] b h = tt
last_cut [] (u ∷ us) b h = absurd b
last_cut (c ∷ cs) [] b h = absurd b
last_cut (c ∷ cs) (u ∷ us) b h = (h, tt)

-- at a `;`
end_cut : (so_far : List ℕ) (us : List Token) (t : Token) (xs : List (List ℕ)) (ys : List (List Token)) → AreBoth so_far us → IsTokens (so_far ++ 59 ∷ []) (us ++ t ∷ []) → AllZip IsTokens xs ys
    → AllZip IsTokens (if_any (within so_far 59) ++ xs) (if_any (within us t) ++ ys)
end_cut [] [] t xs ys b h more = more
end_cut [] (u ∷ us) t xs ys b h more = absurd b
end_cut (c ∷ cs) [] t xs ys b h more = absurd b
end_cut (c ∷ cs) (u ∷ us) t xs ys b h more = (h, more)

cuts_end : Cuts [] []
unfolding statements_from token_statements_from
cuts_end = record {
  by = λ so_far us b h. last_cut so_far us b (subst (λ l. IsTokens l us) (append-nil so_far) (subst (IsTokens (so_far ++ [])) (append-nil us) (h.by [] [] (λ p. refl) end_of_text)));
}

cuts_semicolon : (rest : List ℕ) (ts : List Token) → Cuts rest ts → Cuts (59 ∷ rest) (Fixed (s.Mark marks.Semicolon) ∷ ts)
unfolding statements_from token_statements_from
cuts_semicolon rest ts more = record {
  by = λ so_far us b h.
      end_cut so_far us (Fixed (s.Mark marks.Semicolon)) (statements_from plain [] rest) (token_statements_from [] ts) b
      (h.by (59 ∷ []) (Fixed (s.Mark marks.Semicolon) ∷ []) (λ p. refl) (mark marks.Semicolon [] tt end_of_text))
      (more.by [] [] tt (record { by = λ r vs a is. is }));
}

cuts_token : (word rest : List ℕ) (t : Token) (ts : List Token) → IsFull word → is_semicolon t ≡ false
    → ((so_far : List ℕ) → statements_from plain so_far (word ++ rest) ≡ statements_from plain (so_far ++ word) rest)
    → ((r : List ℕ) (vs : List Token) → Alike r rest → IsTokens r vs → IsTokens (word ++ r) (t ∷ vs)) → Cuts rest ts → Cuts (word ++ rest) (t ∷ ts)
unfolding token_statements_from
cuts_token word rest t ts f n goes is more = record {
  by = λ so_far us b h.
      subst (AllZip IsTokens (statements_from plain so_far (word ++ rest))) (sym (cond-false (is_semicolon t) (if_any (within us t) ++ token_statements_from [] ts) (token_statements_from (us ++ t ∷ []) ts) n))
      (subst (λ l. AllZip IsTokens l (token_statements_from (us ++ t ∷ []) ts)) (sym (goes so_far))
      (more.by (so_far ++ word) (us ++ t ∷ []) (both_more so_far word us t f) (front_token so_far word rest us t f h is)));
}

cuts_behind : (bytes rest : List ℕ) (ts : List Token) → IsFull bytes
    → ((so_far : List ℕ) → statements_from plain so_far (bytes ++ rest) ≡ statements_from plain (behind so_far bytes) rest)
    → ((r : List ℕ) (vs : List Token) → Alike r rest → IsTokens r vs → IsTokens (bytes ++ r) vs) → Cuts rest ts → Cuts (bytes ++ rest) ts
cuts_behind bytes rest ts f goes is more = record {
  by = λ so_far us b h.
      subst (λ l. AllZip IsTokens l (token_statements_from us ts)) (sym (goes so_far))
      (more.by (behind so_far bytes) us (both_behind so_far bytes us b) (front_behind so_far bytes rest us f b h is));
}

word_full : (word : List ℕ) → is_word word ≡ true → IsFull word
word_full [] h = absurd cc
word_full (b ∷ bs) h = tt

word_goes : (word : List ℕ) → is_word word ≡ true → (so_far rest : List ℕ) → statements_from plain so_far (word ++ rest) ≡ statements_from plain (so_far ++ word) rest
word_goes [] h so_far rest = absurd cc
word_goes (b ∷ bs) h so_far rest = each_goes is_word_byte word_ordinary so_far (b ∷ bs) rest (word_each b bs h)

digits_full : (digits : List ℕ) → is_numeral digits ≡ true → IsFull digits
digits_full [] h = absurd cc
digits_full (b ∷ bs) h = tt

digits_goes : (digits : List ℕ) → is_numeral digits ≡ true → (so_far rest : List ℕ) → statements_from plain so_far (digits ++ rest) ≡ statements_from plain (so_far ++ digits) rest
digits_goes [] h so_far rest = absurd cc
digits_goes (b ∷ bs) h so_far rest = each_goes is_ascii_digit digit_ordinary so_far (b ∷ bs) rest h

-- what may follow a mark is told by its first byte
longest_alike : (x : Mark) (r rest : List ℕ) → Alike r rest → IsLongest x rest → IsLongest x r
longest_alike marks.Minus r rest a h = a is_dash ∙ h
longest_alike marks.Less r rest a h = a _ ∙ h
longest_alike marks.Greater r rest a h = a _ ∙ h
longest_alike _ r rest a h = tt

cuts_mark : (x : Mark) (rest : List ℕ) (ts : List Token) → IsLongest x rest → Cuts rest ts → Cuts (mark_text x ++ rest) (Fixed (s.Mark x) ∷ ts)
cuts_mark marks.Semicolon rest ts h more = cuts_semicolon rest ts more
cuts_mark x rest ts h more =
    cuts_token (mark_text x) rest (Fixed (s.Mark x)) ts tt refl (λ so_far. mark_goes x so_far rest h refl) (λ r vs a is. mark x r (longest_alike x r rest a h) is) more

cuts_text : (t rest : List ℕ) (ts : List Token) → Stops is_quote rest → Cuts rest ts → Cuts (39 ∷ (doubled t ++ 39 ∷ rest)) (Text t ∷ ts)
cuts_text t rest ts h more =
    subst (λ l. Cuts l (Text t ∷ ts)) (literal_spelled t rest)
    (cuts_token (literal_of t) rest (Text t) ts tt refl (λ so_far. ap (statements_from plain so_far) (literal_spelled t rest) ∙ text_goes t so_far rest)
    (λ r vs a is. subst (λ l. IsTokens l (Text t ∷ vs)) (sym (literal_spelled t r)) (text t r (a is_quote ∙ h) is)) more)

cuts_all : {rest : List ℕ} {ts : List Token} → IsTokens rest ts → Cuts rest ts
cuts_all end_of_text = cuts_end
cuts_all (blank {b = b} {rest = rest} {ts = ts} h a) =
    cuts_behind (b ∷ []) rest ts tt (λ so_far. blank_goes so_far b rest h) (λ r vs _ is. blank h is) (cuts_all a)
cuts_all (comment note rest {ts = ts} e s a) =
    cuts_behind (45 ∷ 45 ∷ note) rest ts tt (λ so_far. comment_goes note so_far rest e s) (λ r vs a is. comment note r e (a goes_on ∙ s) is) (cuts_all a)
cuts_all (reserved word rest x {ts = ts} w e stops a) =
    cuts_token word rest (Fixed (s.Word x)) ts (word_full word w) refl (λ so_far. word_goes word w so_far rest) (λ r vs a is. reserved word r x w e (a is_word_byte ∙ stops) is) (cuts_all a)
cuts_all (name word rest {ts = ts} w stops a) =
    let is_one = (and_parts (is_word word) (not (is_reserved word)) w).0 in
    cuts_token word rest (Name (str_to_ascii_lowercase word)) ts (word_full word is_one) refl (λ so_far. word_goes word is_one so_far rest) (λ r vs a is. name word r w (a is_word_byte ∙ stops) is) (cuts_all a)
cuts_all (number digits rest {ts = ts} w stops v a) =
    cuts_token digits rest (Number (value_of digits)) ts (digits_full digits w) refl (λ so_far. digits_goes digits w so_far rest) (λ r vs a is. number digits r w (a is_word_byte ∙ stops) v is) (cuts_all a)
cuts_all (text t rest {ts = ts} stops a) = cuts_text t rest ts stops (cuts_all a)
cuts_all (mark x rest {ts = ts} h a) = cuts_mark x rest ts h (cuts_all a)

pub cuts : (bytes : List ℕ) (ts : List Token) → IsTokens bytes ts → AllZip IsTokens (statements_of bytes) (token_statements ts)
cuts bytes ts is = (cuts_all is).by [] [] tt (record { by = λ r vs a h. h })
