-- One record more, of a text that is read record by record.
use Rattle.std.proofs.Common.{◌≡◌, ◌==◌, ◌∙◌, ◌<◌, ◌≤◌, ℕ, suc, zero, Bool, true, false, cond, List, [], ◌∷◌, ◌++◌, length, Option, Some, None, refl, sym, ap, arith}
use Rattle.std.proofs.lemmas.Bool.{false≢true}
use Rattle.csv.specs.Machine.{next_record, step, in_field, start_field, start_record, after_end, ends_at_end, is_end, Read, fields_after, field_after, carriage_return}
use Rattle.csv.specs.Reading.{records_from, source_of, ReadRecord, Reached}
use Rattle.csv.specs.declared.reader.Reader.{Reader}
use Rattle.csv.specs.declared.parser.Config.{Config}
use Rattle.csv.specs.declared.parser.State.{State}
use Rattle.csv.specs.declared.parser.Action.{Action}
use Rattle.csv.specs.declared.parser.Action.TheVariants as act
use Rattle.csv.specs.declared.parser.State.TheVariants as st
use Rattle.csv.specs.declared.parser.Terminator.{Terminator}
use Rattle.csv.specs.declared.parser.Terminator.TheVariants as term
use Rattle.csv.proofs.ReadFacts.{rows-more, rows-end}

by-cond : {A : Type 0} (P : A → Type 0) (b : Bool) (x y : A) → P x → P y → P (cond b x y)
by-cond P true x y p q = p
by-cond P false x y p q = q

-- after the end of a record the end of the text ends no other
record EndsWell (x : State × Action) : Type 0 where
  well : is_end x.1 ≡ true → ends_at_end x.0 ≡ false

after-end-well : (t : Terminator) (c : ℕ) → ends_at_end (after_end t c) ≡ false
after-end-well term.CRLF c = by-cond (λ s. ends_at_end s ≡ false) (c == carriage_return) st.AfterCr st.StartRecord refl refl
after-end-well (term.Any t) c = refl

skip : (s : State) (a : Action) → is_end a ≡ false → EndsWell (s, a)
skip s a e = record { well = λ h. absurd (false≢true (sym e ∙ h)) }

in-field-well : (cfg : Config) (c : ℕ) → EndsWell (in_field cfg c)
in-field-well cfg c = by-cond EndsWell _ _ _ (skip st.StartField act.EndField refl) (by-cond EndsWell _ (after_end cfg.terminator c, act.EndRecord) _ (record { well = λ h. after-end-well cfg.terminator c }) (skip st.InField act.Copy refl))

start-field-well : (cfg : Config) (c : ℕ) → EndsWell (start_field cfg c)
start-field-well cfg c = by-cond EndsWell _ _ _ (skip st.InQuoted act.Skip refl) (in-field-well cfg c)

start-record-well : (cfg : Config) (c : ℕ) → EndsWell (start_record cfg c)
start-record-well cfg c = by-cond EndsWell _ _ _ (skip st.StartRecord act.Skip refl) (by-cond EndsWell _ _ _ (skip st.InComment act.Skip refl) (start-field-well cfg c))

step-well : (cfg : Config) (s : State) (c : ℕ) → EndsWell (step cfg s c)
step-well cfg st.StartRecord c = start-record-well cfg c
step-well cfg st.StartField c = start-field-well cfg c
step-well cfg st.InField c = in-field-well cfg c
step-well cfg st.InQuoted c = by-cond EndsWell _ _ _ (skip st.AfterQuote act.Skip refl) (by-cond EndsWell _ _ _ (skip st.InEscape act.Skip refl) (skip st.InQuoted act.Copy refl))
step-well cfg st.InEscape c = skip st.InQuoted act.Copy refl
step-well cfg st.AfterQuote c = by-cond EndsWell _ _ _ (skip st.InQuoted act.Copy refl) (in-field-well cfg c)
step-well cfg st.InComment c = by-cond EndsWell _ _ _ (skip st.StartRecord act.Skip refl) (skip st.InComment act.Skip refl)
step-well cfg st.AfterCr c = by-cond EndsWell _ _ _ (skip st.StartRecord act.Skip refl) (start-record-well cfg c)

-- the text after a record is no longer, and the state after it is between records
abbrev Shorter : List ℕ → Option Read → Type 0
Shorter xs o = (r : Read) → o ≡ Some r → (length r.2 ≤ length xs) × (ends_at_end r.1 ≡ false)

next-last : (b : Bool) (fields : List (List ℕ)) → Shorter [] (cond b (Some (fields, st.StartRecord, [])) None)
next-last true fields r e = let h : ◌≡◌ {A = Read} (fields, st.StartRecord, []) r = cc in rw (← h) (omega arith, refl)
next-last false fields r e = cc e

next-step : (b : Bool) (x : Read) (o : Option Read) (rest : List ℕ) → (b ≡ true → (x.2 ≡ rest) × (ends_at_end x.1 ≡ false)) → Shorter rest o → Shorter rest (cond b (Some x) o)
next-step true x o rest h more r e = let k : x ≡ r = cc in let g = h refl in rw (← k, g.0) (omega arith, g.1)
next-step false x o rest h more r e = more r e

next-shorter : (cfg : Config) (s : State) (fields : List (List ℕ)) (field xs : List ℕ) → Shorter xs (next_record cfg s fields field xs)
unfolding next_record
next-shorter cfg s fields field [] r e = next-last (ends_at_end s) (fields ++ field ∷ []) r e
next-shorter cfg s fields field (c ∷ rest) r e =
    let g = next-step (is_end (step cfg s c).1) (fields_after (step cfg s c).1 fields field, (step cfg s c).0, rest)
    (next_record cfg (step cfg s c).0 (fields_after (step cfg s c).1 fields field) (field_after (step cfg s c).1 c field) rest) rest
    (λ h. (refl, (step-well cfg s c).well h))
    (next-shorter cfg (step cfg s c).0 (fields_after (step cfg s c).1 fields field) (field_after (step cfg s c).1 c field) rest) r e in
    (let l = g.0 in omega arith, g.1)

-- between records, a record takes a byte at least
pub next-less : (cfg : Config) (s : State) (xs : List ℕ) (r : Read) → ends_at_end s ≡ false → next_record cfg s [] [] xs ≡ Some r → (length r.2 < length xs) × (ends_at_end r.1 ≡ false)
unfolding next_record
next-less cfg s [] r between e = let h : ◌≡◌ {A = Option Read} None (Some r) = rw between at e in cc h
next-less cfg s (c ∷ rest) r between e =
    let g = next-step (is_end (step cfg s c).1) (fields_after (step cfg s c).1 [] [], (step cfg s c).0, rest)
    (next_record cfg (step cfg s c).0 (fields_after (step cfg s c).1 [] []) (field_after (step cfg s c).1 c []) rest) rest
    (λ h. (refl, (step-well cfg s c).well h))
    (next-shorter cfg (step cfg s c).0 (fields_after (step cfg s c).1 [] []) (field_after (step cfg s c).1 c []) rest) r e in
    (let l = g.0 in omega arith, g.1)

next-of : (cfg : Config) (s s2 : State) (y z : List ℕ) (less : ℕ) (p : Read) (f : List (List ℕ)) → next_record cfg s [] [] y ≡ Some p → f ≡ p.0 → p.1 ≡ s2 → p.2 ≡ z
    → records_from cfg (suc less) s y ≡ f ∷ records_from cfg less s2 z
unfolding records_from
next-of cfg s s2 y z less p f next is state rest = rw (next, is, state, rest) refl

-- a record that is read is the next of the records, and what is left of the text goes on
pub read-more : {R : Type 0} (rem : R → Option (List ℕ)) (a b : Reader R) (f : List (List ℕ)) (cfg : Config) (y : List ℕ) (fuel : ℕ)
    → a.config ≡ cfg → source_of rem a ≡ Some y → length y < fuel → ends_at_end a.state ≡ false → ReadRecord rem a b true f
    → (z : List ℕ) × (less : ℕ) × (source_of rem b ≡ Some z) × (length z < less) × (ends_at_end b.state ≡ false) × (records_from cfg fuel a.state y ≡ f ∷ records_from cfg less b.state z)
unfolding Reached records_from
read-more rem a b f cfg y zero ec ex lt between r = absurd (omega arith)
read-more rem a b f cfg y (suc less) ec ex lt between r =
    let (z, at_z, reached) = rows-more rem a b f cfg a.state y y [] ec ex (refl, refl) r in
    let (p, next, is, ends) = reached in
    let g = next-less cfg a.state y p between next in
    let shorter : length z < less = (let l = g.0 in let e = ap length ends.1 in omega arith) in
    (z, less, at_z, shorter, rw (← ends.0) g.1, next-of cfg a.state b.state y z less p f next is ends.0 ends.1)

-- where no record is read, none is left
pub read-none : {R : Type 0} (rem : R → Option (List ℕ)) (a b : Reader R) (f : List (List ℕ)) (cfg : Config) (y : List ℕ) (fuel : ℕ)
    → a.config ≡ cfg → source_of rem a ≡ Some y → ReadRecord rem a b false f → records_from cfg fuel a.state y ≡ []
unfolding records_from
read-none rem a b f cfg y zero ec ex r = refl
read-none rem a b f cfg y (suc fuel) ec ex r = rw (rows-end rem a b f cfg y ec ex r) refl
