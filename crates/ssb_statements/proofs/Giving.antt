-- What a script gives of the bytes that wait.
use Rattle.std.proofs.Common.{◌≡◌, ◌∙◌, ℕ, zero, suc, ◌+◌, ◌-◌, ◌^◌, ◌<◌, ◌≤◌, ◌==◌, Bool, true, false, List, [], ◌∷◌, ◌++◌, length, take, drop, get_or, Some, None, Result, Ok, Err, refl, sym, ap, subst, arith, append_assoc, length-append, inl, inr, not, if◌then◌else◌}
use Rattle.std.proofs.lemmas.List.{append-nil, drop-append-le, drop_more, length-drop, length-take, take-append-drop}
use Rattle.std.proofs.lemmas.Bool.{eqb-false, eqb-true, false≢true, ne_eqb}
use Rattle.std.proofs.Math.Seq.{drop-append_seam}
use Rattle.std.proofs.lemmas.List.Folds.{list_any-append}
use Rattle.ssb_tokens.specs.Tokens.{begins}
use Rattle.ssb_records.specs.Lines.{IsPartOfLine}
use Rattle.ssb_records.specs.declared.source.Source.{Ghosts as Source}
use Rattle.ssb_records.specs.declared.source.SourceFault.{SourceFault}
use Rattle.ssb_statements.specs.Parting.{EndsBefore, HasNoCommand, IsAtCommand, IsBeforeCommand, IsEndOf, is_dot}
use Rattle.ssb_statements.proofs.Finding.{drop-drop}
use Rattle.ssb_statements.specs.Reader.{ScriptReader}
use Rattle.ssb_statements.specs.Scripts.{Comes, IsLine, IsQuiet, Refills, TakesByte, TakesLine, has_met_end, line_of, source_in, stretch, waiting}
use Rattle.ssb_statements.specs.declared.script.Next.TheVariants.{Command, End, Statements}

-- so many bytes were given
pub record GivesAt (n : ℕ) (bytes old now room_old room : List ℕ) : Type 0 where
  pub passed : now ≡ old ++ take n bytes
  pub given : take n room ≡ take n bytes
  pub long : length room ≡ length room_old

-- ---- the end of what the source gave

pub end-none : (all bytes : List ℕ) → bytes ≡ [] → IsEndOf all bytes
end-none all bytes is = record { within = omega (arith, ap length is); same = ends ∙ sym is }
  where
    ends : drop (length all - length bytes) all ≡ []
    ends = none _ (omega (arith, length-drop (length all - length bytes) all, ap length is))
      where
        none : (xs : List ℕ) → length xs ≡ 0 → xs ≡ []
        none [] e = refl
        none (x ∷ xs) e = absurd (omega arith)

pub end-read : (all now s w fresh : List ℕ) → now ≡ all ++ fresh → IsEndOf all (s ++ w) → w ≡ [] → IsEndOf now (s ++ fresh)
end-read all now s w fresh is end none =
    let e : s ++ w ≡ s = ap (λ t. s ++ t) none ∙ append-nil s in
    let long : length now ≡ length all + length fresh = ap length is ∙ length-append all fresh in
    let k : length now - length (s ++ fresh) ≡ length all - length (s ++ w) = omega (arith, long, length-append s fresh, ap length e, end.within) in
    record {
      within = omega (arith, long, length-append s fresh, ap length e, end.within);
      same = ap (λ n. drop n now) k ∙ ap (drop (length all - length (s ++ w))) is ∙ drop-append-le (length all - length (s ++ w)) all fresh (omega arith) ∙ ap (λ t. t ++ fresh) (end.same ∙ e);
    }

pub end-rest : (all s w front rest : List ℕ) → IsEndOf all (s ++ w) → w ≡ front ++ rest → IsEndOf all rest
end-rest all s w front rest end is =
    let whole : s ++ w ≡ (s ++ front) ++ rest = ap (λ t. s ++ t) is ∙ sym (append_assoc s front rest) in
    let long : length (s ++ w) ≡ length (s ++ front) + length rest = ap length whole ∙ length-append (s ++ front) rest in
    let k : length all - length rest ≡ (length all - length (s ++ w)) + length (s ++ front) = omega (arith, long, end.within) in
    record {
      within = omega (arith, long, end.within);
      same = ap (λ n. drop n all) k ∙ sym (drop-drop (length (s ++ front)) (length all - length (s ++ w)) all) ∙ ap (drop (length (s ++ front))) (end.same ∙ whole) ∙ drop-append_seam (s ++ front) rest;
    }

pub end-moved : (all s now w left given : List ℕ) → IsEndOf all (s ++ w) → w ≡ given ++ left → now ≡ s ++ given → IsEndOf all (now ++ left)
end-moved all s now w left given end is passed = subst (IsEndOf all) (ap (λ t. s ++ t) is ∙ sym (append_assoc s given left) ∙ ap (λ t. t ++ left) (sym passed)) end

-- ---- the bytes that wait in a piece

pub wait-long : (a e : ℕ) (xs : List ℕ) → e ≤ length xs → length (drop a (take e xs)) ≡ e - a
wait-long a e xs le = omega (arith, length-drop a (take e xs), length-take e xs)

pub waits : (a e : ℕ) (xs : List ℕ) → a < e → e ≤ length xs → 0 < length (drop a (take e xs))
waits a e xs lt le = omega (arith, wait-long a e xs le)

pub not-none : (xs : List ℕ) → 0 < length xs → xs ≡ [] → ⊥
not-none xs l e = absurd (omega (arith, ap length e))

-- a read that gave no byte met the end
pub none-read : (n : ℕ) (room : List ℕ) → n ≤ length room → take n room ≡ [] → (n == 0) ≡ true
none-read zero room le e = refl
none-read (suc n) [] le e = absurd (omega arith)
none-read (suc n) (b ∷ bs) le e = cc

pub first-waits : (a e : ℕ) (xs : List ℕ) (d : ℕ) → a < e → e ≤ length xs → drop a (take e xs) ≡ get_or (take e xs) a d ∷ drop (a + 1) (take e xs)
first-waits a e xs d lt le = drop_more (take e xs) a d (omega (arith, length-take e xs))

get_or-take : (a e : ℕ) (xs : List ℕ) (d : ℕ) → a < e → get_or (take e xs) a d ≡ get_or xs a d
get_or-take zero (suc e) [] d lt = refl
get_or-take (suc a) (suc e) [] d lt = refl
get_or-take a zero xs d lt = absurd (omega arith)
get_or-take zero (suc e) (x ∷ xs) d lt = refl
get_or-take (suc a) (suc e) (x ∷ xs) d lt = get_or-take a e xs d (omega arith)

pub next-waits : (a e : ℕ) (xs : List ℕ) (b : ℕ) → a ≤ e → (a ≡ e → ⊥) → e ≤ length xs → b ≡ get_or xs a b → drop a (take e xs) ≡ b ∷ drop (a + 1) (take e xs)
next-waits a e xs b le ne held is =
    let lt : a < e = omega (arith, ne) in
    first-waits a e xs b lt held ∙ ap (λ x. x ∷ drop (a + 1) (take e xs)) (get_or-take a e xs b lt ∙ sym is)

-- some bytes from the front, and the rest
pub cut-at : (n a e : ℕ) (xs bytes : List ℕ) → bytes ≡ drop a (take e xs) → drop a (take e xs) ≡ take n bytes ++ drop (a + n) (take e xs)
cut-at n a e xs bytes is = sym (take-append-drop n (drop a (take e xs))) ∙ ap (λ t. take n t ++ drop n (drop a (take e xs))) (sym is) ∙ ap (λ t. take n bytes ++ t) (drop-drop n a (take e xs))

begins-more : (p : ℕ → Bool) (xs ys : List ℕ) → begins p xs ≡ true → begins p (xs ++ ys) ≡ true
begins-more p [] ys e = absurd (false≢true e)
begins-more p (x ∷ xs) ys e = e

part-more : (xs : List ℕ) (b : ℕ) → IsPartOfLine xs → (b ≡ 10 → ⊥) → IsPartOfLine (xs ++ b ∷ [])
part-more xs b part n = list_any-append (λ x. x == 10) xs (b ∷ []) ∙ rw (part, ne_eqb b 10 n) refl

-- ---- where a stretch ends

-- a byte that was given begins no command
gives-none : (n : ℕ) (old now bytes : List ℕ) → now ≡ old ++ take n bytes → HasNoCommand now → IsAtCommand old bytes → n ≡ 0
gives-none zero old now bytes passed none at = refl
gives-none (suc n) old now [] passed none at = absurd (false≢true at.dot)
gives-none (suc n) old now (b ∷ bs) passed none at = absurd (none old (take n bs) (passed ∙ ap (λ x. old ++ x ∷ take n bs) (eqb-true b 46 at.dot)) at.here)

-- behind its end a stretch gives no byte
pub gives-no-more : (n : ℕ) (old now bytes : List ℕ) (over : Bool) → now ≡ old ++ take n bytes → HasNoCommand now → n ≤ length bytes → (n ≡ 0 → ⊥) → EndsBefore old bytes over → ⊥
gives-no-more n old now bytes over passed none few some ends =
    let is : bytes ≡ [] = (ends (λ at. some (gives-none n old now bytes passed none at))).0 in
    some (omega (arith, few, ap length is))

pub no-end : (ended : List (Unit {0})) (stretch bytes : List ℕ) (over : Bool) → ended ≡ [] → 0 < length ended → EndsBefore stretch bytes over
no-end ended stretch bytes over none l = absurd (omega (arith, l, ap length none))

pub ends-here : (old bytes : List ℕ) (over : Bool) → (0 < length bytes → IsAtCommand old bytes) → (bytes ≡ [] → over ≡ true) → EndsBefore old bytes over
ends-here old [] over at met = λ not. (refl, met refl)
ends-here old (b ∷ bs) over at met = λ not. absurd (not (at (omega arith)))

-- one end more was counted, or none
pub not-counted : (m k : ℕ) (b : Bool) → b ≡ false → m ≡ k + (if b then 1 else 0) → 0 < m → 0 < k
not-counted m k b off is l = omega (arith, l, is ∙ ap (λ c. k + (if c then 1 else 0)) off)

pub ends-counted : (m k long : ℕ) (e b : Bool) (P : Type 0) → e ≡ (long == 0) → b ≡ not e → m ≡ k + (if b then 1 else 0) → 0 < m → (0 < k → P) → (0 < long → P) → P
ends-counted m k long true b P empty off is l was now = was (not-counted m k b off is l)
ends-counted m k long false b P empty on is l was now =
    let some : long ≡ 0 → ⊥ = eqb-false long 0 (sym empty) in
    now (omega (arith, some))

pub ends-same : (n a : ℕ) (old now bytes all : List ℕ) (over : Bool) → n ≡ 0 → now ≡ old ++ take n bytes → EndsBefore old (drop a all) over → EndsBefore now (drop (a + n) all) over
ends-same n a old now bytes all over z passed ends =
    let is : now ≡ old = passed ∙ ap (λ k. old ++ take k bytes) z ∙ append-nil old in
    let rest : drop (a + n) all ≡ drop a all = ap (λ k. drop k all) (omega (arith, z)) in
    subst (λ t. EndsBefore t (drop (a + n) all) over) (sym is) (subst (λ t. EndsBefore old t over) (sym rest) ends)

-- ---- a line that is taken byte by byte

-- the first bytes of a text that grows
pub first-more : (n b : ℕ) (xs ys : List ℕ) → take n xs ≡ take n ys → take n (xs ++ b ∷ []) ≡ take n (ys ++ b ∷ [])
first-more zero b xs ys e = refl
first-more (suc n) b [] [] e = refl
first-more (suc n) b [] (y ∷ ys) e = cc
first-more (suc n) b (x ∷ xs) [] e = cc
first-more (suc n) b (x ∷ xs) (y ∷ ys) e = same _ _ _ _ (head _ _ _ _ e) (first-more n b xs ys (tail _ _ _ _ e))
  where
    head : (x y : ℕ) (xs ys : List ℕ) → x ∷ xs ≡ y ∷ ys → x ≡ y
    head x y xs ys e = cc

    tail : (x y : ℕ) (xs ys : List ℕ) → x ∷ xs ≡ y ∷ ys → xs ≡ ys
    tail x y xs ys e = cc

    same : (x y : ℕ) (xs ys : List ℕ) → x ≡ y → xs ≡ ys → x ∷ xs ≡ y ∷ ys
    same x y xs ys e f = cc

module _ {S : Type 0} where
  -- no read follows the end, over two steps
  pub quiet-on : (old mid new : ScriptReader S) → IsQuiet old mid → IsQuiet mid new → IsQuiet old new
  quiet-on old mid new a b h = let m = a h in let n = b m.1 in (n.0 ∙ m.0, n.1)

  quiet-same : (old new : ScriptReader S) → source_in new ≡ source_in old → has_met_end new ≡ has_met_end old → IsQuiet old new
  quiet-same old new same ended h = (same, ended ∙ h)

module _ {S : Type 0} (source : Source S) where
  -- so many bytes of a line were taken, from a script that had these before
  pub record LineAt (n : ℕ) (old now : ScriptReader S) : Type 0 where
    pub fresh : List ℕ
    pub text : List ℕ
    pub given : source.given (source_in now) ≡ source.given (source_in old) ++ fresh
    pub same : text ++ waiting now ≡ waiting old ++ fresh
    pub line : line_of now ≡ take 4096 text
    pub count : length text ≡ n
    pub part : IsPartOfLine text
    pub anew : stretch now ≡ []
    pub failures : source.failures (source_in now) ≡ source.failures (source_in old)
    pub met : has_met_end now ≡ true → 0 < source.ends (source_in now)
    pub quiet : IsQuiet old now

  met-same : (old new : ScriptReader S) → source_in new ≡ source_in old → has_met_end new ≡ has_met_end old → (has_met_end old ≡ true → 0 < source.ends (source_in old)) → has_met_end new ≡ true → 0 < source.ends (source_in new)
  met-same old new same ended met h = subst (λ s. 0 < source.ends s) (sym same) (met (sym ended ∙ h))

  pub line-begins : (old now : ScriptReader S) → source_in now ≡ source_in old → has_met_end now ≡ has_met_end old → (has_met_end now ≡ true → 0 < source.ends (source_in now)) → waiting now ≡ waiting old → stretch now ≡ [] → line_of now ≡ [] → LineAt 0 old now
  line-begins old now same ended met bytes anew none = record {
    fresh = [];
    text = [];
    given = ap source.given same ∙ sym (append-nil (source.given (source_in old)));
    same = bytes ∙ sym (append-nil (waiting old));
    line = none;
    count = refl;
    part = refl;
    anew = anew;
    failures = ap source.failures same;
    met = met;
    quiet = quiet-same old now same ended;
  }

  read-given : (old now mid : ScriptReader S) (n : ℕ) (result : Result (Unit {0}) SourceFault) (l : LineAt n old now) (r : Refills source now result mid) → source.given (source_in mid) ≡ source.given (source_in old) ++ (l.fresh ++ r.fresh)
  read-given old now mid n result l r = r.given ∙ ap (λ t. t ++ r.fresh) l.given ∙ append_assoc (source.given (source_in old)) l.fresh r.fresh

  read-same : (old now mid : ScriptReader S) (n : ℕ) (result : Result (Unit {0}) SourceFault) (l : LineAt n old now) (r : Refills source now result mid) → l.text ++ waiting mid ≡ waiting old ++ (l.fresh ++ r.fresh)
  read-same old now mid n result l r =
      ap (λ t. l.text ++ t) r.bytes ∙ sym (append_assoc l.text (waiting now) r.fresh) ∙ ap (λ t. t ++ r.fresh) l.same ∙ append_assoc (waiting old) l.fresh r.fresh

  pub line-stopped : (old now mid : ScriptReader S) (n : ℕ) (e : SourceFault) → LineAt n old now → Refills source now (Err e) mid → TakesLine source old (Err e) mid
  line-stopped old now mid n e l r = record {
    fresh = l.fresh ++ r.fresh;
    given = read-given old now mid n (Err e) l r;
    text = l.text;
    taken = record { failed = inl (omega (arith, r.failures, l.failures)); part = l.part; kept = sym (read-same old now mid n (Err e) l r) };
    line = r.line ∙ l.line;
    anew = r.same ∙ l.anew;
    clean = tt;
    met = r.met;
    quiet = quiet-on old now mid l.quiet r.quiet;
  }

  pub line-long : (old now : ScriptReader S) (n : ℕ) (e : SourceFault) → 2 ^ 64 ≤ n + 1 → LineAt n old now → TakesLine source old (Err e) now
  line-long old now n e long l = record {
    fresh = l.fresh;
    given = l.given;
    text = l.text;
    taken = record { failed = inr (omega (arith, long, l.count, ap length l.same, length-append l.text (waiting now))); part = l.part; kept = sym l.same };
    line = l.line;
    anew = l.anew;
    clean = tt;
    met = l.met;
    quiet = l.quiet;
  }

  pub line-over : (old now mid new : ScriptReader S) (n : ℕ) → LineAt n old now → Refills source now (Ok tt) mid → TakesByte mid None new → TakesLine source old (Ok tt) new
  line-over old now mid new n l r t =
      let all : waiting old ++ (l.fresh ++ r.fresh) ≡ l.text = sym (read-same old now mid n (Ok tt) l r) ∙ ap (λ w. l.text ++ w) t.byte.0 ∙ append-nil l.text in
      record {
        fresh = l.fresh ++ r.fresh;
        given = ap source.given t.source ∙ read-given old now mid n (Ok tt) l r;
        text = l.text;
        taken = record { part = l.part; split = inr (all, t.byte.1, t.ended ∙ r.over t.byte.0) };
        line = t.line ∙ r.line ∙ l.line;
        anew = t.same ∙ r.same ∙ l.anew;
        clean = omega (arith, ap source.failures t.source, r.failures, l.failures);
        met = met-same mid new t.source t.ended r.met;
        quiet = quiet-on old mid new (quiet-on old now mid l.quiet r.quiet) (quiet-same mid new t.source t.ended);
      }

  pub line-ended : (old now mid new : ScriptReader S) (n b : ℕ) → b ≡ 10 → LineAt n old now → Refills source now (Ok tt) mid → TakesByte mid (Some b) new → TakesLine source old (Ok tt) new
  line-ended old now mid new n b is l r t = record {
    fresh = l.fresh ++ r.fresh;
    given = ap source.given t.source ∙ read-given old now mid n (Ok tt) l r;
    text = l.text;
    taken = record {
      part = l.part;
      split = inl (sym (read-same old now mid n (Ok tt) l r) ∙ ap (λ w. l.text ++ w) t.byte ∙ ap (λ x. l.text ++ x ∷ waiting new) is);
    };
    line = t.line ∙ r.line ∙ l.line;
    anew = t.same ∙ r.same ∙ l.anew;
    clean = omega (arith, ap source.failures t.source, r.failures, l.failures);
    met = met-same mid new t.source t.ended r.met;
    quiet = quiet-on old mid new (quiet-on old now mid l.quiet r.quiet) (quiet-same mid new t.source t.ended);
  }

  -- the byte was put behind the line's first bytes
  pub line-more : (old now mid new last : ScriptReader S) (n b : ℕ) (all : List ℕ) → (b ≡ 10 → ⊥) → LineAt n old now → Refills source now (Ok tt) mid → TakesByte mid (Some b) new
      → source_in last ≡ source_in new → has_met_end last ≡ has_met_end new → waiting last ≡ waiting new → stretch last ≡ stretch new → take 4096 all ≡ line_of new → line_of last ≡ take 4096 (all ++ b ∷ []) → LineAt (n + 1) old last
  line-more old now mid new last n b all not l r t from ended bytes same was more =
      let given : source_in last ≡ source_in mid = from ∙ t.source in
      let met : has_met_end last ≡ has_met_end mid = ended ∙ t.ended in
      record {
        fresh = l.fresh ++ r.fresh;
        text = l.text ++ b ∷ [];
        given = ap source.given given ∙ read-given old now mid n (Ok tt) l r;
        same = ap (λ w. (l.text ++ b ∷ []) ++ w) bytes ∙ append_assoc l.text (b ∷ []) (waiting new) ∙ ap (λ w. l.text ++ w) (sym t.byte) ∙ read-same old now mid n (Ok tt) l r;
        line = more ∙ first-more 4096 b all l.text (was ∙ t.line ∙ r.line ∙ l.line);
        count = omega (arith, l.count, length-append l.text (b ∷ []));
        part = part-more l.text b l.part not;
        anew = same ∙ t.same ∙ r.same ∙ l.anew;
        failures = omega (arith, ap source.failures given, r.failures, l.failures);
        met = met-same mid last given met r.met;
        quiet = quiet-on old mid last (quiet-on old now mid l.quiet r.quiet) (quiet-same mid last given met);
      }

  -- ---- what comes next

  pub comes-statements : (old new : ScriptReader S) → Refills source old (Ok tt) new → 0 < length (waiting new) → (IsAtCommand (stretch new) (waiting new) → ⊥) → Comes source old (Ok Statements) new
  comes-statements old new r some none = record {
    fresh = r.fresh;
    given = r.given;
    comes = record { bytes = r.bytes; some = some; none = none; same = r.same };
    clean = omega (arith, r.failures);
    over = r.met;
    quiet = r.quiet;
  }

  pub comes-command : (old mid new : ScriptReader S) → Refills source old (Ok tt) mid → IsAtCommand (stretch mid) (waiting mid) → TakesLine source mid (Ok tt) new → Comes source old (Ok Command) new
  comes-command old mid new r at t =
      let whole : waiting old ++ (r.fresh ++ t.fresh) ≡ waiting mid ++ t.fresh = sym (append_assoc (waiting old) r.fresh t.fresh) ∙ ap (λ w. w ++ t.fresh) (sym r.bytes) in
      record {
        fresh = r.fresh ++ t.fresh;
        given = t.given ∙ ap (λ g. g ++ t.fresh) r.given ∙ append_assoc (source.given (source_in old)) r.fresh t.fresh;
        comes = record {
          here = record { here = subst IsBeforeCommand r.same at.here; dot = ap (begins is_dot) whole ∙ begins-more is_dot (waiting mid) t.fresh at.dot };
          text = t.text;
          taken = subst (λ w. IsLine w t.text (waiting new) (has_met_end new)) (sym whole) t.taken;
          line = t.line;
          anew = t.anew;
        };
        clean = omega (arith, r.failures, t.clean);
        over = t.met;
        quiet = quiet-on old mid new r.quiet t.quiet;
      }

  pub comes-fault : (old mid new : ScriptReader S) (e : SourceFault) → Refills source old (Ok tt) mid → IsAtCommand (stretch mid) (waiting mid) → TakesLine source mid (Err e) new → Comes source old (Err e) new
  comes-fault old mid new e r at t =
      let whole : waiting old ++ (r.fresh ++ t.fresh) ≡ waiting mid ++ t.fresh = sym (append_assoc (waiting old) r.fresh t.fresh) ∙ ap (λ w. w ++ t.fresh) (sym r.bytes) in
      record {
        fresh = r.fresh ++ t.fresh;
        given = t.given ∙ ap (λ g. g ++ t.fresh) r.given ∙ append_assoc (source.given (source_in old)) r.fresh t.fresh;
        comes = record {
          failed = elim t.taken.failed [ inl f ↦ inl (omega (arith, f, r.failures)) | inr f ↦ inr (omega (arith, f, ap length whole)) ];
          text = t.text;
          kept = whole ∙ t.taken.kept;
          command = inr (record {
            here = record { here = subst IsBeforeCommand r.same at.here; dot = ap (begins is_dot) whole ∙ begins-more is_dot (waiting mid) t.fresh at.dot };
            part = t.taken.part;
            line = t.line;
            anew = t.anew;
          });
        };
        clean = tt;
        over = t.met;
        quiet = quiet-on old mid new r.quiet t.quiet;
      }

  pub comes-broken : (old new : ScriptReader S) (e : SourceFault) → Refills source old (Err e) new → Comes source old (Err e) new
  comes-broken old new e r = record {
    fresh = r.fresh;
    given = r.given;
    comes = record { failed = inl (omega (arith, r.failures)); text = []; kept = sym r.bytes; command = inl (refl, r.same) };
    clean = tt;
    over = r.met;
    quiet = r.quiet;
  }

  pub comes-end : (old new : ScriptReader S) → Refills source old (Ok tt) new → waiting new ≡ [] → Comes source old (Ok End) new
  comes-end old new r none = record {
    fresh = r.fresh;
    given = r.given;
    comes = record { none = sym r.bytes ∙ none; rest = none; ended = r.over none; same = r.same };
    clean = omega (arith, r.failures);
    over = r.met;
    quiet = r.quiet;
  }
