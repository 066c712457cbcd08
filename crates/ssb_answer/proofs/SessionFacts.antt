-- Steps of a session, and how they go on one after the other.
use Rattle.std.proofs.Common.{◌≡◌, ◌∙◌, ◌<◌, ◌≤◌, ◌++◌, [], ◌∷◌, ℕ, ◌+◌, ◌^◌, inl, inr, arith, Bool, true, false, List, Option, None, Some, Result, Ok, Err, length, length-append, map, refl, sym, ap, subst, append_assoc}
use Rattle.std.specs.Prelude.{IsSome, OnErr, OnOk, is_ok, ◌⊎◌}
use Rattle.std.specs.List.{AllZip, flat_map}
use Rattle.std.proofs.lemmas.Grind.{flat_map-append}
use Rattle.std.proofs.lemmas.List.{append-nil}
use Rattle.ssb_load.specs.Files.{Bytes}
use Rattle.ssb_records.specs.declared.source.Source.{Ghosts as Source}
use Rattle.ssb_records.specs.declared.source.SourceFault.{SourceFault}
use Rattle.ssb_reply.specs.FaultLine.{line_of, run_words}
use Rattle.ssb_reply.specs.declared.run_fault.RunFault.{RunFault}
use Rattle.ssb_rows.specs.Taking.{IsBeginning}
use Rattle.ssb_rows.specs.declared.sink.SinkFault.{SinkFault}
use Rattle.ssb_show.specs.Shown.{shown}
use Rattle.ssb_show.specs.declared.shape.Shape.{Shape}
use Rattle.ssb_statements.specs.Telling.{Gave, Whatever, ahead, has_ended, source_of}
use Rattle.ssb_statements.specs.declared.cutter.Statement.{Statement}
use Rattle.ssb_tokens.specs.Statements.{statements_from, statements_of}
use Rattle.ssb_answer.specs.Database.{Loaded}
use Rattle.ssb_answer.specs.Session.{HasMetEnd, IsSession, StopsAtFault, Went, first_fault, first_of, wrote_lines, wrote_rows}
use Rattle.ssb_answer.specs.SessionStep.{end_of, fault_of}
use Rattle.ssb_answer.specs.Showing.{Sheet}
use Rattle.ssb_answer.specs.Steps.{AnswersStatement, DoesStep, IsSilent, Outcome, SessionState, SinkState, Took, fault_text, rows_text}
use Rattle.ssb_answer.specs.Steps.DoesStep.{ended, unread, answered, told}
use Rattle.ssb_answer.specs.declared.session.Manner.{Manner}
use Rattle.ssb_answer.specs.declared.session.SessionEnd.{SessionEnd}
use Rattle.ssb_answer.specs.declared.session.SessionEnd.TheVariants as end
use Rattle.ssb_answer.specs.declared.session.Step.{Step}
use Rattle.ssb_answer.specs.declared.session.Step.TheVariants as step

-- ---- lists

all-zip-append : {A B : Type 0} (R : A → B → Type 0) (xs zs : List A) (ys ws : List B) → AllZip R xs ys → AllZip R zs ws → AllZip R (xs ++ zs) (ys ++ ws)
all-zip-append R [] zs [] ws a b = b
all-zip-append R [] zs (y ∷ ys) ws a b = absurd a
all-zip-append R (x ∷ xs) zs [] ws a b = absurd a
all-zip-append R (x ∷ xs) zs (y ∷ ys) ws a b = (a.0, all-zip-append R xs zs ys ws a.1 b)

-- ---- what was cut

no-statement : statements_of [] ≡ []
unfolding statements_from
no-statement = refl

ended-so : (e : Bool) (P : List ℕ → Type 0) → e ≡ true → P [] → Whatever e P
ended-so true P is p = p
ended-so false P is p = cc is

open-so : (e : Bool) (P : List ℕ → Type 0) → e ≡ false → ((more : List ℕ) → P more) → Whatever e P
open-so false P is p = p
open-so true P is p = cc is

whatever-at : (e : Bool) (P : List ℕ → Type 0) (g : List ℕ) → Whatever e P → (e ≡ true → g ≡ []) → P g
whatever-at true P g h none = subst P (sym (none refl)) h
whatever-at false P g h none = h g

one-cut : (A B C f g more : List ℕ) (ss us : List (List ℕ)) → statements_of (A ++ (f ++ (g ++ more))) ≡ ss ++ statements_of (B ++ (g ++ more)) → statements_of (B ++ (g ++ more)) ≡ us ++ statements_of (C ++ more)
    → statements_of (A ++ ((f ++ g) ++ more)) ≡ (ss ++ us) ++ statements_of (C ++ more)
one-cut A B C f g more ss us h k = ap (λ t. statements_of (A ++ t)) (append_assoc f g more) ∙ h ∙ ap (λ t. ss ++ t) k ∙ sym (append_assoc ss us (statements_of (C ++ more)))

cut-on : (e d : Bool) (A B C f g : List ℕ) (ss us : List (List ℕ)) → (e ≡ true → (g ≡ []) × (d ≡ true)) → Whatever e (λ more. statements_of (A ++ (f ++ more)) ≡ ss ++ statements_of (B ++ more))
    → Whatever d (λ more. statements_of (B ++ (g ++ more)) ≡ us ++ statements_of (C ++ more)) → Whatever d (λ more. statements_of (A ++ ((f ++ g) ++ more)) ≡ (ss ++ us) ++ statements_of (C ++ more))
cut-on true true A B C f [] ss us q h k = one-cut A B C f [] [] ss us h k
cut-on true true A B C f (x ∷ g) ss us q h k = cc (q refl).0
cut-on true false A B C f g ss us q h k = cc (q refl).1
cut-on false true A B C f g ss us q h k = one-cut A B C f g [] ss us (h (g ++ [])) k
cut-on false false A B C f g ss us q h k = λ more. one-cut A B C f g more ss us (h (g ++ more)) (k more)

same-cut : (e : Bool) (A : List ℕ) → Whatever e (λ more. statements_of (A ++ ([] ++ more)) ≡ [] ++ statements_of (A ++ more))
same-cut true A = refl
same-cut false A = λ more. refl

-- ---- what was written

took-on : (w : Bool) (x y : Bytes) (a b d : SinkState) → Took true x a b → Took w y b d → Took w (x ++ y) a d
took-on true x y a b d g h = (h.0 ∙ ap (λ t. t ++ y) g.0 ∙ append_assoc a.taken x y, h.1 ∙ g.1)
took-on false x y a b d g h = (
  record {
    gone = x ++ h.0.gone;
    left = h.0.left;
    split = ap (λ t. x ++ t) h.0.split ∙ sym (append_assoc x h.0.gone h.0.left);
    taken = h.0.taken ∙ ap (λ t. t ++ h.0.gone) g.0 ∙ append_assoc a.taken x h.0.gone;
  },
  subst (λ n. n < d.failures) g.1 h.1,
)

took-each : (f : Outcome → Bytes) (w : Bool) (xs ys : List Outcome) (a b d : SinkState) → Took true (flat_map f xs) a b → Took w (flat_map f ys) b d → Took w (flat_map f (xs ++ ys)) a d
took-each f w xs ys a b d g h = subst (λ t. Took w t a d) (sym (flat_map-append f xs ys)) (took-on w (flat_map f xs) (flat_map f ys) a b d g h)

pub took-all : (r : Result (Unit {0}) SinkFault) (text : Bytes) (old new : SinkState) → OnOk r (new.taken ≡ old.taken ++ text) → OnOk r (new.failures ≡ old.failures) → OnErr r (old.failures < new.failures)
    → OnErr r (IsBeginning old.taken new.taken text) → Took (is_ok r) text old new
took-all (Ok u) text old new wrote clean failed began = (wrote, clean)
took-all (Err e) text old new wrote clean failed began = (began, failed)

took-none : (a : SinkState) → Took true [] a a
took-none a = (sym (append-nil a.taken), refl)

took-none-of : (a b : SinkState) → b ≡ a → Took true [] a b
took-none-of a b same = subst (λ t. Took true [] a t) (sym same) (took-none a)

took-one : (f : Outcome → Bytes) (w : Bool) (r : Outcome) (text : Bytes) (a b : SinkState) → f r ≡ text → Took w text a b → Took w (flat_map f (r ∷ [])) a b
took-one f w r text a b is g = subst (λ t. Took w t a b) (sym (append-nil (f r) ∙ is)) g

-- ---- the first fault

first-append : (rs qs : List Outcome) → first_of (first_fault rs) (first_fault qs) ≡ first_fault (rs ++ qs)
first-append [] qs = refl
first-append (Ok s ∷ rs) qs = first-append rs qs
first-append (Err f ∷ rs) qs = refl

-- where no fault is the first, all are answers
record AreAnswers (rs : List Outcome) : Type 0 where
  answers : List Sheet
  all : rs ≡ map Ok answers

answers-all : (rs : List Outcome) → first_fault rs ≡ None → AreAnswers rs
answers-all [] e = record { answers = []; all = refl }
answers-all (Ok s ∷ rs) e = let more = answers-all rs e in record { answers = s ∷ more.answers; all = ap (λ t. Ok s ∷ t) more.all }
answers-all (Err f ∷ rs) e = cc e

stops-at : (rs last : List Outcome) → first_fault rs ≡ None → length last ≤ 1 → StopsAtFault (rs ++ last)
stops-at rs last e one = let a = answers-all rs e in record { answers = a.answers; last = last; all = ap (λ t. t ++ last) a.all; one = one }

break-on : (m n k : ℕ) (f g : Bytes) (P : Type 0) → n ≡ m → (n < k) ⊎ (2 ^ 64 ≤ length g + 1) → (m < k) ⊎ ((2 ^ 64 ≤ length (f ++ g) + 1) ⊎ P)
break-on m n k f g P same (inl rose) = inl (subst (λ x. x < k) same rose)
break-on m n k f g P same (inr long) = let count = length-append f g in inr (inl (omega (arith, long, count)))

-- whether the rows, and the lines, were written whole
abbrev whole_rows : Option SessionEnd → Bool
whole_rows None = true
whole_rows (Some e) = wrote_rows e

abbrev whole_lines : Option SessionEnd → Bool
whole_lines None = true
whole_lines (Some e) = wrote_lines e

-- ---- steps

module _ {S : Type 0} (source : Source S) (d : Loaded) (shape : Shape) where
  abbrev Goes : Bool → Bool → SessionState S → SessionState S → Type 0
  Goes rows_whole lines_whole old new = Went source d shape rows_whole lines_whole old new

  abbrev went-on : (rw_ lw : Bool) (a b e : SessionState S) → Goes true true a b → Goes rw_ lw b e → Goes rw_ lw a e
  went-on rw_ lw a b e x y = record {
    fresh = x.fresh ++ y.fresh;
    given = y.given ∙ ap (λ t. t ++ y.fresh) x.given ∙ append_assoc (source.given (source_of a.statements)) x.fresh y.fresh;
    statements = x.statements ++ y.statements;
    cut = cut-on (has_ended b.statements) (has_ended e.statements) (ahead a.statements) (ahead b.statements) (ahead e.statements) x.fresh y.fresh x.statements y.statements y.quiet x.cut y.cut;
    outcomes = x.outcomes ++ y.outcomes;
    each = all-zip-append (AnswersStatement d) x.statements y.statements x.outcomes y.outcomes x.each y.each;
    rows = took-each (rows_text shape) rw_ x.outcomes y.outcomes a.rows b.rows e.rows x.rows y.rows;
    lines = took-each fault_text lw x.outcomes y.outcomes a.lines b.lines e.lines x.lines y.lines;
    quiet = λ is. let q = x.quiet is in let p = y.quiet q.1 in (ap (λ t. t ++ y.fresh) q.0 ∙ p.0, p.1);
  }

  abbrev went-nowhere : (a : SessionState S) → Goes true true a a
  went-nowhere a = record {
    fresh = [];
    given = sym (append-nil (source.given (source_of a.statements)));
    statements = [];
    cut = same-cut (has_ended a.statements) (ahead a.statements);
    outcomes = [];
    each = tt;
    rows = took-none a.rows;
    lines = took-none a.lines;
    quiet = λ is. (refl, is);
  }

  -- what a call that told nothing did to the source
  abbrev went-unheard : (old new : SessionState S) (r : Result (Option Statement) SourceFault) (g : Gave source old.statements r new.statements) → IsSilent old new
      → Whatever (has_ended new.statements) (λ more. statements_of (ahead old.statements ++ (g.fresh ++ more)) ≡ [] ++ statements_of (ahead new.statements ++ more)) → Goes true true old new
  went-unheard old new r g silent cut = record {
    fresh = g.fresh;
    given = g.given;
    statements = [];
    cut = cut;
    outcomes = [];
    each = tt;
    rows = took-none-of old.rows new.rows silent.rows;
    lines = took-none-of old.lines new.lines silent.lines;
    quiet = λ is. ((g.quiet is).1, (g.quiet is).2);
  }

  abbrev went-told : (old new : SessionState S) (t : Statement) (g : Gave source old.statements (Ok (Some t)) new.statements) (o : Outcome) (rows_whole lines_whole : Bool) → AnswersStatement d g.answer.statement o
      → Took rows_whole (rows_text shape o) old.rows new.rows → Took lines_whole (fault_text o) old.lines new.lines → Goes rows_whole lines_whole old new
  went-told old new t g o rows_whole lines_whole answers rows lines = record {
    fresh = g.fresh;
    given = g.given;
    statements = g.answer.statement ∷ [];
    cut = g.answer.next;
    outcomes = o ∷ [];
    each = (answers, tt);
    rows = took-one (rows_text shape) rows_whole o (rows_text shape o) old.rows new.rows refl rows;
    lines = took-one fault_text lines_whole o (fault_text o) old.lines new.lines refl lines;
    quiet = λ is. ((g.quiet is).1, (g.quiet is).2);
  }

  -- a step as a part of a session, and how the session ends with it, where it does
  record Turned (stops : Bool) (r : Option SessionEnd) (f : Option RunFault) (old new : SessionState S) : Type 0 where
    went : Goes (whole_rows r) (whole_lines r) old new
    fault : f ≡ first_fault went.outcomes
    one : length went.outcomes ≤ 1
    some : r ≡ None → length went.outcomes ≡ 1
    calm : r ≡ None → source.failures (source_of new.statements) ≡ source.failures (source_of old.statements)
    on : r ≡ None → stops ≡ true → f ≡ None
    met : r ≡ Some end.Input → HasMetEnd source new.statements
    all : r ≡ Some end.Input → statements_of (ahead old.statements ++ went.fresh) ≡ went.statements
    stop : r ≡ Some end.Stop → (stops ≡ true) × IsSome f
    broken : r ≡ Some end.Read → (source.failures (source_of old.statements) < source.failures (source_of new.statements)) ⊎ (2 ^ 64 ≤ length went.fresh + 1)

  module _ (stops : Bool) (old new : SessionState S) where
    turned-end : Gave source old.statements (Ok None) new.statements → IsSilent old new → Turned stops (Some end.Input) None old new
    turned-end g silent =
        let a = old.statements in
        let b = new.statements in
        let none : statements_of (ahead a ++ (g.fresh ++ [])) ≡ [] = ap (λ t. statements_of (ahead a ++ t)) (append-nil g.fresh) ∙ g.answer.none in
        let left : statements_of (ahead b ++ []) ≡ [] = ap (λ t. statements_of (t ++ [])) g.answer.rest ∙ no-statement in
        record {
          went = went-unheard old new (Ok None) g silent (ended-so (has_ended b) (λ more. statements_of (ahead a ++ (g.fresh ++ more)) ≡ [] ++ statements_of (ahead b ++ more)) g.answer.ended (none ∙ sym left));
          fault = refl;
          one = omega arith;
          some = λ e. cc e;
          calm = λ e. cc e;
          on = λ e. cc e;
          met = λ e. record { ended = g.answer.ended; met = g.over g.answer.ended; rest = g.answer.rest };
          all = λ e. g.answer.none;
          stop = λ e. cc e;
          broken = λ e. cc e;
        }

    turned-unread : (e : SourceFault) → Gave source old.statements (Err e) new.statements → IsSilent old new → Turned stops (Some end.Read) None old new
    turned-unread e g silent =
        let a = old.statements in
        let b = new.statements in
        let cut = λ (more : List ℕ). ap statements_of (sym (append_assoc (ahead a) g.fresh more) ∙ ap (λ t. t ++ more) (sym g.answer.kept)) in
        record {
          went = went-unheard old new (Err e) g silent (open-so (has_ended b) (λ more. statements_of (ahead a ++ (g.fresh ++ more)) ≡ [] ++ statements_of (ahead b ++ more)) g.answer.ended cut);
          fault = refl;
          one = omega arith;
          some = λ e. cc e;
          calm = λ e. cc e;
          on = λ e. cc e;
          met = λ e. cc e;
          all = λ e. cc e;
          stop = λ e. cc e;
          broken = λ e. g.answer.failed;
        }

    module _ (t : Statement) (g : Gave source old.statements (Ok (Some t)) new.statements) where
      turned-rows : (s : Sheet) → AnswersStatement d g.answer.statement (Ok s) → Took true (shown shape s.titles s.rows) old.rows new.rows → new.lines ≡ old.lines → Turned stops None None old new
      turned-rows s a took same = record {
        went = went-told old new t g (Ok s) true true a took (took-none-of old.lines new.lines same);
        fault = refl;
        one = omega arith;
        some = λ e. refl;
        calm = λ e. g.answer.failures;
        on = λ e n. refl;
        met = λ e. cc e;
        all = λ e. cc e;
        stop = λ e. cc e;
        broken = λ e. cc e;
      }

      turned-unwritten : (s : Sheet) → AnswersStatement d g.answer.statement (Ok s) → Took false (shown shape s.titles s.rows) old.rows new.rows → new.lines ≡ old.lines → Turned stops (Some end.Rows) None old new
      turned-unwritten s a took same = record {
        went = went-told old new t g (Ok s) false true a took (took-none-of old.lines new.lines same);
        fault = refl;
        one = omega arith;
        some = λ e. cc e;
        calm = λ e. cc e;
        on = λ e. cc e;
        met = λ e. cc e;
        all = λ e. cc e;
        stop = λ e. cc e;
        broken = λ e. cc e;
      }

      turned-fault : (f : RunFault) → AnswersStatement d g.answer.statement (Err f) → Took true (line_of (run_words [] f)) old.lines new.lines → new.rows ≡ old.rows → stops ≡ false → Turned stops None (Some f) old new
      turned-fault f a took same goes = record {
        went = went-told old new t g (Err f) true true a (took-none-of old.rows new.rows same) took;
        fault = refl;
        one = omega arith;
        some = λ e. refl;
        calm = λ e. g.answer.failures;
        on = λ e s. cc (goes, s);
        met = λ e. cc e;
        all = λ e. cc e;
        stop = λ e. cc e;
        broken = λ e. cc e;
      }

      turned-stop : (f : RunFault) → AnswersStatement d g.answer.statement (Err f) → Took true (line_of (run_words [] f)) old.lines new.lines → new.rows ≡ old.rows → stops ≡ true → Turned stops (Some end.Stop) (Some f) old new
      turned-stop f a took same ends = record {
        went = went-told old new t g (Err f) true true a (took-none-of old.rows new.rows same) took;
        fault = refl;
        one = omega arith;
        some = λ e. cc e;
        calm = λ e. cc e;
        on = λ e. cc e;
        met = λ e. cc e;
        all = λ e. cc e;
        stop = λ e. (ends, refl);
        broken = λ e. cc e;
      }

      turned-untold : (f : RunFault) → AnswersStatement d g.answer.statement (Err f) → Took false (line_of (run_words [] f)) old.lines new.lines → new.rows ≡ old.rows → Turned stops (Some end.Lines) (Some f) old new
      turned-untold f a took same = record {
        went = went-told old new t g (Err f) true false a (took-none-of old.rows new.rows same) took;
        fault = refl;
        one = omega arith;
        some = λ e. cc e;
        calm = λ e. cc e;
        on = λ e. cc e;
        met = λ e. cc e;
        all = λ e. cc e;
        stop = λ e. cc e;
        broken = λ e. cc e;
      }

  turned : (stops : Bool) (s : Step) (old new : SessionState S) → DoesStep source d shape old new s → Turned stops (end_of stops s) (fault_of s) old new
  turned stops step.End old new (ended g silent) = turned-end stops old new g silent
  turned stops step.Unread old new (unread {e = e} g silent) = turned-unread stops old new e g silent
  turned stops (step.Answered (Ok u)) old new (answered {t = t} {sheet = s} g a took same) = turned-rows stops old new t g s a took same
  turned stops (step.Answered (Err e)) old new (answered {t = t} {sheet = s} g a took same) = turned-unwritten stops old new t g s a took same
  turned true (step.Told f (Ok u)) old new (told {t = t} g a took same) = turned-stop true old new t g f a took same refl
  turned false (step.Told f (Ok u)) old new (told {t = t} g a took same) = turned-fault false old new t g f a took same refl
  turned stops (step.Told f (Err e)) old new (told {t = t} g a took same) = turned-untold stops old new t g f a took same

-- ---- a session

module _ {S : Type 0} (source : Source S) (d : Loaded) (m : Manner) where
  input-all : (start now next : SessionState S) (f g : Bytes) (ss us : List Bytes) → Whatever (has_ended now.statements) (λ more. statements_of (ahead start.statements ++ (f ++ more)) ≡ ss ++ statements_of (ahead now.statements ++ more))
      → statements_of (ahead now.statements ++ g) ≡ us → (has_ended now.statements ≡ true → (g ≡ []) × (has_ended next.statements ≡ true)) → statements_of (ahead start.statements ++ (f ++ g)) ≡ ss ++ us
  input-all start now next f g ss us cut rest quiet =
      whatever-at (has_ended now.statements) (λ more. statements_of (ahead start.statements ++ (f ++ more)) ≡ ss ++ statements_of (ahead now.statements ++ more)) g cut (λ e. (quiet e).0) ∙ ap (λ t. ss ++ t) rest

  -- so many steps, after which the session goes on
  pub record SoFar (steps : ℕ) (start now : SessionState S) (first : Option RunFault) : Type 0 where
    pub went : Went source d m.shape true true start now
    pub told : first ≡ first_fault went.outcomes
    pub none : m.stops ≡ true → first ≡ None
    pub many : steps ≡ length went.outcomes
    pub calm : source.failures (source_of now.statements) ≡ source.failures (source_of start.statements)

  pub so-far-nothing : (start : SessionState S) → SoFar 0 start start None
  so-far-nothing start = record { went = went-nowhere source d m.shape start; told = refl; none = λ s. refl; many = refl; calm = refl }

  pub so-far-more : (steps more : ℕ) (start now next : SessionState S) (f : Option RunFault) (s : Step) → more ≡ steps + 1 → SoFar steps start now f → DoesStep source d m.shape now next s → end_of m.stops s ≡ None
      → SoFar more start next (first_of f (fault_of s))
  so-far-more steps more start now next f s is so does on =
      let t = subst (λ (e : Option SessionEnd). Turned source d m.shape m.stops e (fault_of s) now next) on (turned source d m.shape m.stops s now next does) in
      record {
        went = went-on source d m.shape true true start now next so.went t.went;
        told = ap (λ x. first_of x (fault_of s)) so.told ∙ ap (λ x. first_of (first_fault so.went.outcomes) x) t.fault ∙ first-append so.went.outcomes t.went.outcomes;
        none = λ e. ap (λ x. first_of x (fault_of s)) (so.none e) ∙ t.on refl e;
        many = let count = length-append so.went.outcomes t.went.outcomes in let one = t.some refl in let so_far = so.many in omega (arith, is, count, one, so_far);
        calm = t.calm refl ∙ so.calm;
      }

  some-first : (f g : Option RunFault) → IsSome g → IsSome (first_of f g)
  some-first None g is = is
  some-first (Some x) g is = refl

  pub session-ends : (steps : ℕ) (start now next : SessionState S) (f : Option RunFault) (s : Step) (e : SessionEnd) → SoFar steps start now f → DoesStep source d m.shape now next s → end_of m.stops s ≡ Some e
      → IsSession source d m (record { first = first_of f (fault_of s); end = e }) start next
  session-ends steps start now next f s e so does is =
      let t = subst (λ (r : Option SessionEnd). Turned source d m.shape m.stops r (fault_of s) now next) is (turned source d m.shape m.stops s now next does) in
      record {
        went = went-on source d m.shape (wrote_rows e) (wrote_lines e) start now next so.went t.went;
        first = ap (λ x. first_of x (fault_of s)) so.told ∙ ap (λ x. first_of (first_fault so.went.outcomes) x) t.fault ∙ first-append so.went.outcomes t.went.outcomes;
        met = λ k. t.met (ap Some k);
        all = λ k. input-all start now next so.went.fresh t.went.fresh so.went.statements t.went.statements so.went.cut (t.all (ap Some k)) t.went.quiet;
        stopped = λ k. stops-at so.went.outcomes t.went.outcomes (sym so.told ∙ so.none k) t.one;
        stop = λ k. let stop = t.stop (ap Some k) in (stop.0, some-first f (fault_of s) stop.1);
        broken = λ k. break-on (source.failures (source_of start.statements)) (source.failures (source_of now.statements)) (source.failures (source_of next.statements)) so.went.fresh t.went.fresh (2 ^ 64 ≤ length (so.went.outcomes ++ t.went.outcomes) + 1) so.calm (t.broken (ap Some k));
      }

  pub session-spent : (steps : ℕ) (start now : SessionState S) (f : Option RunFault) → 2 ^ 64 ≤ steps + 1 → SoFar steps start now f → IsSession source d m (record { first = f; end = end.Read }) start now
  session-spent steps start now f long so = record {
    went = so.went;
    first = so.told;
    met = λ k. cc k;
    all = λ k. cc k;
    stopped = λ k. subst StopsAtFault (append-nil so.went.outcomes) (stops-at so.went.outcomes [] (sym so.told ∙ so.none k) (omega arith));
    stop = λ k. cc k;
    broken = λ k. inr (inr (subst (λ n. 2 ^ 64 ≤ n + 1) so.many long));
  }
