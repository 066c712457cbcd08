-- What comes of a statement: from what was shown of its text to the step that a session did.
use Rattle.std.proofs.Common.{◌≡◌, ◌∙◌, ◌<◌, ◌≤◌, ◌++◌, [], inl, inr, Bool, true, false, List, Some, Result, Ok, Err, length, refl, sym, ap, subst}
use Rattle.std.specs.Prelude.{IsUtf8, is_ok, ◌⊎◌}
use Rattle.std.proofs.lemmas.List.{append-nil}
use Rattle.ssb_load.specs.Files.{Bytes, loaded}
use Rattle.ssb_records.specs.declared.source.Source.{Ghosts as Source}
use Rattle.ssb_reply.specs.FaultLine.{line_of, run_words}
use Rattle.ssb_reply.specs.Reply.{Replies}
use Rattle.ssb_reply.specs.declared.run_fault.RunFault.{RunFault}
use Rattle.ssb_reply.specs.declared.run_fault.RunFault.TheVariants as run
use Rattle.ssb_rows.specs.declared.fault.AnswerFault.TheVariants as answer
use Rattle.ssb_rows.specs.declared.sink.SinkFault.{SinkFault}
use Rattle.ssb_show.specs.Shown.{plain, shown}
use Rattle.ssb_show.specs.declared.shape.Shape.{Shape}
use Rattle.ssb_sql.specs.declared.fault.SqlFault.TheVariants as sql
use Rattle.ssb_statements.specs.Telling.{Gave}
use Rattle.ssb_statements.specs.declared.cutter.Statement.{Statement}
use Rattle.ssb_answer.specs.Asking.{AnswersText}
use Rattle.ssb_answer.specs.Database.{Loaded}
use Rattle.ssb_answer.specs.Session.{told}
use Rattle.ssb_answer.specs.SessionStep.{ShowsStatement, is_unwritten}
use Rattle.ssb_answer.specs.Showing.{Sheet, ShowsFiles, ShowsOver, WritesSheet}
use Rattle.ssb_answer.specs.Steps.{AnswersStatement, DoesStep, Outcome, SessionState, SinkState, Took, rows_text}
use Rattle.ssb_answer.specs.Steps.AnswersStatement.{asked, too_long, no_text, refused}
use Rattle.ssb_answer.specs.Steps.DoesStep.{answered as step-answered, told as step-told}
use Rattle.ssb_answer.specs.declared.session.Step.TheVariants as step
use Rattle.ssb_answer.proofs.Running.{replied-over}
use Rattle.ssb_answer.proofs.ShownFacts.{sheet-of-files, unshown}

-- ---- faults

pub is-write : (f : RunFault) → is_unwritten f ≡ true → f ≡ run.Answer answer.Write
is-write (run.Answer answer.Write) e = refl
is-write (run.Answer (answer.RowOverflow n)) e = cc e
is-write (run.Answer answer.SumOutOfRange) e = cc e
is-write (run.Answer answer.Memory) e = cc e
is-write (run.Load t f) e = cc e
is-write (run.Sql f) e = cc e
is-write (run.Bind f) e = cc e
is-write run.Memory e = cc e

pub is-no-write : (f : RunFault) → is_unwritten f ≡ false → f ≡ run.Answer answer.Write → ⊥
is-no-write f e is = let both : true ≡ false = sym (ap is_unwritten is) ∙ e in cc both

-- ---- replies

module _ (d : Loaded) (files : List Bytes) (s : Bytes) where
  pub outcome-replied : (r : Outcome) (old : Bytes) → loaded d.catalog files ≡ Ok d.tables → IsUtf8 s → AnswersStatement d s r → Replies d.catalog files s (told r) old (old ++ rows_text plain r)
  outcome-replied (Ok sheet) old loads text (asked is h) = replied-over d.catalog files d.tables s (Ok sheet.rows) (Ok tt) old (old ++ rows_text plain (Ok sheet)) 0 0 loads h.0 (refl, refl)
  outcome-replied (Err f) old loads text (asked is h) = replied-over d.catalog files d.tables s (Err f) (Err f) old (old ++ []) 0 0 loads h (refl, append-nil old, refl)
  outcome-replied (Err (run.Sql sql.TooLong)) old loads text (too_long long) = ((d.tables, loads), long)
  outcome-replied (Err (run.Sql sql.Syntax)) old loads text (no_text short not) = absurd (not text)
  outcome-replied (Err run.Memory) old loads text refused = tt

  pub outcome-shown : (shape : Shape) (r : Outcome) (old : Bytes) → loaded d.catalog files ≡ Ok d.tables → IsUtf8 s → AnswersStatement d s r → ShowsFiles d.catalog files shape s (told r) old (old ++ rows_text shape r)
  outcome-shown shape (Ok sheet) old loads text (asked is h) = (sheet, sheet-of-files d.catalog files s d.tables sheet loads h, refl)
  outcome-shown shape (Err f) old loads text (asked is h) = unshown d.catalog files shape s d.tables f old (old ++ []) loads h (append-nil old)
  outcome-shown shape (Err (run.Sql sql.TooLong)) old loads text (too_long long) = (((d.tables, loads), long), append-nil old)
  outcome-shown shape (Err (run.Sql sql.Syntax)) old loads text (no_text short not) = absurd (not text)
  outcome-shown shape (Err run.Memory) old loads text refused = (tt, append-nil old)

-- ---- what was written of a statement

module _ (d : Loaded) (shape : Shape) (s : Bytes) where
  pub replied-too-long : (a : SinkState) → 65536 < length s → ShowsStatement d shape s (Err (run.Sql sql.TooLong)) a a
  replied-too-long a long = record { outcome = Err (run.Sql sql.TooLong); answers = too_long long; writes = (refl, refl, refl) }

  pub replied-no-text : (a : SinkState) → length s ≤ 65536 → (IsUtf8 s → ⊥) → ShowsStatement d shape s (Err (run.Sql sql.Syntax)) a a
  replied-no-text a short not = record { outcome = Err (run.Sql sql.Syntax); answers = no_text short not; writes = (refl, refl, refl) }

  pub replied-text : (r : Result (Unit {0}) RunFault) (old new : SinkState) → IsUtf8 s → ShowsOver d.catalog d.tables shape s r old.taken new.taken old.failures new.failures → ShowsStatement d shape s r old new
  replied-text r old new text over = record { outcome = over.answered; answers = asked text over.answers; writes = over.writes }

  no-write : (f : RunFault) → AnswersStatement d s (Err f) → f ≡ run.Answer answer.Write → ⊥
  no-write f (asked text h) is = subst (λ e. AnswersText d.catalog d.tables s (Err e)) is h
  no-write (run.Sql sql.TooLong) (too_long long) is = cc is
  no-write (run.Sql sql.Syntax) (no_text short not) is = cc is
  no-write run.Memory refused is = cc is

  -- rows that were written whole or not, and a fault of which nothing was written
  record Answered (whole : Bool) (old new : SinkState) : Type 0 where
    sheet : Sheet
    answers : AnswersStatement d s (Ok sheet)
    took : Took whole (shown shape sheet.titles sheet.rows) old new

  record Refused (f : RunFault) (old new : SinkState) : Type 0 where
    answers : AnswersStatement d s (Err f)
    taken : new.taken ≡ old.taken
    failures : new.failures ≡ old.failures

  answered-by : (o : Outcome) (old new : SinkState) → AnswersStatement d s o → WritesSheet shape o (Ok tt) old.taken new.taken old.failures new.failures → Answered true old new
  answered-by (Ok sheet) old new a w = record { sheet = sheet; answers = a; took = w }
  answered-by (Err f) old new a w = cc w.0

  unwritten-by : (o : Outcome) (old new : SinkState) → AnswersStatement d s o → WritesSheet shape o (Err (run.Answer answer.Write)) old.taken new.taken old.failures new.failures → Answered false old new
  unwritten-by (Ok sheet) old new a w = record { sheet = sheet; answers = a; took = w.1 }
  unwritten-by (Err f) old new a w = let is : f ≡ run.Answer answer.Write = cc w.0 in absurd (no-write f a is)

  refused-by : (o : Outcome) (f : RunFault) (old new : SinkState) → (f ≡ run.Answer answer.Write → ⊥) → AnswersStatement d s o → WritesSheet shape o (Err f) old.taken new.taken old.failures new.failures → Refused f old new
  refused-by (Ok sheet) f old new not a w = absurd (not w.0)
  refused-by (Err g) f old new not a w = let is : g ≡ f = cc w.0 in record { answers = subst (λ e. AnswersStatement d s (Err e)) is a; taken = w.1; failures = w.2 }

  -- the fault that was told is that of the statement, or memory
  told-answers : (f g : RunFault) → AnswersStatement d s (Err f) → (g ≡ f) ⊎ (g ≡ run.Memory) → AnswersStatement d s (Err g)
  told-answers f g a (inl e) = rw e a
  told-answers f g a (inr e) = rw e refused

same-state : (a b : SinkState) → b.taken ≡ a.taken → b.failures ≡ a.failures → b ≡ a
same-state a b taken failures = rw taken (rw failures refl)

-- ---- steps

module _ {S : Type 0} (source : Source S) (d : Loaded) (shape : Shape) (old new : SessionState S) where
  module _ (t : Statement) (g : Gave source old.statements (Ok (Some t)) new.statements) where
    pub does-answer : ShowsStatement d shape g.answer.statement (Ok tt) old.rows new.rows → new.lines ≡ old.lines → DoesStep source d shape old new (step.Answered (Ok tt))
    does-answer h same = let a = answered-by d shape g.answer.statement h.outcome old.rows new.rows h.answers h.writes in step-answered g a.answers a.took same

    pub does-not-write : (e : SinkFault) → ShowsStatement d shape g.answer.statement (Err (run.Answer answer.Write)) old.rows new.rows → new.lines ≡ old.lines → DoesStep source d shape old new (step.Answered (Err e))
    does-not-write e h same = let a = unwritten-by d shape g.answer.statement h.outcome old.rows new.rows h.answers h.writes in step-answered g a.answers a.took same

    pub does-tell : (fault f : RunFault) (w : Result (Unit {0}) SinkFault) → (fault ≡ run.Answer answer.Write → ⊥) → ShowsStatement d shape g.answer.statement (Err fault) old.rows new.rows → (f ≡ fault) ⊎ (f ≡ run.Memory)
        → Took (is_ok w) (line_of (run_words [] f)) old.lines new.lines → DoesStep source d shape old new (step.Told f w)
    does-tell fault f w not h is line =
        let a = refused-by d shape g.answer.statement h.outcome fault old.rows new.rows not h.answers h.writes in
        step-told g (told-answers d shape g.answer.statement fault f a.answers is) line (same-state old.rows new.rows a.taken a.failures)
