-- From what a text answers, with its titles, to what is shown of it.
use Rattle.std.proofs.Common.{◌≡◌, ◌<◌, inl, inr, ℕ, List, Option, Result, Ok, Err, OnOk, IfErr, map, string_bytes, ap, refl}
use Rattle.ssb_catalog.specs.Shapes.{TableShape}
use Rattle.ssb_cells.specs.Tables.{Columns}
use Rattle.ssb_plan.specs.JobShape.{JobShape}
use Rattle.ssb_load.specs.Files.{Bytes, loaded}
use Rattle.ssb_rows.specs.Order.{Row}
use Rattle.ssb_rows.specs.Taking.{GrewAlike}
use Rattle.ssb_rows.specs.declared.fault.AnswerFault.{AnswerFault}
use Rattle.ssb_rows.specs.declared.fault.AnswerFault.TheVariants as answer
use Rattle.ssb_reply.specs.Reply.{Asks, IsSilentBut}
use Rattle.ssb_reply.specs.Running.{LeavesSink}
use Rattle.ssb_reply.specs.Told.{told_answer}
use Rattle.ssb_reply.specs.declared.run_fault.RunFault.{RunFault}
use Rattle.ssb_reply.specs.declared.run_fault.RunFault.TheVariants as run
use Rattle.ssb_show.specs.Shown.{IsUnshown, plain, shown}
use Rattle.ssb_show.specs.declared.shape.Shape.{Shape}
use Rattle.ssb_spelling.specs.Titles.{column_titles}
use Rattle.ssb_answer.specs.Asking.{AnswersText}
use Rattle.ssb_answer.specs.Database.{RepliesOver}
use Rattle.ssb_answer.specs.Showing.{AnswersSheet, IsSheet, Sheet, ShowsFiles, ShowsOver, WritesSheet, WritesText}
use Rattle.ssb_answer.specs.ShownStep.{AnswersTitled, ShowsTitled, TitlesJob, sheet_of}
use Rattle.ssb_answer.specs.Writing.{Writes}
use Rattle.ssb_answer.specs.declared.show.Titled.{Titled}
use Rattle.ssb_answer.proofs.Asking.{over, refused}
use Rattle.ssb_answer.proofs.Running.{before_answer, replied-over}

-- what a job answers is what its text answers
pub text-titled : (c : List TableShape) (text : Bytes) (tables : List Columns) (j : JobShape) (r : Result Titled RunFault) → Asks c text j.query → j.tables ≡ tables → TitlesJob c j r → AnswersTitled c tables text r
text-titled c text tables j (Ok t) asks same h = (record { query = j.query; asks = asks; answers = over tables j (Ok t.answer) same h.0 }, h.1)
text-titled c text tables j (Err f) asks same (inl memory) = rw memory tt
text-titled c text tables j (Err f) asks same (inr (e, h, is)) = refused c text tables j e f asks same h is

-- a fault of what writes is told
pub told-unshown : (shape : Shape) (t : Titled) (e : AnswerFault) (f : RunFault) (old new : Bytes) (m n : ℕ) → IsUnshown (shown shape (map string_bytes t.titles.items) t.answer) old new m n e → f ≡ told_answer e → ShowsTitled shape (Ok t) (Err f) old new m n
told-unshown shape t answer.Write f old new m n h is = inr (is, h)
told-unshown shape t answer.Memory f old new m n h is = inl (ap Err is, h.0, h.1)
told-unshown shape t (answer.RowOverflow row) f old new m n h is = absurd h
told-unshown shape t answer.SumOutOfRange f old new m n h is = absurd h

-- what was written is what is shown
pub shows-text : (c : List TableShape) (tables : List Columns) (text : Bytes) (shape : Shape) (t : Result Titled RunFault) (r : Result (Unit {0}) RunFault) (old new : Bytes) (m n : ℕ)
    → AnswersTitled c tables text t → ShowsTitled shape t r old new m n → ShowsOver c tables shape text r old new m n
shows-text c tables text shape (Err f) r old new m n a w = record { answered = Err f; answers = a; writes = w }
shows-text c tables text shape (Ok t) r old new m n a (inl memory) = record { answered = Err run.Memory; answers = tt; writes = memory }
shows-text c tables text shape (Ok t) r old new m n a (inr w) = record { answered = Ok (sheet_of t); answers = a; writes = w }

-- how the sink is left
written-silent : (text : Bytes) (r : Result (Unit {0}) RunFault) (old new : Bytes) (m n : ℕ) → WritesText text r old new m n → IfErr r (IsSilentBut (m < n) (new ≡ old))
written-silent text (Ok u) old new m n w = tt
written-silent text (Err f) old new m n w = rw w.0 w.1.1

written-clean : (text : Bytes) (r : Result (Unit {0}) RunFault) (old new : Bytes) (m n : ℕ) → WritesText text r old new m n → OnOk r (n ≡ m)
written-clean text (Ok u) old new m n w = w.1
written-clean text (Err f) old new m n w = tt

left : (c : List TableShape) (tables : List Columns) (text : Bytes) (shape : Shape) (a : Result Sheet RunFault) (h : AnswersSheet c tables text a) (r : Result (Unit {0}) RunFault) (old new : Bytes) (m n : ℕ) (holds_old holds_new : Option Bytes)
    → WritesSheet shape a r old new m n → GrewAlike old new holds_old holds_new → LeavesSink r old new m n holds_old holds_new
left c tables text shape (Err f) h r old new m n ho hn w grew = rw w.0 (record { silent = before_answer c tables text f h (m < n) (new ≡ old) w.1; clean = tt; holds = grew })
left c tables text shape (Ok s) h r old new m n ho hn w grew = record { silent = written-silent _ r old new m n w; clean = written-clean _ r old new m n w; holds = grew }

pub shows-sink : (c : List TableShape) (tables : List Columns) (text : Bytes) (shape : Shape) (r : Result (Unit {0}) RunFault) (old new : Bytes) (m n : ℕ) (holds_old holds_new : Option Bytes)
    → ShowsOver c tables shape text r old new m n → GrewAlike old new holds_old holds_new → LeavesSink r old new m n holds_old holds_new
shows-sink c tables text shape r old new m n ho hn s grew = left c tables text shape s.answered s.answers r old new m n ho hn s.writes grew

-- ---- the plain shape: what is shown of rows is their text

module _ (c : List TableShape) (tables : List Columns) (text : Bytes) where
  to-reply : (a : Result Sheet RunFault) (r : Result (Unit {0}) RunFault) (old new : Bytes) (m n : ℕ) → AnswersSheet c tables text a → WritesSheet plain a r old new m n → RepliesOver c tables text r old new m n
  to-reply (Err f) r old new m n h w = record { answered = Err f; answers = h; writes = w }
  to-reply (Ok s) (Ok u) old new m n h w = record { answered = Ok s.rows; answers = h.0; writes = w }
  to-reply (Ok s) (Err f) old new m n h w = record { answered = Ok s.rows; answers = h.0; writes = w }

  of-reply : (a : Result (List Row) RunFault) (r : Result (Unit {0}) RunFault) (old new : Bytes) (m n : ℕ) → AnswersText c tables text a → Writes a r old new m n → ShowsOver c tables plain text r old new m n
  of-reply (Err f) r old new m n h w = record { answered = Err f; answers = h; writes = w }
  of-reply (Ok rows) (Ok u) old new m n h w = record { answered = Ok (record { titles = column_titles c h.query; rows = rows }); answers = (h, refl); writes = w }
  of-reply (Ok rows) (Err f) old new m n h w = record { answered = Ok (record { titles = column_titles c h.query; rows = rows }); answers = (h, refl); writes = w }

  pub plain-replies : (r : Result (Unit {0}) RunFault) (old new : Bytes) (m n : ℕ)
      → (ShowsOver c tables plain text r old new m n → RepliesOver c tables text r old new m n) × (RepliesOver c tables text r old new m n → ShowsOver c tables plain text r old new m n)
  plain-replies r old new m n = (λ s. to-reply s.answered r old new m n s.answers s.writes, λ s. of-reply s.answered r old new m n s.answers s.writes)

-- ---- over the tables of files

module _ (c : List TableShape) (files : List Bytes) where
  pub sheet-of-files : (text : Bytes) (tables : List Columns) (s : Sheet) → loaded c files ≡ Ok tables → AnswersSheet c tables text (Ok s) → IsSheet c files text s
  sheet-of-files text tables s loads h = record { answered = record { tables = tables; query = h.0.query; loads = loads; asks = h.0.asks; answers = h.0.answers }; titles = h.1 }

  module _ (shape : Shape) (text : Bytes) (tables : List Columns) where
    -- a fault is replied to the files as well
    pub unshown : (f : RunFault) (old new : Bytes) → loaded c files ≡ Ok tables → AnswersText c tables text (Err f) → new ≡ old → ShowsFiles c files shape text (Err f) old new
    unshown (run.Load t f) old new loads h same = absurd h
    unshown (run.Sql f) old new loads h same = (replied-over c files tables text (Err (run.Sql f)) (Err (run.Sql f)) old new 0 0 loads h (refl, same, refl), same)
    unshown (run.Bind f) old new loads h same = (replied-over c files tables text (Err (run.Bind f)) (Err (run.Bind f)) old new 0 0 loads h (refl, same, refl), same)
    unshown (run.Answer (answer.RowOverflow row)) old new loads h same = (replied-over c files tables text (Err (run.Answer (answer.RowOverflow row))) (Err (run.Answer (answer.RowOverflow row))) old new 0 0 loads h (refl, same, refl), same)
    unshown (run.Answer answer.SumOutOfRange) old new loads h same = (replied-over c files tables text (Err (run.Answer answer.SumOutOfRange)) (Err (run.Answer answer.SumOutOfRange)) old new 0 0 loads h (refl, same, refl), same)
    unshown (run.Answer answer.Memory) old new loads h same = absurd h
    unshown (run.Answer answer.Write) old new loads h same = absurd h
    unshown run.Memory old new loads h same = (tt, same)

    shown-by : (a : Result Sheet RunFault) (r : Result (Unit {0}) RunFault) (old new : Bytes) (m n : ℕ) → loaded c files ≡ Ok tables → AnswersSheet c tables text a → WritesSheet shape a r old new m n → ShowsFiles c files shape text r old new
    shown-by (Err f) r old new m n loads h w = rw w.0 (unshown f old new loads h w.1)
    shown-by (Ok s) (Ok u) old new m n loads h w = (s, sheet-of-files text tables s loads h, w.0)
    shown-by (Ok s) (Err f) old new m n loads h w = rw w.0 (s, sheet-of-files text tables s loads h, w.1.0)

    pub shown-of-files : (r : Result (Unit {0}) RunFault) (old new : Bytes) (m n : ℕ) → loaded c files ≡ Ok tables → ShowsOver c tables shape text r old new m n → ShowsFiles c files shape text r old new
    shown-of-files r old new m n loads s = shown-by s.answered r old new m n loads s.answers s.writes
