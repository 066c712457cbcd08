-- Files and a text have one reply: each stage of a run has one outcome.
use Rattle.std.proofs.Common.{◌≡◌, ◌∙◌, ◌++◌, ◌<◌, ◌≤◌, ℕ, List, refl, sym, ap, subst, arith, Result, Ok, Err, Some, None, true, false}
use Rattle.std.specs.Prelude.{OnOk}
use Rattle.ssb_catalog.specs.Shapes.{TableShape}
use Rattle.ssb_records.specs.declared.fault.LoadFault.TheVariants as load
use Rattle.ssb_sql.specs.Spells.{ReadsText}
use Rattle.ssb_sql.specs.declared.fault.SqlFault.{SqlFault}
use Rattle.ssb_sql.specs.declared.fault.SqlFault.TheVariants as sql
use Rattle.ssb_sql.specs.declared.select.Select.{Select}
use Rattle.ssb_sql.proofs.SelectComplete.{one_meaning}
use Rattle.ssb_sql.proofs.SpellsFacts.{one-select}
use Rattle.ssb_bind.specs.Faults.{least_fault}
use Rattle.ssb_bind.specs.Meaning.{Means}
use Rattle.ssb_bind.specs.declared.fault.BindFault.{BindFault}
use Rattle.ssb_query.specs.declared.query.QueryParts.{QueryParts}
use Rattle.ssb_groups.specs.Rows.{SeenRow}
use Rattle.ssb_load.specs.Files.{Bytes, FirstFault, loaded}
use Rattle.ssb_cells.specs.Tables.{Columns}
use Rattle.ssb_records.specs.declared.fault.RecordFault.{RecordFault}
use Rattle.ssb_rows.specs.Order.{Row}
use Rattle.ssb_reply.specs.Reply.{Replies, Asks, IsUnbound, AreTables, seen_rows}
use Rattle.ssb_rows.specs.Result.{Answers, bag}
use Rattle.ssb_reply.specs.Settled.{IsSettled, OneReply}
use Rattle.ssb_rows.specs.Text.{text_of}
use Rattle.ssb_rows.specs.declared.fault.AnswerFault.{AnswerFault}
use Rattle.ssb_rows.specs.declared.fault.AnswerFault.TheVariants as answer
use Rattle.ssb_reply.specs.declared.run_fault.RunFault.{RunFault}
use Rattle.ssb_reply.specs.declared.run_fault.RunFault.TheVariants as run
use Rattle.ssb_bind.proofs.Relation.{one_query}
use Rattle.ssb_rows.proofs.Orders.{one-order}

-- ---- reading

abbrev Reading : Bytes → Result Select SqlFault → Type 0
Reading text (Ok select) = ReadsText text (Ok select)
Reading text (Err sql.TooLong) = ReadsText text (Err sql.TooLong)
Reading text (Err sql.TooDeep) = ReadsText text (Err sql.TooDeep)
Reading text (Err sql.Syntax) = ReadsText text (Err sql.Syntax)
Reading text (Err sql.Memory) = ⊥

too-long : (n : ℕ) → n ≤ 65536 → 65536 < n → ⊥
too-long n a b = omega arith

one-read : (text : Bytes) (r q : Result Select SqlFault) → Reading text r → Reading text q → r ≡ q
one-read text (Ok s) (Ok t) a b = let e : s ≡ t = one-select one_meaning text s t a.spells b.spells in cc
one-read text (Ok s) (Err sql.TooLong) a b = absurd (too-long _ a.short b)
one-read text (Ok s) (Err sql.TooDeep) a b = absurd (b.1.beyond (a.shallow b.1.tokens b.1.is_text))
one-read text (Ok s) (Err sql.Syntax) a b = absurd (b.none s a.spells)
one-read text (Ok s) (Err sql.Memory) a b = absurd b
one-read text (Err sql.TooLong) (Ok t) a b = absurd (too-long _ b.short a)
one-read text (Err sql.TooLong) (Err sql.TooLong) a b = refl
one-read text (Err sql.TooLong) (Err sql.TooDeep) a b = absurd (too-long _ b.0 a)
one-read text (Err sql.TooLong) (Err sql.Syntax) a b = absurd (too-long _ b.short a)
one-read text (Err sql.TooLong) (Err sql.Memory) a b = absurd b
one-read text (Err sql.TooDeep) (Ok t) a b = absurd (a.1.beyond (b.shallow a.1.tokens a.1.is_text))
one-read text (Err sql.TooDeep) (Err sql.TooLong) a b = absurd (too-long _ a.0 b)
one-read text (Err sql.TooDeep) (Err sql.TooDeep) a b = refl
one-read text (Err sql.TooDeep) (Err sql.Syntax) a b = absurd (a.1.beyond (b.shallow a.1.tokens a.1.is_text))
one-read text (Err sql.TooDeep) (Err sql.Memory) a b = absurd b
one-read text (Err sql.Syntax) (Ok t) a b = absurd (a.none t b.spells)
one-read text (Err sql.Syntax) (Err sql.TooLong) a b = absurd (too-long _ a.short b)
one-read text (Err sql.Syntax) (Err sql.TooDeep) a b = absurd (b.1.beyond (a.shallow b.1.tokens b.1.is_text))
one-read text (Err sql.Syntax) (Err sql.Syntax) a b = refl
one-read text (Err sql.Syntax) (Err sql.Memory) a b = absurd b
one-read text (Err sql.Memory) q a b = absurd a

-- ---- binding

abbrev Binding : List TableShape → Select → Result QueryParts BindFault → Type 0
Binding c s (Ok q) = Means c s q
Binding c s (Err f) = least_fault c s ≡ Some f

one-bound : (c : List TableShape) (s : Select) (r q : Result QueryParts BindFault) → Binding c s r → Binding c s q → r ≡ q
one-bound c s (Ok x) (Ok y) a b = let e : x ≡ y = one_query c s x y a.query b.query in cc
one-bound c s (Ok x) (Err f) a b = let e : None ≡ Some f = sym a.no_fault ∙ b in absurd cc
one-bound c s (Err f) (Ok y) a b = let e : None ≡ Some f = sym b.no_fault ∙ a in absurd cc
one-bound c s (Err f) (Err g) a b = let e : Some f ≡ Some g = sym a ∙ b in cc

-- ---- answering

abbrev Answering : QueryParts → List SeenRow → Result (List Row) AnswerFault → Type 0
Answering q R (Ok rows) = Answers q R (Ok rows)
Answering q R (Err (answer.RowOverflow n)) = Answers q R (Err (answer.RowOverflow n))
Answering q R (Err answer.SumOutOfRange) = Answers q R (Err answer.SumOutOfRange)
Answering q R (Err answer.Memory) = ⊥
Answering q R (Err answer.Write) = ⊥

one-answer : (q : QueryParts) (R : List SeenRow) (r p : Result (List Row) AnswerFault) → Answering q R r → Answering q R p → r ≡ p
one-answer q R (Ok x) (Ok y) a b = let e : x ≡ y = one-order q.orders (bag q R) x y a.2 b.2 in cc
one-answer q R (Ok x) (Err (answer.RowOverflow n)) a b = let e : None ≡ Some n = sym a.0 ∙ b in absurd cc
one-answer q R (Ok x) (Err answer.SumOutOfRange) a b = let e : false ≡ true = sym a.1 ∙ b.1 in absurd cc
one-answer q R (Ok x) (Err answer.Memory) a b = absurd b
one-answer q R (Ok x) (Err answer.Write) a b = absurd b
one-answer q R (Err (answer.RowOverflow n)) (Ok y) a b = let e : None ≡ Some n = sym b.0 ∙ a in absurd cc
one-answer q R (Err (answer.RowOverflow n)) (Err (answer.RowOverflow m)) a b = let e : Some n ≡ Some m = sym a ∙ b in cc
one-answer q R (Err (answer.RowOverflow n)) (Err answer.SumOutOfRange) a b = let e : None ≡ Some n = sym b.0 ∙ a in absurd cc
one-answer q R (Err (answer.RowOverflow n)) (Err answer.Memory) a b = absurd b
one-answer q R (Err (answer.RowOverflow n)) (Err answer.Write) a b = absurd b
one-answer q R (Err answer.SumOutOfRange) (Ok y) a b = let e : false ≡ true = sym b.1 ∙ a.1 in absurd cc
one-answer q R (Err answer.SumOutOfRange) (Err (answer.RowOverflow n)) a b = let e : None ≡ Some n = sym a.0 ∙ b in absurd cc
one-answer q R (Err answer.SumOutOfRange) (Err answer.SumOutOfRange) a b = refl
one-answer q R (Err answer.SumOutOfRange) (Err answer.Memory) a b = absurd b
one-answer q R (Err answer.SumOutOfRange) (Err answer.Write) a b = absurd b
one-answer q R (Err answer.Memory) p a b = absurd a
one-answer q R (Err answer.Write) p a b = absurd a

-- ---- the whole run, up to the rows or the first fault

abbrev Outcome : Type 0
Outcome = Result (List Row) RunFault

abbrev told : Result (List Row) AnswerFault → Outcome
told (Ok rows) = Ok rows
told (Err f) = Err (run.Answer f)

abbrev AfterBinding : List Columns → Result QueryParts BindFault → Outcome → Type 0
AfterBinding tables (Ok q) o = (a : Result (List Row) AnswerFault) × Answering q (seen_rows (record { query = q; tables = tables })) a × (o ≡ told a)
AfterBinding tables (Err f) o = o ≡ Err (run.Bind f)

abbrev AfterReading : List TableShape → List Columns → Result Select SqlFault → Outcome → Type 0
AfterReading c tables (Ok s) o = (b : Result QueryParts BindFault) × Binding c s b × AfterBinding tables b o
AfterReading c tables (Err f) o = o ≡ Err (run.Sql f)

abbrev AfterLoading : List TableShape → Bytes → Result (List Columns) FirstFault → Outcome → Type 0
AfterLoading c text (Ok tables) o = (r : Result Select SqlFault) × Reading text r × AfterReading c tables r o
AfterLoading c text (Err (t, f, n)) o = o ≡ Err (run.Load t (load.Record f n))

one-after-binding : (tables : List Columns) (b : Result QueryParts BindFault) (o p : Outcome) → AfterBinding tables b o → AfterBinding tables b p → o ≡ p
one-after-binding tables (Ok q) o p x y = x.2 ∙ ap told (one-answer q (seen_rows (record { query = q; tables = tables })) x.0 y.0 x.1 y.1) ∙ sym y.2
one-after-binding tables (Err f) o p x y = x ∙ sym y

one-after-reading : (c : List TableShape) (tables : List Columns) (r : Result Select SqlFault) (o p : Outcome) → AfterReading c tables r o → AfterReading c tables r p → o ≡ p
one-after-reading c tables (Ok s) o p x y = one-after-binding tables x.0 o p x.2 (subst (λ b. AfterBinding tables b p) (one-bound c s y.0 x.0 y.1 x.1) y.2)
one-after-reading c tables (Err f) o p x y = x ∙ sym y

one-after-loading : (c : List TableShape) (text : Bytes) (l : Result (List Columns) FirstFault) (o p : Outcome) → AfterLoading c text l o → AfterLoading c text l p → o ≡ p
one-after-loading c text (Ok tables) o p x y = one-after-reading c tables x.0 o p x.2 (subst (λ r. AfterReading c tables r p) (one-read text y.0 x.0 y.1 x.1) y.2)
one-after-loading c text (Err (t, f, n)) o p x y = x ∙ sym y

-- ---- a settled reply has an outcome

-- the reply says this outcome
abbrev Shows : Result (Unit {0}) RunFault → Outcome → Bytes → Bytes → Type 0
Shows (Ok u) (Ok rows) old new = new ≡ old ++ text_of rows
Shows (Ok u) (Err f) old new = ⊥
Shows (Err e) o old new = o ≡ Err e

record Runs (c : List TableShape) (files : List Bytes) (text : Bytes) (r : Result (Unit {0}) RunFault) (old new : Bytes) : Type 0 where
  outcome : Outcome
  runs : AfterLoading c text (loaded c files) outcome
  shows : Shows r outcome old new

from-answer : (c : List TableShape) (files : List Bytes) (text : Bytes) (tables : List Columns) (q : QueryParts) (a : Result (List Row) AnswerFault) → loaded c files ≡ Ok tables → Asks c text q
    → Answering q (seen_rows (record { query = q; tables = tables })) a → AfterLoading c text (loaded c files) (told a)
from-answer c files text tables q a e asks h = subst (λ l. AfterLoading c text l (told a)) (sym e) (Ok asks.select, asks.reads, (Ok q, asks.means, (a, h, refl)))

from-reading : (c : List TableShape) (files : List Bytes) (text : Bytes) (f : SqlFault) → AreTables c files → Reading text (Err f) → AfterLoading c text (loaded c files) (Err (run.Sql f))
from-reading c files text f t h = subst (λ l. AfterLoading c text l (Err (run.Sql f))) (sym t.1) (Err f, h, refl)

from-binding : (c : List TableShape) (files : List Bytes) (text : Bytes) (f : BindFault) → AreTables c files → IsUnbound c text f → AfterLoading c text (loaded c files) (Err (run.Bind f))
from-binding c files text f t h = subst (λ l. AfterLoading c text l (Err (run.Bind f))) (sym t.1) (Ok h.select, h.reads, (Err f, h.least, refl))

from-loading : (c : List TableShape) (files : List Bytes) (text : Bytes) (t n : ℕ) (f : RecordFault) → loaded c files ≡ Err (t, f, n) → AfterLoading c text (loaded c files) (Err (run.Load t (load.Record f n)))
from-loading c files text t n f e = subst (λ l. AfterLoading c text l (Err (run.Load t (load.Record f n)))) (sym e) refl

runs-of : (c : List TableShape) (files : List Bytes) (text : Bytes) (r : Result (Unit {0}) RunFault) (old new : Bytes) → IsSettled r → Replies c files text r old new → Runs c files text r old new
runs-of c files text (Ok u) old new s h =
    record { outcome = Ok h.0; runs = from-answer c files text h.1.tables h.1.query (Ok h.0) h.1.loads h.1.asks h.1.answers; shows = h.2 }
runs-of c files text (Err (run.Load t (load.Record f n))) old new s h = record { outcome = Err (run.Load t (load.Record f n)); runs = from-loading c files text t n f h; shows = refl }
runs-of c files text (Err (run.Load t (load.BadCatalog f n))) old new s h = absurd h
runs-of c files text (Err (run.Load t (load.Read n))) old new s h = absurd s
runs-of c files text (Err (run.Load t load.Memory)) old new s h = absurd h
runs-of c files text (Err (run.Sql sql.TooLong)) old new s h = record { outcome = Err (run.Sql sql.TooLong); runs = from-reading c files text _ h.0 h.1; shows = refl }
runs-of c files text (Err (run.Sql sql.TooDeep)) old new s h = record { outcome = Err (run.Sql sql.TooDeep); runs = from-reading c files text _ h.0 h.1; shows = refl }
runs-of c files text (Err (run.Sql sql.Syntax)) old new s h = record { outcome = Err (run.Sql sql.Syntax); runs = from-reading c files text _ h.0 h.1; shows = refl }
runs-of c files text (Err (run.Sql sql.Memory)) old new s h = absurd h
runs-of c files text (Err (run.Bind f)) old new s h = record { outcome = Err (run.Bind f); runs = from-binding c files text f h.0 h.1; shows = refl }
runs-of c files text (Err (run.Answer (answer.RowOverflow n))) old new s h = record {
  outcome = Err (run.Answer (answer.RowOverflow n));
  runs = from-answer c files text h.tables h.query (Err (answer.RowOverflow n)) h.loads h.asks h.answers;
  shows = refl;
}
runs-of c files text (Err (run.Answer answer.SumOutOfRange)) old new s h = record {
  outcome = Err (run.Answer answer.SumOutOfRange);
  runs = from-answer c files text h.tables h.query (Err answer.SumOutOfRange) h.loads h.asks h.answers;
  shows = refl;
}
runs-of c files text (Err (run.Answer answer.Memory)) old new s h = absurd h
runs-of c files text (Err (run.Answer answer.Write)) old new s h = absurd s
runs-of c files text (Err run.Memory) old new s h = absurd s

one-fault : (e d : RunFault) (o : Outcome) (r q : Result (Unit {0}) RunFault) → o ≡ Err e → o ≡ Err d → r ≡ Err e → q ≡ Err d → r ≡ q
one-fault e d o r q a b x y = let h : e ≡ d = cc in cc

one-shown : (r q : Result (Unit {0}) RunFault) (o : Outcome) (old new other : Bytes) → Shows r o old new → Shows q o old other → (r ≡ q) × OnOk r (new ≡ other)
one-shown (Ok u) (Ok v) (Ok rows) old new other a b = (refl, a ∙ sym b)
one-shown (Ok u) (Ok v) (Err f) old new other a b = absurd a
one-shown (Ok u) (Err e) (Ok rows) old new other a b = absurd cc
one-shown (Ok u) (Err e) (Err f) old new other a b = absurd a
one-shown (Err e) (Ok v) (Ok rows) old new other a b = absurd cc
one-shown (Err e) (Ok v) (Err f) old new other a b = absurd b
one-shown (Err e) (Err d) o old new other a b = (one-fault e d o (Err e) (Err d) a b refl refl, tt)

pub one-reply : OneReply
one-reply c files text r q old new other s t a b =
    let x = runs-of c files text r old new s a in
    let y = runs-of c files text q old other t b in
    let e : y.outcome ≡ x.outcome = one-after-loading c text (loaded c files) y.outcome x.outcome y.runs x.runs in
    one-shown r q x.outcome old new other x.shows (subst (λ o. Shows q o old other) e y.shows)
