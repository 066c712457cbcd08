-- A run over files in memory, whose answer is kept in memory.
use Rattle.std.proofs.Common.{◌≡◌, ◌++◌, ◌⊎◌, inl, inr, ◌∙◌, [], ◌∷◌, List, ℕ, Some, Err, Bor, map, refl, sym, ap}
use Rattle.ssb_catalog.specs.Shapes.{TableShape}
use Rattle.ssb_records.specs.declared.fault.LoadFault.TheVariants as load
use Rattle.ssb_sql.specs.declared.fault.SqlFault.TheVariants as sql
use Rattle.ssb_load.specs.Files.{Bytes}
use Rattle.ssb_reply.specs.Reply.{IsOfContent, Replies}
use Rattle.ssb_rows.specs.declared.fault.AnswerFault.TheVariants as answer
use Rattle.ssb_reply.specs.declared.run_fault.RunFault.{RunFault}
use Rattle.ssb_reply.specs.declared.run_fault.RunFault.TheVariants as run

-- slices tell their bytes
pub slices-told : (files : List (Bor (List ℕ))) → map (λ f. Some f.now) files ≡ map Some (map (λ f. f.now) files)
slices-told [] = refl
slices-told (f ∷ fs) = ap (λ t. Some f.now ∷ t) (slices-told fs)

-- what is kept is what was taken, where both began with nothing
pub bytes-are : (taken_old taken_new gone text kept_old kept_new : List ℕ) → taken_old ≡ [] → kept_old ≡ [] → taken_new ≡ taken_old ++ gone → kept_new ≡ kept_old ++ gone → taken_new ≡ taken_old ++ text → kept_new ≡ text
bytes-are to tn gone text ko kn e f a b c =
    let x : tn ≡ gone = rw e at a in
    let y : kn ≡ gone = rw f at b in
    let z : tn ≡ text = rw e at c in
    y ∙ sym x ∙ z

silent : (c : List TableShape) (files : List Bytes) (text old new : Bytes) (f : RunFault) → IsOfContent f → Replies c files text (Err f) old new → Replies c files text (Err f) [] []
silent c files text old new (run.Load t (load.Record f n)) own h = h
silent c files text old new (run.Load t (load.BadCatalog f n)) own h = absurd own
silent c files text old new (run.Load t (load.Read n)) own h = absurd own
silent c files text old new (run.Load t load.Memory) own h = absurd own
silent c files text old new (run.Sql sql.TooLong) own h = h
silent c files text old new (run.Sql sql.TooDeep) own h = h
silent c files text old new (run.Sql sql.Syntax) own h = h
silent c files text old new (run.Sql sql.Memory) own h = h
silent c files text old new (run.Bind f) own h = h
silent c files text old new (run.Answer (answer.RowOverflow n)) own h = h
silent c files text old new (run.Answer answer.SumOutOfRange) own h = h
silent c files text old new (run.Answer answer.Memory) own h = absurd own
silent c files text old new (run.Answer answer.Write) own h = absurd own
silent c files text old new run.Memory own h = tt

-- the same fault, or memory
pub fault-told : (c : List TableShape) (files : List Bytes) (text old new : Bytes) (f g : RunFault) → IsOfContent g → (g ≡ f) ⊎ (g ≡ run.Memory) → Replies c files text (Err f) old new → Replies c files text (Err g) [] []
fault-told c files text old new f g own (inl e) h = silent c files text old new g own (rw e h)
fault-told c files text old new f g own (inr e) h = rw e tt
