-- What a run over sources promises: what it replies to what they gave, and how it leaves its sink.
-- Source: own.
use Rattle.std.specs.Prelude.{◌≡◌, ◌<◌, ℕ, List, Option, Some, Result, IfErr, OnOk, map}
use Rattle.ssb_load.specs.Files.{Bytes, FailedAt, GrewEach, RoseEach, given_each}
use Rattle.ssb_catalog.specs.Shapes.{TableShape}
use Rattle.ssb_reply.specs.Reply.{IfLoaded, IfReadOf, IsSilentBut, Replies}
use Rattle.ssb_rows.specs.Taking.{GrewAlike}
use Rattle.ssb_reply.specs.declared.run_fault.RunFault.{RunFault}

-- A run over the sources of a catalog's tables. Each source tells which bytes it gave, how often a read failed, how often one met the end, and all its bytes
-- where they are known. The sink had taken the one bytes before and the other after.
pub record RunsFrom {S : Type 0} (given : S → Bytes) (failures ends : S → ℕ) (known : S → Option Bytes) (catalog : List TableShape) (text : Bytes)
    (before after : List S) (r : Result (Unit {0}) RunFault) (old new : Bytes) : Type 0 where
  -- each source has given what it had given before, and perhaps some bytes more
  pub grows : GrewEach (map given before) (map given after)
  -- what is answered and written is the reply to just the bytes given since
  pub replies : Replies catalog (given_each (map given before) (map given after)) text r old new
  -- an answer, and a fault of the text, of binding or of the answer, come only where each source met its end
  pub ended : IfLoaded r (RoseEach (map ends before) (map ends after))
  -- a failed read is answered only where a read failed, with its table's number and that of the record on its way
  pub failed : IfErr r (λ e. IfReadOf e (FailedAt catalog (given_each (map given before) (map given after)) (map failures before) (map failures after)))
  -- where all bytes of the sources are known, the reply is that to all of them
  pub told : (files : List Bytes) → map known before ≡ map Some files → Replies catalog (given_each (map given before) files) text r old new

-- How a run leaves its sink: the bytes that it had taken before and after, its count of failures, and what it holds where that is known.
pub record LeavesSink (r : Result (Unit {0}) RunFault) (old new : Bytes) (failures_old failures_new : ℕ) (contents_old contents_new : Option Bytes) : Type 0 where
  -- a failed write is answered only where one failed; with any other fault nothing was written
  pub silent : IfErr r (IsSilentBut (failures_old < failures_new) (new ≡ old))
  -- an answer comes only where no write failed
  pub clean : OnOk r (failures_new ≡ failures_old)
  -- what it holds grew by the bytes that it took
  pub holds : GrewAlike old new contents_old contents_new
