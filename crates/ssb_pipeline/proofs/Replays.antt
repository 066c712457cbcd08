-- Calls of a part and its twin, one after the other.
use Rattle.std.proofs.Common.{◌≡◌, ◌++◌, ◌∷◌, [], ◌<◌, ℕ, zero, suc, List, length, None, Some, refl, sym, ap, subst, arith}
use Rattle.std.specs.Prelude.{IfSome, slice_set}
use Rattle.std.proofs.lemmas.List.Elements.{All-head, All-tail}
use Rattle.std.proofs.lemmas.Option.{none-some, same_Some}
use Rattle.ssb_job.specs.Kept.{AreOneJob}
use Rattle.ssb_plan.specs.JobShape.{JobShape}
use Rattle.ssb_pipeline.specs.Replay.{Answers, AreOf, LiesIn, Replaying, Replays, Slots}
use Rattle.ssb_pipeline.specs.Replay.Replays.{next, over}
use Rattle.ssb_pipeline.specs.Tickets.{TicketState}
use Rattle.ssb_pipeline.specs.declared.calls.Call.{Call}
use Rattle.ssb_pipeline.specs.declared.calls.Reply.{Reply}

-- one call more
pub replays-more : {cs : List Call} {rs : List Reply} {s m t : Replaying} {c : Call} {r : Reply} → Replays cs rs s m → Answers c r m t → Replays (cs ++ c ∷ []) (rs ++ r ∷ []) s t
replays-more over a = next a over
replays-more (next first rest) a = next first (replays-more rest a)

-- ---- slots

-- a slot with a ticket is there
pub lies-within : (slots : Slots) (j : ℕ) (t : TicketState) → LiesIn slots j t → j < length slots
lies-within [] j t h = absurd (none-some (Some t) h)
lies-within (x ∷ slots) zero t h = omega arith
lies-within (x ∷ slots) (suc j) t h = let k = lies-within slots j t h in omega (arith, k)

-- a ticket that lies in a slot is of the job
pub lies-of : (j : JobShape) (slots : Slots) (i : ℕ) (t : TicketState) → AreOf j slots → LiesIn slots i t → AreOneJob t.job j
lies-of j [] i t all h = absurd (none-some (Some t) h)
lies-of j (x ∷ slots) zero t all h = subst (λ place. IfSome place (λ u. AreOneJob u.job j)) (same_Some x (Some t) h) (All-head (λ place. IfSome place (λ u. AreOneJob u.job j)) x slots all)
lies-of j (x ∷ slots) (suc i) t all h = lies-of j slots i t (All-tail (λ place. IfSome place (λ u. AreOneJob u.job j)) x slots all) h

-- a ticket that goes back into its slot
pub back-in : (slots : Slots) (j : ℕ) (t : TicketState) → LiesIn slots j t → slice_set (slice_set slots j None) j (Some t) ≡ slots
back-in [] j t h = refl
back-in (x ∷ slots) zero t h = ap (λ y. y ∷ slots) (sym (same_Some x (Some t) h))
back-in (x ∷ slots) (suc j) t h = ap (λ ys. x ∷ ys) (back-in slots j t h)
