use Rattle.std.proofs.Common.{sym, ap, ◌∙◌, false, Option, Some, List, ℕ}
use Rattle.ssb_tokens.specs.Scanning.{text_at}
use Rattle.ssb_tokens.proofs.ScanSteps.{text_goes, text_ends, text_breaks, piece_shorter}
use Rattle.ssb_tokens.proofs.scan.text.Goals as goal

abbrev piece_some : Option ℕ → List ℕ → Option (Option ℕ × List ℕ)
piece_some o us = Some (o, us)

pub returns-in_default-piece : goal.returns-in_default-piece
returns-in_default-piece c = text_ends c.loop-piece.text.items c.loop-piece.rest.now c.in-Some.after.now (text_at false c.args.bytes.now) (sym c.in-Some.ensures ∙ ap (λ o. piece_some o c.in-Some.after.now) c.in_default-piece.is) c.loop-piece.invariant

pub loop-piece-smaller : goal.loop-piece-smaller
loop-piece-smaller c = piece_shorter c.loop-piece.rest.now (c.in-Some.piece, c.in-Some.after.now) (sym c.in-Some.ensures)

pub loop-piece-preserved : goal.loop-piece-preserved
loop-piece-preserved c = rw c.in_ok-push.ensures (text_goes c.loop-piece.text.items c.loop-piece.rest.now c.in-Some.after.now c.in-Some-piece.byte (text_at false c.args.bytes.now) (sym c.in-Some.ensures ∙ ap (λ o. piece_some o c.in-Some.after.now) c.in-Some-piece.is) c.loop-piece.invariant)

pub returns : goal.returns
returns c = text_breaks c.loop-piece.text.items c.loop-piece.rest.now (text_at false c.args.bytes.now) (sym c.in_default.ensures) c.loop-piece.invariant
