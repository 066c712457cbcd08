use Rattle.std.proofs.Common.{arith, ◌++◌, ◌∙◌, ◌+◌, ◌<◌, List, [], Bool, refl, sym, ap, subst, inl, inr}
use Rattle.std.proofs.lemmas.Result.{err_from_is_err_and}
use Rattle.ssb_records.specs.Giving.{given_since}
use Rattle.ssb_records.specs.Intake.{AreGood}
use Rattle.ssb_records.specs.Pieces.{handed, piece_of, IsPiece}
use Rattle.ssb_records.specs.Records.{Fields, records_of}
use Rattle.ssb_records.proofs.Blocks.{no-records}
use Rattle.ssb_records.proofs.LineRecords.{records-lead}
use Rattle.ssb_records.proofs.TakingAll.{all-handed, always, broken-since, ended-since, follows-start, good-before, grows-of, holds-of, memory-stops, never-over, over-settled, piece-behind, refused-all, refused-fails, refused-given, refused-in, refused-unread, stops-at, told-of}
use Rattle.ssb_records.proofs.intake.take_all.Goals as goal

pub loop-init : goal.loop-init
loop-init g c = record {
  follows = follows-start g.S.Source.given g.S.Source.failures g.S.Source.ends c.new-pieces.result c.args.source.now c.new-pieces.ensures.handed c.new-pieces.ensures.rest c.new-pieces.ensures.stopped c.new-pieces.ensures.failed c.new-pieces.ensures.begun;
  whole = refl;
  begun = c.new-pieces.ensures.begun;
  same = refl;
  held = subst (g.T.Intake.stands c.args.intake.now) (sym (ap records_of c.new-pieces.ensures.handed ∙ no-records)) c.requires;
  lead = inl (refl, c.new-pieces.ensures.handed);
}

pub returns-in-Ok-false-clause-stops : goal.returns-in-Ok-false-clause-stops
returns-in-Ok-false-clause-stops g c =
    let inv = c.loop.invariant in
    let p = c.loop.pieces in
    let q = c.fill.new.self in
    let told = told-of g.S.Source.given g.S.Source.failures g.S.Source.ends q c.fill.new.source c.args.source.now c.fill.ensures.follows (c.fill.ensures.begun ∙ inv.begun) in
    let failed = sym c.has_failed.ensures ∙ c.if-has_failed.true in
    let hands = let P : Bool → Type 0 = λ b. IsPiece b q in subst P c.in-Ok-false.field-0-test c.in-Ok-false.ensures.hands in
    let good = let P : g.T.Intake.Subject → Type 0 = λ s. AreGood (g.T.Intake.judge s) (records_of (handed p)) in subst P inv.same (g.met.T.Intake.good c.loop.intake (records_of (handed p)) inv.held) in
    let number = ap (λ n. n + 1) (c.accepted.ensures.count _ inv.held) in
    record {
      fails = stops-at (g.T.Intake.judge (g.T.Intake.subject c.args.intake.now)) p q c.loop.before.now _ _ _ inv.lead failed c.fill.ensures.stays hands c.fill.ensures.handed told good number;
      told = always (g.S.Source.whole c.args.source.now) _ (λ all is.
          let front = holds-of (g.S.Source.whole c.fill.new.source) _ all (c.fill.ensures.whole ∙ inv.whole ∙ is) (g.met.S.Source.begins c.fill.new.source) in
          good-before (g.T.Intake.judge (g.T.Intake.subject c.args.intake.now)) p q c.loop.before.now _ _ all _ inv.lead failed c.fill.ensures.stays hands c.fill.ensures.handed told good number front);
    }

pub returns-in_err-take_text-clause-stops : goal.returns-in_err-take_text-clause-stops
returns-in_err-take_text-clause-stops g c =
    let inv = c.loop.invariant in
    let e = c.in_err-take_text.field-0.0 in
    let p = c.loop.pieces in
    let q = c.fill.new.self in
    let told = told-of g.S.Source.given g.S.Source.failures g.S.Source.ends q c.fill.new.source c.args.source.now c.fill.ensures.follows (c.fill.ensures.begun ∙ inv.begun) in
    let hands = let P : Bool → Type 0 = λ b. IsPiece b q in subst P c.in-Ok-true.field-0-test c.in-Ok-true.ensures.hands in
    let refused = λ (rest : List Fields). rw (inv.same, c.piece.ensures) at (c.in_err-take_text.ensures.refused (records_of (handed p)) rest inv.held) in
    let out = err_from_is_err_and c.from_residual.result c.from_residual.ensures.1 in
    rw (out.1, out.2) (record {
      fails = refused-fails (g.T.Intake.judge (g.T.Intake.subject c.args.intake.now)) e (given_since (g.S.Source.given c.args.source.now) (g.S.Source.given c.fill.new.source)) (refused-given (g.T.Intake.judge (g.T.Intake.subject c.args.intake.now)) e p q c.loop.before.now _ _ inv.lead hands c.fill.ensures.over c.fill.ensures.handed told refused);
      told = always (g.S.Source.whole c.args.source.now) _ (λ all is.
          let known = c.fill.ensures.whole ∙ inv.whole ∙ is in
          let front = holds-of (g.S.Source.whole c.fill.new.source) _ all known (g.met.S.Source.begins c.fill.new.source) in
          refused-in (g.T.Intake.judge (g.T.Intake.subject c.args.intake.now)) e (given_since (g.S.Source.given c.args.source.now) all) (refused-all (g.T.Intake.judge (g.T.Intake.subject c.args.intake.now)) e p q c.loop.before.now _ _ all inv.lead hands c.fill.ensures.over c.fill.ensures.handed told refused front
          (λ o. holds-of (g.S.Source.whole c.fill.new.source) _ all known (g.met.S.Source.settled c.fill.new.source (over-settled _ _ _ q _ c.fill.ensures.follows o)))));
    })

pub loop-preserved : goal.loop-preserved
loop-preserved g c =
    let inv = c.loop.invariant in
    let p = c.loop.pieces in
    let q = c.fill.new.self in
    let hands = let P : Bool → Type 0 = λ b. IsPiece b q in subst P c.in-Ok-true.field-0-test c.in-Ok-true.ensures.hands in
    let taken = rw c.piece.ensures at (c.in_ok-take_text.ensures.taken (records_of (handed p)) inv.held) in
    record {
      follows = c.fill.ensures.follows;
      whole = c.fill.ensures.whole ∙ inv.whole;
      begun = c.fill.ensures.begun ∙ inv.begun;
      same = c.take_text.ensures.subject ∙ inv.same;
      held = subst (g.T.Intake.stands c.take_text.new.intake)
          (sym (ap records_of c.fill.ensures.handed ∙ records-lead c.loop.before.now (handed p) (piece_of q) _ inv.lead (never-over _ (piece_of q) hands.0 c.fill.ensures.over))) taken;
      lead = inr (refl, piece-behind p q c.fill.ensures.handed hands);
    }

pub returns-in-Ok-false-clause-grows : goal.returns-in-Ok-false-clause-grows
returns-in-Ok-false-clause-grows g c = grows-of g.S.Source.given g.S.Source.failures g.S.Source.ends c.fill.new.self c.fill.new.source c.args.source.now c.fill.ensures.follows (c.fill.ensures.begun ∙ c.loop.invariant.begun)

pub returns-in-Ok-false-clause-broken : goal.returns-in-Ok-false-clause-broken
returns-in-Ok-false-clause-broken g c =
    let broke = broken-since g.S.Source.given g.S.Source.failures g.S.Source.ends c.fill.new.self c.fill.new.source c.args.source.now c.fill.ensures.follows (c.fill.ensures.begun ∙ c.loop.invariant.begun) in
    grind (arith, broke)

pub returns-in-Ok-false-2-clause-grows : goal.returns-in-Ok-false-2-clause-grows
returns-in-Ok-false-2-clause-grows g c = grows-of g.S.Source.given g.S.Source.failures g.S.Source.ends c.fill.new.self c.fill.new.source c.args.source.now c.fill.ensures.follows (c.fill.ensures.begun ∙ c.loop.invariant.begun)

pub returns-in-Ok-false-2-clause-taken : goal.returns-in-Ok-false-2-clause-taken
returns-in-Ok-false-2-clause-taken g c =
    let sound = sym c.has_failed.ensures ∙ c.if-has_failed.false in
    let hands = let P : Bool → Type 0 = λ b. IsPiece b c.fill.new.self in subst P c.in-Ok-false.field-0-test c.in-Ok-false.ensures.hands in
    subst (λ bytes. g.T.Intake.stands c.loop.intake (records_of bytes)) (all-handed g.S.Source.given g.S.Source.failures g.S.Source.ends c.loop.pieces c.fill.new.self c.fill.new.source c.args.source.now c.fill.ensures.follows (c.fill.ensures.begun ∙ c.loop.invariant.begun) c.fill.ensures.handed sound hands) c.loop.invariant.held

pub returns-in-Ok-false-2-clause-ended : goal.returns-in-Ok-false-2-clause-ended
returns-in-Ok-false-2-clause-ended g c =
    let sound = sym c.has_failed.ensures ∙ c.if-has_failed.false in
    let hands = let P : Bool → Type 0 = λ b. IsPiece b c.fill.new.self in subst P c.in-Ok-false.field-0-test c.in-Ok-false.ensures.hands in
    ended-since g.S.Source.given g.S.Source.failures g.S.Source.ends c.fill.new.self c.fill.new.source c.args.source.now c.fill.ensures.follows (c.fill.ensures.begun ∙ c.loop.invariant.begun) sound hands

pub returns-in-Err-clause-grows : goal.returns-in-Err-clause-grows
returns-in-Err-clause-grows g c = grows-of g.S.Source.given g.S.Source.failures g.S.Source.ends c.fill.new.self c.fill.new.source c.args.source.now c.fill.ensures.follows (c.fill.ensures.begun ∙ c.loop.invariant.begun)

pub returns-in-Err-clause-stops : goal.returns-in-Err-clause-stops
returns-in-Err-clause-stops g c = memory-stops g.S.Source.given g.S.Source.whole (g.T.Intake.judge (g.T.Intake.subject c.args.intake.now)) c.args.source.now c.fill.new.source

pub returns-in_err-take_text-clause-grows : goal.returns-in_err-take_text-clause-grows
returns-in_err-take_text-clause-grows g c = grows-of g.S.Source.given g.S.Source.failures g.S.Source.ends c.fill.new.self c.fill.new.source c.args.source.now c.fill.ensures.follows (c.fill.ensures.begun ∙ c.loop.invariant.begun)

pub returns-in_err-take_text-clause-taken : goal.returns-in_err-take_text-clause-taken
returns-in_err-take_text-clause-taken g c =
    let out = err_from_is_err_and c.from_residual.result c.from_residual.ensures.1 in
    rw out.1 tt

pub returns-in_err-take_text-clause-ended : goal.returns-in_err-take_text-clause-ended
returns-in_err-take_text-clause-ended g c =
    let out = err_from_is_err_and c.from_residual.result c.from_residual.ensures.1 in
    rw out.1 tt

pub returns-in_err-take_text-clause-broken : goal.returns-in_err-take_text-clause-broken
returns-in_err-take_text-clause-broken g c =
    let out = err_from_is_err_and c.from_residual.result c.from_residual.ensures.1 in
    rw (out.1, out.2) (refused-unread (g.T.Intake.judge (g.T.Intake.subject c.loop.intake)) (records_of (handed c.loop.pieces) ++ (records_of (c.loop.before.now ++ c.piece.result.now) ++ [])) c.in_err-take_text.field-0.0 (λ n. g.S.Source.failures c.args.source.now < g.S.Source.failures c.fill.new.source) (c.in_err-take_text.ensures.refused (records_of (handed c.loop.pieces)) [] c.loop.invariant.held))

pub returns-clause-grows : goal.returns-clause-grows
returns-clause-grows g c = grows-of g.S.Source.given g.S.Source.failures g.S.Source.ends c.loop.pieces c.loop.source c.args.source.now c.loop.invariant.follows c.loop.invariant.begun

pub returns-clause-stops : goal.returns-clause-stops
returns-clause-stops g c = memory-stops g.S.Source.given g.S.Source.whole (g.T.Intake.judge (g.T.Intake.subject c.args.intake.now)) c.args.source.now c.loop.source
