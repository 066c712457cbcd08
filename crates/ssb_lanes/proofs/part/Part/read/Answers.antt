use Rattle.std.proofs.Common.{◌∙◌, Bool, subst, sym}
use Rattle.std.proofs.lemmas.Result.{err_from_is_err_and}
use Rattle.ssb_lanes.specs.Part.{IsPart}
use Rattle.ssb_records.specs.Pieces.{IsPiece, IsOver, handed, piece_of}
use Rattle.ssb_records.proofs.TakingAll.{told-of}
use Rattle.ssb_lanes.proofs.PartReading.{all-taken, broken-off, ends-since, fails-since, grows-since, halts-given, no-tail, read-never, tail-next}
use Rattle.ssb_lanes.proofs.part.Part.read.Goals as goal

pub returns-in_err-take_piece-clause-halts : goal.returns-in_err-take_piece-clause-halts
returns-in_err-take_piece-clause-halts g c =
    let inv = c.loop.invariant in
    let q = c.fill.new.self in
    let told = told-of g.S.Source.given g.S.Source.failures g.S.Source.ends q c.fill.new.source c.args.source.now c.fill.ensures.follows (c.fill.ensures.begun ∙ inv.begun) in
    let out = err_from_is_err_and c.from_residual.result c.from_residual.ensures.1 in
    rw (out.1, out.2) (halts-given _ c.loop.pieces q _ _ _ c.fill.ensures.handed told (rw c.piece.ensures at (c.in_err-take_piece.ensures.refused (handed c.loop.pieces) inv.part)))

pub returns-in_err-take_piece-clause-broken : goal.returns-in_err-take_piece-clause-broken
returns-in_err-take_piece-clause-broken g c =
    let out = err_from_is_err_and c.from_residual.result c.from_residual.ensures.1 in
    rw (out.1, out.2) (read-never _ _ c.in_err-take_piece.field-0.0 _ (c.in_err-take_piece.ensures.refused (handed c.loop.pieces) c.loop.invariant.part))

pub loop-preserved : goal.loop-preserved
loop-preserved g c =
    let inv = c.loop.invariant in
    let q = c.fill.new.self in
    let hands = let P : Bool → Type 0 = λ b. IsPiece b q in subst P c.in-Ok-true.field-0-test c.in-Ok-true.ensures.hands in
    record {
      follows = c.fill.ensures.follows;
      whole = c.fill.ensures.whole ∙ inv.whole;
      begun = c.fill.ensures.begun ∙ inv.begun;
      same = c.take_piece.ensures.subject ∙ inv.same;
      part = subst (IsPart c.take_piece.new.self) (sym c.fill.ensures.handed) (rw c.piece.ensures at (c.in_ok-take_piece.ensures.taken (handed c.loop.pieces) inv.part));
      tail = tail-next c.take_piece.new.self q hands (rw c.piece.ensures at c.in_ok-take_piece.ensures.lines);
    }

pub returns-in-Ok-false-clause-halts : goal.returns-in-Ok-false-clause-halts
returns-in-Ok-false-clause-halts g c =
    let q = c.fill.new.self in
    broken-off c.loop.self c.loop.pieces q _ _
    (sym c.has_failed.ensures ∙ c.if-has_failed.true)
    (let P : Bool → Type 0 = λ b. IsPiece b q in subst P c.in-Ok-false.field-0-test c.in-Ok-false.ensures.hands)
    c.fill.ensures.handed
    (told-of g.S.Source.given g.S.Source.failures g.S.Source.ends q c.fill.new.source c.args.source.now c.fill.ensures.follows (c.fill.ensures.begun ∙ c.loop.invariant.begun))
    c.fill.ensures.stays c.loop.invariant.tail c.loop.invariant.part

pub returns-in-Ok-false-2-clause-taken : goal.returns-in-Ok-false-2-clause-taken
returns-in-Ok-false-2-clause-taken g c =
    let q = c.fill.new.self in
    let going = sym c.has_failed.ensures ∙ c.if-has_failed.false in
    let hands = let P : Bool → Type 0 = λ b. IsPiece b q in subst P c.in-Ok-false.field-0-test c.in-Ok-false.ensures.hands in
    let told = told-of g.S.Source.given g.S.Source.failures g.S.Source.ends q c.fill.new.source c.args.source.now c.fill.ensures.follows (c.fill.ensures.begun ∙ c.loop.invariant.begun) in
    all-taken c.loop.self c.loop.pieces q _ _ going hands c.fill.ensures.handed told c.loop.invariant.part

pub returns-in_err-take_piece-clause-grows : goal.returns-in_err-take_piece-clause-grows
returns-in_err-take_piece-clause-grows g c = grows-since g.S.Source.given g.S.Source.failures g.S.Source.ends c.fill.new.self c.fill.new.source c.args.source.now c.fill.ensures.follows (c.fill.ensures.begun ∙ c.loop.invariant.begun)

pub returns-in-Ok-false-clause-grows : goal.returns-in-Ok-false-clause-grows
returns-in-Ok-false-clause-grows g c = grows-since g.S.Source.given g.S.Source.failures g.S.Source.ends c.fill.new.self c.fill.new.source c.args.source.now c.fill.ensures.follows (c.fill.ensures.begun ∙ c.loop.invariant.begun)

pub returns-in-Ok-false-2-clause-grows : goal.returns-in-Ok-false-2-clause-grows
returns-in-Ok-false-2-clause-grows g c = grows-since g.S.Source.given g.S.Source.failures g.S.Source.ends c.fill.new.self c.fill.new.source c.args.source.now c.fill.ensures.follows (c.fill.ensures.begun ∙ c.loop.invariant.begun)

pub returns-in-Err-clause-grows : goal.returns-in-Err-clause-grows
returns-in-Err-clause-grows g c = grows-since g.S.Source.given g.S.Source.failures g.S.Source.ends c.fill.new.self c.fill.new.source c.args.source.now c.fill.ensures.follows (c.fill.ensures.begun ∙ c.loop.invariant.begun)

pub returns-clause-grows : goal.returns-clause-grows
returns-clause-grows g c = grows-since g.S.Source.given g.S.Source.failures g.S.Source.ends c.loop.pieces c.loop.source c.args.source.now c.loop.invariant.follows c.loop.invariant.begun

pub returns-in-Ok-false-2-clause-ended : goal.returns-in-Ok-false-2-clause-ended
returns-in-Ok-false-2-clause-ended g c =
    let q = c.fill.new.self in
    let going = sym c.has_failed.ensures ∙ c.if-has_failed.false in
    let hands = let P : Bool → Type 0 = λ b. IsPiece b q in subst P c.in-Ok-false.field-0-test c.in-Ok-false.ensures.hands in
    ends-since g.S.Source.given g.S.Source.failures g.S.Source.ends q c.fill.new.source c.args.source.now c.fill.ensures.follows (c.fill.ensures.begun ∙ c.loop.invariant.begun) going hands

pub returns-in-Ok-false-clause-broken : goal.returns-in-Ok-false-clause-broken
returns-in-Ok-false-clause-broken g c =
    fails-since g.S.Source.given g.S.Source.failures g.S.Source.ends c.fill.new.self c.fill.new.source c.args.source.now c.fill.ensures.follows (c.fill.ensures.begun ∙ c.loop.invariant.begun) (sym c.has_failed.ensures ∙ c.if-has_failed.true)

pub take_piece-requires : goal.take_piece-requires
take_piece-requires g c =
    let q = c.fill.new.self in
    let hands = let P : Bool → Type 0 = λ b. IsPiece b q in subst P c.in-Ok-true.field-0-test c.in-Ok-true.ensures.hands in
    (handed c.loop.pieces, no-tail c.loop.self (IsOver c.loop.pieces) (piece_of q) hands.0 c.fill.ensures.over c.loop.invariant.tail, c.loop.invariant.part)
