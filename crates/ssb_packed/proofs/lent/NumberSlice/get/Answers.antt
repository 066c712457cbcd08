use Rattle.std.proofs.Common.{◌≡◌, get_or, of_z, pos, rules, to_z, w64}
use Rattle.std.proofs.lemmas.Option.{slice_get-get_or}
use Rattle.ssb_packed.proofs.lent.NumberSlice.get.Goals as goal

pub returns-in-One : goal.returns-in-One
returns-in-One c =
    let kept = c.in-One.numbers.now in
    let same : to_z w64 (of_z w64 c.from.result) ≡ get_or kept c.args.row (pos 0) = search rules in
    rw (c.in-One.is, same) (slice_get-get_or kept c.args.row (pos 0) (rw c.in-One.is at c.requires))

pub returns-in-Two : goal.returns-in-Two
returns-in-Two c =
    let kept = c.in-Two.numbers.now in
    let same : to_z w64 (of_z w64 c.from-in-Two.result) ≡ get_or kept c.args.row (pos 0) = search rules in
    rw (c.in-Two.is, same) (slice_get-get_or kept c.args.row (pos 0) (rw c.in-Two.is at c.requires))

pub returns-in-Four : goal.returns-in-Four
returns-in-Four c =
    let kept = c.in-Four.numbers.now in
    let same : to_z w64 (of_z w64 c.from-in-Four.result) ≡ get_or kept c.args.row (pos 0) = search rules in
    rw (c.in-Four.is, same) (slice_get-get_or kept c.args.row (pos 0) (rw c.in-Four.is at c.requires))

pub returns-in-Eight : goal.returns-in-Eight
returns-in-Eight c =
    let kept = c.in-Eight.numbers.now in
    let same : to_z w64 (of_z w64 (get_or c.in-Eight.numbers.now c.args.row (pos 0))) ≡ get_or kept c.args.row (pos 0) = search rules in
    rw (c.in-Eight.is, same) (slice_get-get_or kept c.args.row (pos 0) (rw c.in-Eight.is at c.requires))
