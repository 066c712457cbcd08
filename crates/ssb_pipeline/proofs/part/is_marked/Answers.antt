use Rattle.std.proofs.Common.{◌≡◌, ◌-◌, Some, length, refl, sym, arith}
use Rattle.std.specs.Prelude.{slice_get}
use Rattle.std.proofs.lemmas.Bool.{ltb-true}
use Rattle.std.proofs.lemmas.Option.{slice_get_past, slice_get_read}
use Rattle.ssb_pipeline.proofs.MarkFacts.{mark-before, mark-is, mark-none}
use Rattle.ssb_pipeline.proofs.part.is_marked.Goals as goal

pub returns-then-morsel-first : goal.returns-then-morsel-first
returns-then-morsel-first c = mark-before c.args.first c.args.marks.now c.args.morsel c.if-morsel-first.true

pub returns-in-Some : goal.returns-in-Some
returns-in-Some c =
    let from = c.if-morsel-first.false in
    let xs = c.args.marks.now in
    let at = c.args.morsel - c.args.first in
    let q = c.in-Some.ensures.lookup in
    let found : slice_get xs at ≡ Some c.in-Some.mark.now = slice_get_read xs (length xs) at c.in-Some.mark.now refl (ltb-true at (length xs) (sym q.0)) q.1 in
    mark-is c.args.first xs at c.args.morsel c.in-Some.mark.now (omega (arith, from)) found

pub returns-in-None : goal.returns-in-None
returns-in-None c =
    let from = c.if-morsel-first.false in
    let at = c.args.morsel - c.args.first in
    mark-none c.args.first c.args.marks.now at c.args.morsel (omega (arith, from)) (slice_get_past c.args.marks.now at c.in-None.ensures.lookup.3)
