use Rattle.std.proofs.Common.{◌∙◌, ◌+◌, ◌*◌, ◌++◌, ap, arith, get_or, sym}
use Rattle.ssb_sets.specs.Marks.{rows_of}
use Rattle.ssb_sets.proofs.MarkRows.{place-marked, rows-more}
use Rattle.ssb_sets.proofs.marks.marked_rows.Goals as goal

pub word_rows-left-requires-clause-fits : goal.word_rows-left-requires-clause-fits
word_rows-left-requires-clause-fits c = λ i lt said.
    let more = c.loop-at-test.true in
    let fits = c.requires.fits (64 * c.loop-at.at + i) (omega (arith, more, lt)) (place-marked c.args.words.now c.loop-at.at i lt ∙ said) in
    omega (arith, fits)

pub loop-at-preserved : goal.loop-at-preserved
loop-at-preserved c =
    let one = c.word_rows-left.ensures.count in
    let before = c.loop-at.invariant.count in
    record {
      count = omega (arith, one, before);
      rows =
          c.word_rows-left.ensures.rows
          ∙ ap (λ xs. xs ++ rows_of (get_or c.args.words.now c.loop-at.at 0) (c.args.from + 64 * c.loop-at.at)) c.loop-at.invariant.rows
          ∙ sym (rows-more c.args.words.now c.args.from c.loop-at.at);
    }
