use Rattle.ssb_catalog.specs.Listing.{column_of}
use Rattle.ssb_catalog.proofs.ListFacts.{all-here, all-rest, made-more}
use Rattle.ssb_catalog.proofs.built_in.columns.Goals as goal

pub column-requires : goal.column-requires
column-requires c = all-here _ c.args.lines.now c.loop-line.line-index _ c.loop-line-test.true c.loop-line.invariant.named

pub loop-line-preserved : goal.loop-line-preserved
loop-line-preserved c =
    record {
      named = all-rest _ c.args.lines.now c.loop-line.line-index c.loop-line.invariant.named;
      rest = rw c.in_ok-push.ensures.items (made-more column_of c.args.lines.now c.loop-line.line-index _ c.loop-line.columns.items c.in_ok-column.field-0 c.loop-line-test.true c.in_ok-column.ensures c.loop-line.invariant.rest);
    }
