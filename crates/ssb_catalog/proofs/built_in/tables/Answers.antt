use Rattle.std.proofs.Common.{refl}
use Rattle.ssb_catalog.specs.Listing.{column_of}
use Rattle.ssb_catalog.proofs.built_in.tables.Goals as goal

pub returns : goal.returns
unfolding column_of
returns c =
    rw (
      c.in_ok-push-5.ensures.items,
      c.in_ok-push-4.ensures.items,
      c.in_ok-push-3.ensures.items,
      c.in_ok-push-2.ensures.items,
      c.in_ok-push.ensures.items,
      c.new-tables.ensures.items,
      c.in_ok-table.ensures,
      c.in_ok-table-2.ensures,
      c.in_ok-table-3.ensures,
      c.in_ok-table-4.ensures,
      c.in_ok-table-5.ensures,
    )
    refl
