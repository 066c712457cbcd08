use Rattle.std.proofs.Common.{◌∙◌, refl, ap, arith}
use Rattle.ssb_terms.specs.Roles.{key_place}
use Rattle.ssb_load.proofs.FaultFacts.{fault-none}
use Rattle.ssb_load.proofs.HoldsFacts.{holds-none}
use Rattle.ssb_load.proofs.table_intake.TableIntake.new.Goals as goal

pub returns-clause-stands : goal.returns-clause-stands
returns-clause-stands c = record {
  count = refl;
  room = omega arith;
  few = omega arith;
  clean = fault-none c.args.rules.items c.args.max_rows;
  holds = holds-none c.args.rules.items _ _ c.in_ok-loader.ensures.seen (rw c.deref.ensures.value at c.in_ok-loader.ensures.columns);
  key = c.key_place-key.ensures ∙ ap key_place c.deref-2.ensures.value;
}
