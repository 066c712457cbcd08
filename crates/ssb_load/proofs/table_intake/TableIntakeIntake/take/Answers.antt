use Rattle.std.proofs.Common.{◌∷◌, [], ◌∙◌, sym, arith, length-append}
use Rattle.std.proofs.lemmas.Result.{err_from_is_err_and}
use Rattle.csv.specs.Records.{fields_of}
use Rattle.ssb_load.proofs.FaultFacts.{fault-more}
use Rattle.ssb_load.proofs.HoldsFacts.{holds-more, holds-sized, same-fault}
use Rattle.ssb_load.proofs.TableTaking.{refuses-here}
use Rattle.ssb_load.proofs.table_intake.TableIntakeIntake.take.Goals as goal

pub accept-requires-clause-sized : goal.accept-requires-clause-sized
accept-requires-clause-sized c =
    let h = c.requires.1 in
    rw c.deref.ensures.value (holds-sized c.args.self.now.rules.items c.requires.0 _ _ c.args.self.now.accepted h.holds h.count)

pub returns-clause-taken : goal.returns-clause-taken
returns-clause-taken c good h =
    let t = c.args.self.now in
    let f = fields_of c.args.row.now in
    let e = c.in_ok-accept.ensures in
    let rules = c.deref.ensures.value in
    let none = sym (same-fault t.rules.items t.max_rows good t.loader.seen.keys t.loader.columns.items f h.holds) ∙ (rw (h.count, ← rules) e.taken) in
    let n = length-append good (f ∷ []) in
    let m = h.count in
    let lt = e.room in
    record {
      count = omega (arith, n, m);
      room = omega (arith, lt);
      few = omega arith;
      clean = fault-more t.rules.items t.max_rows good f h.clean none;
      holds = holds-more t.rules.items good f t.loader.seen.keys _ t.loader.columns.items _ h.holds (rw rules at e.seen) (rw rules at e.columns);
      key = h.key;
    }

pub returns-in_err-accept-clause-refused : goal.returns-in_err-accept-clause-refused
returns-in_err-accept-clause-refused c =
    let q = err_from_is_err_and c.from_residual.result c.from_residual.ensures.1 in
    rw (q.1, q.2) (λ good rest h. refuses-here c.args.self.now good rest (fields_of c.args.row.now) c.in_err-accept.field-0.0 h (rw c.deref.ensures.value at c.in_err-accept.ensures.refused))
