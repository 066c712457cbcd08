use Rattle.std.proofs.Common.{◌≡◌, ◌∙◌, sym, false, rules, arith}
use Rattle.std.proofs.lemmas.Bool.{false≢true}
use Rattle.csv.specs.Records.{fields_of}
use Rattle.ssb_load.specs.Rules.{any_from, key_of}
use Rattle.ssb_load.specs.Loader.{fails_some, seen_in}
use Rattle.ssb_load.proofs.FaultFacts.{passes, no-fault, some-passes, all-pass}
use Rattle.std.proofs.lemmas.Grind.{common_steps}
use Rattle.ssb_load.proofs.loader.Loader.accept.Goals as goal

pub refuse-requires-in-Ok-false-clause-faulty : goal.refuse-requires-in-Ok-false-clause-faulty
refuse-requires-in-Ok-false-clause-faulty c none =
    let p = passes _ _ _ _ _ none in
    let ok = some-passes _ _ _ _ _ p in
    let fails = rw c.in-Ok-false.field-0-test at c.in-Ok-false.ensures.fails in
    false≢true (sym ok ∙ fails)

pub returns-in-Ok-true-add_key-clause-taken : goal.returns-in-Ok-true-add_key-clause-taken
returns-in-Ok-true-add_key-clause-taken c =
    let none : any_from fails_some 0 c.args.rules.now (fields_of c.args.row.now) ≡ false = rw c.in-Ok-true.field-0-test at c.in-Ok-true.ensures.fails in
    let a = all-pass c.args.rules.now (fields_of c.args.row.now) none in
    let key : c.number_in_field.result ≡ key_of c.args.rules.now (fields_of c.args.row.now) = rw c.requires.key at c.number_in_field.ensures in
    let new = rw (key, c.in-Ok-true-add_key.field-0-test) at c.in-Ok-true-add_key.ensures.fresh in
    no-fault c.args.rules.now c.args.max_rows c.args.accepted (seen_in c.args.self.now.seen.keys) (fields_of c.args.row.now) (record {
      width = search rules;
      text = search rules;
      numbers = a.0;
      values = a.1;
      fresh = new;
      room = search rules;
      lengths = a.2;
    })

pub returns-in-Ok-true-add_key-clause-seen : goal.returns-in-Ok-true-add_key-clause-seen
returns-in-Ok-true-add_key-clause-seen c = grind (arith, common_steps)

pub returns-in-Ok-true-add_key-clause-columns : goal.returns-in-Ok-true-add_key-clause-columns
returns-in-Ok-true-add_key-clause-columns c = grind (arith, common_steps)

pub returns-in-Ok-false-add_key-clause-refused : goal.returns-in-Ok-false-add_key-clause-refused
returns-in-Ok-false-add_key-clause-refused c = grind (arith, common_steps)
