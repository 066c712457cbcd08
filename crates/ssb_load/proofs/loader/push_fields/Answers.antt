use Rattle.std.proofs.Common.{◌≡◌, ◌∙◌, length, true, ap, arith}
use Rattle.std.specs.Prelude.{not}
use Rattle.csv.specs.Records.{fields_of}
use Rattle.ssb_load.proofs.RuleFacts.{sized-len, front-len, front-more, any-step, column-size}
use Rattle.ssb_load.specs.Loader.{fails_some}
use Rattle.ssb_terms.specs.declared.rule.ColType.TheVariants as kinds
use Rattle.ssb_terms.specs.declared.rule.Role.TheVariants as roles
use Rattle.ssb_load.proofs.loader.push_fields.Goals as goal

pub index_mut-column-requires : goal.index_mut-column-requires
index_mut-column-requires c =
    let old = c.args.columns.now.items in
    let same = sized-len _ _ _ c.requires.sized in
    let now = ap length c.loop-k.invariant.0 ∙ front-len c.loop-k.k 0 c.args.rules.now old (fields_of c.args.row.now) same in
    let own = c.loop-k.columns.ok.0 in
    let lt = c.loop-k-test.true in
    omega (arith, same, now, own, lt)

pub push_field-requires-clause-kind : goal.push_field-requires-clause-kind
push_field-requires-clause-kind c =
    (column-size c.args.count c.loop-k.k c.args.rules.now c.args.columns.now.items c.loop-k.columns.items (fields_of c.args.row.now) (record { kind = kinds.Int; role = roles.Key }) c.index_mut-column.result.now c.requires.sized
    c.loop-k-test.true c.loop-k.invariant.0 c.index_mut-column.ensures.value).0

pub push_field-requires-clause-room : goal.push_field-requires-clause-room
push_field-requires-clause-room c =
    let n = (column-size c.args.count c.loop-k.k c.args.rules.now c.args.columns.now.items c.loop-k.columns.items (fields_of c.args.row.now) (record { kind = kinds.Int; role = roles.Key }) c.index_mut-column.result.now c.requires.sized
    c.loop-k-test.true c.loop-k.invariant.0 c.index_mut-column.ensures.value).1 in
    rw n c.requires.room

pub loop-k-preserved : goal.loop-k-preserved
loop-k-preserved c =
    let same = sized-len _ _ _ c.requires.sized in
    let passed : c.in_ok-push_field.field-0 ≡ true = c.if-not-branch.false in
    let pushed = rw c.field_text.ensures at (c.in_ok-push_field.ensures.pushed passed) in
    let none = rw c.field_text.ensures at (c.in_ok-push_field.ensures.fails ∙ ap not passed) in (
      front-more c.loop-k.k c.args.rules.now c.args.columns.now.items c.loop-k.columns.items (fields_of c.args.row.now) _ c.index_mut-column.result.now c.push_field.new.column c.loop-k-test.true same c.loop-k.invariant.0
          c.index_mut-column.ensures.value pushed,
      any-step fails_some c.loop-k.k c.args.rules.now _ (fields_of c.args.row.now) _ c.loop-k-test.true none c.loop-k.invariant.1,
    )
