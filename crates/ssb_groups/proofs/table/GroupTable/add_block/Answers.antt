use Rattle.std.proofs.Common.{◌≡◌, ◌∙◌, length, take, ap, subst, sym}
use Rattle.ssb_groups.specs.GroupKeys.{keys_in}
use Rattle.ssb_groups.specs.Places.{AreGrown, IsTable}
use Rattle.ssb_groups.specs.Tallies.{lists}
use Rattle.ssb_groups.proofs.PlaceFacts.{front-taken, on-err}
use Rattle.ssb_groups.proofs.TallyFacts.{grown-same}
use Rattle.ssb_groups.proofs.table.GroupTable.add_block.Goals as goal

pub returns-then-is_err-clause-table : goal.returns-then-is_err-clause-table
returns-then-is_err-clause-table c =
    let j = c.args.columns.now in
    let ks = keys_in c.args.self.now.keys in
    let front = c.try_block-added.ensures.front in
    let same : keys_in c.truncate.new.self ≡ ks = c.truncate.ensures.keys ∙ ap (λ n. take n (keys_in c.try_block-added.new.self.keys)) c.len-was.ensures ∙ front-taken ks front.0 (keys_in c.try_block-added.new.self.keys) front.1 in
    let grown = on-err c.try_block-added.result (AreGrown (lists c.args.self.now.tallies.items) (lists c.try_block-added.new.self.tallies.items)) (sym c.is_err.ensures.value ∙ c.if-is_err.true) c.try_block-added.ensures.grown in
    subst (λ xs. IsTable j xs (lists c.try_block-added.new.self.tallies.items)) (sym same) (record { keys = c.requires.table.keys; are = grown-same j (length ks) (lists c.args.self.now.tallies.items) (lists c.try_block-added.new.self.tallies.items) c.requires.table.are grown })
