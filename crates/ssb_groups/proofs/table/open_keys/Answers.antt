use Rattle.std.proofs.Common.{◌∷◌, ◌++◌, ◌+◌, [], map, sym, subst, take}
use Rattle.ssb_groups.specs.GroupKeys.{keys_in, lent}
use Rattle.ssb_groups.specs.Keys.{IsKey, cells_in}
use Rattle.ssb_groups.specs.Places.{OpenAll}
use Rattle.ssb_groups.proofs.PlaceFacts.{key-at}
use Rattle.ssb_groups.proofs.PlacedRows.{open-next}
use Rattle.ssb_groups.proofs.table.open_keys.Goals as goal
use Rattle.ssb_groups.proofs.table.open_keys.Goals.{In_ok-place}

-- the next key is one of the job's, and has its place
opened : (c : In_ok-place) → IsKey c.args.columns.now (lent c.in-Some.key) × OpenAll c.args.columns.now (keys_in c.args.keys.now) (keys_in c.open.new.keys) (map (cells_in c.args.columns.now) (take (c.loop-at.at + 1) (keys_in c.args.others.now))) (c.loop-at.room.places.items ++ c.in_ok-place.place ∷ [])
opened c =
    let j = c.args.columns.now in
    let l = c.loop-at in
    let key = lent c.in-Some.key in
    let is = key-at j (keys_in c.args.others.now) l.at key c.requires.others (sym c.in-Some.ensures) in
    (is, open-next j (cells_in j) (keys_in c.args.keys.now) (keys_in l.keys) (keys_in c.open.new.keys) (keys_in c.args.others.now) l.room.places.items l.at c.in_ok-place.place key (sym c.in-Some.ensures) l.invariant.opened (c.in_ok-place.ensures.opened j l.invariant.keys is))

pub returns-in_err-push-clause-keys : goal.returns-in_err-push-clause-keys
returns-in_err-push-clause-keys c = c.in_ok-place.ensures.keys c.args.columns.now c.loop-at.invariant.keys (opened (goal.at.returns-in_err-push-clause-keys c).In_ok-place).0

pub returns-in_err-push-clause-front : goal.returns-in_err-push-clause-front
returns-in_err-push-clause-front c = (opened (goal.at.returns-in_err-push-clause-front c).In_ok-place).1.front

pub loop-at-preserved : goal.loop-at-preserved
loop-at-preserved c =
    let j = c.args.columns.now in
    let all = opened (goal.at.loop-at-preserved c).In_ok-place in
    record {
      unique = c.in_ok-place.ensures.unique;
      keys = c.in_ok-place.ensures.keys j c.loop-at.invariant.keys all.0;
      opened = subst (OpenAll j (keys_in c.args.keys.now) (keys_in c.open.new.keys) (map (cells_in j) (take (c.loop-at.at + 1) (keys_in c.args.others.now)))) (sym c.in_ok-push.ensures.items) all.1;
    }
