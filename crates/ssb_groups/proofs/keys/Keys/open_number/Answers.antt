use Rattle.ssb_keys.specs.KeySets.{numbers_in}
use Rattle.ssb_groups.proofs.GroupKeysFacts.{number-opens}
use Rattle.ssb_groups.proofs.keys.Keys.open_number.Goals as goal

pub returns-clause-opened : goal.returns-clause-opened
returns-clause-opened c = λ j are is. (number-opens j (numbers_in c.args.self.now.numbers) (numbers_in c.open.new.self) c.args.self.now.cells.keys c.args.number c.in_ok-place.place are is c.in_ok-place.ensures.opened).0

pub returns-clause-keys : goal.returns-clause-keys
returns-clause-keys c = λ j are is. (number-opens j (numbers_in c.args.self.now.numbers) (numbers_in c.open.new.self) c.args.self.now.cells.keys c.args.number c.in_ok-place.place are is c.in_ok-place.ensures.opened).1
