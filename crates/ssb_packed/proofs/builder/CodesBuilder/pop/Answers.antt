use Rattle.ssb_packed.specs.Lent.{kept_code}
use Rattle.ssb_packed.proofs.Loops.{map-fewer}
use Rattle.ssb_packed.proofs.builder.CodesBuilder.pop.Goals as goal

pub returns : goal.returns
returns c = map-fewer kept_code c.self.inside.numbers c.pop.new.self c.args.self.now c.pop.ensures c.self.view_is
