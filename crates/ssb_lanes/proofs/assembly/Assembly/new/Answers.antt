use Rattle.std.proofs.Common.{◌∙◌, ap, arith, refl}
use Rattle.ssb_terms.specs.Roles.{key_place}
use Rattle.ssb_lanes.proofs.AssemblyFacts.{assembled-none}
use Rattle.ssb_load.proofs.TableTaking.{limit-is, rules-are}
use Rattle.ssb_lanes.proofs.assembly.Assembly.new.Goals as goal

pub returns-clause-none : goal.returns-clause-none
returns-clause-none c =
    let t = c.in_ok-under.field-0 in
    let rules = rules-are t c.args.rules.now c.args.max_rows c.in_ok-under.ensures.subject in
    let limit = limit-is t c.args.rules.now c.args.max_rows c.in_ok-under.ensures.subject in
    let fits = c.ranges.max_rows.fits in
    assembled-none _ (ap key_place rules ∙ c.requires) c.new.ensures.items refl c.in_ok-under.ensures.stands c.new-2.ensures.items refl (omega (arith, fits, limit))
