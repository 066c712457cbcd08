use Rattle.ssb_terms.proofs.LowerFacts.{lower-name}
use Rattle.ssb_terms.proofs.NameFacts.{name-text}
use Rattle.ssb_terms.proofs.name.Name.new.Goals as goal

pub unreachable-requires : goal.unreachable-requires
unreachable-requires c = c.in_default.ensures.cases.0 (name-text c.args.text.now c.requires)

pub invariant_of-result : goal.invariant_of-result
invariant_of-result c =
    rw (c.new.ensures, c.make_ascii_lowercase.ensures.bytes, c.in_ok-letters.ensures.ok, c.in-Ok.ensures.cases.0) (lower-name c.args.text.now c.requires)
