-- Every source was read to its end, or those before one that stops.
use Rattle.std.proofs.Common.{◌∙◌, ◌<◌, length, map, ap, arith, subst, sym}
use Rattle.std.proofs.lemmas.List.{length-map}
use Rattle.std.proofs.lemmas.List.Elements.{All-take}
use Rattle.ssb_lanes.specs.Assembly.{IsAssembled, subject_in}
use Rattle.ssb_lanes.specs.Joined.{all_bytes, sources_in}
use Rattle.ssb_lanes.specs.JoinedLaws.{joined_begins}
use Rattle.ssb_lanes.proofs.JoinedFacts.{given-all, joined-over, none-given}
use Rattle.ssb_lanes.proofs.TogetherFacts.{grows-none, one-more, since-none, stops-of}
use Rattle.ssb_lanes.proofs.joined.Joined.read_together.Goals as goal

pub read_together-requires-clause-unread : goal.read_together-requires-clause-unread
read_together-requires-clause-unread g c lifetimes bounds = (c.args.self.now.joined.untouched c.requires.unread).unread

pub invariant_of-self : goal.invariant_of-self
invariant_of-self g c =
    let sources = sources_in c.read_together.new.lanes.items in
    let len = c.len-self.ensures in
    let own = c.read_together.new.lanes.ok.0 in
    let before = c.args.self.now.joined.untouched c.requires.unread in
    record { joined = rw (before.going, before.no_failure) (joined-over g.S.Source c.read_together.new.lanes.items c.len-self.result (length c.and-self.result.items) (All-take (λ x. 0 < g.S.Source.ends x) c.len-self.result sources c.in-Ok.ensures.taken.met) c.read_together.ensures.forth (omega (arith, len, own))) }

pub returns-in-Ok-clause-grows : goal.returns-in-Ok-clause-grows
returns-in-Ok-clause-grows g c =
    grows-none _ _ (none-given g.S.Source c.args.self.now c.requires.unread)

pub returns-in-Ok-clause-taken : goal.returns-in-Ok-clause-taken
returns-in-Ok-clause-taken g c =
    let len = c.len-self.ensures in
    let own = c.read_together.new.lanes.ok.0 in
    let n = length-map c.read_together.new.lanes.items (λ l. l.source) in
    subst (IsAssembled c.read_together.new.assembly)
    (sym (since-none _ _ (none-given g.S.Source c.args.self.now c.requires.unread) ∙ given-all g.S.Source.given (sources_in c.read_together.new.lanes.items) c.len-self.result (omega (arith, len, own, n)))) c.in-Ok.ensures.taken.assembled

pub returns-in-Ok-clause-ended : goal.returns-in-Ok-clause-ended
returns-in-Ok-clause-ended g c = one-more c.args.self.now.ended.items c.and-self.result.items tt c.and-self.ensures

pub returns-in-Ok-clause-whole : goal.returns-in-Ok-clause-whole
returns-in-Ok-clause-whole g c =
    ap all_bytes c.read_together.ensures.whole

pub returns-then-at-len-clause-grows : goal.returns-then-at-len-clause-grows
returns-then-at-len-clause-grows g c = grows-none _ _ (none-given g.S.Source c.args.self.now c.requires.unread)

pub returns-then-at-len-clause-stops : goal.returns-then-at-len-clause-stops
returns-then-at-len-clause-stops g c =
    let sources = sources_in c.read_together.new.lanes.items in
    let stops = c.in-Err.ensures.stops in
    let laws = g.met.S.Source g.world.𝓛 g.world.𝓜 g.world.𝓡 ((λ s x. x), (λ x. x), (λ x. x), λ x. x) in
    stops-of _ _ (subject_in c.args.assembly.now) c.args.self.now _ c.in-Err.field-0.fault (none-given g.S.Source c.args.self.now c.requires.unread) stops.halts (all_bytes (map g.S.Source.whole sources)) (ap all_bytes c.read_together.ensures.whole)
    (joined_begins g.S.Source.given g.S.Source.ends g.S.Source.whole laws.begins laws.settled sources c.in-Err.field-0.at stops.met)

pub returns-else-at-len-clause-grows : goal.returns-else-at-len-clause-grows
returns-else-at-len-clause-grows g c = grows-none _ _ (none-given g.S.Source c.args.self.now c.requires.unread)

pub returns-else-at-len-clause-stops : goal.returns-else-at-len-clause-stops
returns-else-at-len-clause-stops g c =
    let sources = sources_in c.read_together.new.lanes.items in
    let stops = c.in-Err.ensures.stops in
    let laws = g.met.S.Source g.world.𝓛 g.world.𝓜 g.world.𝓡 ((λ s x. x), (λ x. x), (λ x. x), λ x. x) in
    stops-of _ _ (subject_in c.args.assembly.now) c.args.self.now _ c.in-Err.field-0.fault (none-given g.S.Source c.args.self.now c.requires.unread) stops.halts (all_bytes (map g.S.Source.whole sources)) (ap all_bytes c.read_together.ensures.whole)
    (joined_begins g.S.Source.given g.S.Source.ends g.S.Source.whole laws.begins laws.settled sources c.in-Err.field-0.at stops.met)
