use Rattle.std.proofs.Common.{◌≡◌, ◌≤◌, ◌^◌, map, take}
use Rattle.ssb_groups.specs.Keys.{AreLawful, domain_of}
use Rattle.ssb_keys.specs.Domains as keys
use Rattle.ssb_groups.proofs.domains.domains_of.Given as goal

abbrev pub invariant-loop-at : goal.invariant-loop-at
invariant-loop-at l = (l.domains.items ≡ map (domain_of l.tables) (take l.at l.columns)) × (l.size ≡ keys.size l.domains.items) × (l.size ≤ 2 ^ 62) × AreLawful l.domains.items
