use Rattle.std.proofs.Common.{◌≡◌, ◌<◌, ◌≤◌, [], ℕ, get_or, length, map}
use Rattle.ssb_groups.specs.Places.{IsJoined}
use Rattle.ssb_groups.specs.Tallies.{lists}
use Rattle.ssb_groups.specs.declared.joining.Joining.TheVariants as joining
use Rattle.ssb_groups.proofs.tallies.join_all.Given as goal

abbrev pub invariant-loop-at : goal.invariant-loop-at
invariant-loop-at g l =
    record {
      done : (i : ℕ) → i < l.at → IsJoined l.tables (get_or l.joinings i joining.Adds) l.places (get_or (map g.T.Joins.stand l.more) i []) (get_or (lists l.initial.tallies) i []) (get_or (lists l.tallies) i []);
      later : (i : ℕ) → l.at ≤ i → get_or (lists l.tallies) i [] ≡ get_or (lists l.initial.tallies) i [];
      many : length l.tallies ≡ length l.initial.tallies;
    }
