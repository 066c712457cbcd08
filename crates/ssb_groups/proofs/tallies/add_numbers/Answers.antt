use Rattle.std.proofs.Common.{◌≡◌, ◌∙◌, ◌<◌, ◌+ℤ◌, [], ℕ, ℤ, FitsSigned, List, length, get_or, of_z, pos, refl, rules, subst, sym, to_z, w64, arith}
use mir.Syntax.{w128}
use Rattle.std.proofs.Math.ListN.{set}
use Rattle.std.proofs.lemmas.List.{set-get_or}
use Rattle.ssb_cells.specs.Tables.{Columns}
use Rattle.ssb_groups.specs.Keys.{FitsSum, kept_total}
use Rattle.ssb_keys.specs.declared.kept.Kept.{Kept}
use Rattle.ssb_groups.specs.declared.kept.KeptTotal.{KeptTotal}
use Rattle.ssb_groups.specs.Joining.{AddsAs}
use Rattle.ssb_groups.specs.Tallies.{kept_numbers}
use Rattle.ssb_groups.specs.declared.joining.Joining.TheVariants as joining
use Rattle.ssb_groups.specs.declared.kept.KeptTotal.TheVariants as total
use Rattle.ssb_groups.proofs.NumberFacts.{Adding, Shows, adds-next, adds-shown, filled, fits-64, number-at, started}
use Rattle.ssb_groups.proofs.TallyFacts.{JoinedTo, joined-all, joined-none}
use Rattle.ssb_groups.proofs.tallies.add_numbers.Goals as goal
use Rattle.ssb_groups.proofs.tallies.add_numbers.Goals.{then-places-at, else-places-at}

-- the present place is that of the next number
record Reached (places : List ℕ) (more : List Kept) (before tally : List KeptTotal) (place at : ℕ) (s : ℤ) : Type 0 where
  now : Adding places more before tally place at s
  place-is : place ≡ get_or places at 0
  within : place < length before

reached : (places : List ℕ) (more : List Kept) (before now tally : List KeptTotal) (q place at : ℕ) (t s : ℤ) → tally ≡ now → place ≡ q → s ≡ t → Reached places more before now q at t → Reached places more before tally place at s
reached places more before now tally q place at t s is there same is-reached =
    subst (λ xs. Reached places more before xs place at s) (sym is) (subst (λ p. Reached places more before now p at s) (sym there) (subst (Reached places more before now q at) (sym same) is-reached))

pub loop-at-init : goal.loop-at-init
loop-at-init c =
    let tally = c.args.tally.now in
    let place = get_or c.args.places.now 0 0 in
    let same : to_z w128 (of_z w128 c.number_so_far-total.result) ≡ c.number_so_far-total.result = search rules in
    let some = filled c.args.places.now (sym c.is_empty.ensures ∙ c.if-is_empty.false) in
    record {
      now = record {
        sum = get_or tally place total.Null;
        goes = subst (AddsAs (kept_total (get_or tally place total.Null))) (sym same) c.number_so_far-total.ensures;
        kept = c.requires.kept place;
        joined = λ tables.
            subst (λ xs. JoinedTo tables joining.Adds c.args.places.now (kept_numbers c.args.more.now) tally xs 0) (sym (set-get_or tally place total.Null)) (joined-none tables joining.Adds c.args.places.now (kept_numbers c.args.more.now) tally c.requires.kept);
      };
      written = λ tables x lt shows. absurd (omega (arith, lt));
      first = λ e. refl;
      within = c.requires.places 0 0 some;
    }

pub number_so_far-total-requires-then-places-at : goal.number_so_far-total-requires-then-places-at
number_so_far-total-requires-then-places-at c =
    let l = c.loop-at in
    let shows : Shows c.of_number.result (to_z w128 l.total-bits) = record { number = c.of_number.ensures.number; kept = c.of_number.ensures.kept [] } in
    (l.invariant.written [] c.of_number.result (started c.args.places.now l.place l.at l.invariant.first c.if-places-at.true) shows).kept (get_or c.args.places.now l.at 0)

pub loop-at-preserved : goal.loop-at-preserved
loop-at-preserved c =
    let l = c.loop-at in
    let i = c.if-places-at in
    let places = c.args.places.now in
    let more = kept_numbers c.args.more.now in
    let before = c.args.tally.now in
    let lt = c.loop-at-test.true in
    let same = l.auto.tally in
    let long = i.auto.tally in
    let below = c.requires.places l.at 0 lt in
    let beside = c.requires.beside in
    let n = get_or c.args.more.now l.at (pos 0) in
    let s = to_z w128 i.total-bits in
    let read : to_z w64 (of_z w64 n) ≡ n = search rules in
    let from : to_z w128 (of_z w128 c.from.result) ≡ c.from.result = search rules in
    let after : to_z w128 (of_z w128 c.wide_sum-total.result) ≡ c.wide_sum-total.result = search rules in
    let fits : FitsSigned w64 n = search rules in
    let is : to_z w128 (of_z w128 c.from.result) ≡ n = from ∙ c.from.ensures ∙ read in
    let sum : FitsSum (s +ℤ n) → to_z w128 (of_z w128 c.wide_sum-total.result) ≡ s +ℤ n =
    λ h. after ∙ subst (λ m. FitsSum (s +ℤ m) → c.wide_sum-total.result ≡ s +ℤ m) is c.wide_sum-total.ensures h in
    let here : Reached places more before i.tally i.place l.at s =
    elim c.if-places-at.branch [
      | then-places-at w ↦
          let z = w.of_number.result in
          let now = set l.tally l.place z in
          let q = get_or places l.at 0 in
          let number = w.number_so_far-total-then-places-at.result in
          let read : to_z w128 (of_z w128 number) ≡ number = search rules in
          let shows : Shows z (to_z w128 l.total-bits) = record { number = w.of_number.ensures.number; kept = w.of_number.ensures.kept [] } in
          let some = started places l.place l.at l.invariant.first w.if-places-at.true in
          let to = λ (tables : List Columns). l.invariant.written tables z some shows in
          let adding : Adding places more before now q l.at (to_z w128 (of_z w128 number)) =
          record {
            sum = get_or now q total.Null;
            goes = subst (AddsAs (kept_total (get_or now q total.Null))) (sym read) w.number_so_far-total-then-places-at.ensures;
            kept = (to []).kept q;
            joined = λ tables. subst (λ xs. JoinedTo tables joining.Adds places more before xs l.at) (sym (set-get_or now q total.Null)) (to tables);
          } in
          reached places more before now i.tally q i.place l.at (to_z w128 (of_z w128 number)) s w.tally-is w.place-is w.total-is (record { now = adding; place-is = refl; within = below })
      | else-places-at w ↦
          reached places more before l.tally i.tally l.place i.place l.at (to_z w128 l.total-bits) s w.tally-is w.place-is w.total-is (record { now = l.invariant.now; place-is = sym w.if-places-at.false; within = l.invariant.within })
    ] in
    let inside : i.place < length i.tally = omega (arith, here.within, same, long) in
    record {
      now = adds-next places more before i.tally i.place l.at s n (to_z w128 (of_z w128 c.wide_sum-total.result)) c.requires.places lt inside here.place-is (number-at c.args.more.now l.at (omega (arith, lt, beside))) (fits-64 n fits) sum here.now;
      written = λ tables x some shows. adds-shown places more before i.tally i.place l.at s n (to_z w128 (of_z w128 c.wide_sum-total.result)) c.requires.places lt inside here.place-is (number-at c.args.more.now l.at (omega (arith, lt, beside))) (fits-64 n fits) sum here.now tables x shows;
      first = λ e. absurd (omega (arith, e));
      within = here.within;
    }

pub returns : goal.returns
returns c = λ tables.
    let l = c.loop-at in
    let shows : Shows c.of_number-2.result (to_z w128 l.total-bits) = record { number = c.of_number-2.ensures.number; kept = c.of_number-2.ensures.kept [] } in
    let some = filled c.args.places.now (sym c.is_empty.ensures ∙ c.if-is_empty.false) in
    let past = c.loop-at-test.false in
    joined-all tables joining.Adds c.args.places.now (kept_numbers c.args.more.now) c.args.tally.now (set l.tally l.place c.of_number-2.result) l.at past (l.invariant.written tables c.of_number-2.result (omega (arith, some, past)) shows)
