-- What a part's fields keep, and the part that contracts see.
use Rattle.std.proofs.Common.{◌≡◌, ◌∙◌, ◌++◌, ◌∷◌, [], ◌≤◌, ◌<◌, ◌+◌, ◌-◌, ◌^◌, inl, inr, ℕ, zero, suc, Bool, true, false, true≢false, not, nat_eq, List, Some, length, map, refl, sym, ap, subst, arith, length-append}
use Rattle.std.specs.Prelude.{slice_get, slice_set}
use Rattle.std.specs.List.{All, IsDistinct, list_all, list_any, range_with_len}
use Rattle.std.specs.List.Sorted.{IsPermutation}
use Rattle.std.proofs.lemmas.List.FromFn.{length-range_with_len}
use Rattle.std.proofs.lemmas.List.Elements.{All-head}
use Rattle.std.proofs.lemmas.List.Sorted.{length_permutation}
use Rattle.ssb_job.specs.Kept.{AreOneJob, fact_rows}
use Rattle.ssb_plan.specs.JobShape.{JobShape}
use Rattle.ssb_groups.specs.Rows.{SeenRow}
use Rattle.ssb_groups.specs.Stands.{GroupMap, Stands}
use Rattle.ssb_groups.proofs.Permuted.{any_order}
use Rattle.ssb_pipeline.specs.Joined.{morsel_rows, seen_in}
use Rattle.ssb_pipeline.specs.Marks.{IsKept, marked, with_marks}
use Rattle.ssb_pipeline.specs.Morsels.{morsel_count, morsel_cut, section}
use Rattle.ssb_pipeline.specs.Part as event
use Rattle.ssb_pipeline.specs.Part.{Gives, GivesUp, Hands, IsLawfulPart, PartState, Runs, has, is_awaited, is_handed_out}
use Rattle.ssb_pipeline.specs.State.{AreOver, IsOfTickets, PartialState}
use Rattle.ssb_pipeline.specs.Tickets.{TicketState, morsels_of}
use Rattle.ssb_pipeline.proofs.BatchFacts.{batch-apart, both-left, both-right, each-handed, none-back, of-each, sizes-are, twice-distinct}
use Rattle.ssb_pipeline.proofs.GivenFacts.{AreThere, cleared-gone, cleared-others, with-mark}
use Rattle.ssb_pipeline.proofs.JoinedFacts.{rows-cons, seen-append, seen-cons, seen-none}
use Rattle.ssb_pipeline.proofs.MarkFacts.{AreFree, distinct-marked, length-with, many-more, marked-has, no-more, place-of, with-within}
use Rattle.ssb_pipeline.proofs.Numbers.{not-is}
use Rattle.ssb_pipeline.proofs.RangeFacts.{beyond-range, distinct-range, range-has, range-lacks, range-last, within-range}
use Rattle.ssb_pipeline.proofs.RunFacts.{returns-all}

-- a place that is not marked
unmarked : (a : ℕ) (bs : List Bool) (i : ℕ) → a ≤ i → i - a < length bs → has (marked a bs) i ≡ false → slice_get bs (i - a) ≡ Some false
unmarked a bs i from below none = by (there bs (i - a) below)
  where
    there : (bs : List Bool) (p : ℕ) → p < length bs → (b : Bool) × (slice_get bs p ≡ Some b)
    there [] p lt = absurd (omega (arith, lt))
    there (b ∷ bs) zero lt = (b, refl)
    there (b ∷ bs) (suc p) lt = there bs p (omega (arith, lt))

    by : ((b : Bool) × (slice_get bs (i - a) ≡ Some b)) → slice_get bs (i - a) ≡ Some false
    by (true, is) = absurd (true≢false (sym (marked-has a bs (i - a) i (omega (arith, from)) is) ∙ none))
    by (false, is) = is

module _ (j : JobShape) (size s k first : ℕ) where
  -- the part that contracts see
  abbrev pub state : ℕ → List Bool → List Bool → Bool → GroupMap → PartState
  state next marks given gave g = record { job = j; size = size; section = s; sections = k; handed = range_with_len first next; returned = marked first marks; given = marked first given; gave_up = gave; groups = g }

  pub ours-is : (next back : ℕ) (marks : List Bool) (g : GroupMap) → IsKept j size s k first next marks back g → section (morsel_count (fact_rows j) size) k s ≡ range_with_len first (length marks)
  ours-is next back marks g h =
      let c = morsel_count (fact_rows j) size in
      let many : morsel_cut c k (s + 1) - morsel_cut c k s ≡ length marks = let b = h.begins in let e = h.ends in omega (arith, b, e) in
      ap (λ n. range_with_len (morsel_cut c k s) n) many ∙ ap (λ a. range_with_len a (length marks)) (sym h.begins)

  pub lawful-of : (next back : ℕ) (marks given : List Bool) (gave : Bool) (g : GroupMap) → IsKept j size s k first next marks back g → IsLawfulPart (state next marks given gave g)
  lawful-of next back marks given gave g h =
      let fits = h.fits in
      record {
        handed = distinct-range first next;
        within = λ i there.
            let w = within-range first next i there in
            let below = w.1 in
            subst (λ xs. has xs i ≡ true) (sym (ours-is next back marks g h)) (range-has first (length marks) i w.0 (omega (arith, below, fits)));
        returned = distinct-marked first marks;
        among = λ i there.
            let p = place-of first marks i there in
            let at = p.1 in
            let below = h.below p.0 p.2 in
            range-has first next i (omega (arith, at)) (omega (arith, at, below));
        job = h.job;
        stands = h.stands;
      }

  -- the next number is the least that was not handed out
  pub hands-next : (next back : ℕ) (marks given : List Bool) (gave : Bool) (g : GroupMap) → IsKept j size s k first next marks back g → next < length marks → gave ≡ false
      → Hands (first + next) (state next marks given gave g) (state (next + 1) marks given gave g)
  hands-next next back marks given gave g h lt going = record {
    going = going;
    member = subst (λ xs. has xs (first + next) ≡ true) (sym (ours-is next back marks g h)) (range-has first (length marks) (first + next) (omega arith) (omega (arith, lt)));
    fresh = range-lacks first next (first + next) (inr (omega arith));
    least = λ i there new.
        let w = within-range first (length marks) i (subst (λ xs. has xs i ≡ true) (ours-is next back marks g h) there) in
        beyond-range first next i w.0 new;
    after = ap (λ hs. record { job = j; size = size; section = s; sections = k; handed = hs; returned = marked first marks; given = marked first given; gave_up = gave; groups = g }) (range-last first next (next + 1) (first + next) (omega arith) refl);
  }

  -- with more of the section handed out
  pub handed-kept : (next now back : ℕ) (marks : List Bool) (g : GroupMap) → IsKept j size s k first next marks back g → next ≤ now → now ≤ length marks → IsKept j size s k first now marks back g
  handed-kept next now back marks g h more fits = record {
    many = h.many;
    begins = h.begins;
    ends = h.ends;
    fits = fits;
    below = λ i set. let b = h.below i set in omega (arith, b, more);
    came = h.came;
    job = h.job;
    stands = h.stands;
    few = h.few;
    bound = h.bound;
    room = h.room;
  }

  -- where there is no next number, all of the section is handed out
  pub all-handed : (next back : ℕ) (marks : List Bool) (g : GroupMap) → IsKept j size s k first next marks back g → next ≡ length marks
      → (i : ℕ) → has (section (morsel_count (fact_rows j) size) k s) i ≡ true → has (range_with_len first next) i ≡ true
  all-handed next back marks g h e i there = subst (λ xs. has xs i ≡ true) (ours-is next back marks g h ∙ ap (range_with_len first) (sym e)) there

  -- ---- a ticket that is given up

  module _ (next back : ℕ) (marks given : List Bool) (gave : Bool) (g : GroupMap) (t : TicketState) (h : IsKept j size s k first next marks back g) (long : length given ≡ length marks) (here : is_awaited (state next marks given gave g) t ≡ true) where
    p : PartState
    p = state next marks given gave g

    handed : has p.handed t.morsel ≡ true
    unfolding p
    handed = both-right (nat_eq t.size size) (has p.handed t.morsel) (both-left (is_handed_out p t) (not (has p.returned t.morsel)) here)

    -- it has a mark
    pub awaited-place : (first ≤ t.morsel) × (t.morsel - first < length given)
    unfolding p
    awaited-place =
        let w = within-range first next t.morsel handed in
        let from = w.0 in
        let below = w.1 in
        let fits = h.fits in
        (from, omega (arith, from, below, fits, long))

    -- which it gets
    pub gives-up : GivesUp t (state next marks given gave g) (state next marks (slice_set given (t.morsel - first) true) true g)
    unfolding p
    gives-up = record {
      awaited = λ _. record {
        handed = handed;
        fresh = not-is (has p.returned t.morsel) (both-right (is_handed_out p t) (not (has p.returned t.morsel)) here);
        given = with-mark first given t.morsel awaited-place.0 awaited-place.1;
        after = refl;
      };
      strange = λ none. absurd (true≢false (sym here ∙ none));
    }

  -- ---- a partial that comes back

  -- the part waits for it: its morsels were handed out, and none of them is back
  pub record IsDue (next back : ℕ) (marks given : List Bool) (gave : Bool) (g : GroupMap) (x : PartialState) : Type 0 where
    pub kept : IsKept j size s k first next marks back g
    pub long : length given ≡ length marks
    pub handed : list_all (is_handed_out (state next marks given gave g)) x.tickets ≡ true
    pub fresh : list_any (λ t. has (marked first marks) t.morsel) x.tickets ≡ false
    pub one : All (λ t. AreOneJob t.job j) x.tickets
    pub of : IsOfTickets x

  module _ (next back : ℕ) (marks given : List Bool) (gave : Bool) (g : GroupMap) (x : PartialState) (due : IsDue next back marks given gave g x) where
    abbrev h : IsKept j size s k first next marks back g
    h = due.kept

    abbrev pub is : List ℕ
    is = morsels_of x.tickets

    abbrev pub after : List Bool
    after = with_marks true first marks is

    -- the marks of what was given up
    abbrev pub fewer : List Bool
    fewer = with_marks false first given is

    pub in-range : (i : ℕ) → has is i ≡ true → (first ≤ i) × (i < first + next)
    in-range i m = within-range first next i (each-handed (state next marks given gave g) x.tickets due.handed i m)

    -- each has its mark
    pub marks-there : All (λ t. (first ≤ t.morsel) × (t.morsel - first < length marks)) x.tickets
    marks-there = of-each (λ i. (first ≤ i) × (i - first < length marks)) x.tickets (λ i m.
        let w = in-range i m in
        let from = w.0 in
        let below = w.1 in
        let fits = h.fits in
        (from, omega (arith, from, below, fits)))

    given-there : AreThere first given is
    given-there i m =
        let w = in-range i m in
        let from = w.0 in
        let below = w.1 in
        let fits = h.fits in
        let long = due.long in
        (from, omega (arith, from, below, fits, long))

    pub given-marks-there : All (λ t. (first ≤ t.morsel) × (t.morsel - first < length given)) x.tickets
    given-marks-there = of-each (λ i. (first ≤ i) × (i - first < length given)) x.tickets given-there

    pub free : AreFree first marks is
    free i m =
        let w = in-range i m in
        let from = w.0 in
        let below = w.1 in
        let fits = h.fits in
        record { from = from; free = unmarked first marks i from (omega (arith, from, below, fits)) (none-back (state next marks given gave g) x.tickets due.fresh i m) }

    apart : IsDistinct nat_eq is
    apart = twice-distinct is (batch-apart x.tickets due.of.batch)

    some : 0 < length is
    some = subst (λ ts. 0 < length (morsels_of ts)) (sym due.of.are) (omega arith)

    first-job : due.of.first.job ≡ j
    first-job = All-head (λ t. AreOneJob t.job j) due.of.first due.of.rest (subst (All (λ t. AreOneJob t.job j)) due.of.are due.one)

    first-size : due.of.first.size ≡ size
    first-size = sizes-are (state next marks given gave g) due.of.first due.of.rest (subst (λ ts. list_all (is_handed_out (state next marks given gave g)) ts ≡ true) due.of.are due.handed)

    -- the groups are of the part's job
    over : AreOver j size is x.groups
    over = rw (first-job, first-size) at due.of.over

    pub one-job : x.groups.job ≡ j
    one-job = over.job

    rows-more : length (morsel_rows j size (marked first marks)) + length (morsel_rows j size is) ≡ length (morsel_rows j size (marked first after))
    rows-more = sym (length-append (morsel_rows j size (marked first marks)) (morsel_rows j size is)) ∙ sym (length_permutation _ _ (many-more (morsel_rows j size) refl (rows-cons j size) first marks is free apart))

    still : length after ≡ length marks
    still = length-with true first marks is

    pub still-long : length fewer ≡ length after
    still-long = length-with false first given is ∙ due.long ∙ sym still

    rows-few : length (morsel_rows j size (marked first after)) < 2 ^ 32
    rows-few =
        let most = no-more (morsel_rows j size) refl (rows-cons j size) first after in
        let room = subst (λ n. length (morsel_rows j size (range_with_len first n)) < 2 ^ 32) (sym still) h.room in
        omega (arith, most, room)

    -- there is room in a count of rows
    pub few-both : g.counted + x.groups.counted < 2 ^ 32
    few-both = let a = h.few in let b = over.few in let m = rows-more in let r = rows-few in omega (arith, a, b, m, r)

    count-more : back + length is ≡ length (marked first after)
    count-more =
        let e = sym (length_permutation _ _ (many-more (λ ns. ns) refl (λ i ns. refl) first marks is free apart)) in
        let l = length-append (marked first marks) is in
        let c = h.came in
        omega (arith, e, l, c)

    pub back-few : back + length is < 2 ^ 32
    back-few =
        let c = count-more in
        let m = no-more (λ ns. ns) refl (λ i ns. refl) first after in
        let l = length-range_with_len first (length after) in
        let b = h.bound in
        let e = still in
        omega (arith, c, m, l, b, e)

    perm : IsPermutation (marked first marks ++ is) (marked first after)
    perm = many-more (λ ns. ns) refl (λ i ns. refl) first marks is free apart

    module _ (n : GroupMap) (merges : (A B : List SeenRow) → Stands g A → Stands x.groups B → Stands n (A ++ B)) where
      both : Stands n (seen_in j size (marked first marks) ++ seen_in j size is)
      both = merges (seen_in j size (marked first marks)) (seen_in j size is) h.stands over.stands

      stands-more : Stands n (seen_in j size (marked first after))
      stands-more = any_order n _ (seen_in j size (marked first after)) (many-more (seen_in j size) (seen-none j size) (seen-cons j size) first marks is free apart) both

      -- the part's fields keep what they keep with these marks more
      pub kept-more : n.job ≡ g.job → n.counted ≡ g.counted + x.groups.counted → IsKept j size s k first next after (back + length is) n
      kept-more job counted =
          let e = still in
          let fits = h.fits in
          let bound = h.bound in
          record {
            many = h.many;
            begins = h.begins;
            ends = ap (λ m. first + m) e ∙ h.ends;
            fits = omega (arith, e, fits);
            below = λ q at. elim (with-within first marks is q at) [
              | inl new ↦ let w = in-range new.0 new.1 in let from = w.0 in let less = w.1 in let place = new.2 in omega (arith, from, less, place)
              | inr there ↦ h.below q there
            ];
            came = count-more;
            job = job ∙ h.job;
            stands = stands-more;
            few = let a = h.few in let b = over.few in let m = rows-more in omega (arith, counted, a, b, m);
            bound = omega (arith, e, bound);
            room = subst (λ m. length (morsel_rows j size (range_with_len first m)) < 2 ^ 32) (sym e) h.room;
          }

      -- the morsels come back
      pub comes-back : n.job ≡ g.job → Runs (map event.back is) (state next marks given gave g) (state next after fewer gave n)
      comes-back job =
          returns-all is (state next marks given gave g) (state next after fewer gave n) some (λ i m. each-handed (state next marks given gave g) x.tickets due.handed i m) (λ i m. none-back (state next marks given gave g) x.tickets due.fresh i m) apart perm
          (cleared-gone first given is given-there) (cleared-others first given is given-there) (job ∙ h.job) stands-more
          (subst (Stands n) (sym (seen-append j size (marked first marks) is)) both) refl
