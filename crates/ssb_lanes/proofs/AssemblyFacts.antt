-- Parts that are put together: the records so far, and more.
use Rattle.std.proofs.Common.{◌≡◌, ◌∙◌, ◌++◌, ◌+◌, ◌≤◌, ◌<◌, ℕ, false, List, [], ◌∷◌, inl, inr, length, map, Some, None, refl, sym, ap, subst, arith, append_assoc, length-append}
use Rattle.std.proofs.lemmas.Bool.Decides.{leb_tells}
use Rattle.std.proofs.lemmas.Grind.{flat_map-append}
use Rattle.std.proofs.lemmas.List.{append-nil, map-append}
use Rattle.ssb_cells.specs.Tables.{Filled}
use Rattle.ssb_lanes.specs.Assembly.{IsAssembled, IsHeld, all_in, subject_in}
use Rattle.ssb_records.specs.Intake.{Refuses}
use Rattle.ssb_load.specs.Subject.{judge, table}
use Rattle.ssb_records.specs.Lines.{IsPartOfLine}
use Rattle.ssb_lanes.specs.Moved.{moved}
use Rattle.ssb_records.specs.Records.{Fields}
use Rattle.ssb_terms.specs.Roles.{key_place}
use Rattle.ssb_load.specs.Rules.{columns_of}
use Rattle.ssb_load.specs.TableIntake.{IsLoading, subject_of}
use Rattle.ssb_load.specs.Tables.{first_fault}
use Rattle.ssb_lanes.specs.declared.assembly.Assembly.{Assembly}
use Rattle.ssb_records.specs.declared.fault.LoadFault.{LoadFault}
use Rattle.ssb_records.specs.declared.fault.LoadFault.TheVariants as load
use Rattle.ssb_records.specs.declared.fault.RecordFault.TheVariants as faults
use Rattle.ssb_terms.specs.declared.rule.Rule.{Rule}
use Rattle.ssb_load.specs.declared.table_intake.TableIntake.{TableIntake}
use Rattle.ssb_records.proofs.Blocks.{no-records}
use Rattle.ssb_load.proofs.FaultFacts.{fault-append, fault-none}
use Rattle.ssb_load.proofs.TableTaking.{limit-is, rules-are}
use Rattle.ssb_lanes.proofs.MovedFacts.{first-moved, number-of, past-all}

pub assembled-none : (a : Assembly) → key_place a.last.rules.items ≡ None → a.done.items ≡ [] → a.earlier ≡ 0 → IsLoading a.last [] → a.pending.items ≡ [] → a.is_cut ≡ false → a.last.max_rows < 4294967296 → IsAssembled a []
assembled-none a no_key done earlier taken pending cut limit = record {
  lines = [];
  lists = [];
  latest = [];
  split = sym pending;
  begins = rw cut refl;
  waits = let P : List ℕ → Type 0 = IsPartOfLine in subst P (sym pending) refl;
  records = no-records;
  held = record {
    no_key = no_key;
    parts = rw done refl;
    earlier = earlier;
    taken = taken;
    few = let room = taken.room in omega (arith, earlier, room);
    limit = limit;
    before = fault-none a.last.rules.items a.last.max_rows;
  };
}

-- ---- records behind records

-- good records behind good ones, not too many
pub clean-few : (rules : List Rule) (m : ℕ) (good rs : List Fields) → key_place rules ≡ None → first_fault rules m [] good ≡ None → first_fault rules m [] rs ≡ None → length good + length rs ≤ m → first_fault rules m [] (good ++ rs) ≡ None
clean-few rules m good rs none before clean few =
    first-moved rules m good rs none before (omega (arith, few)) ∙ (rw clean (elim (leb_tells (length good + length rs) m) [
      | inl h ↦ rw (h.0) refl
      | inr h ↦ let lt = h.1 in absurd (omega (arith, few))
    ]))

-- good records behind good ones, too many
pub too-many : (rules : List Rule) (m : ℕ) (good rs rest : List Fields) → key_place rules ≡ None → first_fault rules m [] good ≡ None → first_fault rules m [] rs ≡ None → length good ≤ m → m < length good + length rs
    → first_fault rules m [] (good ++ (rs ++ rest)) ≡ Some (faults.TooManyRows, m + 1)
too-many rules m good rs rest none before clean le many =
    let n = length-append rs rest in
    first-moved rules m good (rs ++ rest) none before le
    ∙ past-all (length good) m (length (rs ++ rest)) (first_fault rules m [] (rs ++ rest)) (omega arith) (λ f k is. let lt = number-of rules m rs rest f k (sym (fault-append rules m [] rs rest clean) ∙ is) in omega (arith, lt))

-- a refusal behind good records
pub refuses-moved : (rules : List Rule) (m k : ℕ) (good rs : List Fields) (e : LoadFault) → key_place rules ≡ None → first_fault rules m [] good ≡ None → k ≡ length good → k ≤ m → Refuses (judge (table rules m)) rs e
    → Refuses (judge (table rules m)) (good ++ rs) (moved k m e)
refuses-moved rules m k good rs (load.Record f n) none before is le h = rw is (first-moved rules m good rs none before (omega (arith, is, le)) ∙ (rw h refl))
refuses-moved rules m k good rs (load.BadCatalog f n) none before is le h = absurd h
refuses-moved rules m k good rs (load.Read n) none before is le h = absurd h
refuses-moved rules m k good rs load.Memory none before is le h = tt

-- ---- what is held

rules-same : (a b : Assembly) → subject_in b ≡ subject_in a → b.last.rules.items ≡ a.last.rules.items
rules-same a b e = rules-are b.last a.last.rules.items a.last.max_rows e

limit-same : (a b : Assembly) → subject_in b ≡ subject_in a → b.last.max_rows ≡ a.last.max_rows
limit-same a b e = limit-is b.last a.last.rules.items a.last.max_rows e

pub held-after : (old new : Assembly) (lists : List (List Fields)) (latest now : List Fields) → IsHeld old lists latest → subject_in new ≡ subject_in old → new.done ≡ old.done → new.earlier ≡ old.earlier
    → IsLoading new.last now → new.earlier + new.last.accepted ≤ new.last.max_rows → IsHeld new lists now
held-after old new lists latest now h subject done earlier taken few = record {
  no_key = rw (rules-same old new subject) h.no_key;
  parts = rw (rules-same old new subject, done) h.parts;
  earlier = earlier ∙ h.earlier;
  taken = taken;
  few = few;
  limit = rw (limit-same old new subject) h.limit;
  before = rw (rules-same old new subject, limit-same old new subject) h.before;
}

-- a fault of the rows on their way is one of all
pub held-refuses : (a : Assembly) (lists : List (List Fields)) (latest rs : List Fields) (e : LoadFault) → IsHeld a lists latest → Refuses (judge (subject_in a)) rs e → Refuses (judge (subject_in a)) (all_in lists ++ rs) (moved a.earlier a.last.max_rows e)
held-refuses a lists latest rs e h refuses =
    let few = h.few in
    refuses-moved a.last.rules.items a.last.max_rows a.earlier (all_in lists) rs e h.no_key h.before h.earlier (omega (arith, few)) refuses

-- the rows on their way are too many
pub held-many : (old : Assembly) (last : TableIntake) (lists : List (List Fields)) (latest now rest : List Fields) (earlier : ℕ) (e : LoadFault) → IsHeld old lists latest → subject_of last ≡ subject_in old → IsLoading last now → earlier ≡ old.earlier
    → (e ≡ load.Record faults.TooManyRows (last.max_rows + 1)) × (last.max_rows < earlier + last.accepted) → Refuses (judge (subject_in old)) (all_in lists ++ (now ++ rest)) e
held-many old last lists latest now rest earlier e h subject taken same many =
    let rules = rules-are last old.last.rules.items old.last.max_rows subject in
    let limit = limit-is last old.last.rules.items old.last.max_rows subject in
    let few = h.few in
    let count = taken.count in
    let is = h.earlier in
    let lt = many.1 in
    let clean = rw (rules, limit) at taken.clean in
    subst (Refuses (judge (subject_in old)) (all_in lists ++ (now ++ rest))) (sym (many.0 ∙ ap (λ m. load.Record faults.TooManyRows (m + 1)) limit))
    (too-many old.last.rules.items old.last.max_rows (all_in lists) now rest h.no_key h.before clean (omega (arith, few, is)) (omega (arith, lt, same, is, count, limit)))

-- one part more is done
pub held-next : (old new : Assembly) (lists : List (List Fields)) (latest good : List Fields) (columns : List Filled) → IsHeld old lists latest → subject_in new ≡ subject_in old → map (λ v. v.items) new.done.items ≡ map (λ v. v.items) old.done.items ++ columns ∷ []
    → columns ≡ columns_of old.last.rules.items latest → new.earlier ≡ old.earlier + old.last.accepted → IsLoading new.last good → new.earlier + new.last.accepted ≤ new.last.max_rows → IsHeld new (lists ++ latest ∷ []) good
held-next old new lists latest good columns h subject done are earlier taken few =
    let rules = rules-same old new subject in
    let limit = limit-same old new subject in
    let all : all_in (lists ++ latest ∷ []) ≡ all_in lists ++ latest = flat_map-append (λ rs. rs) lists (latest ∷ []) ∙ ap (λ t. all_in lists ++ t) (append-nil latest) in
    let n = length-append (all_in lists) latest in
    let count = h.taken.count in
    let before = h.earlier in
    let room = h.few in
    record {
      no_key = rw rules h.no_key;
      parts = rw rules (done ∙ (rw (h.parts, are, map-append) refl));
      earlier = rw all (omega (arith, n, count, before, earlier));
      taken = taken;
      few = few;
      limit = rw limit h.limit;
      before = rw (rules, limit, all) (clean-few old.last.rules.items old.last.max_rows (all_in lists) latest h.no_key h.before h.taken.clean (omega (arith, count, before, room)));
    }

-- with one part more there are too many
pub held-many-next : (old : Assembly) (last : TableIntake) (lists : List (List Fields)) (latest good rest : List Fields) (earlier : ℕ) (e : LoadFault) → IsHeld old lists latest → subject_of last ≡ subject_in old → IsLoading last good → earlier ≡ old.earlier + old.last.accepted
    → (e ≡ load.Record faults.TooManyRows (last.max_rows + 1)) × (last.max_rows < earlier + last.accepted) → Refuses (judge (subject_in old)) (all_in lists ++ (latest ++ (good ++ rest))) e
held-many-next old last lists latest good rest earlier e h subject taken is many =
    let rules = rules-are last old.last.rules.items old.last.max_rows subject in
    let limit = limit-is last old.last.rules.items old.last.max_rows subject in
    let n = length-append (all_in lists) latest in
    let few = h.few in
    let before = h.earlier in
    let count = h.taken.count in
    let more = taken.count in
    let lt = many.1 in
    let sound = clean-few old.last.rules.items old.last.max_rows (all_in lists) latest h.no_key h.before h.taken.clean (omega (arith, count, before, few)) in
    let clean = rw (rules, limit) at taken.clean in
    subst (Refuses (judge (subject_in old)) (all_in lists ++ (latest ++ (good ++ rest)))) (sym (many.0 ∙ ap (λ m. load.Record faults.TooManyRows (m + 1)) limit))
    (rw (append_assoc (all_in lists) latest (good ++ rest)) at
    (too-many old.last.rules.items old.last.max_rows (all_in lists ++ latest) good rest h.no_key sound clean (omega (arith, n, count, before, few)) (omega (arith, n, lt, is, count, more, before, limit))))
