-- Parts that are put together: the bytes so far, and more.
use Rattle.std.proofs.Common.{◌≡◌, ◌∙◌, ◌++◌, ◌+◌, ℕ, Bool, true, false, List, [], ◌∷◌, inl, inr, length, map, None, refl, sym, ap, subst, arith, append_assoc, length-append}
use Rattle.std.proofs.lemmas.Bool.{false≢true}
use Rattle.std.proofs.lemmas.Grind.{flat_map-append}
use Rattle.std.proofs.lemmas.List.{append-nil, map-append}
use Rattle.ssb_cells.specs.Tables.{Filled}
use Rattle.ssb_lanes.specs.Assembly.{AreParts, Begins, Halts, IsAssembled, IsHeld, IsWhole, RefusesAll, all_in, lead, subject_in}
use Rattle.ssb_records.specs.CutShort.{IsCutShort}
use Rattle.ssb_records.specs.Intake.{AreGood, Refuses}
use Rattle.ssb_load.specs.Subject.{Subject, judge}
use Rattle.ssb_records.specs.Lines.{AreLines, EndsInLf, IsPartOfLine}
use Rattle.ssb_lanes.specs.Moved.{moved}
use Rattle.ssb_lanes.specs.Part.{IsBrokenOff, IsPart, IsRefused}
use Rattle.ssb_records.specs.Records.{Fields, records_of}
use Rattle.ssb_load.specs.Rules.{columns_of}
use Rattle.ssb_load.specs.TableIntake.{subject_of}
use Rattle.ssb_load.specs.Tables.{first_fault}
use Rattle.ssb_lanes.specs.declared.assembly.Assembly.{Assembly}
use Rattle.ssb_records.specs.declared.fault.LoadFault.{LoadFault}
use Rattle.ssb_records.specs.declared.fault.LoadFault.TheVariants as load
use Rattle.ssb_lanes.specs.declared.part.Part.{Part}
use Rattle.ssb_lanes.proofs.AssemblyFacts.{clean-few, held-after, refuses-moved}
use Rattle.ssb_records.proofs.Blocks.{no-records, records-of-append}
use Rattle.ssb_records.proofs.LineRecords.{ends-lf, first-records, lf-behind}
use Rattle.ssb_lanes.proofs.PartTaking.{led-lines, part-append}

pub begin-lines : (b : Bool) (lines : List ℕ) → Begins b lines → AreLines lines
begin-lines true lines h = inr h
begin-lines false lines h = inl h

-- the records of a text behind whole lines, or of one that begins all
pub records-begin : (b : Bool) (lines text : List ℕ) → Begins b lines → records_of (lines ++ text) ≡ records_of lines ++ records_of (lead b ++ text)
records-begin true lines text lf = records-of-append lines text (ends-lf lines lf)
records-begin false lines text none = rw (none, no-records) refl

regroup : {A : Type 0} (a b c d : List A) → ((a ++ b) ++ c) ++ d ≡ a ++ (b ++ (c ++ d))
regroup a b c d = append_assoc (a ++ b) c d ∙ append_assoc a b (c ++ d)

-- the line that waits was taken with its end
pub closed : (old now : Assembly) (bytes text : List ℕ) (h : IsAssembled old bytes) → EndsInLf text → IsHeld now h.lists (h.latest ++ records_of (lead old.is_cut ++ (old.pending.items ++ text))) → now.pending.items ≡ [] → now.is_cut ≡ true
    → IsAssembled now (bytes ++ text)
closed old now bytes text h lf held none cut = record {
  lines = h.lines ++ (old.pending.items ++ text);
  lists = h.lists;
  latest = h.latest ++ records_of (lead old.is_cut ++ (old.pending.items ++ text));
  split = rw (h.split, none, append-nil (h.lines ++ (old.pending.items ++ text))) (append_assoc h.lines old.pending.items text);
  begins = rw cut (lf-behind h.lines (old.pending.items ++ text) (lf-behind old.pending.items text lf));
  waits = let P : List ℕ → Type 0 = IsPartOfLine in subst P (sym none) refl;
  records = records-begin old.is_cut h.lines (old.pending.items ++ text) h.begins ∙ (rw h.records (append_assoc (all_in h.lists) h.latest (records_of (lead old.is_cut ++ (old.pending.items ++ text)))));
  held = held;
}

-- a record of the line that waits was refused
pub closed-refuses : (old : Assembly) (s : Subject) (bytes text : List ℕ) (e : LoadFault) (h : IsAssembled old bytes) → EndsInLf text
    → ((rest : List Fields) → Refuses (judge s) (all_in h.lists ++ (h.latest ++ (records_of (lead old.is_cut ++ (old.pending.items ++ text)) ++ rest))) e) → RefusesAll s (bytes ++ text) e
closed-refuses old s bytes text e h lf refuses more =
    let whole : List ℕ = h.lines ++ (old.pending.items ++ text) in
    let is : bytes ++ text ≡ whole = ap (λ t. t ++ text) h.split ∙ append_assoc h.lines old.pending.items text in
    let f = first-records whole more (inr (lf-behind h.lines (old.pending.items ++ text) (lf-behind old.pending.items text lf))) in
    let all : records_of whole ≡ (all_in h.lists ++ h.latest) ++ records_of (lead old.is_cut ++ (old.pending.items ++ text)) = records-begin old.is_cut h.lines (old.pending.items ++ text) h.begins ∙ ap (λ t. t ++ records_of (lead old.is_cut ++ (old.pending.items ++ text))) h.records in
    subst (λ rs. Refuses (judge s) rs e) (sym (ap (λ t. records_of (t ++ more)) is ∙ f.1 ∙ ap (λ t. t ++ f.0) all ∙ regroup (all_in h.lists) h.latest (records_of (lead old.is_cut ++ (old.pending.items ++ text))) f.0)) (refuses f.0)

-- what is refused of a text is refused of a longer one
pub refuses-on : (s : Subject) (bytes front rest more : List ℕ) (e : LoadFault) → more ≡ front ++ rest → RefusesAll s (bytes ++ front) e → RefusesAll s (bytes ++ more) e
refuses-on s bytes front rest more e is h last =
    subst (λ t. Refuses (judge s) (records_of t) e) (sym (append_assoc (bytes ++ front) rest last) ∙ ap (λ t. t ++ last) (append_assoc bytes front rest ∙ ap (λ t. bytes ++ t) (sym is))) (h (rest ++ last))

clash : {b : Bool} → b ≡ true → b ≡ false → ⊥
clash t f = false≢true (sym f ∙ t)

-- ---- a part behind the others

-- the bytes of a part without a line feed wait with those before them
pub waits-on : (old now : Assembly) (p : Part) (bytes more : List ℕ) → IsAssembled old bytes → IsPart p more → p.is_cut ≡ false → now.pending.items ≡ old.pending.items ++ p.head.items → now.done ≡ old.done → now.earlier ≡ old.earlier → now.last ≡ old.last
    → now.is_cut ≡ old.is_cut → IsAssembled now (bytes ++ more)
waits-on old now p bytes more h part uncut pending done earlier last cut = elim (part.head) [
  | inl u ↦ record {
    lines = h.lines;
    lists = h.lists;
    latest = h.latest;
    split = rw (h.split, part.split, u.none, u.tail, append-nil p.head.items, pending) (append_assoc h.lines old.pending.items p.head.items);
    begins = rw cut h.begins;
    waits = let P : List ℕ → Type 0 = IsPartOfLine in subst P (sym pending) (part-append old.pending.items p.head.items h.waits u.head);
    records = h.records;
    held = held-after old now h.lists h.latest h.latest h.held (ap subject_of last) done earlier (rw last h.held.taken) (rw (last, earlier) h.held.few);
  }
  | inr e ↦ absurd (clash (e.0) uncut)
]

cut-lines : (b : Bool) (lines : List ℕ) → b ≡ true → Begins b lines → EndsInLf lines
cut-lines true lines e h = h
cut-lines false lines e h = cc e

-- the bytes so far, where none waits
whole-of : (a : Assembly) (bytes : List ℕ) (h : IsAssembled a bytes) → a.pending.items ≡ [] → bytes ≡ h.lines
whole-of a bytes h none = h.split ∙ ap (λ t. h.lines ++ t) none ∙ append-nil h.lines

-- the records of lines behind those so far
behind : (a : Assembly) (bytes lines more : List ℕ) (h : IsAssembled a bytes) → a.pending.items ≡ [] → a.is_cut ≡ true → AreLines lines
    → records_of (bytes ++ (lines ++ more)) ≡ (all_in h.lists ++ h.latest) ++ (records_of (10 ∷ lines) ++ records_of (10 ∷ more))
behind a bytes lines more h none cut are =
    ap (λ t. records_of (t ++ (lines ++ more))) (whole-of a bytes h none)
    ∙ records-of-append h.lines (lines ++ more) (ends-lf h.lines (cut-lines a.is_cut h.lines cut h.begins))
    ∙ ap (λ t. records_of h.lines ++ t) (records-of-append (10 ∷ lines) more (ends-lf (10 ∷ lines) (led-lines lines are)))
    ∙ ap (λ t. t ++ (records_of (10 ∷ lines) ++ records_of (10 ∷ more))) h.records

-- the rows of a part stand behind those so far
pub added : (mid now : Assembly) (p : Part) (bytes more : List ℕ) (h : IsAssembled mid (bytes ++ p.head.items)) (part : IsPart p more) → mid.pending.items ≡ [] → mid.is_cut ≡ true → IsHeld now (h.lists ++ h.latest ∷ []) (records_of (10 ∷ part.lines))
    → now.pending.items ≡ p.tail.items → now.is_cut ≡ true → IsAssembled now (bytes ++ more)
added mid now p bytes more h part none cut held tail now_cut =
    let lf = cut-lines mid.is_cut h.lines cut h.begins in
    let whole = whole-of mid (bytes ++ p.head.items) h none in
    record {
      lines = h.lines ++ part.lines;
      lists = h.lists ++ h.latest ∷ [];
      latest = records_of (10 ∷ part.lines);
      split = rw (part.split, tail) (sym (append_assoc bytes p.head.items (part.lines ++ p.tail.items)) ∙ ap (λ t. t ++ (part.lines ++ p.tail.items)) whole ∙ sym (append_assoc h.lines part.lines p.tail.items));
      begins = rw now_cut (elim (part.whole) [ inl e ↦ rw (e, append-nil h.lines) lf | inr l ↦ lf-behind h.lines part.lines l ]);
      waits = let P : List ℕ → Type 0 = IsPartOfLine in subst P (sym tail) part.tail;
      records = records-of-append h.lines part.lines (ends-lf h.lines lf)
          ∙ ap (λ t. t ++ records_of (10 ∷ part.lines)) (h.records ∙ sym (flat_map-append (λ rs. rs) h.lists (h.latest ∷ []) ∙ ap (λ t. all_in h.lists ++ t) (append-nil h.latest)));
      held = held;
    }

-- a refusal among the rows of a part behind those so far
pub added-refuses : (mid : Assembly) (s : Subject) (p : Part) (bytes more lines rest : List ℕ) (e : LoadFault) (h : IsAssembled mid (bytes ++ p.head.items)) → mid.pending.items ≡ [] → mid.is_cut ≡ true → more ≡ p.head.items ++ (lines ++ rest) → AreLines lines
    → ((last : List Fields) → Refuses (judge s) (all_in h.lists ++ (h.latest ++ (records_of (10 ∷ lines) ++ last))) e) → RefusesAll s (bytes ++ more) e
added-refuses mid s p bytes more lines rest e h none cut split are refuses last =
    let is : (bytes ++ more) ++ last ≡ (bytes ++ p.head.items) ++ (lines ++ (rest ++ last)) =
    ap (λ t. (bytes ++ t) ++ last) split ∙ ap (λ t. t ++ last) (sym (append_assoc bytes p.head.items (lines ++ rest))) ∙ append_assoc (bytes ++ p.head.items) (lines ++ rest) last
    ∙ ap (λ t. (bytes ++ p.head.items) ++ t) (append_assoc lines rest last) in
    subst (λ rs. Refuses (judge s) rs e) (sym (ap records_of is ∙ behind mid (bytes ++ p.head.items) lines (rest ++ last) h none cut are ∙ append_assoc (all_in h.lists) h.latest (records_of (10 ∷ lines) ++ records_of (10 ∷ (rest ++ last))))) (refuses (records_of (10 ∷ (rest ++ last))))

-- ---- where a source was not read to its end

-- the records held are good, and as many as were counted
pub held-good : (a : Assembly) (lists : List (List Fields)) (latest : List Fields) → IsHeld a lists latest → (first_fault a.last.rules.items a.last.max_rows [] (all_in lists ++ latest) ≡ None) × (length (all_in lists ++ latest) ≡ a.earlier + a.last.accepted)
held-good a lists latest h =
    let few = h.few in
    let count = h.taken.count in
    let before = h.earlier in
    let n = length-append (all_in lists) latest in
    (clean-few a.last.rules.items a.last.max_rows (all_in lists) latest h.no_key h.before h.taken.clean (omega (arith, count, before, few)), omega (arith, n, count, before))

-- a refusal of all bytes stops them
pub refuses-halts : (a : Assembly) (bytes : List ℕ) (e : LoadFault) → RefusesAll (subject_in a) bytes e → Halts (subject_in a) bytes e
refuses-halts a bytes (load.Record f n) h = h
refuses-halts a bytes (load.BadCatalog f n) h = absurd (h [])
refuses-halts a bytes (load.Read n) h = absurd (h [])
refuses-halts a bytes load.Memory h = tt

-- a record of a part was refused, and the line before the part was taken
pub halts-refused : (mid : Assembly) (p : Part) (bytes more : List ℕ) (e : LoadFault) (h : IsAssembled mid (bytes ++ p.head.items)) → subject_of p.rows ≡ subject_in mid → mid.pending.items ≡ [] → mid.is_cut ≡ true → IsRefused p more e
    → Halts (subject_in mid) (bytes ++ more) (moved (mid.earlier + mid.last.accepted) mid.last.max_rows e)
halts-refused mid p bytes more e h subject none cut r =
    let good = held-good mid h.lists h.latest h.held in
    let few = h.held.few in
    let s = subject_in mid in
    refuses-halts mid (bytes ++ more) (moved (mid.earlier + mid.last.accepted) mid.last.max_rows e)
    (added-refuses mid s p bytes more r.lines r.rest (moved (mid.earlier + mid.last.accepted) mid.last.max_rows e) h none cut r.split r.whole
    (λ last. subst (λ rs. Refuses (judge s) rs (moved (mid.earlier + mid.last.accepted) mid.last.max_rows e)) (append_assoc (all_in h.lists) h.latest (records_of (10 ∷ r.lines) ++ last))
    (refuses-moved mid.last.rules.items mid.last.max_rows (mid.earlier + mid.last.accepted) (all_in h.lists ++ h.latest) (records_of (10 ∷ r.lines) ++ last) e h.held.no_key good.0 (sym good.1) few
    (subst (λ t. Refuses (judge t) (records_of (10 ∷ r.lines) ++ last) e) subject (r.refuses last)))))

-- a read failed behind a part that was added
pub halts-broken : (now : Assembly) (s : Subject) (p : Part) (bytes more : List ℕ) (b : IsBrokenOff p more) → subject_in now ≡ s → IsAssembled now (bytes ++ b.done) → Halts s (bytes ++ more) (load.Read (now.earlier + now.last.accepted + 1))
halts-broken now s p bytes more b subject h =
    let good = held-good now h.lists h.latest h.held in
    let P : Subject → Type 0 = λ t. IsCutShort (AreGood (judge t)) (bytes ++ more) (now.earlier + now.last.accepted + 1) in
    subst P subject (record {
      lines = h.lines;
      rest = now.pending.items ++ b.rest;
      cut = record {
        split = ap (λ t. bytes ++ t) b.split ∙ sym (append_assoc bytes b.done b.rest) ∙ ap (λ t. t ++ b.rest) h.split ∙ append_assoc h.lines now.pending.items b.rest;
        whole = begin-lines now.is_cut h.lines h.begins;
        part = part-append now.pending.items b.rest h.waits b.rest_part;
      };
      good = rw h.records (good.0);
      number = ap (λ n. n + 1) (sym good.1 ∙ ap length (sym h.records));
    })

-- ---- the last line

last-records : (a : Assembly) (bytes : List ℕ) (h : IsAssembled a bytes) → records_of bytes ≡ all_in h.lists ++ (h.latest ++ records_of (lead a.is_cut ++ a.pending.items))
last-records a bytes h = ap records_of h.split ∙ records-begin a.is_cut h.lines a.pending.items h.begins ∙ ap (λ t. t ++ records_of (lead a.is_cut ++ a.pending.items)) h.records ∙ append_assoc (all_in h.lists) h.latest (records_of (lead a.is_cut ++ a.pending.items))

pub whole-last : (old now : Assembly) (bytes : List ℕ) (h : IsAssembled old bytes) → IsHeld now h.lists (h.latest ++ records_of (lead old.is_cut ++ old.pending.items)) → IsWhole now bytes
whole-last old now bytes h held = record { lists = h.lists; latest = h.latest ++ records_of (lead old.is_cut ++ old.pending.items); records = last-records old bytes h; held = held }

pub last-refuses : (old : Assembly) (s : Subject) (bytes : List ℕ) (e : LoadFault) (h : IsAssembled old bytes)
    → ((rest : List Fields) → Refuses (judge s) (all_in h.lists ++ (h.latest ++ (records_of (lead old.is_cut ++ old.pending.items) ++ rest))) e) → Refuses (judge s) (records_of bytes) e
last-refuses old s bytes e h refuses =
    subst (λ rs. Refuses (judge s) rs e) (ap (λ t. all_in h.lists ++ (h.latest ++ t)) (append-nil (records_of (lead old.is_cut ++ old.pending.items))) ∙ sym (last-records old bytes h)) (refuses [])

-- the columns of all parts
pub parts-are : (a : Assembly) (bytes : List ℕ) (parts : List (List Filled)) (columns : List Filled) (h : IsWhole a bytes) → columns ≡ columns_of a.last.rules.items h.latest → parts ≡ map (λ v. v.items) a.done.items ++ columns ∷ []
    → AreParts a.last.rules.items a.last.max_rows parts (records_of bytes)
parts-are a bytes parts columns h are is = record {
  lists = h.lists ++ h.latest ∷ [];
  split = h.records ∙ sym (flat_map-append (λ rs. rs) h.lists (h.latest ∷ []) ∙ ap (λ t. all_in h.lists ++ t) (append-nil h.latest));
  columns = is ∙ (rw (h.held.parts, are, map-append) refl);
  clean = rw h.records ((held-good a h.lists h.latest h.held).0);
}
