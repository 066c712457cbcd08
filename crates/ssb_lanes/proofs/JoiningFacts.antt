-- Columns of parts, put behind those before them and joined.
use Rattle.std.proofs.Common.{◌≡◌, ◌∙◌, ◌+◌, ◌<◌, ◌++◌, ℕ, suc, List, [], ◌∷◌, Ok, length, map, get_or, set, refl, sym, ap, arith, subst, append_assoc, length-append}
use Rattle.std.proofs.lemmas.Grind.{flat_map-append}
use Rattle.std.proofs.lemmas.List.{append-nil, length-map, map-append}
use Rattle.ssb_cells.specs.Tables.{Filled, AreLong, rows_in}
use Rattle.ssb_lanes.specs.Assembly.{AreParts, all_in}
use Rattle.ssb_load.specs.Subject.{table}
use Rattle.ssb_lanes.specs.Joining.{AreColumnsOf, AreJoined, FitBehind, Joins, behind_each}
use Rattle.ssb_lanes.specs.declared.joining.Joining.{Joining}
use Rattle.ssb_lanes.specs.declared.joining.Joining.TheVariants as now
use Rattle.ssb_cells.specs.Lawful.{HasOneKey, IsLawful}
use Rattle.ssb_load.specs.Loading.{Loads}
use Rattle.ssb_records.specs.Records.{Fields}
use Rattle.ssb_load.specs.Rules.{columns_from, columns_of}
use Rattle.ssb_load.specs.TableIntake.{subject_of}
use Rattle.ssb_terms.specs.declared.rule.Rule.{Rule}
use Rattle.ssb_load.specs.declared.table_intake.TableIntake.{TableIntake}
use Rattle.ssb_load.proofs.HoldsFacts.{columns-sized, sized-table}
use Rattle.ssb_load.proofs.LawfulFacts.{good-few, lawful}
use Rattle.ssb_load.proofs.TableTaking.{limit-is, rules-are}

-- ---- a part behind those before it

pub length-behind : (old new : List Filled) → length (behind_each old new) ≡ length old
length-behind [] new = refl
length-behind (c ∷ cs) [] = refl
length-behind (c ∷ cs) (d ∷ ds) = ap (λ n. suc n) (length-behind cs ds)

pub behind-none : (old : List Filled) → behind_each old [] ≡ old
behind-none [] = refl
behind-none (c ∷ cs) = refl

-- the next column has a stack, of its type and with room for it
pub record HasStack (old front : List Filled) (c d : Filled) : Type 0 where
  pub inside : length front < length old
  pub kind : c.kind ≡ d.kind
  pub room : length d.values + length c.values < 4294967296

pub stack-inside : (old front : List Filled) (c : Filled) (back : List Filled) → FitBehind old (front ++ c ∷ back) → length front < length old
stack-inside [] [] c back fit = absurd fit
stack-inside [] (f ∷ fs) c back fit = absurd fit
stack-inside (o ∷ os) [] c back fit = omega arith
stack-inside (o ∷ os) (f ∷ fs) c back fit = let h = stack-inside os fs c back fit.2 in omega (arith, h)

pub has-stack : (old front : List Filled) (c : Filled) (back : List Filled) (d : Filled) → FitBehind old (front ++ c ∷ back) → d ≡ get_or (behind_each old front) (length front) d → HasStack old front c d
has-stack [] [] c back d fit is = absurd fit
has-stack [] (f ∷ fs) c back d fit is = absurd fit
has-stack (o ∷ os) [] c back d fit is = record { inside = omega arith; kind = fit.0 ∙ ap (λ (x : Filled). x.kind) (sym is); room = rw is fit.1 }
has-stack (o ∷ os) (f ∷ fs) c back d fit is =
    let h = has-stack os fs c back d fit.2 is in
    let lt = h.inside in
    record { inside = omega (arith, lt); kind = h.kind; room = h.room }

-- what the stacks are with that column
pub put-next : (old front : List Filled) (c : Filled) (back : List Filled) (d : Filled) → FitBehind old (front ++ c ∷ back) → d ≡ get_or (behind_each old front) (length front) d
    → set (behind_each old front) (length front) (record d { values = d.values ++ c.values }) ≡ behind_each old (front ++ c ∷ [])
put-next [] [] c back d fit is = absurd fit
put-next [] (f ∷ fs) c back d fit is = absurd fit
put-next (o ∷ []) [] c back d fit is = rw is refl
put-next (o ∷ p ∷ os) [] c back d fit is = rw is refl
put-next (o ∷ os) (f ∷ fs) c back d fit is = ap (λ t. record o { values = o.values ++ f.values } ∷ t) (put-next os fs c back d fit.2 is)

-- ---- one column of a part after the other

pub yields : {A : Type 0} (front : List A) (x : A) (rest next all : List A) → front ++ rest ≡ all → rest ≡ x ∷ next → all ≡ front ++ x ∷ next
yields front x rest next all whole is = sym whole ∙ ap (λ t. front ++ t) is

pub yields-next : {A : Type 0} (front : List A) (x : A) (rest next all : List A) → front ++ rest ≡ all → rest ≡ x ∷ next → (front ++ x ∷ []) ++ next ≡ all
yields-next front x rest next all whole is = append_assoc front (x ∷ []) next ∙ sym (yields front x rest next all whole is)

pub yields-all : {A : Type 0} (front rest all : List A) → front ++ rest ≡ all → length rest ≡ 0 → front ≡ all
yields-all front [] all whole none = sym (append-nil front) ∙ whole
yields-all front (x ∷ rest) all whole none = absurd (omega (arith, none))

-- the column that is at turn has a stack
pub stack-here : (old columns front now next rest : List Filled) (c d : Filled) (k : ℕ) → FitBehind old columns → now ≡ behind_each old front → front ++ rest ≡ columns → k ≡ length front → rest ≡ c ∷ next → d ≡ get_or now k d → HasStack old front c d
stack-here old columns front now next rest c d k fit now_is whole place is here =
    has-stack old front c next d (subst (FitBehind old) (yields front c rest next columns whole is) fit) (here ∙ ap (λ t. get_or t k d) now_is ∙ ap (λ n. get_or (behind_each old front) n d) place)

-- with it the stack is longer
pub stack-next : (old columns front now next rest : List Filled) (c d new : Filled) (k : ℕ) → FitBehind old columns → now ≡ behind_each old front → front ++ rest ≡ columns → k ≡ length front → rest ≡ c ∷ next → d ≡ get_or now k d
    → new ≡ record d { values = d.values ++ c.values } → set now k new ≡ behind_each old (front ++ c ∷ [])
stack-next old columns front now next rest c d new k fit now_is whole place is here more =
    ap (λ t. set t k new) now_is ∙ ap (λ n. set (behind_each old front) n new) place ∙ ap (set (behind_each old front) (length front)) more
    ∙ put-next old front c next d (subst (FitBehind old) (yields front c rest next columns whole is) fit) (here ∙ ap (λ t. get_or t k d) now_is ∙ ap (λ n. get_or (behind_each old front) n d) place)

-- ---- the columns of records behind those of other records

columns-behind : (at : ℕ) (rules : List Rule) (a b : List Fields) → behind_each (columns_from at rules a) (columns_from at rules b) ≡ columns_from at rules (a ++ b)
columns-behind at [] a b = refl
columns-behind at (p ∷ ps) a b = rw (columns-behind (at + 1) ps a b, map-append) refl

columns-fit : (at : ℕ) (rules : List Rule) (a b : List Fields) → length a + length b < 4294967296 → FitBehind (columns_from at rules a) (columns_from at rules b)
columns-fit at [] a b lt = tt
columns-fit at (p ∷ ps) a b lt = (refl, rw (length-map, length-map) lt, columns-fit (at + 1) ps a b lt)

-- the parts so far are in their stacks, and these are left
pub record AreStacked (rules : List Rule) (lists : List (List Fields)) (stacks : List Filled) (rest : List (List Filled)) : Type 0 where
  pub front : List (List Fields)
  pub back : List (List Fields)
  pub split : lists ≡ front ++ back
  pub stacks_are : stacks ≡ columns_of rules (all_in front)
  pub rest_are : rest ≡ map (columns_of rules) back

-- the next part, whose columns are those of a list of records
record IsNextPart (rules : List Rule) (part : List Filled) (rest : List (List Filled)) (back : List (List Fields)) : Type 0 where
  list : List Fields
  more : List (List Fields)
  split : back ≡ list ∷ more
  part_is : part ≡ columns_of rules list
  rest_are : rest ≡ map (columns_of rules) more

next-part : (rules : List Rule) (part : List Filled) (rest : List (List Filled)) (back : List (List Fields)) → part ∷ rest ≡ map (columns_of rules) back → IsNextPart rules part rest back
next-part rules part rest [] e = cc e
next-part rules part rest (b ∷ bs) e = record { list = b; more = bs; split = refl; part_is = cc; rest_are = cc }

all-next : (front : List (List Fields)) (list : List Fields) → all_in (front ++ list ∷ []) ≡ all_in front ++ list
all-next front list = flat_map-append (λ rs. rs) front (list ∷ []) ∙ ap (λ t. all_in front ++ t) (append-nil list)

few-next : (front : List (List Fields)) (list : List Fields) (more : List (List Fields)) (m : ℕ) → length (all_in (front ++ list ∷ more)) < m → length (all_in front) + length list < m
few-next front list more m lt =
    let all : all_in (front ++ list ∷ more) ≡ all_in front ++ (list ++ all_in more) = flat_map-append (λ rs. rs) front (list ∷ more) in
    let n = ap length all in
    let a = length-append (all_in front) (list ++ all_in more) in
    let b = length-append list (all_in more) in
    omega (arith, n, a, b, lt)

pub stacked-fits : (rules : List Rule) (lists : List (List Fields)) (stacks part : List Filled) (rest : List (List Filled)) (parts : List (List Filled)) → AreColumnsOf rules parts lists → AreStacked rules lists stacks (part ∷ rest) → FitBehind stacks part
stacked-fits rules lists stacks part rest parts are h =
    let next = next-part rules part rest h.back h.rest_are in
    let few = are.few in
    let split : lists ≡ h.front ++ next.list ∷ next.more = h.split ∙ ap (λ t. h.front ++ t) next.split in
    rw (h.stacks_are, next.part_is) (columns-fit 0 rules (all_in h.front) next.list (few-next h.front next.list next.more 4294967296 (rw split at few)))

pub stacked-next : (rules : List Rule) (lists : List (List Fields)) (stacks now part : List Filled) (rest : List (List Filled)) → AreStacked rules lists stacks (part ∷ rest) → now ≡ behind_each stacks part → AreStacked rules lists now rest
stacked-next rules lists stacks now part rest h is =
    let next = next-part rules part rest h.back h.rest_are in
    record {
      front = h.front ++ next.list ∷ [];
      back = next.more;
      split = h.split ∙ ap (λ t. h.front ++ t) next.split ∙ sym (append_assoc h.front (next.list ∷ []) next.more);
      stacks_are = is ∙ ap (λ t. behind_each t part) h.stacks_are ∙ ap (behind_each (columns_of rules (all_in h.front))) next.part_is ∙ columns-behind 0 rules (all_in h.front) next.list ∙ ap (columns_of rules) (sym (all-next h.front next.list));
      rest_are = next.rest_are;
    }

none-back : (rules : List Rule) (back : List (List Fields)) → map (columns_of rules) back ≡ [] → back ≡ []
none-back rules [] e = refl
none-back rules (b ∷ bs) e = cc e

pub stacked-all : (rules : List Rule) (lists : List (List Fields)) (stacks : List Filled) (rest : List (List Filled)) → AreStacked rules lists stacks rest → rest ≡ [] → stacks ≡ columns_of rules (all_in lists)
stacked-all rules lists stacks rest h none = h.stacks_are ∙ ap (λ ls. columns_of rules (all_in ls)) (sym (h.split ∙ ap (λ t. h.front ++ t) (none-back rules h.back (sym h.rest_are ∙ none)) ∙ append-nil h.front))

pub no-more : {A : Type 0} (rest : List A) → length rest ≡ 0 → rest ≡ []
no-more [] none = refl
no-more (x ∷ rest) none = absurd (omega (arith, none))

pub no-part : {A B : Type 0} (f : A → B) (rest : List A) → length rest ≡ 0 → map f rest ≡ []
no-part f rest none = ap (map f) (no-more rest none)

-- ---- the joined columns

pub joined-each : (ss : List Filled) (rs : List Joining) → length rs ≡ length ss → ((i : ℕ) (d : Joining) → i < length ss → Joins (get_or (map now.Parts ss) i d) (get_or rs i d)) → AreJoined ss rs
joined-each [] [] len h = tt
joined-each [] (r ∷ rs) len h = cc len
joined-each (s ∷ ss) [] len h = cc len
joined-each (s ∷ ss) (r ∷ rs) len h = (h 0 r (omega arith), joined-each ss rs (omega (arith, len)) (λ i d lt. h (suc i) d (omega arith)))

-- the columns so far, and those that are left
pub record AreCollected (stacks columns : List Filled) (rest : List Joining) : Type 0 where
  pub back : List Filled
  pub split : stacks ≡ columns ++ back
  pub joined : AreJoined back rest

next-collected : (stacks columns : List Filled) (c : Filled) (rest : List Joining) (back : List Filled) → stacks ≡ columns ++ back → AreJoined back (now.Column c ∷ rest) → AreCollected stacks (columns ++ c ∷ []) rest
next-collected stacks columns c rest [] split joined = absurd joined
next-collected stacks columns c rest (b ∷ bs) split joined = record { back = bs; split = split ∙ ap (λ t. columns ++ t ∷ bs) (sym joined.0) ∙ sym (append_assoc columns (c ∷ []) bs); joined = joined.1 }

pub collected-next : (stacks columns : List Filled) (c : Filled) (rest : List Joining) → AreCollected stacks columns (now.Column c ∷ rest) → AreCollected stacks (columns ++ c ∷ []) rest
collected-next stacks columns c rest h = next-collected stacks columns c rest h.back h.split h.joined

none-joined : (back : List Filled) (rs : List Joining) → rs ≡ [] → AreJoined back rs → back ≡ []
none-joined [] rs e j = refl
none-joined (b ∷ bs) [] e j = absurd j
none-joined (b ∷ bs) (r ∷ rs) e j = cc e

pub collected-all : (stacks columns : List Filled) (rest : List Joining) → AreCollected stacks columns rest → rest ≡ [] → columns ≡ stacks
collected-all stacks columns rest h none = sym (h.split ∙ ap (λ t. columns ++ t) (none-joined h.back rest none h.joined) ∙ append-nil columns)

-- ---- the table of parts

-- the columns of some records are a table
pub columns-table : (rules : List Rule) (rs : List Fields) (columns : List Filled) → columns ≡ columns_of rules rs → 0 < length rules → (0 < length columns) × AreLong (rows_in columns) columns
columns-table rules rs columns is some = rw is (sized-table (length rs) rules (columns_of rules rs) (columns-sized 0 rules rs) some)

-- under the rules of the table that they are parts of
pub parts-under : (t : TableIntake) (rules : List Rule) (m : ℕ) (parts : List (List Filled)) (records : List Fields) → subject_of t ≡ table rules m → AreParts t.rules.items t.max_rows parts records → AreParts rules m parts records
parts-under t rules m parts records is h = rw (rules-are t rules m is, limit-is t rules m is) at h

pub columns-of-parts : (rules : List Rule) (m : ℕ) (parts : List (List Filled)) (records : List Fields) (h : AreParts rules m parts records) → m < 4294967296 → AreColumnsOf rules parts h.lists
columns-of-parts rules m parts records h lt =
    let le = good-few rules m records h.clean in
    let n = ap length h.split in
    record { columns = h.columns; few = omega (arith, le, n, lt) }

pub loads-parts : (rules : List Rule) (m : ℕ) (parts : List (List Filled)) (records : List Fields) (columns : List Filled) (h : AreParts rules m parts records) → columns ≡ columns_of rules (all_in h.lists) → Loads rules m records (Ok columns)
loads-parts rules m parts records columns h is = rw (h.clean, is, ← h.split) refl

pub lawful-parts : (rules : List Rule) (m : ℕ) (parts : List (List Filled)) (records : List Fields) (columns : List Filled) (h : AreParts rules m parts records) → HasOneKey rules → columns ≡ columns_of rules (all_in h.lists) → IsLawful rules m columns
lawful-parts rules m parts records columns h one is = lawful rules m records columns one h.clean (is ∙ ap (columns_of rules) (sym h.split))
