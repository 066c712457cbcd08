use Rattle.std.proofs.Common.{◌≡◌, ◌∙◌, ◌+◌, ◌*◌, ◌++◌, [], ◌∷◌, get_or, map, take, sym, ap, ap₂, subst, arith}
use Rattle.std.proofs.lemmas.List.{map-append, take_more}
use Rattle.ssb_keys.specs.Domains.{radix, size}
use Rattle.ssb_groups.specs.Keys.{AreLawful, domain_of}
use Rattle.ssb_groups.proofs.ColumnFacts.{nowhere}
use Rattle.ssb_groups.proofs.ValueDomains.{all-at, first-fewer, lawful-append, one-more-than, size-append}
use Rattle.ssb_groups.proofs.domains.domains_of.Goals as goal

pub domain_of-requires-clause-column : goal.domain_of-requires-clause-column
domain_of-requires-clause-column c = all-at c.args.tables.now c.args.columns.now c.loop-at.at nowhere c.requires.columns c.loop-at-test.true

pub returns-in_default : goal.returns-in_default
returns-in_default c =
    let inv = c.loop-at.invariant in
    one-more-than c.args.tables.now c.args.columns.now c.loop-at.at c.loop-at.size 4611686018427387904 nowhere c.loop-at-test.true (inv.1 ∙ ap size inv.0) c.in_default.ensures.none

pub returns-then-size-from : goal.returns-then-size-from
returns-then-size-from c =
    let inv = c.loop-at.invariant in
    let few = first-fewer c.args.tables.now c.args.columns.now c.loop-at.at c.loop-at.size nowhere c.loop-at-test.true (inv.1 ∙ ap size inv.0) in
    let same = ap (λ n. c.loop-at.size * n) (c.from-size.ensures ∙ c.radix.ensures ∙ ap radix c.in-Some.ensures.some) in
    omega (arith, few, same, c.if-size-from.true, c.from.ensures)

pub loop-at-preserved : goal.loop-at-preserved
loop-at-preserved c =
    let f = domain_of c.args.tables.now in
    let rs = c.args.columns.now in
    let i = c.loop-at.at in
    let inv = c.loop-at.invariant in
    let more : map f (take (i + 1) rs) ≡ map f (take i rs) ++ f (get_or rs i nowhere) ∷ [] = ap (map f) (take_more rs i nowhere c.loop-at-test.true) ∙ map-append f (take i rs) (get_or rs i nowhere ∷ []) in (
      c.in_ok-push.ensures.items ∙ ap₂ (λ xs x. xs ++ x ∷ []) inv.0 c.in-Some.ensures.some ∙ sym more,
      ap₂ (λ n m. n * m) inv.1 (c.from-size.ensures ∙ c.radix.ensures) ∙ sym (size-append c.loop-at.domains.items c.in-Some.domain) ∙ ap size (sym c.in_ok-push.ensures.items),
      omega (arith, c.if-size-from.false, c.from.ensures),
      subst AreLawful (sym c.in_ok-push.ensures.items) (lawful-append c.loop-at.domains.items c.in-Some.domain inv.3 c.in-Some.ensures.lawful),
    )
