use Rattle.std.proofs.Common.{◌≡◌, ◌∙◌, ◌+◌, ◌≤◌, length, map, ap, sym, subst, rules}
use Rattle.std.specs.Vec.{with_items}
use Rattle.std.proofs.lemmas.List.{length-map, with_items_is}
use Rattle.std.proofs.lemmas.List.Elements.{All-map}
use Rattle.std.proofs.lemmas.List.Sorted.{All-permutation, ranks_by}
use Rattle.std.proofs.lemmas.Fn.{always_returns_same}
use Rattle.std.specs.List.Sorted.{IsPermutation}
use Rattle.std.specs.Ordering.{is_lt}
use Rattle.ssb_rows.specs.Kept.{AreWithin}
use Rattle.ssb_rows.specs.Leads.{key_cmp, with_lead}
use Rattle.ssb_rows.specs.declared.order.SortKey.{SortKey}
use Rattle.ssb_rows.proofs.LeadFacts.{key_total, ordered}
use Rattle.ssb_rows.proofs.order.sort_rows.Goals as goal

pub returns-clause-order : goal.returns-clause-order
returns-clause-order c =
    let by = c.args.by.now in
    let cells = c.args.cells.now in
    let width = c.args.width in
    let f = with_lead by cells width in
    let led = c.set_leads.new.keys in
    let was = c.as_mut_slice.ensures.value in
    let size = c.as_mut_slice.ensures.len in
    let is : led ≡ map f c.args.keys.now.items = c.set_leads.ensures ∙ ap (map f) was in
    let many : length led ≡ c.args.keys.now.len = ap length c.set_leads.ensures ∙ length-map c.as_mut_slice.result.now f ∙ size in
    let written : (with_items c.args.keys.now led).items ≡ led = with_items_is c.args.keys.now led many in
    ordered by cells width c.args.keys.now.items led c.sort_unstable_by.new.self.items is (subst (λ ks. IsPermutation ks c.sort_unstable_by.new.self.items) written c.sort_unstable_by.ensures.permutation)
    (c.sort_unstable_by.ensures.sorted (λ a b. is_lt (key_cmp by cells width a b)) (ranks_by (key_total by cells width) (λ (k : SortKey). k)) (always_returns_same _ _ _ (λ a r q h. search rules)))

pub returns-clause-within : goal.returns-clause-within
returns-clause-within c = λ within.
    let cells = c.args.cells.now in
    let width = c.args.width in
    let f = with_lead c.args.by.now cells width in
    let led = c.set_leads.new.keys in
    let was = c.as_mut_slice.ensures.value in
    let many : length led ≡ c.args.keys.now.len = ap length c.set_leads.ensures ∙ length-map c.as_mut_slice.result.now f ∙ c.as_mut_slice.ensures.len in
    let written : (with_items c.args.keys.now led).items ≡ led = with_items_is c.args.keys.now led many in
    let is : led ≡ map f c.args.keys.now.items = c.set_leads.ensures ∙ ap (map f) was in
    All-permutation (λ (k : SortKey). k.from + width ≤ length cells) led c.sort_unstable_by.new.self.items (subst (λ ks. IsPermutation ks c.sort_unstable_by.new.self.items) written c.sort_unstable_by.ensures.permutation)
    (subst (AreWithin cells width) (sym is) (All-map (λ (k : SortKey). k.from + width ≤ length cells) f c.args.keys.now.items within))
