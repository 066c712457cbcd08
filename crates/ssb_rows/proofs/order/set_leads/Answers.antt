use Rattle.std.proofs.Common.{◌≡◌, ◌∙◌, ◌+◌, get_or, length, map, take, drop, sym, ap, arith, length-append}
use Rattle.std.proofs.lemmas.List.{length-drop, length-map, length-take}
use Rattle.std.proofs.lemmas.Option.{get_or_from_slice_get, slice_get-get_or}
use Rattle.std.specs.List.{slice_set}
use Rattle.std.proofs.lemmas.List.Edits.{map_over_more}
use Rattle.ssb_rows.specs.Leads.{lead, with_lead}
use Rattle.ssb_rows.specs.declared.order.SortKey.{SortKey}
use Rattle.ssb_rows.proofs.order.set_leads.Goals as goal

pub loop-at-preserved : goal.loop-at-preserved
loop-at-preserved c =
    let by = c.args.by.now in
    let cells = c.args.cells.now in
    let width = c.args.width in
    let keys = c.loop-at.keys in
    let at = c.loop-at.at in
    let key : SortKey = get_or keys at (record { lead = 0; from = 0 }) in
    let led : record { lead = c.lead.result; from = key.from } ≡ with_lead by cells width key = ap (λ n. record { lead = n; from = key.from }) (c.lead.ensures ∙ ap (lead by) c.new.ensures) in
    let f = with_lead by cells width in
    let so_far = c.loop-at.invariant in
    let many : length keys ≡ length c.args.keys.now = ap length so_far ∙ length-append (map f (take at c.args.keys.now)) (drop at c.args.keys.now) ∙ ap (λ n. n + length (drop at c.args.keys.now)) (length-map (take at c.args.keys.now) f)
    ∙ omega (arith, length-take at c.args.keys.now, length-drop at c.args.keys.now, c.loop-at-test.true) in
    let same : key ≡ get_or keys at key = sym (get_or_from_slice_get keys at key key (slice_get-get_or keys at (record { lead = 0; from = 0 }) (omega (arith, many, c.loop-at-test.true)))) in
    ap (slice_set keys at) led ∙ map_over_more (with_lead by cells width) c.args.keys.now keys at key c.loop-at-test.true c.loop-at.invariant same
