use Rattle.std.proofs.Common.{◌≡◌, Ok, None, sym, subst, ◌∙◌, ap, rules}
use Rattle.ssb_rows.specs.Entries.{found_rows, width_of}
use Rattle.ssb_rows.specs.Kept.{keyed_rows}
use Rattle.ssb_rows.specs.Order.{IsOrdered}
use Rattle.ssb_rows.specs.Result.{Answers}
use Rattle.ssb_rows.proofs.Bridge.{ordered, refused}
use Rattle.ssb_rows.proofs.rows_of.answer_of.Goals as goal

pub returns-in-Err : goal.returns-in-Err
returns-in-Err c = λ R stands keyed.
    let none : c.args.groups.overflow ≡ None = sym c.overflow.ensures ∙ c.in_default.is in
    refused c.args.parts.now c.args.groups R c.in-Err.fault stands none c.requires keyed c.in-Err.ensures.err

pub returns-in-Ok-in_order : goal.returns-in-Ok-in_order
returns-in-Ok-in_order c = λ R stands keyed.
    let q = c.args.parts.now in
    let found = c.in-Ok.found in
    let sorted_keys = c.sort_rows.new.keys.items in
    let none : c.args.groups.overflow ≡ None = sym c.overflow.ensures ∙ c.in_default.is in
    let keys : c.as_slice.result.now ≡ q.orders = search rules in
    let width : c.len-width.result ≡ width_of q = search rules in
    let sorted : IsOrdered q.orders (found_rows q found) (keyed_rows found.cells (width_of q) sorted_keys) =
    subst (λ ks. IsOrdered ks (found_rows q found) (keyed_rows found.cells (width_of q) sorted_keys)) keys
    (subst (λ w. IsOrdered c.as_slice.result.now (keyed_rows found.cells w found.keys.items) (keyed_rows found.cells w sorted_keys)) width c.sort_rows.ensures.order) in
    let rows = c.new.ensures ∙ c.in-Ok-in_order.ensures ∙ ap (λ w. keyed_rows found.cells w sorted_keys) width in
    subst (λ rows. Answers q R (Ok rows)) (sym rows)
    (ordered q c.args.groups R (found_rows q found) (keyed_rows found.cells (width_of q) sorted_keys) stands none c.requires keyed c.in-Ok.ensures.ok.0 c.in-Ok.ensures.ok.1 sorted)
