use Rattle.std.proofs.Common.{◌≡◌, ◌∙◌, ◌++◌, ap, append_assoc, codes, map, rules, string_bytes}
use Rattle.std.proofs.lemmas.Result.{on_ok_weaker}
use Rattle.ssb_explain.specs.Explained as spec
use Rattle.ssb_explain.proofs.lines.Shown.put_answer.Goals as goal

pub returns : goal.returns
returns c =
    let catalog = c.args.self.catalog.now in
    let j = c.args.self.job.now in
    let old = string_bytes c.args.out.now in
    let groups = spec.list_line (codes "groups") (map (spec.named catalog j.query) j.query.groups) in
    let batch = spec.batch_line (spec.group_count j) in
    let rest = spec.grouped_text catalog j.query in
    let names : map string_bytes c.deref.result.now ≡ map (spec.named catalog j.query) j.query.groups = search rules in
    let one : string_bytes c.put_list.new.out ≡ old ++ groups = c.in_ok-put_list.ensures ∙ ap (λ texts. old ++ spec.list_line (codes "groups") texts) names in
    let two : string_bytes c.put_batch.new.out ≡ (old ++ groups) ++ batch = c.in_ok-put_batch.ensures ∙ ap (λ n. string_bytes c.put_list.new.out ++ spec.batch_line n) c.group_count.ensures ∙ ap (λ s. s ++ batch) one in
    on_ok_weaker c.put_grouped.result (λ e. e ∙ ap (λ s. s ++ rest) two ∙ append_assoc (old ++ groups) batch rest ∙ append_assoc old groups (batch ++ rest)) c.put_grouped.ensures
