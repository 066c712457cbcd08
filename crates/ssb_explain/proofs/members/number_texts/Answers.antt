use Rattle.std.proofs.Common.{◌≡◌, ◌∙◌, ◌-◌, IfOk, None, length, map, min, string_bytes, take, ap, subst, arith}
use Rattle.ssb_explain.specs.Members.{interval_text, intervals_from, intervals_of, together}
use Rattle.ssb_explain.proofs.MemberFacts.{shown-first}
use Rattle.ssb_explain.proofs.members.number_texts.Goals as goal

pub returns : goal.returns
returns c =
    let s = c.args.set.now in
    let vs = intervals_of s in
    let count = c.min-count.result in
    let same : c.in_ok-intervals.intervals.items ≡ vs = c.in_ok-intervals.ensures ∙ ap (intervals_from s.first None) c.deref.ensures.value in
    let all : c.len-2.result ≡ length vs = omega (arith, c.len-2.ensures, c.deref-2.ensures.len, ap length (c.deref-2.ensures.value ∙ same)) in
    let first : count ≡ min c.len-2.result 8 = omega (arith, c.min-count.ensures, c.len.ensures, c.len-2.ensures) in
    let texts : map string_bytes c.deref-3.result.now ≡ map interval_text (take count vs) =
    ap (map string_bytes) c.deref-3.ensures.value ∙ c.in_ok-texts.ensures ∙ ap (λ xs. map interval_text (take count xs)) (c.deref-2.ensures.value ∙ same) in
    subst (λ t. IfOk c.together.result (λ all. map string_bytes all.items ≡ t)) (ap (λ ts. together ts (c.len-2.result - count)) texts ∙ shown-first interval_text vs count c.len-2.result all first) c.together.ensures
