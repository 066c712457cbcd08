use Rattle.std.proofs.Common.{◌∙◌, ◌+◌, ◌∷◌, [], length, take, min, vec_len, sym, ap, arith, length-append}
use Rattle.ssb_statements.proofs.Steps.{kept-more}
use Rattle.ssb_statements.proofs.prefix.Prefix.put.Goals as goal

pub invariant_of-self : goal.invariant_of-self
invariant_of-self c =
    let s = c.args.self.now in
    let long = sym s.kept.ok.0 in
    let more = ap length c.and-self.ensures ∙ length-append s.all.items (c.args.byte ∷ []) in
    let room = c.len.ensures ∙ c.store.ensures.len in
    record {
      counted = omega (arith, c.min-self.ensures, more, s.counted, room, c.store.ensures.len);
      same = ap (λ n. take n c.store.new.text.items) (c.min-self.ensures ∙ ap (λ r. min (s.count + 1) (r + 1)) room) ∙ ap (λ t. take (min (s.count + 1) (vec_len s.kept + 1)) t) c.store.ensures.items
          ∙ kept-more (vec_len s.kept) s.count c.args.byte s.kept.items s.all.items long s.counted s.same ∙ ap (λ t. take (vec_len s.kept) t) (sym c.and-self.ensures) ∙ ap (λ r. take r c.and-self.result.items) (sym c.store.ensures.len);
    }
