use Rattle.std.proofs.Common.{◌≡◌, ◌-◌, ◌++◌, ◌∙◌, ◌<◌, ◌≤◌, sym, ap, take, true, drop, arith, length, length-append, length-drop}
use Rattle.std.proofs.lemmas.Bool.{false≢true}
use Rattle.std.proofs.lemmas.List.{length-take, with_items_is}
use Rattle.ssb_records.proofs.Cutting.{read-since, ended-more}
use Rattle.ssb_records.proofs.pieces.Pieces.read.Goals as goal

pub returns-in-Ok-clause-follows : goal.returns-in-Ok-clause-follows
returns-in-Ok-clause-follows g c =
    let b = c.deref_mut.result.now in
    let f = c.args.self.now.filled in
    let inside : f ≤ length b = omega arith in
    let long : length (take f b ++ (c.read.new.room ++ drop (length b - f) (drop f b))) ≡ c.args.self.now.buffer.len = simp (length-append, length-take, length-drop) (omega arith) in
    let told = c.requires.follows.told ∙ ap (λ w. g.S.Source.given c.args.self.now.begun.value ++ (c.args.self.now.done.items ++ drop c.args.self.now.cut (take f w))) (sym c.deref_mut.ensures.value) in
    let going : c.args.self.now.failed ≡ true → ⊥ = λ f. false≢true (sym c.requires.stopped ∙ c.requires.follows.stops f) in
    record {
      told = read-since _ _ _ _ _ _ _ _ _ _ _ c.requires.cut inside c.in-Ok.ensures.bound told c.in-Ok.ensures.given (with_items_is c.args.self.now.buffer _ long);
      over = λ e whole. let room : 0 < length c.read.new.room = omega arith in ended-more _ _ _ _ _ e room c.requires.follows.forth.1 c.in-Ok.ensures.ends;
      broken = λ f. absurd (going f);
      forth = (let a = c.requires.follows.forth.0 in let b = c.in-Ok.ensures.failures in omega (arith, a, b), let a = c.requires.follows.forth.1 in let b = c.in-Ok.ensures.ends in omega (arith, a, b));
      stops = λ f. absurd (going f);
    }
