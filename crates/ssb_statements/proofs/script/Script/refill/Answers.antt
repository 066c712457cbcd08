use Rattle.std.proofs.Common.{◌≡◌, ◌∙◌, ◌++◌, [], ap, arith, drop, length, refl, sym, take}
use Rattle.std.proofs.lemmas.List.{append-nil, with_items_is}
use Rattle.ssb_statements.proofs.Finding.{none-behind}
use Rattle.ssb_statements.proofs.Giving.{none-read, not-none, waits}
use Rattle.ssb_statements.specs.ScriptParts.{unread}
use Rattle.ssb_statements.proofs.script.Script.refill.Goals as goal

pub returns-then-self : goal.returns-then-self
returns-then-self g c =
    let s = c.self.inside in
    rw (← c.self.view_is) (record {
      fresh = [];
      given = sym (append-nil (g.S.Source.given s.input.source));
      bytes = sym (append-nil (unread s));
      over = λ e. absurd (not-none (unread s) (waits s.at s.end s.piece.items c.if-self.true (omega (arith, c.self.invariant.held, s.piece.ok.0))) e);
      failures = omega arith;
      same = refl;
      line = refl;
      ends = refl;
      met = s.input.over;
      quiet = λ h. (refl, h);
    })

pub returns : goal.returns
returns g c =
    let s = c.self.inside in
    let spent : s.at ≡ s.end = omega (arith, c.self.invariant.inside, c.if-self.false) in
    let none : unread s ≡ [] = ap (λ a. drop a (take s.end s.piece.items)) spent ∙ none-behind s.end s.piece.items in
    let r = c.in_ok-count.ensures in
    let count = c.in_ok-count.count in
    let fresh = take count c.read.new.room in
    let long : length c.read.new.room ≡ s.piece.len = omega (arith, c.read.auto.room, c.deref_mut.ensures.len) in
    let filled = with_items_is s.piece c.read.new.room long in
    rw (← c.self.view_is) (record {
      fresh = fresh;
      given = r.given;
      bytes = ap (take count) filled ∙ ap (λ w. w ++ fresh) (sym none);
      over = λ e. r.ended ∙ none-read count c.read.new.room r.bound (sym (ap (take count) filled) ∙ e);
      failures = omega (arith, r.failures);
      same = refl;
      line = refl;
      ends = refl;
      met = c.read.new.self.over;
      quiet = r.quiet;
    })
