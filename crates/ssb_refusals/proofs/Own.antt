-- What a hold of a part brings back, where nothing comes back in it.
use Rattle.std.proofs.Common.{◌≡◌, ◌∙◌, true, false, sym, ap, true≢false}
use Rattle.ssb_pipeline.specs.Part.{PartState, has}
use Rattle.ssb_pipeline.specs.Rule.{BringsOwn, Knows, taker}

-- the same numbers as before came back and were given up
pub same-own : (v : Knows) (x q : PartState) → q.returned ≡ x.returned → q.given ≡ x.given → BringsOwn (taker v x) q
same-own v x q a b = record {
  returned = λ i is old. absurd (true≢false (sym is ∙ ap (λ l. has l i) a ∙ old));
  given = λ i is old. absurd (true≢false (sym is ∙ ap (λ l. has l i) b ∙ old));
}
