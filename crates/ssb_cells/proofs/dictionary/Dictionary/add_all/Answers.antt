use Rattle.std.proofs.Common.{◌∙◌, length, take, sym, ap, arith}
use Rattle.std.proofs.lemmas.List.{length-take-le}
use Rattle.std.proofs.lemmas.Option.{slice_get_within}
use Rattle.ssb_cells.specs.Codes.{with_text}
use Rattle.ssb_cells.specs.Cell.{text}
use Rattle.ssb_cells.specs.Joined.{with_texts}
use Rattle.ssb_cells.proofs.JoinFacts.{length-both, recodes-more, with-one}
use Rattle.ssb_packed.proofs.Loops.{one-more}
use Rattle.ssb_cells.proofs.dictionary.Dictionary.add_all.Goals as goal

pub place_of-requires : goal.place_of-requires
place_of-requires c =
    let texts = c.args.other.now in
    let front = take c.loop-place.place texts in
    let lt = slice_get_within texts c.loop-place.place c.spelt.result.now c.spelt.ensures in
    let many = length-both c.args.self.now front in
    let long = length-take-le c.loop-place.place texts (omega (arith, lt)) in
    let now = ap length c.loop-place.invariant.texts in
    let room = c.requires in
    omega (arith, lt, many, long, now, room)

pub loop-place-preserved : goal.loop-place-preserved
loop-place-preserved c =
    let t = c.spelt.result.now in
    let front = take c.loop-place.place c.args.other.now in
    let more = one-more c.args.other.now c.loop-place.place t c.spelt.ensures in
    let texts = c.in_ok-place_of.ensures.texts in
    let place = c.in_ok-place_of.ensures.place in
    record {
      texts = texts ∙ ap (λ ts. with_text ts (text t)) c.loop-place.invariant.texts ∙ sym (ap (with_texts c.args.self.now) more ∙ with-one c.args.self.now front t);
      places = rw (c.in_ok-push.ensures.items, place, more, texts) (recodes-more c.loop-place.places.items front c.loop-place.self t c.loop-place.invariant.places);
    }
