use Rattle.std.proofs.Common.{sym, ◌∙◌}
use Rattle.ssb_terms.specs.Names.{is_word_byte}
use Rattle.ssb_tokens.proofs.ScanSteps.{ends, takes}
use Rattle.ssb_tokens.proofs.scan.past_word.Goals as goal

pub loop-byte-preserved : goal.loop-byte-preserved
loop-byte-preserved c =
    let t = takes is_word_byte c.loop-byte.rest.now c.in-Some.after.now c.in-Some._byte (sym c.in-Some.ensures) in
    sym t.past ∙ c.loop-byte.invariant

pub returns : goal.returns
returns c = let e = ends is_word_byte c.loop-byte.rest.now (sym c.in_default.ensures) in sym e.past ∙ c.loop-byte.invariant
