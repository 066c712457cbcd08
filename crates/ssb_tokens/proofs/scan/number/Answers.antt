use Rattle.std.proofs.Common.{◌^◌, sym, ◌∙◌, arith, min}
use Rattle.std.specs.Char.{is_ascii_digit}
use Rattle.ssb_tokens.specs.Tokens.{value_from}
use Rattle.ssb_tokens.specs.Scanning.{run}
use Rattle.ssb_tokens.proofs.ScanSteps.{takes, ends, number_goes, number_ends}
use Rattle.ssb_tokens.proofs.scan.number.Goals as goal

pub loop-byte-preserved : goal.loop-byte-preserved
loop-byte-preserved c =
    let l = c.loop-byte in
    let t = takes is_ascii_digit l.rest.now c.in-Some.after.now c.in-Some.byte (sym c.in-Some.ensures) in
    record {
      value = rw (c.min-value.ensures, c.from.ensures) (number_goes l.value c.saturating_sub.result (2 ^ 63) l.rest.now c.in-Some.after.now c.in-Some.byte (min (value_from 0 (run is_ascii_digit c.args.bytes.now)) (2 ^ 63)) c.saturating_sub.ensures t l.invariant.value);
      rest = sym t.past ∙ l.invariant.rest;
      small = omega (arith, c.min-value.ensures);
    }

pub returns-clause-value : goal.returns-clause-value
returns-clause-value c = number_ends c.loop-byte.value (2 ^ 63) c.loop-byte.rest.now (min (value_from 0 (run is_ascii_digit c.args.bytes.now)) (2 ^ 63)) c.loop-byte.invariant.small (ends is_ascii_digit c.loop-byte.rest.now (sym c.in_default.ensures)) c.loop-byte.invariant.value

pub returns-clause-rest : goal.returns-clause-rest
returns-clause-rest c = let e = ends is_ascii_digit c.loop-byte.rest.now (sym c.in_default.ensures) in sym e.past ∙ c.loop-byte.invariant.rest
