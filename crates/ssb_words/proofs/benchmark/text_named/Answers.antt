use Rattle.std.proofs.Common.{◌≡◌, ℕ, List, sym, ap}
use Rattle.std.specs.Map.{lookup}
use Rattle.std.specs.Str.{bytes_eq}
use Rattle.ssb_words.specs.Benchmark.{named_texts}
use Rattle.ssb_words.proofs.benchmark.text_named.Goals as goal

-- a name has the text that stands beside a name equal to it
same_text : {name equal : List ℕ} → name ≡ equal → lookup (bytes_eq equal) named_texts ≡ lookup (bytes_eq name) named_texts
same_text same = sym (ap (λ name. lookup (bytes_eq name) named_texts) same)

pub returns-in-text : goal.returns-in-text
returns-in-text c = same_text c.in-text.is

pub returns-in-text-2 : goal.returns-in-text-2
returns-in-text-2 c = same_text c.in-text-2.is

pub returns-in-text-3 : goal.returns-in-text-3
returns-in-text-3 c = same_text c.in-text-3.is

pub returns-in-text-4 : goal.returns-in-text-4
returns-in-text-4 c = same_text c.in-text-4.is

pub returns-in-text-5 : goal.returns-in-text-5
returns-in-text-5 c = same_text c.in-text-5.is

pub returns-in-text-6 : goal.returns-in-text-6
returns-in-text-6 c = same_text c.in-text-6.is

pub returns-in-text-7 : goal.returns-in-text-7
returns-in-text-7 c = same_text c.in-text-7.is

pub returns-in-text-8 : goal.returns-in-text-8
returns-in-text-8 c = same_text c.in-text-8.is

pub returns-in-text-9 : goal.returns-in-text-9
returns-in-text-9 c = same_text c.in-text-9.is

pub returns-in-text-10 : goal.returns-in-text-10
returns-in-text-10 c = same_text c.in-text-10.is

pub returns-in-text-11 : goal.returns-in-text-11
returns-in-text-11 c = same_text c.in-text-11.is

pub returns-in-text-12 : goal.returns-in-text-12
returns-in-text-12 c = same_text c.in-text-12.is

pub returns-in-text-13 : goal.returns-in-text-13
returns-in-text-13 c = same_text c.in-text-13.is
