-- A session that ends with its input has answered all of it.
use Rattle.std.proofs.Common.{◌≡◌, ◌∙◌, ◌++◌, ◌<◌, Option, None, Some, IfSome, ap, sym}
use Rattle.ssb_load.specs.Files.{Bytes}
use Rattle.ssb_records.specs.declared.source.Source.{Ghosts as Source}
use Rattle.ssb_statements.specs.Telling.{source_of}
use Rattle.ssb_tokens.specs.Statements.{statements_of}
use Rattle.ssb_answer.specs.Session.{SessionsAreWhole}

-- what holds of a value, where there is one, by what holds of it
some-so : (o : Option Bytes) (P Q : Bytes → Type 0) → ((x : Bytes) → P x → Q x) → IfSome o P → IfSome o Q
some-so None P Q so h = tt
some-so (Some x) P Q so h = so x h

pub whole-session : {S : Type 0} (source : Source S) → ((s : S) → 0 < source.ends s → IfSome (source.whole s) (λ all. source.given s ≡ all)) → SessionsAreWhole source
whole-session source settled d manner r old new is ended none silent =
    let fresh = is.went.fresh in
    let last = source_of new.statements in
    let given : source.given last ≡ fresh = is.went.given ∙ ap (λ t. t ++ fresh) silent in
    let told : is.went.statements ≡ statements_of fresh = sym (is.all ended) ∙ ap (λ t. statements_of (t ++ fresh)) none in
    record {
      given = told ∙ ap statements_of (sym given);
      told = some-so (source.whole last) (λ all. source.given last ≡ all) (λ all. is.went.statements ≡ statements_of all) (λ all e. told ∙ ap statements_of (sym given ∙ e)) (settled last (is.met ended).met);
    }
