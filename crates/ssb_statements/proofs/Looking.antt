-- What stays while `next` reads on, and what it has done then.
use Rattle.std.proofs.Common.{◌≡◌, ◌∙◌, ℕ, ◌+◌, ◌<◌, ◌≤◌, Bool, true, false, List, [], ◌∷◌, ◌++◌, length, Option, Some, None, Result, Ok, Err, refl, sym, ap, subst, arith, append_assoc, length-append, inl}
use Rattle.std.proofs.lemmas.Bool.{true≢false}
use Rattle.std.proofs.lemmas.List.{append-nil}
use Rattle.ssb_records.specs.declared.source.Source.{Ghosts as Source}
use Rattle.ssb_records.specs.declared.source.SourceFault.{SourceFault}
use Rattle.ssb_tokens.specs.Statements.{statements_from, statements_of}
use Rattle.ssb_statements.specs.Reader.{Reader}
use Rattle.ssb_statements.specs.Telling.{Answers, Gave, IsCut, Whatever}
use Rattle.ssb_statements.specs.Reading.{Closes, Fills, Finds, IsLast, bytes_in, read_through, text_in}
use Rattle.ssb_statements.specs.declared.buffer.StatementBuffer.{StatementBuffer}
use Rattle.ssb_statements.specs.declared.cutter.Statement.{Statement}
use Rattle.ssb_statements.specs.declared.input.Input.{Input}

-- the source was read so often, and the next statement has its end in none of the bytes
pub record Looks {S : Type 0} {source : Source S} (old : Reader S) (reads : ℕ) (input : Input S source) (buffer : StatementBuffer) : Type 0 where
  pub fresh : List ℕ
  pub given : source.given input.source ≡ source.given old.source ++ fresh
  pub kept : bytes_in buffer ≡ old.ahead ++ fresh
  pub long : reads ≤ length fresh
  pub going : 0 < reads → input.ended ≡ false
  pub failures : source.failures input.source ≡ source.failures old.source
  pub prompt : (s rest : List ℕ) → IsCut old.ahead s rest → input.source ≡ old.source
  pub quiet : old.ended ≡ true → (input.source ≡ old.source) × (input.ended ≡ true)
  pub forth : source.ends old.source ≤ source.ends input.source
  pub whole : source.whole input.source ≡ source.whole old.source

pub looks-start : {S : Type 0} {source : Source S} (old : Reader S) (input : Input S source) (buffer : StatementBuffer) → read_through input buffer ≡ old → Looks old 0 input buffer
looks-start {S = S} {source = source} old input buffer is =
    let from : input.source ≡ old.source = ap (λ (r : Reader S). r.source) is in
    record {
      fresh = [];
      given = ap source.given from ∙ sym (append-nil (source.given old.source));
      kept = ap (λ (r : Reader S). r.ahead) is ∙ sym (append-nil old.ahead);
      long = omega arith;
      going = λ h. absurd (omega arith);
      failures = ap source.failures from;
      prompt = λ s rest h. from;
      quiet = λ h. (from, ap (λ (r : Reader S). r.ended) is ∙ h);
      forth = omega (arith, ap source.ends from);
      whole = ap source.whole from;
    }

-- bytes that come later leave a statement that has its end as it is
cut-more : (text fresh s rest : List ℕ) → IsCut text s rest → IsCut (text ++ fresh) s (rest ++ fresh)
cut-more text fresh s rest h more = ap statements_of (append_assoc text fresh more) ∙ h (fresh ++ more) ∙ ap (λ t. s ∷ statements_of t) (sym (append_assoc rest fresh more))

-- what is known of the bytes where a piece has been read behind those that had no end
pub record Reads {S : Type 0} {source : Source S} (old : Reader S) (reads : ℕ) (fresh : List ℕ) (input : Input S source) (buffer : StatementBuffer) : Type 0 where
  pub given : source.given input.source ≡ source.given old.source ++ fresh
  pub kept : bytes_in buffer ≡ old.ahead ++ fresh
  pub long : reads ≤ length fresh
  pub uncut : (s rest : List ℕ) → ¬ IsCut old.ahead s rest
  pub quiet : old.ended ≡ true → (input.source ≡ old.source) × (fresh ≡ []) × (input.ended ≡ true)
  pub forth : source.ends old.source ≤ source.ends input.source
  pub whole : source.whole input.source ≡ source.whole old.source

none-fresh : (xs ys fresh : List ℕ) → xs ≡ ys ++ fresh → xs ≡ ys → fresh ≡ []
none-fresh xs ys [] e same = refl
none-fresh xs ys (b ∷ bs) e same = absurd (omega (arith, ap length e, ap length same, length-append ys (b ∷ bs)))

whatever : (b : Bool) (P : List ℕ → Type 0) → ((more : List ℕ) → P more) → Whatever b P
whatever true P h = h []
whatever false P h = h

none-left : statements_of [] ≡ []
unfolding statements_from
none-left = refl

module _ {S : Type 0} {source : Source S} where
  pub reads-on : (old : Reader S) (was new : Input S source) (now spent filled : StatementBuffer) (reads : ℕ) (result : Result Bool SourceFault) (l : Looks old reads was now) → Finds now None spent → (f : Fills was spent result new filled) → Reads old reads (l.fresh ++ f.fresh) new filled
  reads-on old was new now spent filled reads result l find f =
      let told = f.given ∙ ap (λ t. t ++ f.fresh) l.given ∙ append_assoc (source.given old.source) l.fresh f.fresh in
      record {
        given = told;
        kept = f.kept ∙ ap (λ t. t ++ f.fresh) (find.0 ∙ l.kept) ∙ append_assoc old.ahead l.fresh f.fresh;
        long = omega (arith, l.long, length-append l.fresh f.fresh);
        uncut = λ s rest h. find.2 s (rest ++ l.fresh) (subst (λ t. IsCut t s (rest ++ l.fresh)) (sym l.kept) (cut-more old.ahead l.fresh s rest h));
        quiet = λ h.
            let before = l.quiet h in
            let over = f.quiet before.1 in
            let still = over.0 ∙ before.0 in
            (still, none-fresh _ _ (l.fresh ++ f.fresh) told (ap source.given still), over.1);
        forth = omega (arith, f.forth, l.forth);
        whole = f.whole ∙ l.whole;
      }

  pub looks-more : (old : Reader S) (was new : Input S source) (now spent filled : StatementBuffer) (reads : ℕ) (more : Bool) → more ≡ true → Looks old reads was now → Finds now None spent → Fills was spent (Ok more) new filled → Looks old (reads + 1) new filled
  looks-more old was new now spent filled reads more is l find read =
      let f = subst (λ b. Fills was spent (Ok b) new filled) is read in
      let r = reads-on old was new now spent filled reads (Ok true) l find f in
      record {
        fresh = l.fresh ++ f.fresh;
        given = r.given;
        kept = r.kept;
        long = omega (arith, l.long, f.filled.0, length-append l.fresh f.fresh);
        going = λ h. f.filled.1;
        failures = omega (arith, f.failures, l.failures);
        prompt = λ s rest h. absurd (r.uncut s rest h);
        quiet = λ h. absurd (true≢false (sym (r.quiet h).2 ∙ f.filled.1));
        forth = r.forth;
        whole = r.whole;
      }

  pub gave-found : (old : Reader S) (input : Input S source) (now new : StatementBuffer) (reads : ℕ) (t : Statement) → Looks old reads input now → Finds now (Some t) new → Gave source old (Ok (Some t)) (read_through input new)
  gave-found old input now new reads t l f = record {
    fresh = l.fresh;
    given = l.given;
    answer = record {
      statement = f.0;
      told = f.1;
      next = whatever input.ended (λ more. statements_of (old.ahead ++ (l.fresh ++ more)) ≡ f.0 ∷ statements_of (bytes_in new ++ more))
          (λ more. ap statements_of (sym (append_assoc old.ahead l.fresh more) ∙ ap (λ b. b ++ more) (sym l.kept)) ∙ f.2 more);
      failures = l.failures;
    };
    prompt = l.prompt;
    over = input.over;
    quiet = λ h.
        let same = l.quiet h in
        (same.0, none-fresh _ _ l.fresh l.given (ap source.given same.0), same.1);
    forth = l.forth;
    whole = l.whole;
  }

  last-told : (old : Reader S) (input : Input S source) (filled new : StatementBuffer) (fresh : List ℕ) (last : Option Statement) → bytes_in filled ≡ old.ahead ++ fresh → input.ended ≡ true → source.failures input.source ≡ source.failures old.source → bytes_in new ≡ []
      → IsLast last (bytes_in filled) (text_in new) → Answers source (Ok last) old fresh (read_through input new)
  last-told old input filled new fresh (Some t) kept over failures rest last = record {
    statement = last.0;
    told = last.1;
    next = subst (λ b. Whatever b (λ more. statements_of (old.ahead ++ (fresh ++ more)) ≡ last.0 ∷ statements_of (bytes_in new ++ more))) (sym over)
        (ap (λ b. statements_of (old.ahead ++ b)) (append-nil fresh) ∙ ap statements_of (sym kept) ∙ last.2 ∙ ap (λ b. last.0 ∷ b) (sym none-left) ∙ ap (λ b. last.0 ∷ statements_of (b ++ [])) (sym rest));
    failures = failures;
  }
  last-told old input filled new fresh None kept over failures rest last = record { none = ap statements_of (sym kept) ∙ last; rest = rest; ended = over; failures = failures }

  pub gave-last : (old : Reader S) (was input : Input S source) (now spent filled new : StatementBuffer) (reads : ℕ) (last : Option Statement) (more : Bool) → more ≡ false → Looks old reads was now → Finds now None spent → Fills was spent (Ok more) input filled
      → Closes filled last new → Gave source old (Ok last) (read_through input new)
  gave-last old was input now spent filled new reads last more is l find read c =
      let f = subst (λ b. Fills was spent (Ok b) input filled) is read in
      let r = reads-on old was input now spent filled reads (Ok false) l find f in
      record {
        fresh = l.fresh ++ f.fresh;
        given = r.given;
        answer = last-told old input filled new (l.fresh ++ f.fresh) last r.kept f.filled.1 (omega (arith, f.failures, l.failures)) c.rest c.last;
        prompt = λ s rest h. absurd (r.uncut s rest h);
        over = input.over;
        quiet = r.quiet;
        forth = r.forth;
        whole = r.whole;
      }

  pub gave-broken : (old : Reader S) (was input : Input S source) (now spent filled : StatementBuffer) (reads : ℕ) (e : SourceFault) → Looks old reads was now → Finds now None spent → Fills was spent (Err e) input filled → Gave source old (Err e) (read_through input filled)
  gave-broken old was input now spent filled reads e l find f =
      let r = reads-on old was input now spent filled reads (Err e) l find f in
      record {
        fresh = l.fresh ++ f.fresh;
        given = r.given;
        answer = record { failed = inl (omega (arith, f.failures, l.failures)); kept = r.kept; ended = f.filled.1 };
        prompt = λ s rest h. absurd (r.uncut s rest h);
        over = input.over;
        quiet = r.quiet;
        forth = r.forth;
        whole = r.whole;
      }
