-- A reader of records between bars: which records it has read, and what is left.
use Rattle.std.proofs.Common.{◌≡◌, ◌∙◌, ◌+◌, ◌<◌, ◌++◌, ℕ, true, false, List, [], ◌∷◌, length, Option, Some, None, IfSome, refl, arith, append_assoc}
use Rattle.std.specs.Prelude.{option_map}
use Rattle.std.proofs.lemmas.List.{append-nil}
use Rattle.csv.specs.Machine.{ends_at_end}
use Rattle.csv.specs.Reading.{records_from, source_of, strip_bom, ReadRecord, Ready}
use Rattle.csv.specs.declared.reader.Reader.{Reader}
use Rattle.csv.specs.declared.reader.Trim.TheVariants as trim
use Rattle.csv.specs.declared.parser.State.TheVariants as st
use Rattle.ssb_records.specs.Records.{Fields, bar_config, records_of}
use Rattle.ssb_records.proofs.Step.{read-more, read-none}

-- the text begins with these records, and the reader has the rest of it
pub record Left {R : Type 0} (rem : R → Option (List ℕ)) (reader : Reader R) (good : List Fields) (bytes : List ℕ) : Type 0 where
  pub text : List ℕ
  pub fuel : ℕ
  pub source : source_of rem reader ≡ Some text
  pub enough : length text < fuel
  pub between : ends_at_end reader.state ≡ false
  pub records : records_of bytes ≡ good ++ records_from bar_config fuel reader.state text

-- a reader that has read these records of a source, whose bytes may be known
pub record IsReading {R : Type 0} (rem : R → Option (List ℕ)) (known : Option (List ℕ)) (reader : Reader R) (good : List Fields) : Type 0 where
  pub config : reader.config ≡ bar_config
  pub plain : reader.trim ≡ trim.None
  pub flexible : reader.flexible ≡ true
  pub ready : Ready reader
  pub left : IfSome known (Left rem reader good)

pub some-map : (o : Option (List ℕ)) (P Q : List ℕ → Type 0) → ((x : List ℕ) → P x → Q x) → IfSome o P → IfSome o Q
some-map None P Q f h = h
some-map (Some x) P Q f h = f x h

pub left-start : {R : Type 0} (rem : R → Option (List ℕ)) (reader : Reader R) (known : Option (List ℕ)) → source_of rem reader ≡ option_map strip_bom known → reader.state ≡ st.StartRecord → IfSome known (Left rem reader [])
left-start rem reader None source start = tt
left-start rem reader (Some bytes) source start = record {
  text = strip_bom bytes;
  fuel = length (strip_bom bytes) + 1;
  source = source;
  enough = omega arith;
  between = rw start refl;
  records = rw start refl;
}

-- a reader that has read nothing
pub reading-start : {R : Type 0} (rem : R → Option (List ℕ)) (known : Option (List ℕ)) (reader : Reader R) → reader.config ≡ bar_config → reader.trim ≡ trim.None → reader.flexible ≡ true → Ready reader
    → source_of rem reader ≡ option_map strip_bom known → reader.state ≡ st.StartRecord → IsReading rem known reader []
reading-start rem known reader config plain flexible ready source start =
    record { config = config; plain = plain; flexible = flexible; ready = ready; left = left-start rem reader known source start }

pub left-more : {R : Type 0} (rem : R → Option (List ℕ)) (a b : Reader R) (good : List Fields) (f : Fields) (known : Option (List ℕ)) → a.config ≡ bar_config → ReadRecord rem a b true f
    → IfSome known (Left rem a good) → IfSome known (Left rem b (good ++ f ∷ []))
left-more rem a b good f known config r left =
    some-map known (Left rem a good) (Left rem b (good ++ f ∷ [])) (λ (bytes : List ℕ) (l : Left rem a good bytes).
    let (z, less, source, enough, between, next) = read-more rem a b f bar_config l.text l.fuel config l.source l.enough l.between r in
    record {
      text = z;
      fuel = less;
      source = source;
      enough = enough;
      between = between;
      records = l.records ∙ (rw (next, append_assoc) refl);
    }) left

-- one record more
pub reading-more : {R : Type 0} (rem : R → Option (List ℕ)) (known : Option (List ℕ)) (a b : Reader R) (good : List Fields) (f : Fields) → IsReading rem known a good → ReadRecord rem a b true f → b.flexible ≡ a.flexible → Ready b
    → IsReading rem known b (good ++ f ∷ [])
reading-more rem known a b good f inv r flexible ready =
    record {
      config = r.2 ∙ inv.config;
      plain = r.3 ∙ inv.plain;
      flexible = flexible ∙ inv.flexible;
      ready = ready;
      left = left-more rem a b good f known inv.config r inv.left;
    }

-- no record more: those that were read are all
pub reading-end : {R : Type 0} (rem : R → Option (List ℕ)) (known : Option (List ℕ)) (a b : Reader R) (good : List Fields) (f : Fields) (P : List Fields → Type 0) → IsReading rem known a good → ReadRecord rem a b false f → P good
    → IfSome known (λ bytes. P (records_of bytes))
reading-end rem known a b good f P inv r p =
    some-map known (Left rem a good) (λ bytes. P (records_of bytes)) (λ (bytes : List ℕ) (l : Left rem a good bytes).
    let e = l.records ∙ (rw (read-none rem a b f bar_config l.text l.fuel inv.config l.source r, append-nil) refl) in
    rw e p) inv.left

-- the records that were read are the first of all
pub reading-begins : {R : Type 0} (rem : R → Option (List ℕ)) (known : Option (List ℕ)) (a : Reader R) (good : List Fields) (P : List Fields → Type 0) → IsReading rem known a good
    → ((rest : List Fields) → P (good ++ rest)) → IfSome known (λ bytes. P (records_of bytes))
reading-begins rem known a good P inv p =
    some-map known (Left rem a good) (λ bytes. P (records_of bytes)) (λ (bytes : List ℕ) (l : Left rem a good bytes).
    rw l.records (p (records_from bar_config l.fuel a.state l.text))) inv.left
