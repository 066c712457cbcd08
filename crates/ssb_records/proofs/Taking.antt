-- A text on its way, record by record.
use Rattle.std.proofs.Common.{◌≡◌, ◌++◌, ◌∷◌, ◌∙◌, [], ℕ, List, Option, Some, Bor, sym, ap, append_assoc}
use Rattle.std.specs.Io.Chain.{chain_remaining}
use Rattle.std.specs.declared.io.traits.Chain.{Chain}
use Rattle.csv.specs.declared.reader.Reader.{Reader}
use Rattle.ssb_records.specs.Records.{Fields}
use Rattle.ssb_records.proofs.Reading.{IsReading}

-- what a reader of bytes before a text has left
abbrev pub text_left : Chain (Bor (List ℕ)) (Bor (List ℕ)) → Option (List ℕ)
text_left = chain_remaining (λ b. Some b.now) (λ b. Some b.now)

-- these records of the text were read, and taken
pub record Takes {R T B : Type 0} (rem : R → Option (List ℕ)) (subject : T → B) (stands : T → List Fields → Type 0) (known : Option (List ℕ)) (reader : Reader R) (old now : T) : Type 0 where
  pub done : List Fields
  pub reading : IsReading rem known reader done
  pub same : subject now ≡ subject old
  pub moved : (good : List Fields) → stands old good → stands now (good ++ done)

-- one record more, and those behind it
pub regroup : (good done rest last : List Fields) (f : Fields) → (good ++ done) ++ f ∷ (rest ++ last) ≡ good ++ (((done ++ f ∷ []) ++ rest) ++ last)
regroup good done rest last f =
    append_assoc good done (f ∷ (rest ++ last))
    ∙ ap (λ t. good ++ t) (sym (append_assoc (done ++ f ∷ []) rest last ∙ append_assoc done (f ∷ []) (rest ++ last)))
