-- What stays while more is read.
use Rattle.std.proofs.Common.{◌≡◌, ℕ, List, Option, true}
use Rattle.ssb_records.specs.Pieces.{IsPassedOn, handed, rest_of}
use Rattle.ssb_records.specs.declared.pieces.Pieces.{Pieces}

pub record Looks {S : Type 0} (given : S → List ℕ) (failures ends : S → ℕ) (all : S → Option (List ℕ)) (old now : Pieces S) (before after : S) : Type 0 where
  pub cut : now.cut ≡ 0
  pub follows : IsPassedOn given failures ends now after
  pub whole : all after ≡ all before
  pub handed : handed now ≡ handed old
  pub begun : now.begun ≡ old.begun
  pub over : old.stopped ≡ true → rest_of now ≡ rest_of old
  pub stopped : old.stopped ≡ true → now.stopped ≡ true
  pub stays : old.stopped ≡ true → now.failed ≡ old.failed
