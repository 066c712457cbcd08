-- Sources that gave nothing yet: what they give is all.
use Rattle.std.proofs.Common.{◌≡◌, ◌++◌, [], ◌∷◌, ◌∙◌, List, Option, None, Some, Result, Ok, Err, IfOk, map, refl, sym, ap, subst}
use Rattle.std.proofs.lemmas.List.{append-nil, map-append}
use Rattle.ssb_load.specs.Files.{Bytes, given_each}
use Rattle.ssb_lanes.specs.Joined.{all_bytes}

pub fresh-each : {R : Type 0} (remaining : R → Option Bytes) (readers : List R) (files : List Bytes) → map remaining readers ≡ map Some files → given_each (map (λ r. []) readers) files ≡ files
fresh-each remaining [] [] e = refl
fresh-each remaining [] (f ∷ fs) e = cc e
fresh-each remaining (r ∷ rs) [] e = cc e
fresh-each remaining (r ∷ rs) (f ∷ fs) e = let more : map remaining rs ≡ map Some fs = cc in ap (λ t. f ∷ t) (fresh-each remaining rs fs more)

-- what is told of sources that were begun just now is told of the files
pub told-whole : {R S : Type 0} (now start : List S) (readers : List R) (files : List Bytes) (given : S → Bytes) (whole : S → Option Bytes) (remaining : R → Option Bytes) (P : List Bytes → Type 0)
    → now ≡ start → map given start ≡ map (λ r. []) readers → map whole start ≡ map remaining readers → map remaining readers ≡ map Some files
    → (map whole now ≡ map Some files → P (given_each (map given now) files)) → P files
told-whole now start readers files given whole remaining P same empty all e told =
    let fresh : given_each (map given now) files ≡ files = ap (λ xs. given_each (map given xs) files) same ∙ ap (λ bs. given_each bs files) empty ∙ fresh-each remaining readers files e in
    subst P fresh (told (ap (map whole) same ∙ all ∙ e))

-- the bytes of a source alone
pub whole-alone : (w : Option Bytes) → all_bytes (w ∷ []) ≡ w
whole-alone None = refl
whole-alone (Some bytes) = ap Some (append-nil bytes)

-- what is made of one source has just its bytes
pub told-alone : {J S E : Type 0} (made : Result J E) (bytes : J → Option Bytes) (whole : S → Option Bytes) (before sources : List S) (source : S) (w : Option Bytes)
    → before ≡ [] → sources ≡ before ++ (source ∷ []) → whole source ≡ w → IfOk made (λ j. bytes j ≡ all_bytes (map whole sources)) → IfOk made (λ j. bytes j ≡ w)
told-alone (Ok j) bytes whole before sources source w empty same own told = let one : sources ≡ source ∷ [] = rw empty at same in told ∙ ap (λ ss. all_bytes (map whole ss)) one ∙ whole-alone (whole source) ∙ own
told-alone (Err e) bytes whole before sources source w empty same own told = tt

-- two lists of one image, with one item more of one image
pub maps-more : {A B C : Type 0} (f : A → C) (h : B → C) (ss : List A) (rs : List B) (s : A) (r : B) → map f ss ≡ map h rs → f s ≡ h r → map f (ss ++ s ∷ []) ≡ map h (rs ++ r ∷ [])
maps-more f h ss rs s r same one = map-append f ss (s ∷ []) ∙ ap (λ cs. cs ++ f s ∷ []) same ∙ ap (λ c. map h rs ++ c ∷ []) one ∙ sym (map-append h rs (r ∷ []))
