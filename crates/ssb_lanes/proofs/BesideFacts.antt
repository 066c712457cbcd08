-- The fact table loaded beside the tables before and behind it.
use Rattle.std.proofs.Common.{◌≡◌, ◌++◌, ◌∷◌, [], ◌+◌, ℕ, List, Result, arith, get_or, length, set}
use Rattle.std.specs.Prelude.{Vec}
use Rattle.std.specs.declared.alloc.Global.{Global}
use Rattle.ssb_cells.specs.Tables.{Columns}
use Rattle.ssb_catalog.specs.Shapes.{TableShape}
use Rattle.ssb_load.specs.Runs.{ArePutTogether, RanFrom}
use Rattle.ssb_load.specs.declared.fault.FileFault.{FileFault}
use Rattle.ssb_records.specs.declared.source.Source.{Ghosts as Source}
use Rattle.ssb_load.proofs.LoadingAll.{ran-both}

-- all tables of a catalog: those before the n-th, that one alone, and those behind it
pub ran-beside : {S : Type 0} (source : Source S) (catalog : List TableShape) (n : ℕ) (all front rest one back front_after back_after : List S) (d after : S) (first middle last behind r : Result (Vec Columns Global) FileFault) → length front ≡ n
    → all ≡ front ++ rest → rest ≡ one ++ back → length one ≡ 1 → RanFrom source catalog 0 front front_after first → RanFrom source catalog n (get_or one 0 d ∷ []) (after ∷ []) middle
    → RanFrom source catalog (n + 1) back back_after last → ArePutTogether middle last behind → ArePutTogether first behind r → RanFrom source catalog 0 all (front_after ++ (set one 0 after ++ back_after)) r
ran-beside source catalog n all front rest [] back front_after back_after d after first middle last behind r at split cut long ran_front ran_own ran_back together whole = absurd (omega (arith, long))
ran-beside source catalog n all front rest (x ∷ y ∷ ys) back front_after back_after d after first middle last behind r at split cut long ran_front ran_own ran_back together whole = absurd (omega (arith, long))
ran-beside source catalog n all front rest (x ∷ []) back front_after back_after d after first middle last behind r at split cut long ran_front ran_own ran_back together whole =
    let ran_rest = ran-both source catalog n (n + 1) rest (x ∷ []) (after ∷ []) back back_after middle last behind (omega arith) cut ran_own ran_back together in
    ran-both source catalog 0 n all front front_after rest _ first behind r (omega (arith, at)) split ran_front ran_rest whole
