-- Types that may go to other threads and be shared by them: what holds others may where they may.
use mathlib.Core.List.{List, [], ◌∷◌}
use base.Stored.{Coded}
use denote.RattleType.{RattleType}
use denote.Model.{View}
use denote.Hole.{as_row}
use denote.Hole.Fix.{Ring, holes}
use denote.Hole.FixLaws.{layer_row}
use denote.Hole.FixSend as fix
use denote.Enum.Declared as E
use denote.Struct.Declared as S
use denote.Struct.Field.{Field}
use denote.Param.Send.{IsSend, IsSync, view_send, view_sync}
use Rattle.std.proofs.Crossing.{Vec-send, Vec-sync}
use Rattle.std.specs.contracts.alloc.Global as Heap
use Rattle.std.specs.contracts.impls.GlobalAllocator.TheImpl.{ghosts}
use Rattle.std.specs.contracts.vec.Vec as Vec
use denote.Param.SendFields.{FieldsHave, VariantsHave, as_row_send, as_row_sync, declared_send, declared_sync, variants_send, variants_sync}

abbrev pub Crosses : RattleType → Type 0
Crosses T = IsSend T × IsSync T

fields : (Fs : List Field) → FieldsHave Crosses Fs → FieldsHave IsSend Fs × FieldsHave IsSync Fs
fields [] c = (tt, tt)
fields (F ∷ Fs) c = let rest = fields Fs c.1 in ((c.0.0, rest.0), (c.0.1, rest.1))

variants : (Fss : List (List Field)) → VariantsHave Crosses Fss → VariantsHave IsSend Fss × VariantsHave IsSync Fss
variants [] c = (tt, tt)
variants (Fs ∷ Fss) c = let here = fields Fs c.0 in let rest = variants Fss c.1 in ((here.0, rest.0), (here.1, rest.1))

-- a field of a type
pub as_row_crosses : (F : Field) → Crosses F.row → Crosses (as_row F)
as_row_crosses F c = (as_row_send F c.0, as_row_sync F c.1)

-- a struct
pub declared_crosses : (T : S.Declared) → FieldsHave Crosses T.parts → Crosses (S.row T)
declared_crosses T c = let both = fields T.parts c in (declared_send T both.0, declared_sync T both.1)

-- an enum
pub variants_crosses : (N : E.Record) → VariantsHave Crosses N.parts → Crosses (E.row (E.declared N))
variants_crosses N c = let both = variants N.parts c in (variants_send N both.0, variants_sync N both.1)

-- a type with a Model
pub view_crosses : (F : RattleType) (D : Type 0) (c : Coded D) (view : F.Denot → D) (holds : F.Denot → Type 0) → Crosses F → Crosses (View F D c view holds)
view_crosses F D c view holds s = (view_send F D c view holds s.0, view_sync F D c view holds s.1)

-- a vector on the heap
pub vec : (T : RattleType) → Crosses T → Crosses (Vec.the_row T Heap.the_row ghosts)
vec T c = (Vec-send T c.0, Vec-sync T c.1)

-- types that hold each other
pub fix_crosses : {I : Type 0} (K : Ring I) → ((i : I) (h : I → RattleType) → ((j : I) → Crosses (h j)) → Crosses (layer_row K i h)) → (i : I) → Crosses (holes K i)
fix_crosses {I = I} K step i = (fix.both_send K layers i, fix.both_sync K layers i)
  where
    layers : (i : I) → fix.Crosses K i
    layers i = record { send = λ h s y. (step i h (λ j. (s j, y j))).0; sync = λ h s y. (step i h (λ j. (s j, y j))).1 }
