use Rattle.std.proofs.Common.{◌≡◌, take}
use Rattle.ssb_cells.specs.Joined.{Recodes, with_texts}
use Rattle.ssb_cells.proofs.dictionary.Dictionary.add_all.Given as goal

abbrev pub invariant-loop-place : goal.invariant-loop-place
invariant-loop-place l = record { texts : l.self ≡ with_texts l.fn.self (take l.place l.other); places : Recodes l.places.items (take l.place l.other) l.self }
