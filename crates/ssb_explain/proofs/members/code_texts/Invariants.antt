use Rattle.std.proofs.Common.{◌≡◌, map, string_bytes, take}
use Rattle.ssb_cells.specs.Codes.{texts_of}
use Rattle.ssb_explain.specs.Members.{code_text}
use Rattle.ssb_explain.proofs.members.code_texts.Given as goal

abbrev pub invariant-loop-code : goal.invariant-loop-code
invariant-loop-code l = map string_bytes l.texts.items ≡ map (code_text (texts_of l.column.values)) (take l.code-index l.all)
