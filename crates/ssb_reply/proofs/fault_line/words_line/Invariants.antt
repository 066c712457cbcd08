use Rattle.std.proofs.Common.{◌≡◌, ◌++◌, drop, map, string_bytes}
use Rattle.ssb_reply.specs.FaultLine.{line_of, spaced}
use Rattle.ssb_reply.proofs.fault_line.words_line.Given as goal

-- the line so far, and the words that are left, are the line of all words
abbrev pub invariant-loop-word : goal.invariant-loop-word
invariant-loop-word l = string_bytes l.line ++ spaced (map (λ w. w.now) (drop l.word-index l.words)) ≡ line_of (map (λ w. w.now) l.words)
