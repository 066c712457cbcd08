use Rattle.std.proofs.Common.{◌≡◌, ◌<◌, ◌∙◌, ◌++◌, ◌∷◌, [], ℕ, ℤ, List, map, take, sym, ap, append_assoc, append-nil, refl, arith, of_z, to_z, w64, rules}
use Rattle.std.proofs.lemmas.List.{map-append}
use Rattle.ssb_packed.specs.Lent.{kept_code}
use Rattle.ssb_packed.specs.Recoded.{recoded}
use Rattle.ssb_packed.proofs.Loops.{map-more}
use Rattle.ssb_packed.proofs.codes.Codes.append.Goals as goal
use Rattle.ssb_packed.proofs.codes.Codes.append.Goals.{then-len-capacity+in_ok-extend, else-len-capacity}

-- what waits in the block is handed on, and none waits then
handed-on : (kept block now : List ℤ) (rest : List ℤ) → now ≡ kept ++ block → rest ≡ [] → map kept_code now ++ map kept_code rest ≡ map kept_code kept ++ map kept_code block
handed-on kept block now rest handed none =
    ap (λ r. map kept_code now ++ map kept_code r) none ∙ append-nil (map kept_code now) ∙ ap (map kept_code) handed ∙ map-append kept_code kept block

-- one more code waits
one-waits : (kept block after : List ℤ) (own front new : List ℕ) (n : ℤ) (code : ℕ) → after ≡ block ++ n ∷ [] → kept_code n ≡ code → map kept_code kept ++ map kept_code block ≡ own ++ front → new ≡ front ++ code ∷ [] → map kept_code kept ++ map kept_code after ≡ own ++ new
one-waits kept block after own front new n code waits same so_far more =
    ap (λ b. map kept_code kept ++ map kept_code b) waits
    ∙ ap (λ b. map kept_code kept ++ b) (map-append kept_code block (n ∷ []))
    ∙ sym (append_assoc (map kept_code kept) (map kept_code block) (kept_code n ∷ []))
    ∙ ap (λ b. b ++ kept_code n ∷ []) so_far
    ∙ append_assoc own front (kept_code n ∷ [])
    ∙ ap (λ x. own ++ (front ++ x ∷ [])) same
    ∙ ap (λ b. own ++ b) (sym more)

pub loop-i-preserved : goal.loop-i-preserved
loop-i-preserved c =
    let j = c.if-len-capacity in
    let at = c.loop-i in
    let table = c.args.table.now in
    let kept : map kept_code j.self-inside.numbers ++ map kept_code j.block.items ≡ map kept_code at.self-inside.numbers ++ map kept_code at.block.items =
    elim j.branch [
      | then-len-capacity+in_ok-extend w ↦
          rw (w.self-inside-is, w.block-is) (handed-on at.self-inside.numbers at.block.items w.extend.new.self w.clear.new.self.items (w.in_ok-extend.ensures.ok ∙ ap (λ b. at.self-inside.numbers ++ b) w.deref.ensures.value) w.clear.ensures.items)
      | else-len-capacity w ↦ rw (w.self-inside-is, w.block-is) refl
    ] in
    let room : 0 < j.block.cap = elim j.branch [ then-len-capacity+in_ok-extend w ↦ omega arith | else-len-capacity w ↦ omega arith ] in
    let same : to_z w64 (of_z w64 c.number_of.result) ≡ c.number_of.result = search rules in
    let more = map-more (recoded table) c.args.other.now at.i c.get.result c.get.ensures in
    record {
      added = one-waits j.self-inside.numbers j.block.items c.push_reserved.new.self.items c.args.self.now (map (recoded table) (take at.i c.args.other.now)) _ _ (recoded table c.get.result) c.push_reserved.ensures.items (ap kept_code same ∙ c.number_of.ensures ∙ c.recode.ensures) (kept ∙ at.invariant.added) more;
      room = omega arith;
    }
