-- Where morsels and sections are cut.
use Rattle.std.proofs.Common.{◌≡◌, ◌≤◌, ◌<◌, ◌+◌, ◌*◌, ◌/◌, ℕ, suc, inl, inr, sym, subst, arith}
use Rattle.std.proofs.lemmas.Bool.{cases_lt}
use Rattle.std.proofs.lemmas.Grind.{div_ceil_times}
use Rattle.std.proofs.lemmas.Nat.{le-div}
use Rattle.std.proofs.Math.Nat.{suc-mul, div-eq_of_lt-le, div-mul-le_self, mul-le-mul_right, mul_comm}
use Rattle.ssb_pipeline.specs.Morsels.{MorselsAreFewest, morsel_count, morsel_cut, row_cut}

next-times : (i m : ℕ) → (i + 1) * m ≡ i * m + m
next-times i m = let e : i + 1 ≡ suc i = omega arith in subst (λ n. n * m ≡ i * m + m) (sym e) (suc-mul i m)

pub row-begins : (rows size : ℕ) → row_cut rows size 0 ≡ 0
row-begins rows size = omega arith

pub row-rises : (rows size i : ℕ) → row_cut rows size i ≤ row_cut rows size (i + 1)
row-rises rows size i = let e = next-times i size in omega (arith, e)

pub row-end : (rows size : ℕ) → 0 < size → row_cut rows size (morsel_count rows size) ≡ rows
row-end rows size pos = let h = (div_ceil_times rows size pos).0 in omega (arith, h)

-- fewer morsels have no room for all rows
too-few : (rows size n c : ℕ) → n * size < rows + size → rows ≤ c * size → c < n → ⊥
too-few rows size n c most room less =
    let m = mul-le-mul_right {m = c + 1} {n = n} size (omega (arith, less)) in
    let e = next-times c size in
    omega (arith, most, room, m, e)

pub fewest : (rows size : ℕ) → MorselsAreFewest rows size
fewest rows size pos =
    let h = div_ceil_times rows size pos in
    record { enough = h.0; least = λ c room. elim (cases_lt c (morsel_count rows size)) [ inl less ↦ absurd (too-few rows size (morsel_count rows size) c h.1 room less) | inr more ↦ more ] }

pub morsel-begins : (morsels sections : ℕ) → 0 < sections → morsel_cut morsels sections 0 ≡ 0
morsel-begins morsels sections pos = div-eq_of_lt-le {k = 0} sections {m = 0 * morsels} (omega arith) (let e = next-times 0 sections in omega (arith, e, pos))

pub morsel-rises : (morsels sections s : ℕ) → 0 < sections → morsel_cut morsels sections s ≤ morsel_cut morsels sections (s + 1)
morsel-rises morsels sections s pos =
    let e = next-times s morsels in
    let h = div-mul-le_self (s * morsels) sections in
    le-div (s * morsels / sections) ((s + 1) * morsels) sections pos (omega (arith, e, h))

pub morsel-end : (morsels sections : ℕ) → 0 < sections → morsel_cut morsels sections sections ≡ morsels
morsel-end morsels sections pos =
    let same = mul_comm sections morsels in
    let e = next-times morsels sections in
    div-eq_of_lt-le {k = morsels} sections {m = sections * morsels} (omega (arith, same)) (omega (arith, same, e, pos))
